-- An example run of the herd book (document 02, F-2), as data: each kind of call on two tables, the answer of each, and what the tables then show.
-- Assumes nothing.
use Rattle.std.specs.Prelude.{ℕ, Bool, ◌&&◌, List, [], ◌∷◌, replicate}
use Rattle.crdt.specs.Labels.{label_of}
use Rattle.model.specs.Layout.{delta_words}
use Rattle.model.specs.Calls.{Entry, shown_list}
use Rattle.model.specs.Runs.{copy, delta, words, start, merge, insertion, Moment, ago, begun}
use Rattle.model.specs.Cases.{same_words, same_entries}
use Rattle.model.specs.Examples.{answer_of, blank, replicas, within}
use Rattle.model.specs.Book.{groups, cows, robots, book, change_number, strike_number}
use Rattle.model.specs.BookRuns.{BookCall, begin, take_in, enter, change, strike, book_history}

-- The answer of a call.
unfoldable pub book_answer : Moment → List Moment → BookCall → ℕ
book_answer first h (begin i r) = answer_of first h (start i r)
book_answer first h (take_in i o) = answer_of first h (merge i book o)
book_answer first h (enter i d r vs) = answer_of first h (insertion i book d r vs)
book_answer first h (change i d r j f new) = change_number r ((ago first h 0).fleet i) d j f new
book_answer first h (strike i d r j) = strike_number r ((ago first h 0).fleet i) d j

-- The answers of a list of calls; of both lists the last one stands first.
unfoldable pub book_answers : Moment → List BookCall → List ℕ
book_answers first [] = []
book_answers first (c ∷ cs) = book_answer first (book_history first cs) c ∷ book_answers first cs

-- Tables of capacity 2, table 1 with replica number 2.
unfoldable pub book_blanks : ℕ → List ℕ
unfolding blank
book_blanks i = blank 2

abbrev pub book_first : Moment
book_first = begun book_blanks replicas

buffer : List ℕ
buffer = replicate delta_words 0

-- The calls, the last one first.
unfoldable pub book_calls : List BookCall
unfolding buffer
book_calls =
    -- table 1 as it stands into table 0
    take_in 0 (copy 0 1)
    -- the deltas of the change and of the strike, before their entries
    ∷ take_in 0 (delta 5)
    ∷ take_in 0 (delta 1)
    -- a start later on
    ∷ begin 0 1
    -- the group is struck off
    ∷ strike 1 buffer groups 2
    -- refused: a strike and a change of a record of another kind
    ∷ strike 1 buffer cows 2
    ∷ change 1 buffer robots 1 2 72
    -- the cow's transponder becomes 71
    ∷ change 1 buffer cows 1 2 71
    -- a group
    ∷ enter 1 buffer groups (12 ∷ [])
    -- the delta of the cow into table 1
    ∷ take_in 1 (delta 0)
    -- a cow
    ∷ enter 0 buffer cows (40 ∷ 70 ∷ 0 ∷ [])
    -- words that the merge refuses: none
    ∷ take_in 0 (words []) ∷ []

-- The end of the run.
abbrev pub book_end : Moment
book_end = ago book_first (book_history book_first book_calls) 0

-- The list shown at the end: the cow with her new transponder.
unfoldable pub book_listed : List Entry
book_listed = record { relation = cows; label = label_of 1 1; values = 40 ∷ 71 ∷ 0 ∷ [] } ∷ []

-- Both tables took in the same edits.
unfoldable pub book_same : Bool
book_same = within (book_end.took 0) (book_end.took 1) && within (book_end.took 1) (book_end.took 0)

-- The edits that they took in, by their places in the list: 2 the cow, 4 the group, 5 the change, 8 the strike.
unfoldable pub book_ends : Bool
book_ends =
    same_words (book_answers book_first book_calls) (0 ∷ 0 ∷ 0 ∷ 0 ∷ 0 ∷ 6 ∷ 6 ∷ 0 ∷ 0 ∷ 0 ∷ 0 ∷ 1 ∷ [])
    && same_words (book_end.took 0) (8 ∷ 5 ∷ 2 ∷ 4 ∷ 5 ∷ 8 ∷ []) && same_words (book_end.took 1) (2 ∷ 4 ∷ 5 ∷ 8 ∷ [])
    && same_entries (shown_list book (book_end.fleet 0)) book_listed && same_entries (shown_list book (book_end.fleet 1)) book_listed

-- The run does what it should.
unfoldable pub book_runs : Bool
book_runs = book_same && book_ends
