-- An example run (document 01, "Runs"), as data: calls on four tables, the answer of each, and what the tables then hold and show.
-- Assumes nothing.
use Rattle.std.specs.Prelude.{ℕ, ◌+◌, ◌*◌, ◌-◌, Bool, cond, ◌&&◌, ◌||◌, not, List, [], ◌∷◌, ◌++◌, map, eqb, leb, length, replicate}
use Rattle.std.proofs.Math.Option.{Option, none, some}
use Rattle.crdt.specs.Labels.{largest_counter, label_of}
use Rattle.model.specs.Layout.{most_relations, block_words, header_words, zero_words, record_words, delta_words, used_at}
use Rattle.model.specs.Lists.{some_of, all_of}
use Rattle.model.specs.Tables.{decode, Contents, contents}
use Rattle.model.specs.Calls.{table_number, start_number, merge_number, insertion_number, update_number, deletion_number, Entry, shown_list}
use Rattle.model.specs.Runs.{Source, copy, delta, words, Call, start, merge, insertion, update, deletion, Moment, ago, other_words, next, history, begun}
use Rattle.model.specs.Cases.{pad, block_of, herd, header, row, same_words, same_entries}
use Rattle.model.specs.Compare.{same_recs}

-- The answer of a call.
unfoldable pub answer_of : Moment → List Moment → Call → ℕ
answer_of first h (start i r) = start_number ((ago first h 0).fleet i) r
answer_of first h (merge i s o) = merge_number s ((ago first h 0).fleet i) (other_words first h o)
answer_of first h (insertion i s d r vs) = insertion_number s ((ago first h 0).fleet i) d r vs
answer_of first h (update i s d j f new) = update_number s ((ago first h 0).fleet i) d j f new
answer_of first h (deletion i s d j) = deletion_number s ((ago first h 0).fleet i) d j

-- The answers of a list of calls; of both lists the last one stands first.
unfoldable pub answers : Moment → List Call → List ℕ
answers first [] = []
answers first (c ∷ cs) = answer_of first (history first cs) c ∷ answers first cs

-- Words of capacity N before the start.
unfoldable pub blank : ℕ → List ℕ
blank n = replicate (header_words + record_words * n) 7

-- Four tables, tables 0 and 2 with one replica number: capacities 4, 4, 3 and 2.
unfoldable pub blanks : ℕ → List ℕ
unfolding blank
blanks i = cond (eqb i 3) (blank 2) (cond (eqb i 2) (blank 3) (blank 4))

abbrev pub replicas : ℕ → ℕ
replicas i = cond (eqb i 1) 2 1

abbrev pub first : Moment
first = begun blanks replicas

-- The delta buffer, "all zero when a program first makes it".
buffer : List ℕ
buffer = replicate delta_words 0

-- A schema that isn't broken and has one relation only.
unfoldable pub other : List ℕ
unfolding pad block_of
other = 1 ∷ (block_of (1 ∷ []) 1 ++ replicate ((most_relations - 1) * block_words) 0)

-- The group 1.1, the cow 2.2 with tag 40, the cow 3.2 with tag 41.
abbrev group : ℕ
group = label_of 1 1

abbrev cow : ℕ
cow = label_of 2 2

abbrev heifer : ℕ
heifer = label_of 3 2

-- The calls, the last one first.
unfoldable pub calls : List Call
unfolding blank buffer
calls =
    -- words that the merge refuses: a table of no records whose header is damaged
    merge 0 herd (words (blank 0))
    -- refused edits: a tag that is taken, a cow that is not shown, a group that the heifer references
    ∷ insertion 1 herd buffer 2 (42 ∷ group ∷ [])
    ∷ update 1 herd buffer 2 1 43
    ∷ deletion 1 herd buffer 1
    -- an insertion lent another schema, under which the table is not well-formed
    ∷ insertion 0 other buffer 1 (5 ∷ [])
    -- table 1 as it stands into table 0; into table 3, which has no room
    ∷ merge 0 herd (copy 0 1)
    ∷ merge 3 herd (copy 0 1)
    -- into table 2 table 1 as it stood before the update
    ∷ merge 2 herd (copy 4 1)
    -- the delta of the update, before its insertion, and once more
    ∷ merge 2 herd (delta 2)
    ∷ merge 2 herd (delta 1)
    -- a start later on
    ∷ start 2 1
    -- the heifer's tag becomes 42
    ∷ update 1 herd buffer 3 1 42
    -- the cow is deleted; the group, which is odd and which the heifer references, is redone
    ∷ deletion 1 herd buffer 2
    -- table 0 as it stands into table 1: the group's flag becomes 1
    ∷ merge 1 herd (copy 0 0)
    -- the group is deleted in table 0
    ∷ deletion 0 herd buffer 1
    -- two cows in the group
    ∷ insertion 1 herd buffer 2 (41 ∷ group ∷ [])
    ∷ insertion 1 herd buffer 2 (40 ∷ group ∷ [])
    -- the delta of the group into table 1
    ∷ merge 1 herd (delta 0)
    -- the group
    ∷ insertion 0 herd buffer 1 (12 ∷ []) ∷ []

unfoldable pub expected : List ℕ
expected = 4 ∷ 9 ∷ 6 ∷ 10 ∷ 3 ∷ 0 ∷ 11 ∷ 0 ∷ 0 ∷ 0 ∷ 0 ∷ 0 ∷ 0 ∷ 0 ∷ 0 ∷ 0 ∷ 0 ∷ 0 ∷ 0 ∷ []

-- Each number of one list is in the other.
unfoldable pub within : List ℕ → List ℕ → Bool
within l m = all_of (λ n. some_of (λ k. eqb n k) m) l

-- The list shown at the end: the group, and the heifer with her new tag. The cow is hidden.
unfoldable pub listed_at_end : List Entry
listed_at_end =
    record { relation = 1; label = group; values = 12 ∷ [] }
    ∷ record { relation = 2; label = heifer; values = 42 ∷ group ∷ [] } ∷ []

-- Two tables took in the same edits, in different order, hold the same records under the same clock, and show the same list, of two records of three.
unfoldable pub agree : Moment → ℕ → ℕ → Bool
agree m i j =
    within (m.took i) (m.took j) && within (m.took j) (m.took i) && not (same_words (m.took i) (m.took j))
    && same_recs (contents (m.fleet i)).records (contents (m.fleet j)).records
    && eqb (contents (m.fleet i)).clock (contents (m.fleet j)).clock
    && same_entries (shown_list herd (m.fleet i)) listed_at_end && same_entries (shown_list herd (m.fleet j)) listed_at_end
    && eqb (used_at (m.fleet i)) 3 && eqb (used_at (m.fleet j)) 3
    && eqb (table_number herd (m.fleet i)) 0 && eqb (table_number herd (m.fleet j)) 0

-- The end of the run.
abbrev pub at_end : Moment
at_end = ago first (history first calls) 0

-- The edits that the tables took in, by their places in the list: 1 the group, 3 and 4 the cows, 5 and 7 the deletions, 8 the update. Table 3 took in none.
unfoldable pub took_at_end : Bool
took_at_end =
    same_words (at_end.took 0) (1 ∷ 5 ∷ 1 ∷ 3 ∷ 4 ∷ 1 ∷ 5 ∷ 7 ∷ 8 ∷ []) && same_words (at_end.took 1) (1 ∷ 3 ∷ 4 ∷ 1 ∷ 5 ∷ 7 ∷ 8 ∷ [])
    && same_words (at_end.took 2) (8 ∷ 8 ∷ 1 ∷ 3 ∷ 4 ∷ 1 ∷ 5 ∷ 7 ∷ []) && same_words (at_end.took 3) []

-- The run does what it should: every answer, every edit taken in, and tables 0, 1 and 2 agree.
unfoldable pub runs : Bool
runs = same_words (answers first calls) expected && took_at_end && agree at_end 0 1 && agree at_end 1 2

-- A second run: positions that are not in list order. Tables 0 and 1 insert a cow each and merge; table 1 then inserts a group, and table 2 merges
-- table 1. Of the calls the last one stands first.
unfoldable pub crossing : List Call
unfolding buffer
crossing =
    merge 2 herd (copy 0 1)
    ∷ insertion 1 herd buffer 1 (12 ∷ [])
    ∷ merge 1 herd (copy 0 0)
    ∷ insertion 0 herd buffer 2 (41 ∷ 0 ∷ [])
    ∷ insertion 1 herd buffer 2 (40 ∷ 0 ∷ []) ∷ []

-- The cows 1.1 and 1.2, and the group 2.2.
abbrev early : ℕ
early = label_of 1 1

abbrev late : ℕ
late = label_of 1 2

abbrev herd_group : ℕ
herd_group = label_of 2 2

-- Table 1 keeps its cow at position 1 and links by label; table 2 has its records added in list order.
unfoldable pub crosses : Bool
unfolding pad header row
crosses =
    let m = ago first (history first crossing) 0 in
    same_words (answers first crossing) (0 ∷ 0 ∷ 0 ∷ 0 ∷ 0 ∷ [])
    && same_words (m.fleet 1)
    (2 ∷ 2 ∷ 3 ∷ 0 ∷ (pad most_relations (3 ∷ 2 ∷ []) ++ (replicate zero_words 0
    ++ (row 0 2 late 0 (40 ∷ 0 ∷ []) (late ∷ late ∷ []) ++ (row 1 2 early 0 (41 ∷ 0 ∷ []) (early ∷ early ∷ []) ++ (row 0 1 herd_group 0 (12 ∷ []) (herd_group ∷ []) ++ replicate record_words 0))))))
    && same_words (m.fleet 2)
    (header 2 3 (1 ∷ 2 ∷ [])
    ++ (row 0 1 herd_group 0 (12 ∷ []) (herd_group ∷ []) ++ (row 3 2 early 0 (41 ∷ 0 ∷ []) (early ∷ early ∷ []) ++ row 0 2 late 0 (40 ∷ 0 ∷ []) (late ∷ late ∷ []))))

-- A chain of abort references, for which step 2 takes two hops: relation 1 references itself by abort, and only the first of three records is even.
unfoldable pub chain_schema : List ℕ
unfolding pad block_of
chain_schema = 1 ∷ (block_of (17 ∷ []) 0 ++ replicate ((most_relations - 1) * block_words) 0)

unfoldable pub hops : Bool
unfolding header row
hops =
    let a : ℕ = label_of 1 1 in
    let b : ℕ = label_of 2 1 in
    let c : ℕ = label_of 3 1 in
    let t = header 3 3 (1 ∷ []) ++ (row 2 1 a 1 (0 ∷ []) (a ∷ []) ++ (row 3 1 b 1 (a ∷ []) (b ∷ []) ++ row 0 1 c 0 (b ∷ []) (c ∷ []))) in
    eqb (table_number chain_schema t) 0 && eqb (length (shown_list chain_schema t)) 3

-- At the largest clock there is no new label, and checks still run in number order: a milking of an unknown cow gives 8, a group of a known
-- name 9, any other group 12.
unfoldable pub last_clock : Bool
unfolding header row buffer
last_clock =
    let g : ℕ = label_of 1 1 in
    let t = header largest_counter 1 (1 ∷ []) ++ (row 0 1 g 0 (12 ∷ []) (g ∷ []) ++ replicate record_words 0) in
    eqb (table_number herd t) 0 && eqb (insertion_number herd t buffer 3 (label_of 9 9 ∷ 5 ∷ [])) 8 && eqb (insertion_number herd t buffer 1 (12 ∷ [])) 9
    && eqb (insertion_number herd t buffer 1 (13 ∷ [])) 12

-- Three tables of capacity 2 for the laws of merge: a group; the same group deleted, and a cow in it; two other groups.
unfoldable pub of_group : List ℕ
unfolding header row
of_group = header 1 1 (1 ∷ []) ++ (row 0 1 group 0 (12 ∷ []) (group ∷ []) ++ replicate record_words 0)

unfoldable pub of_cow : List ℕ
unfolding header row
of_cow = header 2 2 (1 ∷ 2 ∷ []) ++ (row 0 1 group 1 (12 ∷ []) (group ∷ []) ++ row 0 2 cow 0 (40 ∷ group ∷ []) (cow ∷ cow ∷ []))

unfoldable pub of_groups : List ℕ
unfolding header row
of_groups = header 3 2 (1 ∷ []) ++ (row 2 1 cow 0 (13 ∷ []) (cow ∷ []) ++ row 0 1 heifer 0 (14 ∷ []) (heifer ∷ []))

-- Lists that demand 3 rules out: two groups of one name, and a cow in a group that is not in the list.
abbrev pub two_alike : List Entry
two_alike = record { relation = 1; label = group; values = 12 ∷ [] } ∷ record { relation = 1; label = cow; values = 12 ∷ [] } ∷ []

abbrev pub dangling : List Entry
dangling = record { relation = 2; label = cow; values = 40 ∷ group ∷ [] } ∷ []
