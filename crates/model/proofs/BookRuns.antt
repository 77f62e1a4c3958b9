-- The example list of calls of the herd book is a run, each of its calls answers as it should, and both tables took in the same edits: no hypothesis of
-- what is said of such runs is out of reach.
-- Assumes nothing.
use Prim.Native.Nat.{ℕ}
use mathlib.Core.Path.{◌≡◌, refl}
use mathlib.Core.Bool.{Bool, true, false, cond}
use mathlib.Core.List.{List}
use lib.Dec.{eqb}
use Rattle.crdt.proofs.Tests.{and_left}
use Rattle.model.specs.Layout.{capacity_of}
use Rattle.model.specs.Lists.{lowest}
use Rattle.model.specs.Calls.{schema_length, table_length, start_number, start_table, merge_number}
use Rattle.model.specs.Runs.{words, Moment, ago, begun}
use Rattle.model.specs.Demand.{SameEdits}
use Rattle.model.specs.Cases.{pad}
use Rattle.model.specs.Examples.{replicas}
use Rattle.model.specs.Book.{book, book_block}
use Rattle.model.specs.BookRuns.{take_in, book_history, AllowedCall, BookRun}
use Rattle.model.specs.BookExample.{book_answer, book_answers, book_blanks, book_first, book_calls, book_end, book_listed, book_same, book_ends, book_runs}
use Rattle.model.proofs.Unfolded.{run_parts}
use Rattle.model.proofs.Runs.{refused, same_edits}

pub book_runs_hold : book_runs ≡ true
unfolding run_parts book_answer book_answers book_blanks book_calls book_listed book_same book_ends book_runs
book_runs_hold = refl

pub book_example_run : BookRun book_first book_calls
unfolding pad capacity_of lowest begun start_number start_table merge_number schema_length table_length book book_block book_history book_blanks book_calls
book_example_run = (λ _. refl, (λ _. refl, (λ _. refl, (tt, (tt, (tt, (tt, (tt, (tt, (λ _. refl, (tt, (refused _ refl, tt))))))))))))

-- Every table of the fleet begins as an accepted start leaves it.
pub book_example_starts : (i : ℕ) → start_number (book_blanks i) (replicas i) ≡ 0
unfolding capacity_of lowest table_length start_number book_blanks
book_example_starts i = go (eqb i 1)
  where
    go : (c : Bool) → start_number (book_blanks 0) (cond c 2 1) ≡ 0
    go true = refl
    go false = refl

pub book_example_same : SameEdits (book_end.took 0) (book_end.took 1)
unfolding book_same book_runs
book_example_same = same_edits (book_end.took 0) (book_end.took 1) (and_left book_same book_ends book_runs_hold)

-- Words that the merge accepts, and that are named neither as a copy nor as a delta, are ruled out.
pub words_rule_out : (first : Moment) (h : List Moment) (i : ℕ) (o : List ℕ) → merge_number book ((ago first h 0).fleet i) o ≡ 0
    → AllowedCall first h (take_in i (words o)) → ⊥
words_rule_out first h i o e a = a e
