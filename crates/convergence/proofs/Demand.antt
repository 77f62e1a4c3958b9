-- Demand 3, entire: the laws of merge, and what holds after every list of calls on a fleet.
-- Assumes nothing.
use Prim.Native.Nat.{ℕ}
use mathlib.Core.Path.{◌≡◌, refl, sym, ◌∙◌, ap}
use mathlib.Core.Bool.{Bool, true, false}
use mathlib.Core.List.{List, [], ◌∷◌}
use mathlib.Core.Option.{none}
use borrow.Author.Tests.{not-false as unnot}
use Rattle.model.specs.Lists.{all_of}
use Rattle.model.specs.Schemas.{broken}
use Rattle.model.specs.Records.{in_order}
use Rattle.model.specs.Tables.{Contents, contents}
use Rattle.model.specs.Calls.{schema_length, schema_number, table_number, start_number, start_table, shown_list}
use Rattle.model.specs.Runs.{Moment, Call, Run, ago, history, begun}
use Rattle.model.specs.Demand.{SameEdits, SameRecords, Converged, RunsConverge, Demand3}
use Rattle.laws.proofs.Checks.{passed}
use Rattle.convergence.proofs.Listed.{listed, same_list}
use Rattle.convergence.proofs.Tables.{Good, table_good, Begun, start_good}
use Rattle.convergence.proofs.Laws.{held, merge_commutes, merge_associates, merge_idempotent}
use Rattle.convergence.proofs.Runs.{holds_none, run_good, run_same}

-- a schema that schema check accepts
record Lent (s : List ℕ) : Type 0 where
  long : schema_length s ≡ true
  sound : broken s ≡ false

lent : (s : List ℕ) → schema_number s ≡ 0 → Lent s
unfolding schema_number all_of
lent s h = let p = passed _ refl h in record { long = unnot (schema_length s) p.0; sound = p.1.0 }

same_records : (t u : List ℕ) → held t ≡ held u → SameRecords t u
unfolding held contents
same_records t u e = e

module _ (s : List ℕ) (h : schema_number s ≡ 0) (w : ℕ → List ℕ) (r : ℕ → ℕ) (started : (i : ℕ) → start_number (w i) (r i) ≡ 0) where
  fresh : (i : ℕ) → Good s ((begun w r).fleet i) × (held ((begun w r).fleet i) ≡ []) × ((begun w r).took i ≡ [])
  unfolding begun
  fresh i = let b = start_good s (w i) (r i) (lent s h).long (lent s h).sound (started i) in (b.good, holds_none _ b.empty, refl)

  no_delta : (begun w r).wrote ≡ none
  unfolding begun
  no_delta = refl

  module _ (cs : List Call) (run : Run s (begun w r) cs) where
    formed : (i : ℕ) → table_number s ((ago (begun w r) (history (begun w r) cs) 0).fleet i) ≡ 0
    formed i = table_good s _ (run_good s (lent s h).long (lent s h).sound (begun w r) fresh no_delta cs run i)

    agree : (i j : ℕ) → SameEdits ((ago (begun w r) (history (begun w r) cs) 0).took i) ((ago (begun w r) (history (begun w r) cs) 0).took j)
        → SameRecords ((ago (begun w r) (history (begun w r) cs) 0).fleet i) ((ago (begun w r) (history (begun w r) cs) 0).fleet j)
    agree i j e = same_records _ _ (run_same s (lent s h).long (lent s h).sound (begun w r) fresh no_delta cs run i j e)

-- "What demand 3 says of runs is a single claim about the whole list of calls"
pub runs_converge : RunsConverge
runs_converge s h w r started cs run =
    record {
      listed = λ i. listed s _ (formed s h w r started cs run i);
      agree = λ i j e. let same = agree s h w r started cs run i j e in (same, same_list s _ _ (formed s h w r started cs run i) (formed s h w r started cs run j) same);
    }

pub demand3 : Demand3
demand3 = record { commutative = merge_commutes; associative = merge_associates; idempotent = merge_idempotent; runs = runs_converge }
