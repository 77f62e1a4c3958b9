-- A chain that was walked, to a label or to its end.
-- Assumes nothing.
use Rattle.std.specs.Prelude.{ℕ, zero, suc, ◌+◌, Bool, cond, ◌&&◌, not, List, leb, length, Option, Some, None}
use Rattle.model.specs.Layout.{used_at, first_at}
use Rattle.model.specs.Lists.{all_of}
use Rattle.model.specs.Shapes.{next_in, label_in, record_rules_in, counters_rule_in, chain_in, chain_step_in, rises_in}
use Rattle.table.specs.declared.Stop.{Stop}
use Rattle.table.specs.declared.Stop.TheVariants as stop

-- of a schema and a table of w fields
module _ (w : ℕ) where
  -- the own words of record i, with its counters
  abbrev pub record_good : List ℕ → List ℕ → ℕ → Bool
  record_good s t i = record_rules_in w s t i && counters_rule_in w s t i

  -- A record read on the way, record i after the label low (read_rule of document 02, F-6).
  unfoldable pub read_rule_in : List ℕ → List ℕ → ℕ → ℕ → ℕ → Bool
  read_rule_in s t r low i = record_rules_in w s t i && counters_rule_in w s t i && chain_step_in w t r low i

  -- The chain of relation r: the number of its records, and none where it does not rise or has a record that is not good.
  unfoldable pub walked_chain : List ℕ → List ℕ → ℕ → Option ℕ
  walked_chain s t r = cond (rises_in w t r 0 (chain_in w t r) && all_of (record_good s t) (chain_in w t r)) (Some (length (chain_in w t r))) None

  -- Where a walk to label l ends: at most k records from index i on, after the label low and n records.
  unfoldable pub stop_from : ℕ → List ℕ → List ℕ → ℕ → ℕ → ℕ → ℕ → ℕ → Option Stop
  stop_from zero s t r l low n i = Some (stop.End n)
  stop_from (suc k) s t r l low n zero = Some (stop.End n)
  stop_from (suc k) s t r l low n (suc i) =
      cond (not (read_rule_in s t r low (suc i))) None
      (cond (leb l (label_in w t (suc i))) (Some (stop.At (suc i))) (stop_from k s t r l (label_in w t (suc i)) (n + 1) (next_in w t (suc i))))

  -- The same from the first record of relation r's chain.
  unfoldable pub walked_to : List ℕ → List ℕ → ℕ → ℕ → Option Stop
  walked_to s t r l = stop_from (used_at t + 1) s t r l 0 0 (first_at t r)

-- What it says of the whole chain, where l is above every label.
abbrev pub walked_of : Option Stop → Option ℕ
walked_of None = None
walked_of (Some (stop.At i)) = None
walked_of (Some (stop.End n)) = Some n
