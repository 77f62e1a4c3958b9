-- Where the walk stops is where the page's walk ends.
-- Assumes nothing.
use Prim.Native.Nat.{ℕ, zero, suc, ◌+◌}
use mathlib.Core.Path.{◌≡◌, refl, sym, ◌∙◌, ap}
use mathlib.Core.Logic.{◌⊎◌, inl, inr}
use mathlib.Core.Bool.{Bool, true, false, cond}
use mathlib.Core.List.{List}
use native.Mathlib.Omega.{arith}
use lib.Dec.{eqb}
use borrow.Author.Tests.{lt-ltb, le-ltb, le-leb, lt-leb, eq-eqb, ne_eqb}
use Rattle.std.specs.Prelude.{Option, Some, None, Ok}
use Rattle.std.specs.Bool.{then_some}
use Rattle.answers.specs.Told.{told}
use Rattle.answers.specs.Refused.{known_told}
use Rattle.lookup.specs.Sought.{sought_told}
use Rattle.crdt.proofs.Tests.{test, Tri, low, same, high, tri}
use Rattle.model.specs.Layout.{fields, used_at, first_at, base, block, field_count, kind_at, next_at, relation_at, label_at, flag_at, value_at, stamp_at}
use Rattle.model.specs.WellFormed.{chain_step, record_rules, counters_rule}
use Rattle.model.specs.Lookup.{read_rule, Seek, damaged, known, unknown, seek_from, lookup_seek}
use Rattle.model.specs.Shapes.{base_in, block_in, count_in, kind_in, next_in, relation_in, label_in, flag_in, value_in, stamp_in, record_rules_in, counters_rule_in, chain_step_in}
use Rattle.table.specs.declared.Stop.{Stop}
use Rattle.table.specs.declared.Stop.TheVariants as stop
use Rattle.table.specs.Chains.{read_rule_in, stop_from, walked_to}

-- the end of a walk that stopped there, looking for label l
seek_of : List ℕ → ℕ → Option Stop → Seek
seek_of t l None = damaged
seek_of t l (Some (stop.At i)) = cond (eqb (label_at t i) l) (known i) unknown
seek_of t l (Some (stop.End n)) = unknown

unfoldable record_words : Unit {0}
unfolding base_in base relation_in label_in flag_in value_in stamp_in relation_at label_at flag_at value_at stamp_at next_in next_at
record_words = tt

-- with twelve fields a record read on the way is good by the page's rule
pub read_same : (s t : List ℕ) (r from i : ℕ) → read_rule_in fields s t r from i ≡ read_rule s t r from i
unfolding record_words read_rule_in read_rule chain_step_in chain_step record_rules_in record_rules counters_rule_in counters_rule block_in block count_in kind_in field_count kind_at
read_same s t r from i = refl

from_stop : (k : ℕ) (s t : List ℕ) (r l from n i : ℕ) → seek_from k s t r l from i ≡ seek_of t l (stop_from fields k s t r l from n i)
unfolding seek_from stop_from seek_of label_in label_at next_in next_at base_in base
from_stop zero s t r l from n i = refl
from_stop (suc k) s t r l from n zero = refl
from_stop (suc k) s t r l from n (suc i) = go (test (read_rule s t r from (suc i))) (tri (label_at t (suc i)) l) (from_stop k s t r l (label_at t (suc i)) (n + 1) (next_at t (suc i)))
  where
    e₀ : read_rule_in fields s t r from (suc i) ≡ read_rule s t r from (suc i)
    e₀ = read_same s t r from (suc i)

    go : (read_rule s t r from (suc i) ≡ true) ⊎ (read_rule s t r from (suc i) ≡ false) → Tri (label_at t (suc i)) l
        → seek_from k s t r l (label_at t (suc i)) (next_at t (suc i)) ≡ seek_of t l (stop_from fields k s t r l (label_at t (suc i)) (n + 1) (next_at t (suc i)))
        → seek_from (suc k) s t r l from (suc i) ≡ seek_of t l (stop_from fields (suc k) s t r l from n (suc i))
    go (inr e) d h = rw (e₀, e)
    go (inl e) (low d) h = rw (e₀, e, ne_eqb (label_at t (suc i)) l (omega arith), le-ltb l (label_at t (suc i)) (omega arith), lt-leb l (label_at t (suc i)) d) h
    go (inl e) (same d) h = rw (e₀, e, eq-eqb (label_at t (suc i)) l d, le-leb l (label_at t (suc i)) (omega arith)) (rw (eq-eqb (label_at t (suc i)) l d))
    go (inl e) (high d) h =
        let n = ne_eqb (label_at t (suc i)) l (omega arith) in
        rw (e₀, e, n, lt-ltb l (label_at t (suc i)) d, le-leb l (label_at t (suc i)) (omega arith)) (rw n)

module _ (s t : List ℕ) (r l : ℕ) where
  sought : lookup_seek s t r l ≡ seek_of t l (walked_to fields s t r l)
  unfolding lookup_seek walked_to
  sought = from_stop (used_at t + 1) s t r l 0 0 (first_at t r)

  -- what is told of each stop
  pub told_broken : None ≡ walked_to fields s t r l → told 3 0 ≡ sought_told (lookup_seek s t r l)
  unfolding seek_of
  told_broken e = sym (ap sought_told (sought ∙ ap (seek_of t l) (sym e)))

  pub told_end : (n : ℕ) → Some (stop.End n) ≡ walked_to fields s t r l → told 0 0 ≡ sought_told (lookup_seek s t r l)
  unfolding seek_of
  told_end n e = sym (ap sought_told (sought ∙ ap (seek_of t l) (sym e)))

  pub told_at : (i at : ℕ) → Some (stop.At i) ≡ walked_to fields s t r l → at ≡ label_at t i
      → known_told (Ok (then_some (eqb at l) i)) ≡ sought_told (lookup_seek s t r l)
  unfolding seek_of
  told_at i at e d = rw d (go (eqb (label_at t i) l)) ∙ sym (ap sought_told (sought ∙ ap (seek_of t l) (sym e)))
    where
      go : (b : Bool) → known_told (Ok (then_some b i)) ≡ sought_told (cond b (known i) unknown)
      go true = refl
      go false = refl
