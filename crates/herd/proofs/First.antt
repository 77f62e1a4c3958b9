-- The part that `values` gives is empty exactly in a refusal.
-- Assumes nothing.
use Prim.Native.Nat.{ℕ, ◌+◌, ◌*◌, ◌≤◌}
use mathlib.Core.Path.{◌≡◌, refl, sym, ◌∙◌, ap}
use mathlib.Core.Logic.{◌≢◌}
use mathlib.Core.Bool.{Bool, true, false, cond, ◌||◌, not}
use mathlib.Core.List.{List, []}
use native.Mathlib.Omega.{arith}
use lib.ListN.{length, take, drop, length-take, length-drop}
use Rattle.crdt.proofs.Tests.{or_false}
use Rattle.model.specs.Layout.{fields, record_words, head_words, base}
use Rattle.model.specs.Lists.{lowest}
use Rattle.model.specs.Calls.{table_length, bad_index, values_number, values_part, values_first}
use Rattle.layout.proofs.Stride.{Inside, index_inside}

pub record Refused (t : List ℕ) (i : ℕ) : Type 0 where
  pub number : 1 ≡ values_number t i
  pub first : 0 ≡ values_first t i

pub record Given (t : List ℕ) (i : ℕ) : Type 0 where
  pub number : 0 ≡ values_number t i
  pub first : base i + head_words ≡ values_first t i
  pub inside : Inside t i

part_long : (t : List ℕ) (i : ℕ) → Inside t i → length (take fields (drop (base i + head_words) t)) ≡ fields
part_long t i h = simp (length-take, length-drop) (omega (arith, h))

pub data Part (t : List ℕ) (i : ℕ) : Type 0 where
  refused : length (values_part t i) ≡ 0 → Refused t i → Part t i
  given : length (values_part t i) ≡ fields → Given t i → Part t i

pub part : (t : List ℕ) (i : ℕ) → Part t i
unfolding values_part values_number values_first lowest
part t i = go (not (table_length t) || bad_index t i) refl
  where
    go : (b : Bool) → b ≡ (not (table_length t) || bad_index t i) → Part t i
    go true e = refused (rw (← e) refl) (record { number = rw (← e) refl; first = rw (← e) refl })
    go false e =
        let o = index_inside t i (or_false (not (table_length t)) (bad_index t i) (sym e)).1 in
        given (rw (← e) (part_long t i o)) (record { number = rw (← e) refl; first = rw (← e) refl; inside = o })

pub empty_part : (t : List ℕ) (i : ℕ) → length (values_part t i) ≡ 0 → Refused t i
empty_part t i h = go (part t i)
  where
    go : Part t i → Refused t i
    go (refused e r) = r
    go (given e r) = absurd (omega (arith, e, h))

pub whole_part : (t : List ℕ) (i : ℕ) → length (values_part t i) ≢ 0 → Given t i
whole_part t i h = go (part t i)
  where
    go : Part t i → Given t i
    go (refused e r) = absurd (h e)
    go (given e r) = r
