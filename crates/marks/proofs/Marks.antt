-- A mark by its byte.
-- Assumes nothing.
use Prim.Native.Nat.{ℕ, ◌-◌, ◌≤◌, ◌<◌}
use mathlib.Core.Path.{◌≡◌, sym, ◌∙◌}
use mathlib.Core.Bool.{true, false, not}
use mathlib.Core.List.{List}
use native.Mathlib.Omega.{arith}
use lib.Dec.{eqb}
use lib.ListN.{length, get_or, get_or-eq_default}
use borrow.Author.Tests.{eqb-true, eqb-false, eq-eqb, ne_eqb}
use Rattle.crdt.proofs.Tests.{and_left, and_right, not_true}
use Rattle.marks.specs.Marks.{is_marked}

module _ (m : List ℕ) (i : ℕ) where
  pub marked_none : i < 1 → false ≡ is_marked m i
  unfolding is_marked
  marked_none h = let e : i ≡ 0 = omega arith in rw (eq-eqb i 0 e)

  pub marked_past : 1 ≤ i → length m < i → false ≡ is_marked m i
  unfolding is_marked
  marked_past a h =
      let n : i ≡ 0 → ⊥ = λ e. omega arith in
      let l : length m ≤ i - 1 = omega arith in
      rw (ne_eqb i 0 n, get_or-eq_default m 0 l)

  pub marked_here : 1 ≤ i → eqb (get_or m (i - 1) 0) 1 ≡ is_marked m i
  unfolding is_marked
  marked_here a = let n : i ≡ 0 → ⊥ = λ e. omega arith in rw (ne_eqb i 0 n)

  pub marked_true : is_marked m i ≡ true → (1 ≤ i) × (get_or m (i - 1) 0 ≡ 1)
  unfolding is_marked
  marked_true h =
      let n = eqb-false i 0 (not_true (eqb i 0) (and_left (not (eqb i 0)) (eqb (get_or m (i - 1) 0) 1) h)) in
      (omega arith, eqb-true _ 1 (and_right (not (eqb i 0)) (eqb (get_or m (i - 1) 0) 1) h))

  pub true_marked : 1 ≤ i → get_or m (i - 1) 0 ≡ 1 → is_marked m i ≡ true
  true_marked a e = sym (marked_here a) ∙ eq-eqb _ 1 e
