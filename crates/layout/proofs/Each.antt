-- Tests of each of 1 to n: one number more, one number of them, and two tests that agree.
-- Assumes nothing.
use Prim.Native.Nat.{ℕ, zero, suc, ◌+◌, ◌-◌, ◌≤◌}
use mathlib.Core.Path.{◌≡◌, refl, ap, ap₂, sym, ◌∙◌}
use mathlib.Core.Bool.{Bool, true, false, ◌&&◌}
use native.Mathlib.Omega.{arith}
use native.Mathlib.Numerals.{add-one}
use mathlib.Core.Logic.{◌⊎◌, inl, inr}
use Rattle.crdt.proofs.Tests.{Tri, low, same, high, tri, test, clash, and_left, and_right, and_both}
use Rattle.model.specs.Lists.{each}

pub each_none : (p : ℕ → Bool) → true ≡ each 0 p
unfolding each
each_none p = refl

-- an accumulated test, one turn more
pub each_more : (good x : Bool) (n : ℕ) (p : ℕ → Bool) → good ≡ each n p → x ≡ p (n + 1) → (good && x) ≡ each (n + 1) p
unfolding each
each_more good x n p e f = let z = add-one n in ap₂ ◌&&◌ e (f ∙ ap p z) ∙ rw z

pub each_at : (n : ℕ) (p : ℕ → Bool) (k : ℕ) → each n p ≡ true → 1 ≤ k → k ≤ n → p k ≡ true
unfolding each
each_at zero p k e h g = absurd (omega arith)
each_at (suc n) p k e h g = go (tri k (suc n)) (λ (l : k ≤ n). each_at n p k (and_left (each n p) (p (suc n)) e) h l)
  where
    go : Tri k (suc n) → (k ≤ n → p k ≡ true) → p k ≡ true
    go (low l) ih = ih (omega arith)
    go (same q) ih = ap p q ∙ and_right (each n p) (p (suc n)) e
    go (high l) ih = absurd (omega arith)

pub each_all : (n : ℕ) (p : ℕ → Bool) → ((k : ℕ) → 1 ≤ k → k ≤ n → p k ≡ true) → each n p ≡ true
unfolding each
each_all zero p h = refl
each_all (suc n) p h = and_both (each n p) (p (suc n)) (each_all n p (λ k a b. h k a (omega arith))) (h (suc n) (omega arith) (omega arith))

pub each_ext : (n : ℕ) (p q : ℕ → Bool) → ((k : ℕ) → 1 ≤ k → k ≤ n → p k ≡ q k) → each n p ≡ each n q
unfolding each
each_ext zero p q h = refl
each_ext (suc n) p q h = ap₂ ◌&&◌ (each_ext n p q (λ k a b. h k a (omega arith))) (h (suc n) (omega arith) (omega arith))

-- two tests at once are each of them for all
pub each_both : (n : ℕ) (p q : ℕ → Bool) → each n (λ k. p k && q k) ≡ (each n p && each n q)
unfolding each
each_both zero p q = refl
each_both (suc n) p q = rw (each_both n p q) (swap (each n p) (each n q) (p (suc n)) (q (suc n)))
  where
    swap : (a b c d : Bool) → ((a && b) && (c && d)) ≡ ((a && c) && (b && d))
    swap true true c d = refl
    swap true false true d = refl
    swap true false false d = refl
    swap false b c d = refl

-- one number that fails
pub each_fail : (n : ℕ) (p : ℕ → Bool) (k : ℕ) → 1 ≤ k → k ≤ n → p k ≡ false → false ≡ each n p
each_fail n p k h g e = go (test (each n p))
  where
    go : (each n p ≡ true) ⊎ (each n p ≡ false) → false ≡ each n p
    go (inl q) = clash (each_at n p k q h g) e
    go (inr q) = sym q

-- a test that has passed so far, one turn more
pub each_next : (n : ℕ) (p : ℕ → Bool) → each n p ≡ true → p (n + 1) ≡ true → each (n + 1) p ≡ true
each_next n p e f = sym (each_more true true n p (sym e) (sym f))

-- the same for a loop over 1 to n, which has passed those before r
pub each_up : (good x : Bool) (r : ℕ) (p : ℕ → Bool) → 1 ≤ r → good ≡ each (r - 1) p → x ≡ p r → (good && x) ≡ each (r + 1 - 1) p
each_up good x r p h e f =
    let a : r ≡ (r - 1) + 1 = omega arith in
    let b : r + 1 - 1 ≡ (r - 1) + 1 = omega arith in
    each_more good x (r - 1) p e (f ∙ ap p a) ∙ ap (λ n. each n p) (sym b)
