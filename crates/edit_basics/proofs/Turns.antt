-- A test that fails, tests of joined lists, and a scan that has met nothing so far.
-- Assumes nothing.
use Prim.Native.Nat.{ℕ, ◌+◌, ◌≤◌, ◌<◌}
use mathlib.Core.Path.{◌≡◌, refl, sym, ◌∙◌, ap}
use mathlib.Core.Logic.{◌⊎◌, inl, inr}
use mathlib.Core.Bool.{Bool, true, false, cond, ◌||◌, ◌&&◌, not}
use mathlib.Core.List.{List, [], ◌∷◌, ◌++◌}
use native.Mathlib.Omega.{arith}
use lib.Dec.{eqb}
use borrow.Author.Tests.{eqb-true}
use Rattle.crdt.proofs.Tests.{test, clash, and_none, Tri, low, same, high, tri}
use Rattle.model.specs.Lists.{only, some_of, all_of}

pub not_so : (x : Bool) → (x ≡ true → ⊥) → x ≡ false
not_so x f = go (test x)
  where
    go : (x ≡ true) ⊎ (x ≡ false) → x ≡ false
    go (inl e) = absurd (f e)
    go (inr e) = e

-- none of 1 to n passes
abbrev pub NoneTo : (ℕ → Bool) → ℕ → Type 0
NoneTo T n = (y : ℕ) → 1 ≤ y → y ≤ n → T y ≡ false

pub none_start : (T : ℕ → Bool) → NoneTo T 0
none_start T y a b = absurd (omega arith)

pub none_more : (T : ℕ → Bool) (n : ℕ) → NoneTo T n → T (n + 1) ≡ false → NoneTo T (n + 1)
none_more T n h e y a b = go (tri y (n + 1))
  where
    go : Tri y (n + 1) → T y ≡ false
    go (low l) = h y a (omega arith)
    go (same q) = rw q e
    go (high l) = absurd (omega arith)

module _ {A : Type 0} where
  pub some_append : (q : A → Bool) (l m : List A) → some_of q (l ++ m) ≡ (some_of q l || some_of q m)
  unfolding some_of
  some_append q [] m = refl
  some_append q (x ∷ xs) m = go (q x) (some_append q xs m)
    where
      go : (b : Bool) → some_of q (xs ++ m) ≡ (some_of q xs || some_of q m) → (b || some_of q (xs ++ m)) ≡ ((b || some_of q xs) || some_of q m)
      go true e = refl
      go false e = e

-- a number among those of a list that pass
pub among_only : (a : ℕ) (q : ℕ → Bool) (l : List ℕ) → some_of (λ k. eqb a k) (only q l) ≡ (q a && some_of (λ k. eqb a k) l)
unfolding some_of only
among_only a q [] = and_none (q a)
among_only a q (x ∷ xs) = go (test (eqb a x)) (test (q x)) (among_only a q xs)
  where
    go : (eqb a x ≡ true) ⊎ (eqb a x ≡ false) → (q x ≡ true) ⊎ (q x ≡ false) → some_of (λ k. eqb a k) (only q xs) ≡ (q a && some_of (λ k. eqb a k) xs)
        → some_of (λ k. eqb a k) (cond (q x) (x ∷ only q xs) (only q xs)) ≡ (q a && (eqb a x || some_of (λ k. eqb a k) xs))
    go (inl e) (inl f) h = let g : q a ≡ true = ap q (eqb-true a x e) ∙ f in rw (f, e, g)
    go (inl e) (inr f) h = let g : q a ≡ false = ap q (eqb-true a x e) ∙ f in rw (f, g) (rw g at h)
    go (inr e) (inl f) h = rw (f, e) h
    go (inr e) (inr f) h = rw (f, e) h

pub not_left : (x : Bool) → not x ≡ false → x ≡ true
not_left true h = refl
not_left false h = sym h
