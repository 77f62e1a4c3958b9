-- The records with mark 1, by position.
-- Assumes nothing.
use Prim.Native.Nat.{ℕ, zero, suc, ◌<◌}
use mathlib.Core.Path.{◌≡◌, sym}
use mathlib.Core.Logic.{◌⊎◌, inl, inr}
use mathlib.Core.Bool.{true, false}
use mathlib.Core.List.{List, [], ◌∷◌}
use native.Mathlib.Omega.{arith}
use lib.Dec.{eqb}
use lib.ListN.{length, get_or}
use borrow.Author.Tests.{eqb-true, eq-eqb}
use Rattle.crdt.proofs.Tests.{test, clash}
use Rattle.model.specs.Records.{Rec, has}
use Rattle.model.specs.Calls.{marked}
use Rattle.wellformed.proofs.Follow.{has_none, has_here, has_there, has_cases}

module _ (m : ℕ) (ms : List ℕ) (x : Rec) (xs : List Rec) where
  marked_yes : m ≡ 1 → marked (m ∷ ms) (x ∷ xs) ≡ x ∷ marked ms xs
  unfolding marked
  marked_yes e = rw (eq-eqb m 1 e)

  marked_no : eqb m 1 ≡ false → marked (m ∷ ms) (x ∷ xs) ≡ marked ms xs
  unfolding marked
  marked_no e = rw e

pub marked_has : (m : List ℕ) (s : List Rec) (k : ℕ) (d : Rec) → has (marked m s) k ≡ true → (n : ℕ) × (n < length s) × (get_or m n 0 ≡ 1) × ((get_or s n d).key ≡ k)
marked_has [] s k d h = clash h (unfold marked in has_none k)
marked_has (m ∷ ms) [] k d h = clash h (unfold marked in has_none k)
marked_has (m ∷ ms) (x ∷ xs) k d h = go (test (eqb m 1)) (λ p. marked_has ms xs k d p)
  where
    R : Type 0
    R = (n : ℕ) × (n < suc (length xs)) × (get_or (m ∷ ms) n 0 ≡ 1) × ((get_or (x ∷ xs) n d).key ≡ k)

    later : (n : ℕ) × (n < length xs) × (get_or ms n 0 ≡ 1) × ((get_or xs n d).key ≡ k) → R
    later r = (suc r.0, omega (arith, r.1), r.2, r.3)

    first : m ≡ 1 → (k ≡ x.key) ⊎ (has (marked ms xs) k ≡ true) → (has (marked ms xs) k ≡ true → (n : ℕ) × (n < length xs) × (get_or ms n 0 ≡ 1) × ((get_or xs n d).key ≡ k)) → R
    first e (inl p) ih = (0, omega arith, e, sym p)
    first e (inr p) ih = later (ih p)

    go : (eqb m 1 ≡ true) ⊎ (eqb m 1 ≡ false) → (has (marked ms xs) k ≡ true → (n : ℕ) × (n < length xs) × (get_or ms n 0 ≡ 1) × ((get_or xs n d).key ≡ k)) → R
    go (inl p) ih = let e = eqb-true m 1 p in first e (has_cases x (marked ms xs) k (rw (marked_yes m ms x xs e) at h)) ih
    go (inr p) ih = later (ih (rw (marked_no m ms x xs p) at h))

pub has_marked : (m : List ℕ) (s : List Rec) (n : ℕ) (d : Rec) → n < length s → get_or m n 0 ≡ 1 → has (marked m s) (get_or s n d).key ≡ true
has_marked [] s n d l e = absurd (omega arith)
has_marked (m ∷ ms) [] n d l e = absurd (omega arith)
has_marked (m ∷ ms) (x ∷ xs) zero d l e = rw (marked_yes m ms x xs e) (has_here x (marked ms xs))
has_marked (m ∷ ms) (x ∷ xs) (suc n) d l e = go (test (eqb m 1)) (has_marked ms xs n d (omega arith) e)
  where
    go : (eqb m 1 ≡ true) ⊎ (eqb m 1 ≡ false) → has (marked ms xs) (get_or xs n d).key ≡ true → has (marked (m ∷ ms) (x ∷ xs)) (get_or xs n d).key ≡ true
    go (inl p) ih = rw (marked_yes m ms x xs (eqb-true m 1 p)) (has_there x (marked ms xs) _ ih)
    go (inr p) ih = rw (marked_no m ms x xs p) ih
