-- Different numbers below n are at most n many.
-- Assumes nothing.
use Prim.Native.Nat.{ℕ, zero, suc, ◌≤◌, ◌<◌}
use mathlib.Core.Path.{◌≡◌, refl, sym, ap}
use mathlib.Core.Logic.{◌⊎◌, inl, inr}
use mathlib.Core.Bool.{Bool, true, false, cond, not}
use mathlib.Core.List.{List, [], ◌∷◌}
use native.Mathlib.Omega.{arith}
use lib.Dec.{eqb}
use lib.ListN.{length}
use borrow.Author.Tests.{eqb-true, eqb-false, ne_eqb}
use Rattle.crdt.proofs.Tests.{test}
use Rattle.model.specs.Lists.{only}

-- j is not on the list; no number stands twice; all are below n
abbrev pub Out : ℕ → List ℕ → Type 0
Out j [] = Unit {0}
Out j (x ∷ xs) = (j ≡ x → ⊥) × Out j xs

abbrev pub NoDup : List ℕ → Type 0
NoDup [] = Unit {0}
NoDup (x ∷ xs) = Out x xs × NoDup xs

abbrev pub Under : ℕ → List ℕ → Type 0
Under n [] = Unit {0}
Under n (x ∷ xs) = (x < n) × Under n xs

abbrev without : ℕ → List ℕ → List ℕ
without n l = only (λ (i : ℕ). not (eqb i n)) l

out_without : (x n : ℕ) (l : List ℕ) → Out x l → Out x (without n l)
unfolding only
out_without x n [] o = tt
out_without x n (y ∷ ys) o = go (eqb y n) (out_without x n ys o.1)
  where
    go : (b : Bool) → Out x (without n ys) → Out x (cond (not b) (y ∷ without n ys) (without n ys))
    go true k = k
    go false k = (o.0, k)

nodup_without : (n : ℕ) (l : List ℕ) → NoDup l → NoDup (without n l)
unfolding only
nodup_without n [] d = tt
nodup_without n (y ∷ ys) d = go (eqb y n) (nodup_without n ys d.1)
  where
    go : (b : Bool) → NoDup (without n ys) → NoDup (cond (not b) (y ∷ without n ys) (without n ys))
    go true k = k
    go false k = (out_without y n ys d.0, k)

under_without : (n : ℕ) (l : List ℕ) → Under (suc n) l → Under n (without n l)
unfolding only
under_without n [] u = tt
under_without n (y ∷ ys) u = go (test (eqb y n)) (under_without n ys u.1)
  where
    go : (eqb y n ≡ true) ⊎ (eqb y n ≡ false) → Under n (without n ys) → Under n (without n (y ∷ ys))
    go (inl e) k = rw e k
    go (inr e) k = let d : y ≡ n → ⊥ = eqb-false y n e in rw e (omega (arith, u.0), k)

out_same : (n : ℕ) (l : List ℕ) → Out n l → without n l ≡ l
unfolding only
out_same n [] o = refl
out_same n (y ∷ ys) o = rw (ne_eqb y n (λ e. o.0 (sym e))) (ap (λ (l : List ℕ). y ∷ l) (out_same n ys o.1))

one_less : (n : ℕ) (l : List ℕ) → NoDup l → length l ≤ suc (length (without n l))
unfolding only
one_less n [] d = omega arith
one_less n (y ∷ ys) d = go (test (eqb y n)) (one_less n ys d.1)
  where
    go : (eqb y n ≡ true) ⊎ (eqb y n ≡ false) → length ys ≤ suc (length (without n ys)) → suc (length ys) ≤ suc (length (without n (y ∷ ys)))
    go (inl e) k = rw e (omega (arith, ap length (out_same n ys (rw (eqb-true y n e) at d.0))))
    go (inr e) k = rw e (omega arith)

pub pigeon : (n : ℕ) (l : List ℕ) → NoDup l → Under n l → length l ≤ n
pigeon zero [] d u = omega arith
pigeon zero (x ∷ xs) d u = absurd (omega (arith, u.0))
pigeon (suc n) l d u = omega (arith, one_less n l d, pigeon n (without n l) (nodup_without n l d) (under_without n l u))
