-- Answer 0: no check applies.
-- Assumes nothing.
use Prim.Native.Nat.{ℕ}
use mathlib.Core.Path.{◌≡◌, refl}
use mathlib.Core.Logic.{◌⊎◌, inl, inr}
use mathlib.Core.Bool.{Bool, true, false, not}
use mathlib.Core.List.{List, [], ◌∷◌}
use lib.Dec.{eqb}
use borrow.Author.Tests.{eqb-false}
use Rattle.crdt.proofs.Tests.{test, not_true, and_left, and_right}
use Rattle.model.specs.Lists.{all_of, Check, lowest}

abbrev pub Passed : List Check → Type 0
Passed [] = Unit {0}
Passed (x ∷ xs) = (x.applies ≡ false) × Passed xs

abbrev pub numbered : Check → Bool
numbered x = not (eqb x.number 0)

pub passed : (xs : List Check) → all_of numbered xs ≡ true → lowest xs ≡ 0 → Passed xs
unfolding lowest all_of
passed [] n h = tt
passed (x ∷ xs) n h = go (test x.applies) (λ e. passed xs (and_right (not (eqb x.number 0)) _ n) e)
  where
    go : (x.applies ≡ true) ⊎ (x.applies ≡ false) → (lowest xs ≡ 0 → Passed xs) → Passed (x ∷ xs)
    go (inl e) ih = absurd (eqb-false x.number 0 (not_true _ (and_left _ _ n)) (rw e at h))
    go (inr e) ih = (e, ih (rw e at h))

-- and the other way round
pub none_applies : (xs : List Check) → Passed xs → lowest xs ≡ 0
unfolding lowest
none_applies [] p = refl
none_applies (x ∷ xs) p = rw p.0 (none_applies xs p.1)
