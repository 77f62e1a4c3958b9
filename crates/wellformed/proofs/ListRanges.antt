-- A test that one of 1 to n passes, and lists made of ranges.
-- Assumes nothing.
use Prim.Native.Nat.{ℕ, zero, suc, ◌+◌, ◌≤◌, ◌<◌}
use mathlib.Core.Path.{◌≡◌, refl, ◌∙◌, ap, ap₂}
use mathlib.Core.Bool.{Bool, true}
use mathlib.Core.List.{List, ◌∷◌, map}
use mathlib.Core.Logic.{◌⊎◌, inl, inr}
use native.Mathlib.Omega.{arith}
use lib.ListN.{length, get_or, take, drop, replicate}
use lib.Seq.{drop-cons}
use Rattle.crdt.proofs.Tests.{clash, and_both, or_cases}
use Rattle.model.specs.Lists.{any, from, all_of}

-- one of 1 to n that passes
pub any_some : (n : ℕ) (p : ℕ → Bool) → any n p ≡ true → (i : ℕ) × (1 ≤ i) × (i ≤ n) × (p i ≡ true)
unfolding any
any_some zero p h = clash h refl
any_some (suc n) p h = go (or_cases (any n p) (p (suc n)) h) (λ k. any_some n p k)
  where
    go : (any n p ≡ true) ⊎ (p (suc n) ≡ true) → (any n p ≡ true → (i : ℕ) × (1 ≤ i) × (i ≤ n) × (p i ≡ true)) → (i : ℕ) × (1 ≤ i) × (i ≤ suc n) × (p i ≡ true)
    go (inl k) ih = let r = ih k in (r.0, r.1, omega (arith, r.2), r.3)
    go (inr k) ih = (suc n, omega arith, omega arith, k)

module _ {A : Type 0} where
  pub map_from : {B : Type 0} (g : A → B) (i n : ℕ) (f : ℕ → A) → map g (from i n f) ≡ from i n (λ j. g (f j))
  unfolding from
  map_from g i zero f = refl
  map_from g i (suc n) f = ap (λ l. g (f i) ∷ l) (map_from g (suc i) n f)

  pub all_from : (p : A → Bool) (i n : ℕ) (f : ℕ → A) → ((k : ℕ) → i ≤ k → k < i + n → p (f k) ≡ true) → all_of p (from i n f) ≡ true
  unfolding from all_of
  all_from p i zero f h = refl
  all_from p i (suc n) f h =
      and_both (p (f i)) (all_of p (from (suc i) n f)) (h i (omega arith) (omega arith))
      (all_from p (suc i) n f (λ k a b. h k (omega arith) (omega arith)))

-- a part of a list, listed
pub span : (t : List ℕ) (b n i : ℕ) (f : ℕ → ℕ) → b + n ≤ length t → ((k : ℕ) → k < n → f (i + k) ≡ get_or t (b + k) 0) → from i n f ≡ take n (drop b t)
unfolding from
span t b zero i f l h = refl
span t b (suc n) i f l h =
    let s : b < length t = omega arith in
    rw (drop-cons t b 0 s)
    (ap₂ ◌∷◌ (ap f (omega arith) ∙ h 0 (omega arith) ∙ ap (λ j. get_or t j 0) (omega arith))
    (span t (suc b) n (suc i) f (omega arith) (λ k l. ap f (omega arith) ∙ h (suc k) (omega arith) ∙ ap (λ j. get_or t j 0) (omega arith))))

pub replicate_from : (n i : ℕ) → replicate {A = ℕ} n 0 ≡ from i n (λ (k : ℕ). 0)
unfolding from
replicate_from zero i = refl
replicate_from (suc n) i = ap (λ l. 0 ∷ l) (replicate_from n (suc i))
