-- The shown list rises, and has no more records than there are.
-- Assumes nothing.
use Prim.Native.Nat.{ℕ, zero, suc, ◌≤◌}
use mathlib.Core.Path.{◌≡◌}
use mathlib.Core.Logic.{◌⊎◌, inl, inr}
use mathlib.Core.Bool.{Bool, true, false, cond}
use mathlib.Core.List.{List, [], ◌∷◌}
use native.Mathlib.Omega.{arith}
use lib.ListN.{length}
use Rattle.crdt.proofs.Tests.{clash}
use Rattle.model.specs.Lists.{only, times}
use Rattle.model.specs.Schemas.{Relation}
use Rattle.model.specs.Records.{Rec, has, Rising}
use Rattle.model.specs.Shown.{live, hop, standing, beaten, kept_after, kept, grounded, settled, shown}
use Rattle.laws.proofs.Join.{rising_weaken, only_rising}
use Rattle.laws.proofs.Lists.{only_length}
use Rattle.wellformed.proofs.Follow.{has_cases, has_none}

-- the keys of rising records are not below their bound
pub rising_has : (b : ℕ) (s : List Rec) (k : ℕ) → Rising b s → has s k ≡ true → b ≤ k
rising_has b [] k r h = clash h (has_none k)
rising_has b (x ∷ xs) k r h = go (has_cases x xs k h) (λ q. rising_has (suc x.key) xs k r.1 q)
  where
    go : (k ≡ x.key) ⊎ (has xs k ≡ true) → (has xs k ≡ true → suc x.key ≤ k) → b ≤ k
    go (inl e) ih = omega (arith, r.0)
    go (inr q) ih = omega (arith, r.0, ih q)

-- in list order, and at most n
pub record Few (n : ℕ) (s : List Rec) : Type 0 where
  pub rising : Rising 0 s
  pub few : length s ≤ n

few_only : (p : Rec → Bool) (n : ℕ) (s : List Rec) → Few n s → Few n (only p s)
few_only p n s f = record { rising = only_rising p 0 s f.rising; few = omega (arith, only_length p s, f.few) }

module _ (σ : List Relation) (n : ℕ) where
  few_hops : (c : List Rec) → Few n c → (i : ℕ) (s : List Rec) → Few n s → Few n (times i (hop σ c) s)
  unfolding times hop
  few_hops c fc zero s f = f
  few_hops c fc (suc i) s f = few_hops c fc i (hop σ c s) (few_only _ n c fc)

  few_rounds : (i : ℕ) (s : List Rec) → Few n s → Few n (times i (grounded σ) s)
  unfolding times grounded
  few_rounds zero s f = f
  few_rounds (suc i) s f = few_rounds i (grounded σ s) (few_only _ n s f)

  after_rising : (b : ℕ) (k s : List Rec) → Rising b s → Rising b (kept_after σ k s)
  unfolding kept_after
  after_rising b k [] r = tt
  after_rising b k (x ∷ xs) r = go (beaten σ k x) (after_rising (suc x.key) k xs r.1) (after_rising (suc x.key) (x ∷ k) xs r.1)
    where
      go : (e : Bool) → Rising (suc x.key) (kept_after σ k xs) → Rising (suc x.key) (kept_after σ (x ∷ k) xs) → Rising b (cond e (kept_after σ k xs) (x ∷ kept_after σ (x ∷ k) xs))
      go true d i = rising_weaken b (suc x.key) (kept_after σ k xs) (omega (arith, r.0)) d
      go false d i = (r.0, i)

  after_length : (k s : List Rec) → length (kept_after σ k s) ≤ length s
  unfolding kept_after
  after_length k [] = omega arith
  after_length k (x ∷ xs) = go (beaten σ k x) (after_length k xs) (after_length (x ∷ k) xs)
    where
      go : (e : Bool) → length (kept_after σ k xs) ≤ length xs → length (kept_after σ (x ∷ k) xs) ≤ length xs → length (cond e (kept_after σ k xs) (x ∷ kept_after σ (x ∷ k) xs)) ≤ suc (length xs)
      go true d i = omega arith
      go false d i = omega arith

  few_kept : (s : List Rec) → Few n s → Few n (kept σ s)
  unfolding kept
  few_kept s f = record { rising = after_rising 0 [] s f.rising; few = omega (arith, after_length [] s, f.few) }

  pub shown_few : (c : List Rec) → Few n c → Few n (shown σ c)
  unfolding shown settled standing
  shown_few c f = few_rounds _ (kept σ (standing σ c)) (few_kept (standing σ c) (few_hops c f (length c) (only (live σ) c) (few_only (live σ) n c f)))
