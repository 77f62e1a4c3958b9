-- Records marked one by one by what a test told of each.
-- Assumes nothing.
use Prim.Native.Nat.{ℕ, ◌+◌, ◌-◌, ◌≤◌, ◌<◌}
use mathlib.Core.Path.{◌≡◌, ◌∙◌, ap}
use mathlib.Core.Bool.{Bool, cond}
use mathlib.Core.List.{List}
use native.Mathlib.Omega.{arith}
use lib.Dec.{eqb}
use lib.ListN.{length, get_or, set}
use Rattle.std.proofs.Common.{get_or-set_same, get_or-set_other}
use Rattle.crdt.proofs.Tests.{Tri, low, same, high, tri}
use Rattle.model.specs.Layout.{used_at}
use Rattle.model.specs.Lists.{some_of}
use Rattle.model.specs.Tables.{record_of}
use Rattle.edit_delta.specs.Picked.{Picked}

module _ (Tells : ℕ → Bool → Type 0) where
  abbrev pub Marked : List ℕ → ℕ → Type 0
  Marked m n = (i : ℕ) → 1 ≤ i → i ≤ n → (b : Bool) × Tells i b × (get_or m (i - 1) 0 ≡ cond b 1 0)

  pub one_more : (m : List ℕ) (n : ℕ) (b : Bool) (x : ℕ) → n < length m → Marked m n → Tells (n + 1) b → x ≡ cond b 1 0 → Marked (set m n x) (n + 1)
  one_more m n b x l h p e i a c = go (tri i (n + 1))
    where
      go : Tri i (n + 1) → (d : Bool) × Tells i d × (get_or (set m n x) (i - 1) 0 ≡ cond d 1 0)
      go (low q) =
          let k = h i a (omega arith) in
          (k.0, k.1, get_or-set_other m n (i - 1) x 0 (λ z. omega arith) ∙ k.2)
      go (same q) = let f : i - 1 ≡ n = omega arith in rw (f, q) (b, p, get_or-set_same m n x 0 l ∙ e)
      go (high q) = absurd (omega arith)

  pub all_picked : (t ks m : List ℕ) → Marked m (used_at t) → ((i : ℕ) (b : Bool) → Tells i b → b ≡ some_of (λ k. eqb (record_of t i).key k) ks) → Picked t ks m
  all_picked t ks m h tells = record {
    at = λ i a l. let k = h i a l in k.2 ∙ ap {A = Bool} {B = ℕ} (λ b. cond b 1 0) (tells i k.0 k.1);
  }
