-- A shown record whose flag is odd stands because another standing record references it by abort.
-- Assumes nothing.
use Prim.Native.Nat.{ℕ}
use mathlib.Core.Path.{◌≡◌, refl, sym, ◌∙◌}
use mathlib.Core.Logic.{◌⊎◌, inl, inr}
use mathlib.Core.Bool.{true, false, ◌&&◌, not}
use mathlib.Core.List.{List}
use mathlib.Core.Option.{some}
use lib.Dec.{eqb}
use borrow.Author.Tests.{eqb-true, eqb-false, eq-eqb, ne_eqb}
use Rattle.crdt.specs.Flags.{is_even}
use Rattle.crdt.proofs.Tests.{test, clash, and_both, and_right, not_false}
use Rattle.model.specs.Lists.{some_of}
use Rattle.model.specs.Schemas.{Relation, is_abort}
use Rattle.model.specs.Records.{Rec, has, at, Distinct}
use Rattle.model.specs.Shown.{complete, targets, references, live, standing, kept, shown}
use Rattle.model.specs.Edits.{flag_in, flag_of}
use Rattle.laws.proofs.Lists.{◌∈◌, in_some}
use Rattle.laws.proofs.Shown.{has_in, settled_part, kept_in, standing_in, standing_live, standing_closed, standing_least}
use Rattle.laws.proofs.Members.{at_key, one_key}

module _ (σ : List Relation) (c : List Rec) (d : Distinct c) where
  -- a standing record other than that of key k references it by abort
  Guarded : ℕ → Type 0
  Guarded k = (z : Rec) × (z ∈ standing σ c) × (z.key ≡ k → ⊥) × (k ∈ targets σ is_abort z)

  -- the record of key k stands, for one of the two reasons
  Stands : ℕ → Type 0
  Stands k = (y : Rec) × (y ∈ standing σ c) × (y.key ≡ k) × ((live σ y ≡ true) ⊎ Guarded k)

  starts : (x : Rec) → x ∈ c → live σ x ≡ true → Stands x.key
  unfolding Stands
  starts x m h = (x, standing_live σ c x m h, refl, inl h)

  hops : (y x : Rec) → y ∈ c → Stands y.key → x ∈ c → complete σ x ≡ true → x.key ∈ targets σ is_abort y → Stands x.key
  unfolding Stands Guarded
  hops y x my p mx e t =
      let same : p.0 ≡ y = one_key c d p.0 y (standing_in σ c p.0 p.1).0 my p.2 in
      let sy : y ∈ standing σ c = rw same at p.1 in
      go sy (test (eqb y.key x.key))
    where
      go : y ∈ standing σ c → (eqb y.key x.key ≡ true) ⊎ (eqb y.key x.key ≡ false) → Stands x.key
      go sy (inl q) = rw (eqb-true y.key x.key q) at p
      go sy (inr q) = (x, standing_closed σ c y x sy mx e t, refl, inr (y, sy, eqb-false y.key x.key q, t))

  stands : (x : Rec) → x ∈ standing σ c → Stands x.key
  stands x m = standing_least σ c Stands starts hops x m

  shown_stands : (x : Rec) → x ∈ shown σ c → x ∈ standing σ c
  unfolding shown
  shown_stands x h = kept_in σ (standing σ c) x (settled_part σ (kept σ (standing σ c)) x h)

  -- so where no other standing record references it by abort, its flag is even
  pub shown_even : (k : ℕ) → has (shown σ c) k ≡ true → some_of (λ (y : Rec). not (eqb y.key k) && references σ is_abort k y) (standing σ c) ≡ false → is_even (flag_of c k) ≡ true
  unfolding Stands Guarded flag_of references live
  shown_even k h n = let r = has_in (shown σ c) k h in go (rw r.2 at (stands r.0 (shown_stands r.0 r.1)))
    where
      go : (y : Rec) × (y ∈ standing σ c) × (y.key ≡ k) × ((live σ y ≡ true) ⊎ Guarded k) → is_even (flag_in (at k c)) ≡ true
      go p = why p.3
        where
          why : (live σ p.0 ≡ true) ⊎ Guarded k → is_even (flag_in (at k c)) ≡ true
          why (inl q) = rw (at_key c p.0 k d (standing_in σ c p.0 p.1).0 p.2) (and_right (complete σ p.0) _ q)
          why (inr q) =
              clash (in_some _ q.0 (standing σ c) q.1 (and_both _ _ (not_false _ (ne_eqb q.0.key k q.2)) (in_some _ k _ q.3 (eq-eqb k k refl)))) n
