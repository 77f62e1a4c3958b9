-- Section 3: the shown records are what the paper's four steps compute, over complete records.
-- Assumes nothing.
use Prim.Native.Nat.{ℕ, ◌<◌}
use mathlib.Core.Path.{◌≡◌, refl, sym, ◌∙◌, ap, subst}
use mathlib.Core.Logic.{◌⊎◌, inl, inr, ◌↔◌}
use mathlib.Core.Bool.{Bool, true, false, ◌&&◌}
use mathlib.Core.List.{List}
use mathlib.Core.Option.{Option, some}
use lib.Dec.{eqb}
use Rattle.crdt.specs.Flags.{is_even}
use Rattle.crdt.specs.Cells.{Cell}
use Rattle.crdt.proofs.Tests.{test, clash, and_left, and_right, and_both}
use Rattle.model.specs.Schemas.{Relation, is_reference, is_abort}
use Rattle.model.specs.Records.{Rec, has, at, Rising, Distinct}
use Rattle.model.specs.Shown.{complete, targets, conflict, live, standing, kept, settled, shown}
use Rattle.laws.proofs.Lists.{◌∈◌}
use Rattle.laws.proofs.Shown.{has_in, in_has, settled_closed, settled_part, settled_largest, standing_in, standing_live, standing_closed, standing_least, standing_rising, kept_in, kept_exactly, kept_only}
use Rattle.laws.proofs.Members.{rising_distinct, one_key}
use Rattle.synql.specs.Synql as paper

-- The paper's tuples are the complete records c, in list order; departure: "over complete records".
module _ (σ : List Relation) (c : List Rec) (rising : Rising 0 c) where
  abbrev pub In : Rec → Type 0
  In x = (x ∈ c) × (complete σ x ≡ true)

  abbrev pub Marked : Rec → Type 0
  Marked x = is_even x.cell.flag ≡ false

  abbrev pub key : Rec → ℕ
  key x = x.key

  abbrev pub Aborts : Rec → ℕ → Type 0
  Aborts x k = k ∈ targets σ is_abort x

  abbrev pub Refers : Rec → ℕ → Type 0
  Refers x k = k ∈ targets σ is_reference x

  -- "on either key": departure, the paper says "at least one conflicting unique key"
  abbrev pub Conflicts : Rec → Rec → Type 0
  Conflicts y x = conflict σ y x ≡ true

  abbrev pub Older : Rec → Rec → Type 0
  Older y x = y.key < x.key

  abbrev pub Stands : Rec → Type 0
  Stands x = paper.Stands In Marked key Aborts Refers Conflicts Older x

  abbrev pub Step3 : (Rec → Type 0) → Type 0
  Step3 K = paper.Step3 In Marked key Aborts Refers Conflicts Older K

  d : Distinct c
  d = rising_distinct 0 c rising

  -- steps 1 and 2
  pub standing_stands : (x : Rec) → x ∈ standing σ c → Stands x
  standing_stands x m =
      let p = standing_least σ c P (λ y k l. (y, k, refl, first y k l)) (λ y z ky py kz e t. (z, kz, refl, next y z py ky kz e t)) x m in
      let s = standing_in σ c x m in
      subst (λ (z : Rec). Stands z) (one_key c d p.0 x p.1 s.0 p.2) p.3
    where
      P : ℕ → Type 0
      P k = (y : Rec) × (y ∈ c) × (y.key ≡ k) × Stands y

      first : (y : Rec) → y ∈ c → live σ y ≡ true → Stands y
      first y k l = unfold live in paper.unmarked y (k, and_left (complete σ y) _ l) (λ q. clash (and_right (complete σ y) _ l) q)

      next : (y z : Rec) → P y.key → y ∈ c → z ∈ c → complete σ z ≡ true → z.key ∈ targets σ is_abort y → Stands z
      next y z p ky kz e t = paper.hop y z (subst (λ (u : Rec). Stands u) (one_key c d p.0 y p.1 ky p.2) p.3) t (kz, e)

  pub stands_standing : {x : Rec} → Stands x → x ∈ standing σ c
  unfolding live
  stands_standing (paper.unmarked x i n) = standing_live σ c x i.0 (and_both _ _ i.1 (even (test (is_even x.cell.flag))))
    where
      even : (is_even x.cell.flag ≡ true) ⊎ (is_even x.cell.flag ≡ false) → is_even x.cell.flag ≡ true
      even (inl p) = p
      even (inr p) = absurd (n p)
  stands_standing (paper.hop y x s a i) = standing_closed σ c y x (stands_standing s) i.0 i.1 a

  -- step 3: what is kept is a choice of the paper's step 3, and there is no other
  rises : Rising 0 (standing σ c)
  rises = standing_rising σ c rising

  free : (y x : Rec) → (Conflicts y x → ⊥) → conflict σ y x ≡ false
  free y x n = go (test (conflict σ y x))
    where
      go : (conflict σ y x ≡ true) ⊎ (conflict σ y x ≡ false) → conflict σ y x ≡ false
      go (inl e) = absurd (n e)
      go (inr e) = e

  pub kept_step3 : Step3 (λ (x : Rec). x ∈ kept σ (standing σ c))
  kept_step3 x = (
    λ m. let s = kept_in σ (standing σ c) x m in (standing_stands x s, λ y n q o. clash q ((kept_exactly σ (standing σ c) rises x s).0 m y n o)),
    λ p. (kept_exactly σ (standing σ c) rises x (stands_standing p.0)).1 (λ y n o. free y x (λ q. p.1 y n q o)),
  )

  kept_member : (x : Rec) → x ∈ kept σ (standing σ c) → x ∈ c
  kept_member x m = (standing_in σ c x (kept_in σ (standing σ c) x m)).0

  module _ (K : Rec → Type 0) (step : Step3 K) where
    exact : (x : Rec) → x ∈ standing σ c → K x ↔ ((y : Rec) → y ∈ standing σ c → K y → y.key < x.key → conflict σ y x ≡ false)
    exact x m = (
      λ h y n k o. free y x (λ q. ((step x).0 h).1 y k q o),
      λ f. (step x).1 (standing_stands x m, λ y k q o. clash q (f y (stands_standing ((step y).0 k).0) k o)),
    )

    pub step3_kept : (x : Rec) → K x ↔ (x ∈ kept σ (standing σ c))
    step3_kept x = (
      λ h. (kept_only σ (standing σ c) rises K exact x (stands_standing ((step x).0 h).0)).0 h,
      λ h. (kept_only σ (standing σ c) rises K exact x (kept_in σ (standing σ c) x h)).1 h,
    )

    abbrev pub Lost : Rec → Type 0
    Lost x = paper.Lost In Marked key Aborts Refers Conflicts Older K x

    abbrev pub Computed : Rec → Type 0
    Computed x = paper.Computed In Marked key Aborts Refers Conflicts Older K x

    -- step 4: none that is shown references, transitively, one that is not present
    never_lost : {x : Rec} → Lost x → x ∈ settled σ (kept σ (standing σ c)) → ⊥
    never_lost (paper.missing x k r n) m =
        let y = settled_closed σ (kept σ (standing σ c)) x m k r in
        n y.0 ((step3_kept y.0).1 (settled_part σ (kept σ (standing σ c)) y.0 y.1)) y.2
    never_lost (paper.through x y r k l) m =
        let z = settled_closed σ (kept σ (standing σ c)) x m y.key r in
        let e = one_key c d z.0 y (kept_member z.0 (settled_part σ (kept σ (standing σ c)) z.0 z.1)) (kept_member y ((step3_kept y).0 k)) z.2 in
        never_lost l (subst (λ (u : Rec). u ∈ settled σ (kept σ (standing σ c))) e z.1)

    -- the shown list is the four steps over complete records
    pub shown_computed : (x : Rec) → x ∈ shown σ c → Computed x
    unfolding shown
    shown_computed x m = ((step3_kept x).1 (settled_part σ (kept σ (standing σ c)) x m), λ l. never_lost l m)

    pub computed_shown : (x : Rec) → Computed x → x ∈ shown σ c
    unfolding shown
    computed_shown x p = settled_largest σ Computed closed (kept σ (standing σ c)) (λ y q. (step3_kept y).0 q.0) x p
      where
        closed : (y : Rec) → Computed y → (k : ℕ) → k ∈ targets σ is_reference y → (z : Rec) × Computed z × (z.key ≡ k)
        closed y q k r = go (test (has (kept σ (standing σ c)) k))
          where
            go : (has (kept σ (standing σ c)) k ≡ true) ⊎ (has (kept σ (standing σ c)) k ≡ false) → (z : Rec) × Computed z × (z.key ≡ k)
            go (inl h) =
                let z = has_in (kept σ (standing σ c)) k h in
                let kz = (step3_kept z.0).1 z.1 in
                let r' : Refers y z.0.key = rw (← z.2) at r in
                (z.0, (kz, λ l. q.1 (paper.through y z.0 r' kz l)), z.2)
            go (inr h) = absurd (q.1 (paper.missing y k r (λ z kz e. clash (in_has (kept σ (standing σ c)) z k ((step3_kept z).0 kz) e) h)))
