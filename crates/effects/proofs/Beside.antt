-- "a complete even record other than the updated one references it": over the records in list order, and over the positions of the words.
-- Assumes nothing.
use Prim.Native.Nat.{ℕ, zero, suc, ◌+◌, ◌≤◌, ◌<◌}
use mathlib.Core.Path.{◌≡◌, refl, sym, ◌∙◌, ap}
use mathlib.Core.Logic.{◌⊎◌, inl, inr}
use mathlib.Core.Bool.{Bool, true, false, ◌&&◌, not}
use mathlib.Core.List.Memᴰ
use mathlib.Core.List.{List}
use mathlib.Core.Option.{some}
use native.Mathlib.Omega.{arith}
use lib.Dec.{eqb}
use borrow.Author.Tests.{eqb-true, eqb-false, eq-eqb, ne_eqb}
use Rattle.crdt.proofs.Tests.{test}
use Rattle.model.specs.Layout.{used_at}
use Rattle.model.specs.Lists.{from, listed}
use Rattle.model.specs.Schemas.{is_reference, schema_of}
use Rattle.model.specs.Records.{Rec, has, at, in_order, Distinct}
use Rattle.model.specs.Tables.{decode, record_of}
use Rattle.model.specs.Shown.{live, references}
use Rattle.model.specs.Edits.{supported}
use Rattle.laws.proofs.Lists.{◌∈◌, some_in, in_some}
use Rattle.laws.proofs.Shown.{has_in, in_has}
use Rattle.laws.proofs.Order.{is_some, has_at, at_order, order_rising}
use Rattle.laws.proofs.Members.{at_member, at_key, rising_distinct}
use Rattle.wellformed.proofs.Ranges.{any_at}
use Rattle.wellformed.proofs.ListRanges.{any_some}
use Rattle.convergence.proofs.Tables.{Good, good_valid}
use Rattle.effects.specs.Effects.{key_at, held_beside}
use Rattle.effects.proofs.Words.{record_is}
use Rattle.effects.proofs.Changes.{member}
use Rattle.effects.proofs.Indices.{other_key}

-- records of distinct keys that hold the same are the same
pub same_members : (a b : List Rec) → Distinct a → Distinct b → ((k : ℕ) → at k a ≡ at k b) → (y : Rec) → y ∈ a → y ∈ b
same_members a b da db h y m =
    let q : has b y.key ≡ true = has_at b y.key ∙ ap is_some (sym (h y.key)) ∙ sym (has_at a y.key) ∙ in_has a y y.key m refl in
    let r = has_in b y.key q in
    let p : some y.cell ≡ some r.0.cell = sym (at_member a y da m) ∙ h y.key ∙ at_key b r.0 y.key db r.1 r.2 in
    let c : y.cell ≡ r.0.cell = cc in
    let e : y ≡ r.0 = λ i. record { key = sym r.2 i; cell = c i } in
    rw e r.1

-- a member of a range is that of an index
from_in : (i n : ℕ) (f : ℕ → Rec) (y : Rec) → y ∈ from i n f → (m : ℕ) × (i ≤ m) × (m < i + n) × (y ≡ f m)
unfolding from
from_in i zero f y m = absurd (Memᴰ.not-nil m)
from_in i (suc n) f y (Memᴰ.head e) = (i, omega arith, omega arith, e)
from_in i (suc n) f y (Memᴰ.tail m) = let r = from_in (suc i) n f y m in (r.0, omega (arith, r.1), omega (arith, r.2), r.3)

both_ways : (a b : Bool) → (a ≡ true → b ≡ true) → (b ≡ true → a ≡ true) → a ≡ b
both_ways true b f h = sym (f refl)
both_ways false true f h = h refl
both_ways false false f h = refl

module _ (s t : List ℕ) (g : Good s t) (i n : ℕ) (a : 1 ≤ i) (b : i ≤ used_at t) where
  ordered : Distinct (in_order (decode t).records)
  ordered = rising_distinct 0 (in_order (decode t).records) (order_rising (decode t).records)

  position : (y : Rec) → y ∈ (decode t).records → (m : ℕ) × (1 ≤ m) × (m ≤ used_at t) × (y ≡ record_of t m)
  unfolding decode listed
  position y m = let r = from_in 1 (used_at t) (record_of t) y m in (r.0, r.1, omega (arith, r.2), r.3)

  by_position : ℕ → Bool
  by_position m = not (eqb m i) && live (schema_of s) (record_of t m) && references (schema_of s) is_reference (key_at t n) (record_of t m)

  by_key : Rec → Bool
  by_key y = not (eqb y.key (key_at t i)) && live (schema_of s) y && references (schema_of s) is_reference (key_at t n) y

  -- the same test of record m
  same_test : (m : ℕ) → 1 ≤ m → m ≤ used_at t → by_key (record_of t m) ≡ by_position m
  unfolding by_key by_position record_of
  same_test m c d = go (test (eqb m i))
    where
      L : Bool
      L = live (schema_of s) (record_of t m)

      R : Bool
      R = references (schema_of s) is_reference (key_at t n) (record_of t m)

      go : (eqb m i ≡ true) ⊎ (eqb m i ≡ false) → (not (eqb (key_at t m) (key_at t i)) && L && R) ≡ (not (eqb m i) && L && R)
      go (inl p) = rw (p, eq-eqb (key_at t m) (key_at t i) (ap (key_at t) (eqb-true m i p)))
      go (inr p) = rw (p, ne_eqb (key_at t m) (key_at t i) (other_key s t g m i c d a b (eqb-false m i p)))

  pub beside : supported (schema_of s) (in_order (decode t).records) (key_at t i) (key_at t n) ≡ held_beside s t i n
  unfolding supported held_beside by_key by_position
  beside =
      both_ways _ _
      (λ h.
      let r = some_in by_key (in_order (decode t).records) h in
      let y = same_members (in_order (decode t).records) (decode t).records ordered (good_valid s t g).distinct (λ k. at_order k (decode t).records) r.0 r.1 in
      let m = position r.0 y in
      any_at (used_at t) by_position m.0 m.1 m.2 (sym (same_test m.0 m.1 m.2) ∙ rw m.3 at r.2))
      (λ h.
      let m = any_some (used_at t) by_position h in
      let y : record_of t m.0 ∈ (decode t).records = rw (record_is t m.0 m.1 m.2) at (member s t g m.0 m.1 m.2) in
      let z = same_members (decode t).records (in_order (decode t).records) (good_valid s t g).distinct ordered (λ k. sym (at_order k (decode t).records)) (record_of t m.0) y in
      in_some by_key (record_of t m.0) (in_order (decode t).records) z (same_test m.0 m.1 m.2 ∙ m.3))
