-- Records of a checked table by position and in list order, and what the standing records among them are.
-- Assumes nothing.
use Prim.Native.Nat.{ℕ, zero, suc, ◌-◌, ◌≤◌, ◌<◌}
use mathlib.Core.Path.{◌≡◌, refl, sym, ◌∙◌, ap}
use mathlib.Core.Bool.{true, false, ◌&&◌, not}
use mathlib.Core.List.Memᴰ
use mathlib.Core.List.{List, [], ◌∷◌}
use mathlib.Core.Logic.{◌⊎◌, inl, inr}
use native.Mathlib.Omega.{arith}
use lib.Dec.{eqb}
use lib.ListN.{length, get_or}
use borrow.Author.Tests.{eqb-false, ne_eqb}
use Rattle.crdt.proofs.Tests.{test, and_left, and_right, not_true}
use Rattle.model.specs.Layout.{field_count, kind_at, used_at, relation_at, value_at}
use Rattle.model.specs.Schemas.{is_reference, is_abort, leads_to, schema_of}
use Rattle.model.specs.Records.{Rec, place, has, in_order, Distinct, position}
use Rattle.model.specs.Tables.{decode, record_of}
use Rattle.model.specs.Shown.{complete, live}
use Rattle.laws.proofs.Lists.{◌∈◌}
use Rattle.laws.proofs.Members.{one_record}
use Rattle.laws.proofs.Valid.{distinct_true}
use Rattle.laws.proofs.Drafts.{has_order}
use Rattle.laws.proofs.Shown.{has_in, in_has, standing_in, standing_live, standing_closed}
use Rattle.wellformed.proofs.Follow.{no_rec, record_at, position_within, position_none, position_some}
use Rattle.judged.specs.Checked.{Checked}
use Rattle.references.specs.Order.{key_at}
use Rattle.references.specs.Resolved.{absent, found, resolved_at}
use Rattle.references.proofs.Places.{Spot, spot, used_most, recs_length, recs_distinct, at_position, has_key, position_is}
use Rattle.list_standing.specs.Work.{standing_of}
use Rattle.list_standing.proofs.Fields.{target_in}

get_d_in : {A : Type 0} (l : List A) (n : ℕ) (d : A) → n < length l → get_or l n d ∈ l
get_d_in [] n d h = absurd (omega arith)
get_d_in (x ∷ xs) zero d h = Memᴰ.head refl
get_d_in (x ∷ xs) (suc n) d h = Memᴰ.tail (get_d_in xs n d (omega arith))

module _ (s t : List ℕ) (c : Checked s t) where
  abbrev recs : List Rec
  recs = (decode t).records

  abbrev ordered : List Rec
  ordered = in_order (decode t).records

  distinct_recs : Distinct recs
  distinct_recs = distinct_true recs (recs_distinct s t c)

  -- a record in order is that of a position with its key
  pub order_is : (x : Rec) (i : ℕ) → x ∈ ordered → 1 ≤ i → i ≤ used_at t → key_at t i ≡ x.key → record_of t i ≡ x
  order_is x i h a b e =
      let q = at_position s t c i a b in
      let m : record_of t i ∈ recs = rw q at (get_d_in recs (i - 1) no_rec (omega (arith, recs_length s t c))) in
      one_record recs (record_of t i) x distinct_recs m h e

  -- and has one
  pub order_spot : (x : Rec) → x ∈ ordered → Spot t x.key
  order_spot x h = spot s t c x.key (sym (has_order recs x.key) ∙ in_has ordered x x.key h refl)

  -- each record of the table is among those in order
  pub order_in : (i : ℕ) → 1 ≤ i → i ≤ used_at t → record_of t i ∈ ordered
  order_in i a b =
      let r = has_in ordered (key_at t i) (has_order recs (key_at t i) ∙ has_key s t c i a b) in
      rw (order_is r.0 i r.1 a b (sym r.2)) r.1

  -- a position that stands is a standing record
  pub standing_record : (i : ℕ) → 1 ≤ i → i ≤ used_at t → has (standing_of s t) (key_at t i) ≡ true → record_of t i ∈ standing_of s t
  standing_record i a b h =
      let r = has_in (standing_of s t) (key_at t i) h in
      rw (order_is r.0 i (standing_in (schema_of s) ordered r.0 r.1).0 a b (sym r.2)) r.1

  -- step 1 stands
  pub live_stands : (i : ℕ) → 1 ≤ i → i ≤ used_at t → live (schema_of s) (record_of t i) ≡ true → has (standing_of s t) (key_at t i) ≡ true
  live_stands i a b l = in_has (standing_of s t) (record_of t i) (key_at t i) (standing_live (schema_of s) ordered (record_of t i) (order_in i a b) l) refl

  -- a field that leads to position p
  pub record Led (i j p : ℕ) : Type 0 where
    pub reference : is_reference (kind_at s (relation_at t i) j) ≡ true
    pub nonempty : value_at t i j ≡ 0 → ⊥
    pub key : place (leads_to (kind_at s (relation_at t i) j)) (value_at t i j) ≡ key_at t p

  pub led : (i j p : ℕ) → 1 ≤ p → p ≤ used_at t → resolved_at s t i j ≡ p → Led i j p
  unfolding resolved_at
  led i j p a b e = go (test (is_reference (kind_at s (relation_at t i) j) && not (eqb (value_at t i j) 0)))
    where
      k : ℕ
      k = place (leads_to (kind_at s (relation_at t i) j)) (value_at t i j)

      keyed : (has recs k ≡ true) ⊎ (has recs k ≡ false) → (eqb (position k recs) 0 ≡ true) ⊎ (eqb (position k recs) 0 ≡ false) → found (position k recs) ≡ p → k ≡ key_at t p
      keyed h (inl z) f = let f' : absent ≡ p = rw z at f in absurd (omega (arith, used_most s t c))
      keyed (inr h) (inr z) f = absurd (eqb-false (position k recs) 0 z (position_none k recs h))
      keyed (inl h) (inr z) f =
          let f' : position k recs ≡ p = rw z at f in
          let q = position_some k recs h in
          sym q.keyed ∙ ap (λ (n : ℕ). (record_at recs n).key) f' ∙ ap (λ (x : Rec). x.key) (at_position s t c p a b)

      go : ((is_reference (kind_at s (relation_at t i) j) && not (eqb (value_at t i j) 0)) ≡ true)
          ⊎ ((is_reference (kind_at s (relation_at t i) j) && not (eqb (value_at t i j) 0)) ≡ false) → Led i j p
      go (inl r) =
          record {
            reference = and_left (is_reference (kind_at s (relation_at t i) j)) _ r;
            nonempty = eqb-false _ 0 (not_true _ (and_right (is_reference (kind_at s (relation_at t i) j)) _ r));
            key = keyed (test (has recs k)) (test (eqb (position k recs) 0)) (rw r at e);
          }
      go (inr r) = let z : 0 ≡ p = rw r at e in absurd (omega arith)

  -- and back
  pub leads_back : (i j p : ℕ) → 1 ≤ p → p ≤ used_at t → Led i j p → resolved_at s t i j ≡ p
  unfolding resolved_at
  leads_back i j p a b l =
      let n : p ≡ 0 → ⊥ = λ z. omega arith in
      rw (l.reference, ne_eqb (value_at t i j) 0 l.nonempty, l.key, position_is s t c p a b, ne_eqb p 0 n)

  -- a hop by abort from a standing record onto a complete one
  pub hop_stands : (i j p : ℕ) → 1 ≤ i → i ≤ used_at t → 1 ≤ j → j ≤ field_count s (relation_at t i) → 1 ≤ p → p ≤ used_at t
      → has (standing_of s t) (key_at t i) ≡ true → is_abort (kind_at s (relation_at t i) j) ≡ true → resolved_at s t i j ≡ p
      → complete (schema_of s) (record_of t p) ≡ true → has (standing_of s t) (key_at t p) ≡ true
  hop_stands i j p a b u v x y h k e q =
      let l = led i j p x y e in
      let m = Memᴰ.cast (sym l.key) (target_in s t c i a b is_abort j u v k l.nonempty) in
      in_has (standing_of s t) (record_of t p) (key_at t p)
      (standing_closed (schema_of s) ordered (record_of t i) (record_of t p) (standing_record i a b h) (order_in p x y) q m) refl

  -- what a field leads to is 0, none that is known, or a position
  pub resolved_within : (i j p : ℕ) → p ≡ resolved_at s t i j → (p ≡ 0 → ⊥) → (p ≡ absent → ⊥) → (1 ≤ p) × (p ≤ used_at t)
  unfolding resolved_at
  resolved_within i j p e z n = go (test (is_reference (kind_at s (relation_at t i) j) && not (eqb (value_at t i j) 0)))
    where
      k : ℕ
      k = place (leads_to (kind_at s (relation_at t i) j)) (value_at t i j)

      there : (eqb (position k recs) 0 ≡ true) ⊎ (eqb (position k recs) 0 ≡ false) → p ≡ found (position k recs) → (1 ≤ p) × (p ≤ used_at t)
      there (inl q) f = absurd (n (rw q at f))
      there (inr q) f = let f' : p ≡ position k recs = rw q at f in (omega arith, omega (arith, position_within k recs, recs_length s t c))

      go : ((is_reference (kind_at s (relation_at t i) j) && not (eqb (value_at t i j) 0)) ≡ true)
          ⊎ ((is_reference (kind_at s (relation_at t i) j) && not (eqb (value_at t i j) 0)) ≡ false) → (1 ≤ p) × (p ≤ used_at t)
      go (inl r) = there (test (eqb (position k recs) 0)) (rw r at e)
      go (inr r) = absurd (z (rw r at e))
