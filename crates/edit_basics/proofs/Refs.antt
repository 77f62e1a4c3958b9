-- The references of a record by the positions that they were resolved to.
-- Assumes nothing.
use Prim.Native.Nat.{ℕ, zero, suc, ◌+◌, ◌*◌, ◌-◌, ◌≤◌, ◌<◌}
use mathlib.Core.Path.{◌≡◌, refl, sym, ◌∙◌, ap}
use mathlib.Core.Logic.{◌⊎◌, inl, inr}
use mathlib.Core.Bool.{Bool, true, false, cond, ◌||◌, ◌&&◌, not}
use mathlib.Core.List.{List, [], ◌∷◌}
use native.Mathlib.Omega.{arith}
use lib.Dec.{eqb, ltb, leb}
use lib.ListN.{get_or}
use borrow.Author.Tests.{eqb-true, eq-eqb, ne_eqb}
use Rattle.crdt.proofs.Tests.{test, clash, and_left, and_right, and_both, or_cases, or_left, or_right, Tri, low, same, high, tri, same_test}
use Rattle.crdt.specs.Cells.{Reg, reg, Cell}
use Rattle.model.specs.Layout.{fields, most_records, field_count, kind_at, used_at, relation_at, value_at, stamp_at}
use Rattle.model.specs.Lists.{from, listed, some_of}
use Rattle.model.specs.Schemas.{is_reference, leads_to, schema_of}
use Rattle.model.specs.Records.{Rec, relation, place, has, position}
use Rattle.model.specs.Tables.{decode, record_of}
use Rattle.model.specs.Shown.{described, leads, targets, references}
use Rattle.wellformed.proofs.Values.{kinds_of_lem}
use Rattle.wellformed.proofs.Follow.{position_none}
use Rattle.judged.specs.Checked.{Checked}
use Rattle.references.specs.Order.{key_at}
use Rattle.references.specs.Resolved.{absent, found, resolved_at, Resolves}
use Rattle.references.proofs.Places.{Spot, spot, position_is, key_relation, relation_least, relation_known, fields_most, used_most}
use Rattle.edit_basics.specs.Targets.{kinds_of, Placed, meets}
use Rattle.edit_basics.proofs.Turns.{not_so, NoneTo}

-- references field by field
module _ (q : ℕ → Bool) (p : ℕ → Bool) (kind : ℕ → ℕ) (f : ℕ → Reg) where
  abbrev hit : ℕ → Bool
  hit j = (q (kind j) && not (eqb (f j).value 0)) && p (place (leads_to (kind j)) (f j).value)

  lead_step : (a n m : ℕ) → some_of p (leads q (from a (suc n) kind) (from a (suc m) f)) ≡ (hit a || some_of p (leads q (from (suc a) n kind) (from (suc a) m f)))
  unfolding leads from some_of
  lead_step a n m = go (q (kind a) && not (eqb (f a).value 0))
    where
      go : (b : Bool) → some_of p (cond b (place (leads_to (kind a)) (f a).value ∷ leads q (from (suc a) n kind) (from (suc a) m f)) (leads q (from (suc a) n kind) (from (suc a) m f)))
          ≡ ((b && p (place (leads_to (kind a)) (f a).value)) || some_of p (leads q (from (suc a) n kind) (from (suc a) m f)))
      go true = refl
      go false = refl

  lead_none : (a m : ℕ) → some_of p (leads q (from a zero kind) (from a m f)) ≡ false
  unfolding leads from some_of
  lead_none a m = refl

  pub leads_hit : (a n m : ℕ) → n ≤ m → some_of p (leads q (from a n kind) (from a m f)) ≡ true → (j : ℕ) × (a ≤ j) × (j < a + n) × (hit j ≡ true)
  leads_hit a zero m l h = clash h (lead_none a m)
  leads_hit a (suc n) zero l h = absurd (omega arith)
  leads_hit a (suc n) (suc m) l h = go (or_cases _ _ (sym (lead_step a n m) ∙ h)) (leads_hit (suc a) n m (omega arith))
    where
      go : (hit a ≡ true) ⊎ (some_of p (leads q (from (suc a) n kind) (from (suc a) m f)) ≡ true)
          → (some_of p (leads q (from (suc a) n kind) (from (suc a) m f)) ≡ true → (j : ℕ) × (suc a ≤ j) × (j < suc a + n) × (hit j ≡ true))
          → (j : ℕ) × (a ≤ j) × (j < a + suc n) × (hit j ≡ true)
      go (inl e) ih = (a, omega arith, omega arith, e)
      go (inr e) ih = let r = ih e in (r.0, omega (arith, r.1), omega (arith, r.2), r.3)

  pub hit_leads : (a n m : ℕ) → n ≤ m → (j : ℕ) → a ≤ j → j < a + n → hit j ≡ true → some_of p (leads q (from a n kind) (from a m f)) ≡ true
  hit_leads a zero m l j x y h = absurd (omega arith)
  hit_leads a (suc n) zero l j x y h = absurd (omega arith)
  hit_leads a (suc n) (suc m) l j x y h = lead_step a n m ∙ go (tri a j) (λ b. hit_leads (suc a) n m (omega arith) j b (omega arith) h)
    where
      go : Tri a j → (suc a ≤ j → some_of p (leads q (from (suc a) n kind) (from (suc a) m f)) ≡ true) → (hit a || some_of p (leads q (from (suc a) n kind) (from (suc a) m f))) ≡ true
      go (low b) ih = or_right (hit a) _ (ih b)
      go (same e) ih = or_left (hit a) _ (ap hit e ∙ h)
      go (high b) ih = absurd (omega arith)

module _ (s t : List ℕ) (c : Checked s t) where
  -- what a field was resolved to
  pub resolved_here : (i j p : ℕ) → 1 ≤ p → p ≤ used_at t → resolved_at s t i j ≡ p
      → ((is_reference (kind_at s (relation_at t i) j) && not (eqb (value_at t i j) 0)) ≡ true) × (key_at t p ≡ place (leads_to (kind_at s (relation_at t i) j)) (value_at t i j))
  unfolding resolved_at
  resolved_here i j p a b e = go (test (is_reference (kind_at s (relation_at t i) j) && not (eqb (value_at t i j) 0)))
    where
      k : ℕ
      k = place (leads_to (kind_at s (relation_at t i) j)) (value_at t i j)

      there : found (position k (decode t).records) ≡ p → key_at t p ≡ k
      there h = at (test (has (decode t).records k))
        where
          at : (has (decode t).records k ≡ true) ⊎ (has (decode t).records k ≡ false) → key_at t p ≡ k
          at (inl y) =
              let o = spot s t c k y in
              let x : position k (decode t).records ≡ o.at = ap (λ (z : ℕ). position z (decode t).records) (sym o.keyed) ∙ position_is s t c o.at o.least o.most in
              let n : o.at ≡ 0 → ⊥ = λ z. omega (arith, o.least) in
              let w : o.at ≡ p = rw (x, ne_eqb o.at 0 n) at h in
              rw w at o.keyed
          at (inr y) =
              let z : absent ≡ p = rw (position_none k (decode t).records y) at h in
              absurd (omega (arith, z, used_most s t c))

      go : ((is_reference (kind_at s (relation_at t i) j) && not (eqb (value_at t i j) 0)) ≡ true) ⊎ ((is_reference (kind_at s (relation_at t i) j) && not (eqb (value_at t i j) 0)) ≡ false)
          → ((is_reference (kind_at s (relation_at t i) j) && not (eqb (value_at t i j) 0)) ≡ true) × (key_at t p ≡ k)
      go (inl h) = (h, there (rw h at e))
      go (inr h) = let z : 0 ≡ p = rw h at e in absurd (omega arith)

  pub here_resolved : (i j p : ℕ) → 1 ≤ p → p ≤ used_at t → (is_reference (kind_at s (relation_at t i) j) && not (eqb (value_at t i j) 0)) ≡ true
      → key_at t p ≡ place (leads_to (kind_at s (relation_at t i) j)) (value_at t i j) → resolved_at s t i j ≡ p
  unfolding resolved_at
  here_resolved i j p a b h e =
      let x : position (place (leads_to (kind_at s (relation_at t i) j)) (value_at t i j)) (decode t).records ≡ p = ap (λ (z : ℕ). position z (decode t).records) (sym e) ∙ position_is s t c p a b in
      let n : p ≡ 0 → ⊥ = λ z. omega arith in
      rw (h, x, ne_eqb p 0 n)

module _ (q : ℕ → Bool) (qr : (k : ℕ) → q k ≡ true → is_reference k ≡ true) (s t a : List ℕ) (i p : ℕ) (oi : Placed s t i) (op : Placed s t p) (rs : Resolves s t a) where
  kinds : (described (schema_of s) (record_of t i)).kinds ≡ kinds_of s (relation_at t i)
  kinds =
      let c = oi.checked in
      let e = key_relation s t c i oi.least oi.most in
      rw e at (kinds_of_lem s (record_of t i) (omega (arith, e, relation_least s t c i oi.least oi.most)) (omega (arith, e, relation_known s t c i oi.least oi.most)))

  abbrev field : ℕ → Reg
  field j = reg (value_at t i j) (stamp_at t i j)

  abbrev F : ℕ
  F = field_count s (relation_at t i)

  regs_are : (record_of t i).cell.regs ≡ from 1 fields field
  unfolding record_of listed
  regs_are = refl

  refers_is : references (schema_of s) q (key_at t p) (record_of t i) ≡ some_of (λ k. eqb (key_at t p) k) (leads q (from 1 F (kind_at s (relation_at t i))) (from 1 fields field))
  unfolding references targets listed
  refers_is = rw kinds (ap (λ (x : List Reg). some_of (λ k. eqb (key_at t p) k) (leads q (from 1 F (kind_at s (relation_at t i))) x)) regs_are)

  pub refers_found : (j : ℕ) → 1 ≤ j → j ≤ F → meets q s t a i p j ≡ true → references (schema_of s) q (key_at t p) (record_of t i) ≡ true
  refers_found j x y h =
      let f = fields_most s t oi.checked i oi.least oi.most in
      let k = and_left (q (kind_at s (relation_at t i) j)) _ h in
      let e = sym (rs.at i j oi.least oi.most x (omega (arith, f))) ∙ eqb-true _ _ (and_right (q (kind_at s (relation_at t i) j)) _ h) in
      let r = resolved_here s t oi.checked i j p op.least op.most e in
      refers_is ∙ hit_leads q _ (kind_at s (relation_at t i)) field 1 F fields f j x (omega arith)
      (and_both _ _ (and_both _ _ k (and_right (is_reference (kind_at s (relation_at t i) j)) _ r.0)) (eq-eqb _ _ r.1))

  pub refers_none : NoneTo (meets q s t a i p) F → references (schema_of s) q (key_at t p) (record_of t i) ≡ false
  refers_none h = not_so _ (λ e. no (leads_hit q _ (kind_at s (relation_at t i)) field 1 F fields f (sym refers_is ∙ e)))
    where
      f : F ≤ fields
      f = fields_most s t oi.checked i oi.least oi.most

      no : (j : ℕ) × (1 ≤ j) × (j < 1 + F) × (hit q (λ k. eqb (key_at t p) k) (kind_at s (relation_at t i)) field j ≡ true) → ⊥
      no r =
          let j = r.0 in
          let g = and_left (q (kind_at s (relation_at t i) j) && not (eqb (value_at t i j) 0)) _ r.3 in
          let k = and_left (q (kind_at s (relation_at t i) j)) _ g in
          let v = and_right (q (kind_at s (relation_at t i) j)) _ g in
          let e = here_resolved s t oi.checked i j p op.least op.most (and_both _ _ (qr _ k) v) (eqb-true _ _ (and_right (q (kind_at s (relation_at t i) j) && not (eqb (value_at t i j) 0)) _ r.3)) in
          let m : j ≤ F = omega (arith, r.2) in
          clash (and_both _ _ k (eq-eqb _ _ (rs.at i j oi.least oi.most r.1 (omega (arith, f)) ∙ e))) (h j r.1 m)

pub kind_read : (q : ℕ → Bool) (s t : List ℕ) (i j r k : ℕ) (b : Bool) → r ≡ relation_at t i → k ≡ kind_at s r j → (q k && b) ≡ (q (kind_at s (relation_at t i) j) && b)
kind_read q s t i j r k b er ek = ap (λ (n : ℕ). q n && b) (ek ∙ ap (λ (z : ℕ). kind_at s z j) er)
