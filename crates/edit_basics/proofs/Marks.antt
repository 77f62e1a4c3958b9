-- Positions and marks: what a mark says of the record of a key, where a lent value leads, and scans of a table's records.
-- Assumes nothing.
use Prim.Native.Nat.{ℕ, ◌+◌, ◌*◌, ◌-◌, ◌/◌, ◌%◌, ◌≤◌, ◌<◌}
use mathlib.Core.Path.{◌≡◌, refl, sym, ◌∙◌, ap}
use mathlib.Core.Logic.{◌⊎◌, inl, inr}
use mathlib.Core.Bool.{Bool, true, false, cond, ◌||◌, ◌&&◌, not}
use mathlib.Core.List.{List, [], ◌∷◌}
use native.Mathlib.Omega.{arith}
use lib.Dec.{eqb, ltb, leb}
use lib.ListN.{get_or}
use borrow.Author.Tests.{eqb-true, eq-eqb, ne_eqb, leb-true, le-leb, lt-leb}
use Rattle.crdt.proofs.Tests.{test, clash, and_left, and_right, and_both, or_cases, not_true, same_test}
use Rattle.crdt.specs.Labels.{is_label}
use Rattle.model.specs.Layout.{used_at, relation_at, label_at}
use Rattle.model.specs.Lists.{some_of, all_of}
use Rattle.model.specs.Schemas.{is_reference, leads_to, abort_kinds, schema_of}
use Rattle.model.specs.Records.{Rec, label_span, place, has, position}
use Rattle.model.specs.Tables.{decode, record_of}
use Rattle.model.specs.Edits.{value_rule, leading}
use Rattle.laws.proofs.Lists.{◌∈◌, some_in, in_some}
use Rattle.laws.proofs.Shown.{has_in, in_has}
use Rattle.laws.proofs.Drafts.{has_order}
use Rattle.wellformed.proofs.Facts.{label_span_lem}
use Rattle.wellformed.proofs.Follow.{position_none}
use Rattle.judged.specs.Checked.{Checked}
use Rattle.references.specs.Order.{key_at}
use Rattle.references.specs.Resolved.{Marked}
use Rattle.references.proofs.Places.{Spot, spot, position_is, key_is, label_bounds}
use Rattle.marks.specs.Marks.{is_marked}
use Rattle.marks.proofs.Marks.{marked_true, true_marked, marked_none}
use Rattle.marks.proofs.Members.{record_in, in_record, member_at as held_in}
use Rattle.edit_basics.specs.Targets.{held, Placed}
use Rattle.edit_basics.proofs.Turns.{not_so, NoneTo}

abbrev pub Part : List ℕ → List Rec → Type 0
Part t l = (x : Rec) → x ∈ l → x ∈ held t

-- a mark of 1 and of 0
mark_one : (b : Bool) → ◌≡◌ {A = ℕ} (cond b 1 0) 1 → b ≡ true
mark_one true e = refl
mark_one false e = let z : ◌≡◌ {A = ℕ} 0 1 = e in absurd (omega arith)

module _ (s t : List ℕ) (c : Checked s t) (l : List Rec) (part : Part t l) (m : List ℕ) (mk : Marked t l m) where
  -- a record's mark
  pub mark_has : (i : ℕ) → 1 ≤ i → i ≤ used_at t → is_marked m i ≡ has l (key_at t i)
  mark_has i a b =
      same_test _ _ (λ h. mark_one _ (sym (mk.at i a b) ∙ (marked_true m i h).1))
      (λ h. true_marked m i a (mk.at i a b ∙ ap (λ (x : Bool). cond x 1 0) h))

  -- the mark at the position of a key
  pub mark_position : (k : ℕ) → is_marked m (position k (decode t).records) ≡ has l k
  mark_position k = go (test (has (decode t).records k))
    where
      go : (has (decode t).records k ≡ true) ⊎ (has (decode t).records k ≡ false) → is_marked m (position k (decode t).records) ≡ has l k
      go (inl h) =
          let p = spot s t c k h in
          let e : position k (decode t).records ≡ p.at = ap (λ (x : ℕ). position x (decode t).records) (sym p.keyed) ∙ position_is s t c p.at p.least p.most in
          rw e (mark_has p.at p.least p.most ∙ ap (has l) p.keyed)
      go (inr h) =
          let z : position k (decode t).records ≡ 0 = position_none k (decode t).records h in
          rw z
          (sym (marked_none m 0 (omega arith))
          ∙ sym (not_so (has l k) (λ q. let y = has_in l k q in clash (sym (has_order (decode t).records k) ∙ in_has (held t) y.0 k (part y.0 y.1) y.2) h)))

  -- scans of the marked records
  pub mark_found : (p : Rec → Bool) (i : ℕ) → 1 ≤ i → i ≤ used_at t → is_marked m i ≡ true → p (record_of t i) ≡ true → some_of p l ≡ true
  mark_found p i a b h e =
      in_some p (record_of t i) l (held_in s t c.schema c.formed l part i a b (sym (mark_has i a b) ∙ h)) e

  pub mark_none : (p : Rec → Bool) → NoneTo (λ i. is_marked m i && p (record_of t i)) (used_at t) → some_of p l ≡ false
  mark_none p h = not_so (some_of p l) (λ e. no (some_in p l e))
    where
      no : (x : Rec) × (x ∈ l) × (p x ≡ true) → ⊥
      no q =
          let i = in_record s t c.schema c.formed q.0 (part q.0 q.1) in
          let k : is_marked m i.0 ≡ true = mark_has i.0 i.1 i.2 ∙ in_has l q.0 _ q.1 (ap (λ (x : Rec). x.key) i.3) in
          clash (and_both _ _ k (ap p (sym i.3) ∙ q.2)) (h i.0 i.1 i.2)

-- scans of all records
module _ (s t : List ℕ) (c : Checked s t) where
  pub held_found : (p : Rec → Bool) (i : ℕ) → 1 ≤ i → i ≤ used_at t → p (record_of t i) ≡ true → some_of p (held t) ≡ true
  held_found p i a b e = in_some p (record_of t i) (held t) (record_in s t c.schema c.formed i a b) e

  pub held_none : (p : Rec → Bool) → NoneTo (λ i. p (record_of t i)) (used_at t) → some_of p (held t) ≡ false
  held_none p h = not_so (some_of p (held t)) (λ e. no (some_in p (held t) e))
    where
      no : (x : Rec) × (x ∈ held t) × (p x ≡ true) → ⊥
      no q =
          let i = in_record s t c.schema c.formed q.0 q.1 in
          clash (ap p (sym i.3) ∙ q.2) (h i.0 i.1 i.2)

-- a nonempty reference that may stand is a label
pub rule_below : (k v : ℕ) → value_rule k v ≡ true → abort_kinds ≤ k → v < label_span
rule_below k v h l = go (or_cases (not (is_reference k) || eqb v 0) (is_label v) h)
  where
    go : ((not (is_reference k) || eqb v 0) ≡ true) ⊎ (is_label v ≡ true) → v < label_span
    go (inr e) = (label_span_lem v e).1
    go (inl e) = less (or_cases (not (is_reference k)) (eqb v 0) e)
      where
        less : (not (is_reference k) ≡ true) ⊎ (eqb v 0 ≡ true) → v < label_span
        less (inl n) = clash (le-leb abort_kinds k l) (not_true _ n)
        less (inr z) = omega (arith, eqb-true v 0 z)

-- where a value under a kind leads
module _ (k v : ℕ) where
  pub lead_plain : k < abort_kinds → leading is_reference k v ≡ []
  unfolding leading
  lead_plain h = rw (lt-leb abort_kinds k h)

  pub lead_empty : v ≡ 0 → leading is_reference k v ≡ []
  unfolding leading
  lead_empty e = rw (eq-eqb v 0 e) (go (is_reference k))
    where
      go : (b : Bool) → cond (b && false) (place (leads_to k) v ∷ []) [] ≡ []
      go true = refl
      go false = refl

  pub lead_one : abort_kinds ≤ k → (v ≡ 0 → ⊥) → leading is_reference k v ≡ place (leads_to k) v ∷ []
  unfolding leading
  lead_one h n = rw (le-leb abort_kinds k h, ne_eqb v 0 n)

  pub none_leads : (q : ℕ → Bool) → leading is_reference k v ≡ [] → true ≡ all_of q (leading is_reference k v)
  unfolding all_of
  none_leads q e = sym (ap (all_of q) e)

  pub one_leads : (q : ℕ → Bool) (x : Bool) → abort_kinds ≤ k → (v ≡ 0 → ⊥) → x ≡ q (place (leads_to k) v) → x ≡ all_of q (leading is_reference k v)
  unfolding all_of
  one_leads q x h n e = rw (lead_one h n) (go x e)
    where
      go : (x : Bool) → x ≡ q (place (leads_to k) v) → x ≡ (q (place (leads_to k) v) && true)
      go true e = rw (← e)
      go false e = rw (← e)

same_place : (r l a v : ℕ) → l < label_span → v < label_span → (eqb r a && eqb l v) ≡ eqb (place r l) (place a v)
same_place r l a v p q =
    same_test _ _
    (λ h. let x = eqb-true r a (and_left (eqb r a) (eqb l v) h) in let y = eqb-true l v (and_right (eqb r a) (eqb l v) h) in eq-eqb (place r l) (place a v) (omega arith))
    (λ h. let e : place r l ≡ place a v = eqb-true _ _ h in and_both _ _ (eq-eqb r a (omega arith)) (eq-eqb l v (omega arith)))

-- a value that leads to record i
pub value_leads : (s t : List ℕ) (i k v r l : ℕ) → Placed s t i → value_rule k v ≡ true → r ≡ relation_at t i → l ≡ label_at t i
    → ((leb abort_kinds k && not (eqb v 0)) && (eqb r (k % abort_kinds) && eqb l v)) ≡ some_of (λ j. eqb (record_of t i).key j) (leading is_reference k v)
unfolding leading some_of
value_leads s t i k v r l o h er el = go (test (leb abort_kinds k && not (eqb v 0)))
  where
    key : (record_of t i).key ≡ place r l
    key = key_is s t o.checked i o.least o.most ∙ rw (er, el)

    or_no : (b : Bool) → b ≡ (b || false)
    or_no true = refl
    or_no false = refl

    go : ((leb abort_kinds k && not (eqb v 0)) ≡ true) ⊎ ((leb abort_kinds k && not (eqb v 0)) ≡ false)
        → ((leb abort_kinds k && not (eqb v 0)) && (eqb r (k % abort_kinds) && eqb l v)) ≡ some_of (λ j. eqb (record_of t i).key j) (cond (leb abort_kinds k && not (eqb v 0)) (place (leads_to k) v ∷ []) [])
    go (inl e) =
        let b : l < label_span = omega (arith, el, label_bounds s t o.checked i o.least o.most) in
        let b' = rule_below k v h (leb-true abort_kinds k (and_left (leb abort_kinds k) (not (eqb v 0)) e)) in
        rw (e, key) (same_place r l (k % abort_kinds) v b b' ∙ or_no _)
    go (inr e) = rw e
