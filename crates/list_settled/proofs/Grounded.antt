-- A record whose resolved references lead to marked records: its targets are keys of marked records.
-- Assumes nothing.
use Prim.Native.Nat.{ℕ, ◌+◌, ◌*◌, ◌-◌, ◌≤◌}
use mathlib.Core.Path.{◌≡◌, sym, ◌∙◌, ap}
use mathlib.Core.Logic.{◌⊎◌, inl, inr}
use mathlib.Core.Bool.{Bool, true, false, ◌&&◌, not}
use mathlib.Core.List.{List}
use native.Mathlib.Omega.{arith}
use lib.Dec.{eqb}
use lib.ListN.{length, get_or}
use borrow.Author.Tests.{eqb-true, eqb-false, eq-eqb, ne_eqb}
use Rattle.crdt.proofs.Tests.{test, and_left, and_right, and_both, or_cases, or_right, not_true, not_false}
use Rattle.model.specs.Layout.{fields, most_records, kind_at, used_at, relation_at, value_at, stamp_at}
use Rattle.model.specs.Schemas.{is_reference, schema_of}
use Rattle.model.specs.Records.{Rec, has, distinct, position}
use Rattle.model.specs.Tables.{record_of, decode}
use Rattle.model.specs.Shown.{targets}
use Rattle.laws.proofs.Lists.{◌∈◌}
use Rattle.wellformed.proofs.Follow.{no_rec, position_none, position_some, position_at}
use Rattle.wellformed.proofs.Ranges.{each_at, each_all, listed_length, listed_at}
use Rattle.wellformed.proofs.Facts.{schema_sound, formed, table_sized}
use Rattle.wellformed.proofs.Values.{records_distinct}
use Rattle.marks.specs.Marks.{is_marked}
use Rattle.references.specs.Resolved.{absent, found, resolved_at, Resolves}
use Rattle.judged.specs.Checked.{Checked}
use Rattle.list_settled.specs.Rounds.{leads_on, grounded_at}
use Rattle.list_settled.proofs.Targets.{refers, aim, target_field, field_target}

-- a marked record with key k
pub record LedTo (t m : List ℕ) (k : ℕ) : Type 0 where
  pub index : ℕ
  pub from_one : 1 ≤ index
  pub within : index ≤ used_at t
  pub keyed : (record_of t index).key ≡ k
  pub marked : is_marked m index ≡ true

leads_marked : (m : List ℕ) (p : ℕ) → leads_on m p ≡ true → (p ≡ 0 → ⊥) → is_marked m p ≡ true
leads_marked m p h n = go (or_cases (eqb p 0) (not (eqb p absent) && is_marked m p) h)
  where
    go : (eqb p 0 ≡ true) ⊎ ((not (eqb p absent) && is_marked m p) ≡ true) → is_marked m p ≡ true
    go (inl e) = absurd (n (eqb-true p 0 e))
    go (inr e) = and_right (not (eqb p absent)) (is_marked m p) e

leads_found : (m : List ℕ) (p : ℕ) → leads_on m p ≡ true → p ≡ absent → ⊥
leads_found m p h e = go (or_cases (eqb p 0) (not (eqb p absent) && is_marked m p) h)
  where
    go : (eqb p 0 ≡ true) ⊎ ((not (eqb p absent) && is_marked m p) ≡ true) → ⊥
    go (inl q) = omega (arith, eqb-true p 0 q)
    go (inr q) = eqb-false p absent (not_true (eqb p absent) (and_left (not (eqb p absent)) (is_marked m p) q)) e

found_none : (p : ℕ) → p ≡ 0 → found p ≡ absent
found_none p e = rw (eq-eqb p 0 e)

found_some : (p : ℕ) → (p ≡ 0 → ⊥) → found p ≡ p
found_some p n = rw (ne_eqb p 0 n)

module _ (s t refs m : List ℕ) (ck : Checked s t) (rs : Resolves s t refs) where
  abbrev recs : List Rec
  recs = (decode t).records

  recs_length : length recs ≡ used_at t
  unfolding decode
  recs_length = listed_length (used_at t) (record_of t)

  recs_at : (i : ℕ) → 1 ≤ i → i ≤ used_at t → get_or recs (i - 1) no_rec ≡ record_of t i
  unfolding decode
  recs_at i a b = listed_at (used_at t) (record_of t) i no_rec a b

  once : distinct recs ≡ true
  unfolding decode
  once = records_distinct s t (schema_sound s ck.schema) (formed s t ck.formed)

  few : used_at t ≤ most_records
  few = omega (arith, (formed s t ck.formed).used, (table_sized t ck.long).capacity)

  -- the position of a marked record's key
  position_of : (k : ℕ) → LedTo t m k → (q : ℕ) × (q ≡ position k recs) × (1 ≤ q) × (q ≤ used_at t) × (is_marked m q ≡ true)
  position_of k h =
      let i = h.index in
      let e : (get_or recs (i - 1) no_rec).key ≡ k = ap (λ (x : Rec). x.key) (recs_at i h.from_one h.within) ∙ h.keyed in
      let p = position_at i recs once h.from_one (omega (arith, h.within, recs_length)) in
      (i, sym (rw e at p), h.from_one, h.within, h.marked)

  module _ (i : ℕ) (a : 1 ≤ i) (l : i ≤ used_at t) where
    abbrev kind : ℕ → ℕ
    kind = kind_at s (relation_at t i)

    abbrev reads : ℕ → Bool
    reads j = refers is_reference kind (value_at t i) (stamp_at t i) j

    abbrev goal : ℕ → ℕ
    goal j = aim is_reference kind (value_at t i) (stamp_at t i) j

    refers_resolved : (j : ℕ) → reads j ≡ true → resolved_at s t i j ≡ found (position (goal j) recs)
    unfolding resolved_at
    refers_resolved j e = rw e

    empty_resolved : (j : ℕ) → reads j ≡ false → resolved_at s t i j ≡ 0
    unfolding resolved_at
    empty_resolved j e = rw e

    pub grounded_held : grounded_at refs m i ≡ true → (k : ℕ) → k ∈ targets (schema_of s) is_reference (record_of t i) → LedTo t m k
    unfolding grounded_at
    grounded_held h k g =
        let r = target_field s t ck.schema ck.formed is_reference i a l k g in
        let j = r.0 in
        let z = rs.at i j a l r.1 r.2 ∙ refers_resolved j r.3 in
        let y : leads_on m (found (position (goal j) recs)) ≡ true = rw z at (each_at fields (λ j. leads_on m (get_or refs (fields * (i - 1) + (j - 1)) 0)) j h r.1 r.2) in
        rw r.4 (go (goal j) y (test (has recs (goal j))))
      where
        go : (k : ℕ) → leads_on m (found (position k recs)) ≡ true → (has recs k ≡ true) ⊎ (has recs k ≡ false) → LedTo t m k
        go k y (inr e) = absurd (leads_found m (found (position k recs)) y (found_none (position k recs) (position_none k recs e)))
        go k y (inl e) =
            let p = position_some k recs e in
            let n : position k recs ≡ 0 → ⊥ = λ q. omega (arith, p.from_one) in
            let b : position k recs ≤ used_at t = omega (arith, p.within, recs_length) in
            let y' : leads_on m (position k recs) ≡ true = rw (found_some (position k recs) n) at y in
            record {
              index = position k recs;
              from_one = p.from_one;
              within = b;
              keyed = ap (λ (x : Rec). x.key) (sym (recs_at (position k recs) p.from_one b)) ∙ p.keyed;
              marked = leads_marked m (position k recs) y' n;
            }

    pub held_grounded : ((k : ℕ) → k ∈ targets (schema_of s) is_reference (record_of t i) → LedTo t m k) → grounded_at refs m i ≡ true
    unfolding grounded_at
    held_grounded f = each_all fields _ (λ j g h. rw (rs.at i j a l g h) (go j g h (test (reads j))))
      where
        led : (q : ℕ) → 1 ≤ q → q ≤ used_at t → is_marked m q ≡ true → leads_on m q ≡ true
        led q g h e =
            let n : q ≡ absent → ⊥ = λ z. omega (arith, few) in
            or_right (eqb q 0) (not (eqb q absent) && is_marked m q) (and_both (not (eqb q absent)) (is_marked m q) (not_false (eqb q absent) (ne_eqb q absent n)) e)

        go : (j : ℕ) → 1 ≤ j → j ≤ fields → (reads j ≡ true) ⊎ (reads j ≡ false) → leads_on m (resolved_at s t i j) ≡ true
        go j g h (inr e) = rw (empty_resolved j e)
        go j g h (inl e) =
            let p = position_of (goal j) (f (goal j) (field_target s t ck.schema ck.formed is_reference i a l j g h e)) in
            let n : p.0 ≡ 0 → ⊥ = λ z. omega (arith, p.2) in
            let z : resolved_at s t i j ≡ p.0 = refers_resolved j e ∙ ap found (sym p.1) ∙ found_some p.0 n in
            rw z (led p.0 p.2 p.3 p.4)
