-- The number of an update of a judged table, and its key conflicts by position.
-- Assumes nothing.
use Prim.Native.Nat.{ℕ, zero, suc, ◌+◌, ◌-◌, ◌/◌, ◌%◌, ◌^◌, ◌≤◌, ◌<◌}
use mathlib.Core.Path.{◌≡◌, refl, sym, ◌∙◌, ap}
use mathlib.Core.Logic.{◌⊎◌, inl, inr}
use mathlib.Core.Bool.{Bool, true, false, cond, ◌||◌, ◌&&◌, not}
use mathlib.Core.List.{List, [], ◌∷◌}
use native.Mathlib.Omega.{arith}
use lib.Dec.{eqb, leb}
use lib.ListN.{length, get_or, set, length-set}
use lib.Seq.{ext_get_or, get_or-set_same, get_or-set_other}
use borrow.Author.Tests.{eqb-true, eq-eqb, ne_eqb, le-leb, lt-leb}
use Rattle.crdt.specs.Labels.{largest_counter, is_label}
use Rattle.crdt.specs.Cells.{Reg, reg, no_reg}
use Rattle.crdt.proofs.Tests.{test, and_right, Tri, low, same, high, tri}
use Rattle.model.specs.Layout.{fields, field_count, kind_at, mask_at, used_at, clock_at, relation_at, value_at, stamp_at}
use Rattle.model.specs.Lists.{from, listed, some_of, all_of, lowest}
use Rattle.model.specs.Schemas.{is_reference, schema_of, names}
use Rattle.model.specs.Records.{Rec, has}
use Rattle.model.specs.Tables.{decode, record_of}
use Rattle.model.specs.WellFormed.{field_rule}
use Rattle.model.specs.Shown.{described, conflict_on, standing, shown}
use Rattle.model.specs.Edits.{register_at, with_register, new_label, value_rule, leading, spent, update_redoes, update_conflict, update}
use Rattle.model.specs.Calls.{update_of}
use Rattle.wellformed.proofs.ListRanges.{map_from}
use Rattle.wellformed.proofs.Facts.{formed, ruled}
use Rattle.wellformed.proofs.Ranges.{listed_at, listed_length}
use Rattle.references.specs.Order.{key_at}
use Rattle.references.specs.Resolved.{Marked}
use Rattle.references.proofs.Places.{key_relation, fields_most}
use Rattle.marks.specs.Marks.{is_marked}
use Rattle.list_conflicts.specs.Keys.{values_conflict, values_at}
use Rattle.list_conflicts.proofs.Keys.{first_mask, second_mask}
use Rattle.edit_delta.specs.Picked.{Picked}
use Rattle.edit_basics.specs.Targets.{held, Placed}
use Rattle.edit_laws.proofs.Picks.{keys_apart}
use Rattle.edit_laws.specs.Clash.{clashes, Renewed, narrowed}
use Rattle.edit_laws.proofs.Clash.{values_of, kinds_here, conflict_on_lem}
use Rattle.edit_laws.proofs.DeletionNumber.{record_here, shown_mark}

-- a mask that names no field, and one that names it
narrow_on : (s t : List ℕ) (z : ℕ) (o : Placed s t z) (m f : ℕ) (x : Rec) (out : List ℕ) → values_of x.cell.regs ≡ out
    → (names m f && conflict_on (schema_of s) m (record_of t z) x) ≡ values_conflict s (relation_at t z) (narrowed m f) (values_at t z) out
unfolding values_conflict
narrow_on s t z o m f x out e = go (names m f) refl
  where
    go : (b : Bool) → b ≡ names m f → (b && conflict_on (schema_of s) m (record_of t z) x) ≡ values_conflict s (relation_at t z) (cond b m 0) (values_at t z) out
    go true h = conflict_on_lem s t z o m x out e
    go false h = refl

map_set : (gs : List Reg) (j : ℕ) (g : Reg) → values_of (set gs j g) ≡ set (values_of gs) j g.value
map_set [] j g = refl
map_set (x ∷ xs) zero g = refl
map_set (x ∷ xs) (suc j) g = ap (λ (l : List ℕ). x.value ∷ l) (map_set xs j g)

module _ (s t : List ℕ) (i f new : ℕ) (o : Placed s t i) where
  abbrev ρ : ℕ
  ρ = relation_at t i

  abbrev x : Rec
  x = record_of t i

  abbrev y : Rec
  y = with_register x f (reg new (new_label (decode t)))

  regs_values : values_of (record_of t i).cell.regs ≡ from 1 fields (value_at t i)
  unfolding record_of listed
  regs_values = map_from (λ (g : Reg). g.value) 1 fields (λ j. reg (value_at t i j) (stamp_at t i j))

  value_here : (k : ℕ) → k < fields → get_or (from 1 fields (value_at t i)) k 0 ≡ value_at t i (k + 1)
  unfolding listed
  value_here k h =
      let e : k + 1 - 1 ≡ k = omega arith in
      rw e at (listed_at fields (value_at t i) (k + 1) 0 (omega arith) (omega arith))

  count_here : length (from 1 fields (value_at t i)) ≡ fields
  unfolding listed
  count_here = listed_length fields (value_at t i)

  -- the values with the new one
  renewed_values : (out : List ℕ) → 1 ≤ f → f ≤ fields → Renewed t i f new out → values_of y.cell.regs ≡ out
  unfolding with_register
  renewed_values out a b r =
      map_set (record_of t i).cell.regs (f - 1) (reg new (new_label (decode t)))
      ∙ ap (λ (l : List ℕ). set l (f - 1) new) regs_values
      ∙ ext_get_or 0 _ out (length-set (from 1 fields (value_at t i)) (f - 1) new ∙ count_here ∙ sym r.long) at
    where
      at : (k : ℕ) → k < length (set (from 1 fields (value_at t i)) (f - 1) new) → get_or (set (from 1 fields (value_at t i)) (f - 1) new) k 0 ≡ get_or out k 0
      at k l = go (tri k (f - 1))
        where
          few : k < fields
          few = omega (arith, length-set (from 1 fields (value_at t i)) (f - 1) new, count_here)

          other : (k + 1 ≡ f → ⊥) → get_or (set (from 1 fields (value_at t i)) (f - 1) new) k 0 ≡ get_or out k 0
          other n =
              get_or-set_other (from 1 fields (value_at t i)) (f - 1) k new 0 (λ z. n (omega arith))
              ∙ value_here k few ∙ sym (r.at k few ∙ rw (ne_eqb (k + 1) f n))

          go : Tri k (f - 1) → get_or (set (from 1 fields (value_at t i)) (f - 1) new) k 0 ≡ get_or out k 0
          go (low q) = other (λ z. omega arith)
          go (high q) = other (λ z. omega arith)
          go (same q) =
              let w : k + 1 ≡ f = omega arith in
              let v : f - 1 < length (from 1 fields (value_at t i)) = omega (arith, count_here) in
              let h : get_or (set (from 1 fields (value_at t i)) (f - 1) new) k 0 ≡ new = rw q (get_or-set_same (from 1 fields (value_at t i)) (f - 1) new 0 v) in
              h ∙ sym (r.at k few ∙ rw (eq-eqb (k + 1) f w))

  -- a key conflict of the updated record
  pub update_clash : (out : List ℕ) → 1 ≤ f → f ≤ fields → Renewed t i f new out → (z : ℕ) → 1 ≤ z → z ≤ used_at t
      → update_conflict (schema_of s) (described (schema_of s) x) f (record_of t z) y ≡ clashes s t ρ (narrowed (mask_at s ρ 1) f) (narrowed (mask_at s ρ 2) f) i out z
  unfolding update_conflict with_register
  update_clash out a b r z p q = rw (first_mask s t o.checked.schema o.checked.formed i o.least o.most, second_mask s t o.checked.schema o.checked.formed i o.least o.most, keys_apart s t z i oz o, key_relation s t o.checked z p q, key_relation s t o.checked i o.least o.most) (go (test (eqb (relation_at t z) ρ)))
    where
      oz : Placed s t z
      oz = record { checked = o.checked; least = p; most = q }

      on : (m : ℕ) → (names m f && conflict_on (schema_of s) m (record_of t z) y) ≡ values_conflict s (relation_at t z) (narrowed m f) (values_at t z) out
      on m = narrow_on s t z oz m f y out (renewed_values out a b r)

      go : (eqb (relation_at t z) ρ ≡ true) ⊎ (eqb (relation_at t z) ρ ≡ false)
          → ((not (eqb z i) && eqb (relation_at t z) ρ) && (names (mask_at s ρ 1) f && conflict_on (schema_of s) (mask_at s ρ 1) (record_of t z) y || names (mask_at s ρ 2) f && conflict_on (schema_of s) (mask_at s ρ 2) (record_of t z) y))
          ≡ clashes s t ρ (narrowed (mask_at s ρ 1) f) (narrowed (mask_at s ρ 2) f) i out z
      go (inl h) = let e = eqb-true (relation_at t z) ρ h in rw (on (mask_at s ρ 1), on (mask_at s ρ 2), e)
      go (inr h) = rw h (no (not (eqb z i)) _ _)
        where
          no : (a b d : Bool) → ((a && false) && b) ≡ ((a && false) && d)
          no true b d = refl
          no false b d = refl

  -- the number, and the checks as the code reads them
  abbrev number : ℕ
  number = lowest (update_of s t i f new).checks

  abbrev A : Bool
  A = has (shown (schema_of s) (held t)) (key_at t i)

  abbrev shows : ℕ → Bool
  shows k = all_of (has (shown (schema_of s) (held t))) (leading is_reference k new)

  abbrev pub conflicted : Bool
  conflicted = some_of (λ (z : Rec). update_conflict (schema_of s) (described (schema_of s) x) f z y) (standing (schema_of s) (held t))

  abbrev C : Bool
  C = eqb (decode t).clock largest_counter

  abbrev spends : ℕ → ℕ → Bool
  spends k old = spent (held t) (update_redoes (schema_of s) (held t) x k old new)

  abbrev K : ℕ
  K = get_or (described (schema_of s) x).kinds (f - 1) 0

  number_is : number ≡ cond (not A) 6 (cond (not (leb 1 f && leb f (length (described (schema_of s) x).kinds) && value_rule K new)) 7 (cond (not (shows K)) 8 (cond conflicted 9 (cond C 12 (cond (spends K (register_at x f).value) 13 0)))))
  unfolding update_of update lowest
  number_is = rw (record_here s t i o)

  kinds_count : length (described (schema_of s) x).kinds ≡ field_count s ρ
  kinds_count = ap length (kinds_here s t i o) ∙ listed_length (field_count s ρ) (kind_at s ρ)

  clock_is : (decode t).clock ≡ clock_at t
  unfolding decode
  clock_is = refl

  module _ (m : List ℕ) (mk : Marked t (shown (schema_of s) (held t)) m) (a : Bool) (ea : a ≡ is_marked m i) where
    A-is : a ≡ A
    A-is = ea ∙ shown_mark s t m i o mk

    pub update_hidden : a ≡ false → 6 ≡ number
    update_hidden h = let k : A ≡ false = sym A-is ∙ h in sym (number_is ∙ rw k)

    module _ (h : a ≡ true) where
      shown_here : A ≡ true
      shown_here = sym A-is ∙ h

      pub update_below : f < 1 → 7 ≡ number
      update_below l = sym (number_is ∙ rw (shown_here, lt-leb 1 f l))

      pub update_above : 1 ≤ f → (n : ℕ) → n ≡ field_count s ρ → n < f → 7 ≡ number
      update_above b n e l =
          let w : length (described (schema_of s) x).kinds < f = omega (arith, kinds_count) in
          sym (number_is ∙ rw (shown_here, le-leb 1 f b, lt-leb f (length (described (schema_of s) x).kinds) w))

      -- a field of the relation
      module _ (b : 1 ≤ f) (l : f ≤ field_count s ρ) (k : ℕ) (ek : k ≡ kind_at s ρ f) where
        K-is : K ≡ k
        K-is = ap (λ (ks : List ℕ). get_or ks (f - 1) 0) (kinds_here s t i o) ∙ listed_at (field_count s ρ) (kind_at s ρ) f 0 b l ∙ sym ek

        old_is : (register_at x f).value ≡ value_at t i f
        unfolding register_at record_of
        old_is = ap (λ (g : Reg). g.value) (listed_at fields (λ j. reg (value_at t i j) (stamp_at t i j)) f no_reg b (omega (arith, fields_most s t o.checked i o.least o.most)))

        number_k : number ≡ cond (not (value_rule k new)) 7 (cond (not (shows k)) 8 (cond conflicted 9 (cond (eqb (clock_at t) largest_counter) 12 (cond (spends k (value_at t i f)) 13 0))))
        number_k =
            let w : f ≤ length (described (schema_of s) x).kinds = omega (arith, kinds_count) in
            number_is ∙ rw (shown_here, le-leb 1 f b, le-leb f (length (described (schema_of s) x).kinds) w, K-is, old_is, clock_is)

        module _ (v : Bool) (ev : v ≡ value_rule k new) where
          pub update_bad : v ≡ false → 7 ≡ number
          update_bad q = let w : value_rule k new ≡ false = sym ev ∙ q in sym (number_k ∙ rw w)

          module _ (q : v ≡ true) (g : Bool) (eg : g ≡ shows k) where
            w7 : value_rule k new ≡ true
            w7 = sym ev ∙ q

            pub update_target : g ≡ false → 8 ≡ number
            update_target p = let w : shows k ≡ false = sym eg ∙ p in sym (number_k ∙ rw (w7, w))

            module _ (p : g ≡ true) (d : Bool) (ed : d ≡ conflicted) where
              w8 : shows k ≡ true
              w8 = sym eg ∙ p

              pub update_taken : d ≡ true → 9 ≡ number
              update_taken u = let w : conflicted ≡ true = sym ed ∙ u in sym (number_k ∙ rw (w7, w8, w))

              module _ (u : d ≡ false) (n : ℕ) (en : n ≡ clock_at t) where
                w9 : conflicted ≡ false
                w9 = sym ed ∙ u

                pub update_clock : n ≡ largest_counter → 12 ≡ number
                update_clock z = sym (number_k ∙ rw (w7, w8, w9, eq-eqb (clock_at t) largest_counter (sym en ∙ z)))

                module _ (z : n ≡ largest_counter → ⊥) (e : Bool) (ee : e ≡ spends k (value_at t i f)) where
                  w12 : eqb (clock_at t) largest_counter ≡ false
                  w12 = ne_eqb (clock_at t) largest_counter (λ c. z (en ∙ c))

                  pub update_spent : e ≡ true → 13 ≡ number
                  update_spent c = let w : spends k (value_at t i f) ≡ true = sym ee ∙ c in sym (number_k ∙ rw (w7, w8, w9, w12, w))

                  pub update_done : e ≡ false → 0 ≡ number
                  update_done c = let w : spends k (value_at t i f) ≡ false = sym ee ∙ c in sym (number_k ∙ rw (w7, w8, w9, w12, w))

-- a mask that names a field, and one that does not
pub narrow_kept : (m f : ℕ) → m / 2 ^ (f - 1) % 2 ≡ 1 → m ≡ narrowed m f
narrow_kept m f e = rw (eq-eqb (m / 2 ^ (f - 1) % 2) 1 e)

pub narrow_none : (m f : ℕ) → (m / 2 ^ (f - 1) % 2 ≡ 1 → ⊥) → 0 ≡ narrowed m f
narrow_none m f n = rw (ne_eqb (m / 2 ^ (f - 1) % 2) 1 n)

-- the value that stands in a field keeps the rule
rule_kept : (k v st : ℕ) → field_rule k v st ≡ true → value_rule k v ≡ true
unfolding field_rule
rule_kept k v st h = and_right ((eqb st 0 || is_label st) && (not (eqb st 0) || eqb v 0)) (value_rule k v) h

pub old_rule : (s t : List ℕ) (i f : ℕ) (o : Placed s t i) → 1 ≤ f → f ≤ field_count s (relation_at t i)
    → (k v : ℕ) → k ≡ kind_at s (relation_at t i) f → v ≡ value_at t i f → value_rule k v ≡ true
old_rule s t i f o a b k v ek ev =
    let c = o.checked in
    let u = ruled s t i ((formed s t c.formed).rules i o.least o.most) in
    let l : f ≤ fields = omega (arith, fields_most s t c i o.least o.most) in
    rw (ek, ev) (rule_kept (kind_at s (relation_at t i) f) (value_at t i f) (stamp_at t i f) (u.field f a l b))

-- the marks of the records to be redone, by the kind and the old value as they were read
pub picked_as : (s t : List ℕ) (i k old f new : ℕ) (m : List ℕ) → k ≡ kind_at s (relation_at t i) f → old ≡ value_at t i f
    → Picked t (update_redoes (schema_of s) (held t) (record_of t i) k old new) m
    → Picked t (update_redoes (schema_of s) (held t) (record_of t i) (kind_at s (relation_at t i) f) (value_at t i f) new) m
picked_as s t i k old f new m ek eo p = rw (ek, eo) at p

-- the scan for conflicts, by the relation and the masks as they were read
module _ (s t : List ℕ) (i f new : ℕ) (o : Placed s t i) (out : List ℕ) (a : 1 ≤ f) (b : f ≤ fields) (u : Renewed t i f new out) where
  module _ (r k l m n : ℕ) (er : r ≡ relation_at t i) (ek : k ≡ mask_at s r 1) (el : l ≡ mask_at s r 2) (em : m ≡ narrowed k f) (en : n ≡ narrowed l f) where
    clash_as : (z : ℕ) → 1 ≤ z → z ≤ used_at t
        → update_conflict (schema_of s) (described (schema_of s) (record_of t i)) f (record_of t z) (with_register (record_of t i) f (reg new (new_label (decode t)))) ≡ clashes s t r m n i out z
    clash_as z p q = update_clash s t i f new o out a b u z p q ∙ sym (rw (em, en, ek, el, er))

    pub taken_as : (x : Bool)
        → ((p : Rec → Bool) → ((z : ℕ) → 1 ≤ z → z ≤ used_at t → p (record_of t z) ≡ clashes s t r m n i out z) → x ≡ some_of p (standing (schema_of s) (held t)))
        → x ≡ conflicted s t i f new o
    taken_as x h = h _ clash_as

-- the field count, the kind and the spent flags, by the relation and the old value as they were read
module _ (s t : List ℕ) (i r : ℕ) (er : r ≡ relation_at t i) where
  pub count_as : (n : ℕ) → n ≡ field_count s r → n ≡ field_count s (relation_at t i)
  count_as n en = rw (en, er)

  pub field_within : (f n : ℕ) → n ≡ field_count s r → f ≤ n → f ≤ field_count s (relation_at t i)
  field_within f n en l = omega (arith, count_as n en)

  pub kind_as : (f k : ℕ) → k ≡ kind_at s r f → k ≡ kind_at s (relation_at t i) f
  kind_as f k ek = rw (ek, er)

pub spent_as : (s t : List ℕ) (i k old f new : ℕ) (x : Bool) → old ≡ value_at t i f
    → x ≡ spent (held t) (update_redoes (schema_of s) (held t) (record_of t i) k old new)
    → x ≡ spent (held t) (update_redoes (schema_of s) (held t) (record_of t i) k (value_at t i f) new)
spent_as s t i k old f new x e h = h ∙ rw e
