-- The fields of a record of a table: whether it is complete, and the keys that its references lead to.
-- Assumes nothing.
use Prim.Native.Nat.{ℕ, zero, suc, ◌+◌, ◌/◌, ◌≤◌, ◌<◌}
use mathlib.Core.Path.{◌≡◌, refl, sym, ◌∙◌, ap}
use mathlib.Core.Bool.{Bool, true, false, cond, ◌&&◌, not}
use mathlib.Core.List.Memᴰ
use mathlib.Core.List.{List, ◌∷◌}
use mathlib.Core.Logic.{◌⊎◌, inl, inr}
use native.Mathlib.Omega.{arith}
use lib.Dec.{eqb}
use borrow.Author.Tests.{eqb-false, eq-eqb, ne_eqb}
use Rattle.crdt.specs.Cells.{Reg, reg}
use Rattle.crdt.proofs.Tests.{Tri, low, same, high, tri, test, and_left, and_right, and_both, not_true, not_false}
use Rattle.model.specs.Layout.{fields, relations, field_count, kind_at, used_at, relation_at, value_at, stamp_at}
use Rattle.model.specs.Lists.{from, listed}
use Rattle.model.specs.Schemas.{leads_to, schema_of}
use Rattle.model.specs.Records.{label_span, place}
use Rattle.model.specs.Tables.{record_of}
use Rattle.model.specs.Shown.{described, stamped, complete, leads, targets}
use Rattle.laws.proofs.Lists.{◌∈◌}
use Rattle.wellformed.proofs.Values.{kinds_of_lem}
use Rattle.judged.specs.Checked.{Checked}
use Rattle.references.specs.Order.{key_at}
use Rattle.references.proofs.Places.{relation_least, relation_known, fields_most, key_relation}

module _ (kind v st : ℕ → ℕ) where
  abbrev registers : ℕ → Reg
  registers j = reg (v j) (st j)

  stamped_all : (a F n : ℕ) → F ≤ n → ((j : ℕ) → a ≤ j → j < a + F → st j ≡ 0 → ⊥) → stamped (from a F kind) (from a n registers) ≡ true
  unfolding stamped from
  stamped_all a zero n l h = refl
  stamped_all a (suc F) zero l h = absurd (omega arith)
  stamped_all a (suc F) (suc n) l h =
      and_both (not (eqb (st a) 0)) _ (not_false _ (ne_eqb (st a) 0 (h a (omega arith) (omega arith))))
      (stamped_all (suc a) F n (omega arith) (λ j p q. h j (omega arith) (omega arith)))

  stamped_not : (a F n j : ℕ) → F ≤ n → a ≤ j → j < a + F → st j ≡ 0 → stamped (from a F kind) (from a n registers) ≡ false
  unfolding stamped from
  stamped_not a zero n j l p q e = absurd (omega arith)
  stamped_not a (suc F) zero j l p q e = absurd (omega arith)
  stamped_not a (suc F) (suc n) j l p q e = go (tri a j) (λ m. stamped_not (suc a) F n j (omega arith) m (omega arith) e)
    where
      right_false : (x y : Bool) → y ≡ false → (x && y) ≡ false
      right_false true y h = h
      right_false false y h = refl

      go : Tri a j → (suc a ≤ j → stamped (from (suc a) F kind) (from (suc a) n registers) ≡ false)
          → (not (eqb (st a) 0) && stamped (from (suc a) F kind) (from (suc a) n registers)) ≡ false
      go (low m) ih = right_false (not (eqb (st a) 0)) (stamped (from (suc a) F kind) (from (suc a) n registers)) (ih m)
      go (same m) ih = rw (eq-eqb (st a) 0 (ap st m ∙ e))
      go (high m) ih = absurd (omega arith)

  module _ (p : ℕ → Bool) where
    leads_in : (a F n j : ℕ) → F ≤ n → a ≤ j → j < a + F → p (kind j) ≡ true → (v j ≡ 0 → ⊥)
        → place (leads_to (kind j)) (v j) ∈ leads p (from a F kind) (from a n registers)
    unfolding leads from
    leads_in a zero n j l b c q z = absurd (omega arith)
    leads_in a (suc F) zero j l b c q z = absurd (omega arith)
    leads_in a (suc F) (suc n) j l b c q z = go (tri a j) (λ m. leads_in (suc a) F n j (omega arith) m (omega arith) q z)
      where
        more : (x : Bool) (k : ℕ) (r : List ℕ) → place (leads_to (kind j)) (v j) ∈ r → place (leads_to (kind j)) (v j) ∈ cond x (k ∷ r) r
        more true k r h = Memᴰ.tail h
        more false k r h = h

        R : List ℕ
        R = leads p (from (suc a) F kind) (from (suc a) n registers)

        go : Tri a j → (suc a ≤ j → place (leads_to (kind j)) (v j) ∈ R)
            → place (leads_to (kind j)) (v j) ∈ cond (p (kind a) && not (eqb (v a) 0)) (place (leads_to (kind a)) (v a) ∷ R) R
        go (low m) ih = more (p (kind a) && not (eqb (v a) 0)) (place (leads_to (kind a)) (v a)) R (ih m)
        go (same m) ih = rw (m, q, ne_eqb (v j) 0 z) (Memᴰ.head refl)
        go (high m) ih = absurd (omega arith)

    -- a field that leads to key k
    pub record Leading (a F k : ℕ) : Type 0 where
      pub at : ℕ
      pub least : a ≤ at
      pub most : at < a + F
      pub chosen : p (kind at) ≡ true
      pub nonempty : v at ≡ 0 → ⊥
      pub key : k ≡ place (leads_to (kind at)) (v at)

    in_leads : (a F n k : ℕ) → F ≤ n → k ∈ leads p (from a F kind) (from a n registers) → Leading a F k
    unfolding leads from
    in_leads a zero n k l h = elim h [ ]
    in_leads a (suc F) zero k l h = absurd (omega arith)
    in_leads a (suc F) (suc n) k l h = go (test (p (kind a) && not (eqb (v a) 0))) (λ m. in_leads (suc a) F n k (omega arith) m)
      where
        R : List ℕ
        R = leads p (from (suc a) F kind) (from (suc a) n registers)

        later : Leading (suc a) F k → Leading a (suc F) k
        later r = record { at = r.at; least = omega (arith, r.least); most = omega (arith, r.most); chosen = r.chosen; nonempty = r.nonempty; key = r.key }

        here : (p (kind a) && not (eqb (v a) 0)) ≡ true → k ∈ place (leads_to (kind a)) (v a) ∷ R → (k ∈ R → Leading (suc a) F k) → Leading a (suc F) k
        here e (Memᴰ.head q) ih =
            record {
              at = a;
              least = omega arith;
              most = omega arith;
              chosen = and_left (p (kind a)) _ e;
              nonempty = eqb-false (v a) 0 (not_true _ (and_right (p (kind a)) _ e));
              key = q;
            }
        here e (Memᴰ.tail m) ih = later (ih m)

        go : ((p (kind a) && not (eqb (v a) 0)) ≡ true) ⊎ ((p (kind a) && not (eqb (v a) 0)) ≡ false) → (k ∈ R → Leading (suc a) F k) → Leading a (suc F) k
        go (inl e) ih = here e (rw e at h) ih
        go (inr e) ih = later (ih (rw e at h))

-- record i of a checked table
module _ (s t : List ℕ) (c : Checked s t) (i : ℕ) (a : 1 ≤ i) (b : i ≤ used_at t) where
  abbrev count : ℕ
  count = field_count s (relation_at t i)

  kinds_is : (described (schema_of s) (record_of t i)).kinds ≡ listed count (kind_at s (relation_at t i))
  kinds_is =
      let e = key_relation s t c i a b in
      let lo : 1 ≤ key_at t i / label_span = rw e (relation_least s t c i a b) in
      let hi : key_at t i / label_span ≤ relations s = rw e (relation_known s t c i a b) in
      kinds_of_lem s (record_of t i) lo hi ∙ ap (λ (r : ℕ). listed (field_count s r) (kind_at s r)) e

  regs_is : (record_of t i).cell.regs ≡ listed fields (registers (kind_at s (relation_at t i)) (value_at t i) (stamp_at t i))
  unfolding record_of
  regs_is = refl

  -- complete, field by field
  pub complete_all : ((j : ℕ) → 1 ≤ j → j < 1 + count → stamp_at t i j ≡ 0 → ⊥) → true ≡ complete (schema_of s) (record_of t i)
  unfolding complete listed
  complete_all h = rw (kinds_is, regs_is) (sym (stamped_all (kind_at s (relation_at t i)) (value_at t i) (stamp_at t i) 1 count fields (fields_most s t c i a b) h))

  pub complete_not : (j : ℕ) → 1 ≤ j → j ≤ count → stamp_at t i j ≡ 0 → false ≡ complete (schema_of s) (record_of t i)
  unfolding complete listed
  complete_not j p q e = rw (kinds_is, regs_is) (sym (stamped_not (kind_at s (relation_at t i)) (value_at t i) (stamp_at t i) 1 count fields j (fields_most s t c i a b) p (omega arith) e))

  -- the keys that its references of chosen kinds lead to
  module _ (p : ℕ → Bool) where
    pub target_in : (j : ℕ) → 1 ≤ j → j ≤ count → p (kind_at s (relation_at t i) j) ≡ true → (value_at t i j ≡ 0 → ⊥)
        → place (leads_to (kind_at s (relation_at t i) j)) (value_at t i j) ∈ targets (schema_of s) p (record_of t i)
    unfolding targets listed
    target_in j l m q z =
        rw (kinds_is, regs_is) (leads_in (kind_at s (relation_at t i)) (value_at t i) (stamp_at t i) p 1 count fields j (fields_most s t c i a b) l (omega arith) q z)

    pub in_target : (k : ℕ) → k ∈ targets (schema_of s) p (record_of t i) → Leading (kind_at s (relation_at t i)) (value_at t i) (stamp_at t i) p 1 count k
    unfolding targets listed
    in_target k h =
        in_leads (kind_at s (relation_at t i)) (value_at t i) (stamp_at t i) p 1 count fields k (fields_most s t c i a b) (rw (kinds_is, regs_is) at h)

-- the number of fields of a record
pub count_is : (s t : List ℕ) (i r n : ℕ) → r ≡ relation_at t i → n ≡ field_count s r → n ≡ field_count s (relation_at t i)
count_is s t i r n e f = f ∙ ap (field_count s) e
