-- Field by field: where two records do not agree on a key, what a nonempty reference leads to, and what the schema says of a record's fields.
-- Assumes nothing.
use Prim.Native.Nat.{ℕ, zero, suc, ◌-◌, ◌/◌, ◌%◌, ◌^◌, ◌≤◌, ◌<◌}
use mathlib.Core.Path.{◌≡◌, refl, ◌∙◌, ap}
use mathlib.Core.Logic.{◌⊎◌, inl, inr}
use mathlib.Core.Bool.{Bool, true, false, cond, ◌&&◌, ◌||◌, not}
use mathlib.Core.List.Memᴰ
use mathlib.Core.List.{List, [], ◌∷◌}
use native.Mathlib.Omega.{arith}
use native.Mathlib.Nat.{pow-succ', div-one, div-div-eq-div-mul}
use lib.Dec.{eqb}
use lib.ListN.{length, get_or}
use borrow.Author.Tests.{eqb-true, eqb-false, eq-eqb, ne_eqb, not-false}
use Rattle.crdt.specs.Labels.{is_label}
use Rattle.crdt.specs.Cells.{Reg}
use Rattle.crdt.proofs.Tests.{test, clash, and_left, and_right, or_cases, or_false}
use Rattle.model.specs.Layout.{relations, field_count, kind_at, mask_at}
use Rattle.model.specs.Schemas.{Relation, no_relation, is_reference, leads_to, relation_of, schema_of, relation_numbered}
use Rattle.model.specs.Records.{Rec, place, relation}
use Rattle.model.specs.WellFormed.{field_rule}
use Rattle.model.specs.Shown.{described, value, rest, leads, equal_on}
use Rattle.model.specs.Valid.{valid_regs}
use Rattle.convergence.specs.Entries.{values_of}
use Rattle.laws.proofs.Lists.{◌∈◌}
use Rattle.wellformed.proofs.Ranges.{listed_length, listed_at}
use Rattle.wellformed.proofs.Values.{kinds_of_lem}

-- tests that failed
and_false : (x y : Bool) → (x && y) ≡ false → (x ≡ false) ⊎ (y ≡ false)
and_false true y h = inr h
and_false false y h = inl refl

-- A field of the mask in which the values differ, or in which a reference is empty; counted from 0.
abbrev pub Split : ℕ → List ℕ → List Reg → List Reg → ℕ → Type 0
Split m ks xs ys j =
    (j < length ks) × (eqb (m / 2 ^ j % 2) 1 ≡ true)
    × ((get_or (values_of ks xs) j 0 ≡ get_or (values_of ks ys) j 0 → ⊥) ⊎ ((is_reference (get_or ks j 0) ≡ true) × (get_or (values_of ks xs) j 0 ≡ 0)))

low_bit : (m : ℕ) → eqb (m % 2) 0 ≡ false → eqb (m / 2 ^ 0 % 2) 1 ≡ true
low_bit m h = let n = eqb-false (m % 2) 0 h in eq-eqb (m / 1 % 2) 1 (rw (div-one m) (omega arith))

next_bit : (m j : ℕ) → eqb (m / 2 / 2 ^ j % 2) 1 ≡ true → eqb (m / 2 ^ suc j % 2) 1 ≡ true
next_bit m j h = rw (pow-succ' 2 j, ← div-div-eq-div-mul m 2 (2 ^ j)) h

pub split : (m : ℕ) (ks : List ℕ) (xs ys : List Reg) → equal_on m ks xs ys ≡ false → (j : ℕ) × Split m ks xs ys j
unfolding equal_on values_of
split m [] xs ys h = clash refl h
split m (k ∷ ks) xs ys h = go (test here) (λ q. split (m / 2) ks (rest xs) (rest ys) q)
  where
    here : Bool
    here = eqb (m % 2) 0 || (eqb (value xs) (value ys) && not (is_reference k && eqb (value xs) 0))

    R : Type 0
    R = (j : ℕ) × Split m (k ∷ ks) xs ys j

    differ : (eqb (value xs) (value ys) ≡ false) ⊎ (not (is_reference k && eqb (value xs) 0) ≡ false)
        → (value xs ≡ value ys → ⊥) ⊎ ((is_reference k ≡ true) × (value xs ≡ 0))
    differ (inl e) = inl (eqb-false (value xs) (value ys) e)
    differ (inr e) = let q = not-false _ e in inr (and_left (is_reference k) _ q, eqb-true (value xs) 0 (and_right (is_reference k) _ q))

    later : (j : ℕ) × Split (m / 2) ks (rest xs) (rest ys) j → R
    later r = (suc r.0, (omega (arith, r.1.0), next_bit m r.0 r.1.1, r.1.2))

    go : (here ≡ true) ⊎ (here ≡ false) → (equal_on (m / 2) ks (rest xs) (rest ys) ≡ false → (j : ℕ) × Split (m / 2) ks (rest xs) (rest ys) j) → R
    go (inl e) ih = later (ih (rw e at h))
    go (inr e) ih = let o = or_false _ _ e in (0, (omega arith, low_bit m o.0, differ (and_false _ _ o.1)))

-- a nonempty reference is among the keys led to
pub leads_to_lem : (p : ℕ → Bool) (ks : List ℕ) (gs : List Reg) (j : ℕ) → j < length ks → p (get_or ks j 0) ≡ true → (get_or (values_of ks gs) j 0 ≡ 0 → ⊥)
    → place (leads_to (get_or ks j 0)) (get_or (values_of ks gs) j 0) ∈ leads p ks gs
unfolding leads values_of
leads_to_lem p [] gs j l e n = absurd (omega arith)
leads_to_lem p (k ∷ ks) gs zero l e n = rw (e, ne_eqb (value gs) 0 n) (Memᴰ.head refl)
leads_to_lem p (k ∷ ks) gs (suc j) l e n = go (p k && not (eqb (value gs) 0)) (leads_to_lem p ks (rest gs) j (omega arith) e n)
  where
    x : ℕ
    x = place (leads_to (get_or ks j 0)) (get_or (values_of ks (rest gs)) j 0)

    go : (b : Bool) → x ∈ leads p ks (rest gs) → x ∈ cond b (place (leads_to k) (value gs) ∷ leads p ks (rest gs)) (leads p ks (rest gs))
    go true h = Memᴰ.tail h
    go false h = h

-- and is a label
reference_label : (k v st : ℕ) → field_rule k v st ≡ true → is_reference k ≡ true → (v ≡ 0 → ⊥) → is_label v ≡ true
unfolding field_rule
reference_label k v st h e n = go (or_cases (not (is_reference k) || eqb v 0) (is_label v) (and_right ((eqb st 0 || is_label st) && (not (eqb st 0) || eqb v 0)) _ h))
  where
    go : ((not (is_reference k) || eqb v 0) ≡ true) ⊎ (is_label v ≡ true) → is_label v ≡ true
    go (inr q) = q
    go (inl q) = clash q (rw (e, ne_eqb v 0 n))

pub value_label : (ks : List ℕ) (gs : List Reg) (j : ℕ) → valid_regs ks gs ≡ true → j < length ks → is_reference (get_or ks j 0) ≡ true
    → (get_or (values_of ks gs) j 0 ≡ 0 → ⊥) → is_label (get_or (values_of ks gs) j 0) ≡ true
unfolding valid_regs values_of
value_label [] gs j h l e n = absurd (omega arith)
value_label (k ∷ ks) [] j h l e n = clash h refl
value_label (k ∷ ks) (g ∷ gs) zero h l e n = reference_label k g.value g.stamp (and_left (field_rule k g.value g.stamp) _ h) e n
value_label (k ∷ ks) (g ∷ gs) (suc j) h l e n = value_label ks gs j (and_right (field_rule k g.value g.stamp) _ h) (omega arith) e n

-- the schema's length, and the relation of a record
pub schema_length_lem : (s : List ℕ) → length (schema_of s) ≡ relations s
unfolding schema_of
schema_length_lem s = listed_length (relations s) (relation_of s)

module _ (s : List ℕ) (x : Rec) (lo : 1 ≤ relation x) (hi : relation x ≤ relations s) where
  pub kinds_length : length (described (schema_of s) x).kinds ≡ field_count s (relation x)
  kinds_length = ap length (kinds_of_lem s x lo hi) ∙ listed_length (field_count s (relation x)) (kind_at s (relation x))

  pub kind_is : (f : ℕ) → 1 ≤ f → f ≤ field_count s (relation x) → get_or (described (schema_of s) x).kinds (f - 1) 0 ≡ kind_at s (relation x) f
  kind_is f a b = rw (kinds_of_lem s x lo hi) (listed_at (field_count s (relation x)) (kind_at s (relation x)) f 0 a b)

  described_is : described (schema_of s) x ≡ relation_of s (relation x)
  unfolding described relation_numbered schema_of
  described_is = listed_at (relations s) (relation_of s) (relation x) no_relation lo hi

  pub first_key : (described (schema_of s) x).key1 ≡ mask_at s (relation x) 1
  unfolding relation_of
  first_key = ap (λ (q : Relation). q.key1) described_is

  pub second_key : (described (schema_of s) x).key2 ≡ mask_at s (relation x) 2
  unfolding relation_of
  second_key = ap (λ (q : Relation). q.key2) described_is
