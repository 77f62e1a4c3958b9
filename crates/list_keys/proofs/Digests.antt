-- The digest of a key's values: its bound, the loop over the fields, and that records in conflict on a key have the same.
-- Assumes nothing.
use Prim.Native.Nat.{ℕ, zero, suc, ◌+◌, ◌*◌, ◌-◌, ◌/◌, ◌%◌, ◌≤◌, ◌<◌}
use mathlib.Core.Path.{◌≡◌, refl, sym, ◌∙◌, ap}
use mathlib.Core.Logic.{◌⊎◌, inl, inr}
use mathlib.Core.Bool.{true, false, ◌&&◌, not}
use mathlib.Core.List.{List, [], ◌∷◌}
use native.Mathlib.Omega.{arith}
use native.Mathlib.Nat.{sub-zero}
use native.Mathlib.Numerals.{add-one}
use lib.Dec.{eqb}
use lib.ListN.{length, get_or}
use borrow.Author.Tests.{eqb-true, eq-eqb, ne_eqb}
use Rattle.crdt.specs.Cells.{Reg}
use Rattle.crdt.proofs.Tests.{test, and_left, and_right, and_both}
use Rattle.model.specs.Layout.{head_words, base, field_count, kind_at, used_at, relation_at}
use Rattle.model.specs.Lists.{listed}
use Rattle.model.specs.Schemas.{Relation, is_reference, broken, schema_of}
use Rattle.model.specs.Records.{Rec, relation}
use Rattle.model.specs.Tables.{record_of}
use Rattle.model.specs.WellFormed.{well_formed}
use Rattle.model.specs.Shown.{described, value, rest, equal_on, conflict_on}
use Rattle.list_conflicts.specs.Keys.{registers, values_conflict, values_at}
use Rattle.list_keys.specs.Buckets.{digests, half, spread, buckets, share, mixed, digest_from, digest_of, bucket_at}
use Rattle.list_conflicts.proofs.Keys.{part_at, part_values, field_agrees, onward, onward_start, onward_step, values_length, few_fields, records_on}

-- one field more
module _ (d m v : ℕ) where
  pub mix_none : m % 2 ≡ 0 → d ≡ mixed d m v
  unfolding mixed
  mix_none e = rw (eq-eqb (m % 2) 0 e)

  pub mix_one : (m % 2 ≡ 0 → ⊥) → (d + v % half + v / half) * spread % digests ≡ mixed d m v
  unfolding mixed
  mix_one n = rw (ne_eqb (m % 2) 0 n)

  pub mixed_below : d < digests → mixed d m v < digests
  unfolding mixed
  mixed_below h = go (test (eqb (m % 2) 0))
    where
      go : (eqb (m % 2) 0 ≡ true) ⊎ (eqb (m % 2) 0 ≡ false) → mixed d m v < digests
      go (inl e) = rw e h
      go (inr e) = rw e (omega arith)

digest_below : (n d m j : ℕ) (vs : List ℕ) → d < digests → digest_from d m j n vs < digests
unfolding digest_from
digest_below zero d m j vs h = h
digest_below (suc n) d m j vs h = digest_below n (mixed d m (get_or vs j 0)) (m / 2) (suc j) vs (mixed_below d m (get_or vs j 0) h)

pub bucket_below : (s t : List ℕ) (m i : ℕ) → bucket_at s t m i < buckets
unfolding bucket_at digest_of
bucket_below s t m i = let h = digest_below (field_count s (relation_at t i)) 0 m 0 (values_at t i) (omega arith) in omega arith

-- the bucket by the part of the table that is record i's values
pub bucket_is : (s t : List ℕ) (i r p m x : ℕ) → r ≡ relation_at t i → p ≡ base i + head_words → x ≡ digest_of s r m (part_at t p) → x / share ≡ bucket_at s t m i
unfolding bucket_at
bucket_is s t i r p m x e f h = ap (λ (d : ℕ). d / share) (rw (part_values t p i f, e) at h)

-- the loop over the fields
pub digest_start : (s : List ℕ) (r m : ℕ) (vs : List ℕ) → digest_of s r m vs ≡ digest_from 0 m 0 (field_count s r - 0) vs
unfolding digest_of
digest_start s r m vs = rw (sub-zero (field_count s r))

module _ (vs : List ℕ) (F : ℕ) where
  pub digest_turn : (z d m j e : ℕ) → z ≡ digest_from d m j (F - j) vs → j < F → e ≡ mixed d m (get_or vs j 0) → z ≡ digest_from e (m / 2) (j + 1) (F - (j + 1)) vs
  unfolding digest_from
  digest_turn z d m j e h l f =
      let q : F - j ≡ suc (F - suc j) = omega arith in
      let g : z ≡ digest_from d m j (suc (F - suc j)) vs = rw q at h in
      rw (f, add-one j) g

  pub digest_end : (z d m j : ℕ) → z ≡ digest_from d m j (F - j) vs → F ≤ j → d ≡ z
  unfolding digest_from
  digest_end z d m j h l = let q : F - j ≡ 0 = omega arith in sym (rw q at h)

-- values that agree on a field of the key are the same there
agreed : (d m k x y : ℕ) → field_agrees m k x y ≡ true → mixed d m x ≡ mixed d m y
unfolding mixed
agreed d m k x y h = go (test (eqb (m % 2) 0))
  where
    go : (eqb (m % 2) 0 ≡ true) ⊎ (eqb (m % 2) 0 ≡ false) → mixed d m x ≡ mixed d m y
    go (inl e) = rw e
    go (inr e) = ap (λ (v : ℕ). mixed d m v) (eqb-true x y (and_left (eqb x y) (not (is_reference k && eqb x 0)) (rw e at h)))

module _ (kind : ℕ → ℕ) (F : ℕ) (a b : List ℕ) (p : F ≤ length a) (q : F ≤ length b) where
  onward_same : (n d m j : ℕ) → j + n ≡ F → onward kind F a b m j ≡ true → digest_from d m j n a ≡ digest_from d m j n b
  unfolding digest_from
  onward_same zero d m j e h = refl
  onward_same (suc n) d m j e h =
      let g = sym (onward_step kind F a b m j (omega arith) (omega arith) (omega arith)) ∙ h in
      let x = agreed d m (kind (j + 1)) (get_or a j 0) (get_or b j 0) (and_left (field_agrees m (kind (j + 1)) (get_or a j 0) (get_or b j 0)) (onward kind F a b (m / 2) (j + 1)) g) in
      let y = and_right (field_agrees m (kind (j + 1)) (get_or a j 0) (get_or b j 0)) (onward kind F a b (m / 2) (j + 1)) g in
      let z = onward_same n (mixed d m (get_or b j 0)) (m / 2) (suc j) (omega arith) (rw (add-one j) at y) in
      rw x z

-- a record that conflicts with another on a key conflicts with itself
agree_left : (m k x y : ℕ) → field_agrees m k x y ≡ true → field_agrees m k x x ≡ true
agree_left m k x y h = go (test (eqb (m % 2) 0))
  where
    go : (eqb (m % 2) 0 ≡ true) ⊎ (eqb (m % 2) 0 ≡ false) → field_agrees m k x x ≡ true
    go (inl e) = rw e
    go (inr e) =
        let g : (eqb x y && not (is_reference k && eqb x 0)) ≡ true = rw e at h in
        rw e (and_both (eqb x x) (not (is_reference k && eqb x 0)) (eq-eqb x x refl) (and_right (eqb x y) (not (is_reference k && eqb x 0)) g))

agree_right : (m k x y : ℕ) → field_agrees m k x y ≡ true → field_agrees m k y y ≡ true
agree_right m k x y h = go (test (eqb (m % 2) 0))
  where
    go : (eqb (m % 2) 0 ≡ true) ⊎ (eqb (m % 2) 0 ≡ false) → field_agrees m k y y ≡ true
    go (inl e) = rw e
    go (inr e) =
        let g : (eqb x y && not (is_reference k && eqb x 0)) ≡ true = rw e at h in
        let q : x ≡ y = eqb-true x y (and_left (eqb x y) (not (is_reference k && eqb x 0)) g) in
        agree_left m k y y (ap (λ (v : ℕ). field_agrees m k v y) (sym q) ∙ h)

equal_left : (m : ℕ) (ks : List ℕ) (xs ys : List Reg) → equal_on m ks xs ys ≡ true → equal_on m ks xs xs ≡ true
unfolding equal_on
equal_left m [] xs ys h = refl
equal_left m (k ∷ ks) xs ys h =
    let f = field_agrees m k (value xs) (value ys) in
    let g = equal_on (m / 2) ks (rest xs) (rest ys) in
    and_both (field_agrees m k (value xs) (value xs)) (equal_on (m / 2) ks (rest xs) (rest xs))
    (agree_left m k (value xs) (value ys) (and_left f g h)) (equal_left (m / 2) ks (rest xs) (rest ys) (and_right f g h))

equal_right : (m : ℕ) (ks : List ℕ) (xs ys : List Reg) → equal_on m ks xs ys ≡ true → equal_on m ks ys ys ≡ true
unfolding equal_on
equal_right m [] xs ys h = refl
equal_right m (k ∷ ks) xs ys h =
    let f = field_agrees m k (value xs) (value ys) in
    let g = equal_on (m / 2) ks (rest xs) (rest ys) in
    and_both (field_agrees m k (value ys) (value ys)) (equal_on (m / 2) ks (rest ys) (rest ys))
    (agree_right m k (value xs) (value ys) (and_left f g h)) (equal_right (m / 2) ks (rest xs) (rest ys) (and_right f g h))

module _ (σ : List Relation) (m : ℕ) (x y : Rec) (h : conflict_on σ m x y ≡ true) where
  pub conflict_left : conflict_on σ m x x ≡ true
  unfolding conflict_on
  conflict_left =
      let f = not (eqb m 0) in
      let g = equal_on m (described σ x).kinds x.cell.regs y.cell.regs in
      and_both f (equal_on m (described σ x).kinds x.cell.regs x.cell.regs) (and_left f g h) (equal_left m _ x.cell.regs y.cell.regs (and_right f g h))

  pub conflict_right : relation x ≡ relation y → conflict_on σ m y y ≡ true
  unfolding conflict_on described
  conflict_right e =
      let f = not (eqb m 0) in
      let g = equal_on m (described σ x).kinds x.cell.regs y.cell.regs in
      rw (← e) (and_both f (equal_on m (described σ x).kinds y.cell.regs y.cell.regs) (and_left f g h) (equal_right m _ x.cell.regs y.cell.regs (and_right f g h)))

-- records in conflict on a key are of one bucket
module _ (s t : List ℕ) (b : broken s ≡ false) (w : well_formed s t ≡ true) where
  pub conflict_bucket : (m i j : ℕ) → 1 ≤ i → i ≤ used_at t → 1 ≤ j → j ≤ used_at t → relation_at t i ≡ relation_at t j
      → conflict_on (schema_of s) m (record_of t i) (record_of t j) ≡ true → bucket_at s t m i ≡ bucket_at s t m j
  unfolding bucket_at digest_of values_conflict
  conflict_bucket m i j a l p q e h =
      let r = relation_at t i in
      let F = field_count s r in
      let v = records_on s t b w i j a l p q m ∙ h in
      let g = and_right (not (eqb m 0)) (equal_on m (listed F (kind_at s r)) (registers (values_at t i)) (registers (values_at t j))) v in
      let o = sym (onward_start (kind_at s r) F (values_at t i) (values_at t j) m) ∙ g in
      let f = few_fields s t b w i a l in
      let x : F ≤ length (values_at t i) = omega (arith, values_length s t b w i a l) in
      let y : F ≤ length (values_at t j) = omega (arith, values_length s t b w j p q) in
      rw (← e) (ap (λ (d : ℕ). d / share) (onward_same (kind_at s r) F (values_at t i) (values_at t j) x y F 0 m 0 (omega arith) o))
