-- A table's value word by word: the encoding of a value spells it, and nothing else does.
-- Assumes nothing.
use Prim.Native.Nat.{ℕ, zero, suc, ◌+◌, ◌*◌, ◌-◌, ◌/◌, ◌%◌, ◌≤◌, ◌<◌}
use mathlib.Core.Path.{◌≡◌, refl, sym, ◌∙◌, ap}
use mathlib.Core.Bool.{true, false}
use mathlib.Core.List.{List}
use mathlib.Core.Logic.{◌⊎◌, inl, inr}
use native.Mathlib.Omega.{arith}
use lib.Dec.{ltb, leb}
use lib.ListN.{length, get_or, replicate, length-replicate, get_or-replicate, get_or-eq_default}
use lib.Seq.{ext_get_or, get_or-drop}
use borrow.Author.Tests.{ltb-true, ltb-false, leb-true, leb-false}
use Rattle.crdt.specs.Cells.{no_reg}
use Rattle.crdt.proofs.Tests.{test}
use Rattle.model.specs.Layout.{fields, most_relations, first_words, head_words, header_words, record_words, word, base, replica_at, clock_at, used_at, first_at, next_at, relation_at, label_at, flag_at, value_at, stamp_at}
use Rattle.model.specs.Records.{relation, label}
use Rattle.model.specs.Tables.{Table, encode, follower}
use Rattle.wellformed.proofs.Words.{Fits, enc_replica, enc_clock, enc_used, enc_zero, enc_zeros, enc_first, enc_next, enc_relation, enc_label, enc_flag, enc_value, enc_stamp, encode_length, enc_rest}
use Rattle.merge_laws.specs.Absorb.{nth}

-- Words t spell value v.
pub record Spells (t : List ℕ) (v : Table) : Type 0 where
  pub size : length t ≡ header_words + record_words * v.capacity
  pub replica : word t 0 ≡ v.replica
  pub clock : word t 1 ≡ v.clock
  pub used : word t 2 ≡ length v.records
  pub third : word t 3 ≡ 0
  pub firsts : (k : ℕ) → first_words ≤ k → k < first_words + most_relations → word t k ≡ follower v.records (k - (first_words - 1)) 0
  pub zeros : (k : ℕ) → first_words + most_relations ≤ k → k < header_words → word t k ≡ 0
  pub nexts : (i : ℕ) → 1 ≤ i → i ≤ length v.records → word t (base i) ≡ follower v.records (relation (nth v.records i)) (nth v.records i).key
  pub relations : (i : ℕ) → 1 ≤ i → i ≤ length v.records → word t (base i + 1) ≡ relation (nth v.records i)
  pub labels : (i : ℕ) → 1 ≤ i → i ≤ length v.records → word t (base i + 2) ≡ label (nth v.records i)
  pub flags : (i : ℕ) → 1 ≤ i → i ≤ length v.records → word t (base i + 3) ≡ (nth v.records i).cell.flag
  pub values : (i : ℕ) → 1 ≤ i → i ≤ length v.records → (j : ℕ) → j < fields → word t (base i + head_words + j) ≡ (get_or (nth v.records i).cell.regs j no_reg).value
  pub stamps : (i : ℕ) → 1 ≤ i → i ≤ length v.records → (j : ℕ) → j < fields → word t (base i + head_words + fields + j) ≡ (get_or (nth v.records i).cell.regs j no_reg).stamp
  pub rest : (k : ℕ) → base (length v.records + 1) ≤ k → word t k ≡ 0

zeros_at : (n k : ℕ) → ◌≡◌ {A = ℕ} (get_or (replicate n 0) k 0) 0
zeros_at n k = go (test (ltb k n))
  where
    go : (ltb k n ≡ true) ⊎ (ltb k n ≡ false) → ◌≡◌ {A = ℕ} (get_or (replicate n 0) k 0) 0
    go (inl p) = get_or-replicate n k 0 0 (ltb-true k n p)
    go (inr p) = get_or-eq_default (replicate n 0) 0 (let q = ltb-false k n p in omega (arith, length-replicate {A = ℕ} n 0))

word_to : (t : List ℕ) (a b x : ℕ) → a ≡ b → word t a ≡ x → word t b ≡ x
word_to t a b x e h = rw e at h

-- The encoding of a value spells it.
module _ (v : Table) (w : Fits v) where
  spelled_rest : (k : ℕ) → base (length v.records + 1) ≤ k → word (encode v) k ≡ 0
  unfolding word
  spelled_rest k h =
      let n = base (length v.records + 1) in
      let e : k ≡ n + (k - n) = omega arith in
      ap (λ (m : ℕ). get_or (encode v) m 0) e ∙ sym (get_or-drop n (encode v) (k - n) 0)
      ∙ ap (λ (l : List ℕ). get_or l (k - n) 0) (rw (enc_used v) at (enc_rest v w)) ∙ zeros_at (record_words * (v.capacity - length v.records)) (k - n)

  pub encode_spells : Spells (encode v) v
  unfolding replica_at clock_at used_at first_at next_at relation_at label_at flag_at value_at stamp_at
  encode_spells =
      let t = encode v in
      let z = w.sized in
      record {
        size = encode_length v w;
        replica = enc_replica v;
        clock = enc_clock v;
        used = enc_used v;
        third = enc_zero v;
        firsts = λ k a b. word_to t (first_words + (k - (first_words - 1) - 1)) k _ (omega arith) (enc_first v (k - (first_words - 1)) (omega arith) (omega arith));
        zeros = λ k a b. word_to t (first_words + most_relations + (k - (first_words + most_relations - 1) - 1)) k 0 (omega arith) (enc_zeros v (k - (first_words + most_relations - 1)) (omega arith) (omega arith));
        nexts = λ i a b. enc_next v z i a b;
        relations = λ i a b. enc_relation v z i a b;
        labels = λ i a b. enc_label v z i a b;
        flags = λ i a b. enc_flag v z i a b;
        values = λ i a b j c. word_to t (base i + (head_words - 1) + (j + 1)) _ _ (omega arith) (enc_value v z i a b (j + 1) (omega arith) (omega arith) ∙ ap (λ (n : ℕ). (get_or (nth v.records i).cell.regs n no_reg).value) (back j));
        stamps = λ i a b j c. word_to t (base i + (head_words - 1) + fields + (j + 1)) _ _ (omega arith) (enc_stamp v z i a b (j + 1) (omega arith) (omega arith) ∙ ap (λ (n : ℕ). (get_or (nth v.records i).cell.regs n no_reg).stamp) (back j));
        rest = spelled_rest;
      }
    where
      back : (j : ℕ) → j + 1 - 1 ≡ j
      back j = omega arith

-- Words that spell one value are the same.
module _ (t u : List ℕ) (v : Table) (a : Spells t v) (b : Spells u v) where
  abbrev Same : ℕ → Type 0
  Same k = word t k ≡ word u k

  same_header : (k : ℕ) → k < header_words → (ltb k first_words ≡ true) ⊎ (ltb k first_words ≡ false) → (ltb k (first_words + most_relations) ≡ true) ⊎ (ltb k (first_words + most_relations) ≡ false) → Same k
  same_header zero h p q = a.replica ∙ sym b.replica
  same_header (suc zero) h p q = a.clock ∙ sym b.clock
  same_header (suc (suc zero)) h p q = a.used ∙ sym b.used
  same_header (suc (suc (suc zero))) h p q = a.third ∙ sym b.third
  same_header (suc (suc (suc (suc k)))) h p (inl q) =
      let g : suc (suc (suc (suc k))) < first_words + most_relations = ltb-true (suc (suc (suc (suc k)))) (first_words + most_relations) q in
      a.firsts _ (omega arith) (omega arith) ∙ sym (b.firsts _ (omega arith) (omega arith))
  same_header (suc (suc (suc (suc k)))) h p (inr q) =
      let g : first_words + most_relations ≤ suc (suc (suc (suc k))) = ltb-false (suc (suc (suc (suc k)))) (first_words + most_relations) q in
      a.zeros _ (omega arith) (omega arith) ∙ sym (b.zeros _ (omega arith) (omega arith))

  module _ (i : ℕ) (l : 1 ≤ i) (m : i ≤ length v.records) where
    same_field : (f : ℕ) → f < record_words → (ltb f head_words ≡ true) ⊎ (ltb f head_words ≡ false) → (ltb f (head_words + fields) ≡ true) ⊎ (ltb f (head_words + fields) ≡ false) → Same (base i + f)
    same_field zero h p q = word_to₂ (base i) (base i + 0) (omega arith) (a.nexts i l m ∙ sym (b.nexts i l m))
      where
        word_to₂ : (x y : ℕ) → x ≡ y → word t x ≡ word u x → word t y ≡ word u y
        word_to₂ x y e h = rw e at h
    same_field (suc zero) h p q = a.relations i l m ∙ sym (b.relations i l m)
    same_field (suc (suc zero)) h p q = a.labels i l m ∙ sym (b.labels i l m)
    same_field (suc (suc (suc zero))) h p q = a.flags i l m ∙ sym (b.flags i l m)
    same_field (suc (suc (suc (suc f)))) h p (inl q) =
        let g : suc (suc (suc (suc f))) < head_words + fields = ltb-true (suc (suc (suc (suc f)))) (head_words + fields) q in
        let e : base i + head_words + f ≡ base i + suc (suc (suc (suc f))) = omega arith in
        rw e at (a.values i l m f (omega arith) ∙ sym (b.values i l m f (omega arith)))
    same_field (suc (suc (suc (suc f)))) h p (inr q) =
        let g : head_words + fields ≤ suc (suc (suc (suc f))) = ltb-false (suc (suc (suc (suc f)))) (head_words + fields) q in
        let e : base i + head_words + fields + (f - fields) ≡ base i + suc (suc (suc (suc f))) = omega arith in
        rw e at (a.stamps i l m (f - fields) (omega arith) ∙ sym (b.stamps i l m (f - fields) (omega arith)))

  past : (k i : ℕ) → header_words ≤ k → i ≡ (k - header_words) / record_words + 1 → length v.records < i → base (length v.records + 1) ≤ k
  unfolding base
  past k i h e l = omega arith

  field_of : (k i : ℕ) → header_words ≤ k → i ≡ (k - header_words) / record_words + 1 → base i + (k - header_words) % record_words ≡ k
  unfolding base
  field_of k i h e = omega arith

  same_word : (k : ℕ) → Same k
  same_word k = go (test (ltb k header_words)) (test (leb ((k - header_words) / record_words + 1) (length v.records)))
    where
      i : ℕ
      i = (k - header_words) / record_words + 1

      to : (x y : ℕ) → x ≡ y → Same x → Same y
      to x y e h = rw e at h

      go : (ltb k header_words ≡ true) ⊎ (ltb k header_words ≡ false) → (leb ((k - header_words) / record_words + 1) (length v.records) ≡ true) ⊎ (leb ((k - header_words) / record_words + 1) (length v.records) ≡ false) → Same k
      go (inl p) q = same_header k (ltb-true _ _ p) (test (ltb k first_words)) (test (ltb k (first_words + most_relations)))
      go (inr p) (inl q) =
          let f = (k - header_words) % record_words in
          to _ k (field_of k ((k - header_words) / record_words + 1) (ltb-false _ _ p) refl)
          (same_field ((k - header_words) / record_words + 1) (omega arith) (leb-true _ _ q) f (omega arith) (test (ltb f head_words)) (test (ltb f (head_words + fields))))
      go (inr p) (inr q) =
          let h = past k ((k - header_words) / record_words + 1) (ltb-false _ _ p) refl (leb-false _ _ q) in
          a.rest k h ∙ sym (b.rest k h)

  pub spells_one : t ≡ u
  unfolding word
  spells_one = ext_get_or 0 t u (a.size ∙ sym b.size) (λ k h. same_word k)

pub spells_encode : (t : List ℕ) (v : Table) → Fits v → Spells t v → t ≡ encode v
spells_encode t v w s = spells_one t (encode v) v s (encode_spells v w)
