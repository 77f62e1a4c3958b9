-- The length of a table, and a table spelled by its records.
-- Assumes nothing.
use Prim.Native.Nat.{ℕ, zero, suc, ◌+◌, ◌*◌, ◌-◌, ◌/◌, ◌%◌, ◌≤◌, ◌<◌}
use mathlib.Core.Path.{◌≡◌, refl, ◌∙◌, ap}
use mathlib.Core.Logic.{◌⊎◌, inl, inr}
use mathlib.Core.Bool.{true, false}
use mathlib.Core.List.{List, [], ◌∷◌}
use native.Mathlib.Omega.{arith}
use native.Mathlib.Nat.{mul-le-mul_left, div-add-mod}
use lib.Dec.{leb, ltb, eqb}
use lib.ListN.{length, get_or, drop, get_or-eq_default}
use borrow.Author.Tests.{le-leb, eqb-true, leb-true, ltb-true, ltb-false}
use Rattle.crdt.proofs.Tests.{test}
use Rattle.model.specs.Layout.{header_words, head_words, most_records, word}
use Rattle.model.specs.Shapes.{base_in, capacity_in, next_in, relation_in, label_in, flag_in, value_in, stamp_in, table_length_in, rows_from, turned_record}
use Rattle.wellformed.proofs.Ranges.{parts}
use Rattle.shape_laws.proofs.Rows.{rows_spell}
use Rattle.shape_laws.proofs.Turned.{record_length, record_value, record_stamp}

-- the length of a table
pub record SizedIn (w : ℕ) (t : List ℕ) : Type 0 where
  pub least : header_words ≤ length t
  pub size : length t ≡ header_words + (head_words + 2 * w) * capacity_in w t
  pub most : capacity_in w t ≤ most_records

divided : (a b : ℕ) → 0 < b → a % b ≡ 0 → a ≡ b * (a / b)
divided a b h e = omega (arith, e, div-add-mod a b)

pub sized_in : (w : ℕ) (t : List ℕ) → table_length_in w t ≡ true → SizedIn w t
unfolding table_length_in capacity_in
sized_in w t h =
    let g = parts (leb header_words (length t)) (eqb ((length t - header_words) % (head_words + 2 * w)) 0 ∷ leb (capacity_in w t) most_records ∷ []) h in
    let l = leb-true header_words (length t) g.0 in
    let d = divided (length t - header_words) (head_words + 2 * w) (omega arith) (eqb-true _ _ g.1.0) in
    record { least = l; size = omega (arith, l, d); most = leb-true _ _ g.1.1.0 }

-- past the last record all words are 0
pub past_in : (w : ℕ) (t : List ℕ) → length t ≡ header_words + (head_words + 2 * w) * capacity_in w t → (i k : ℕ) → capacity_in w t < i → word t (base_in w i + k) ≡ 0
unfolding word base_in
past_in w t e i k h = get_or-eq_default t 0 (omega (arith, e, mul-le-mul_left (head_words + 2 * w) (below h)))
  where
    below : capacity_in w t < i → capacity_in w t ≤ i - 1
    below h = omega arith

-- record i, word by word
module _ (v : ℕ) (t : List ℕ) (i : ℕ) where
  pub record_spelled : (k : ℕ) → k < head_words + 2 * v → get_or (turned_record v v t i) k 0 ≡ word t (base_in v i + k)
  unfolding turned_record next_in relation_in label_in flag_in value_in stamp_in
  record_spelled zero h = ap (word t) (omega arith)
  record_spelled (suc zero) h = refl
  record_spelled (suc (suc zero)) h = refl
  record_spelled (suc (suc (suc zero))) h = refl
  record_spelled (suc (suc (suc (suc k)))) h = go (test (ltb k v))
    where
      R : Type 0
      R = get_or (turned_record v v t i) (suc (suc (suc (suc k)))) 0 ≡ word t (base_in v i + suc (suc (suc (suc k))))

      values : k < v → R
      values l =
          let z : suc (suc (suc (suc k))) ≡ head_words - 1 + (k + 1) = omega arith in
          let y : base_in v i + (head_words - 1) + (k + 1) ≡ base_in v i + suc (suc (suc (suc k))) = omega arith in
          ap (λ (a : ℕ). get_or (turned_record v v t i) a 0) z ∙ record_value v v t i (k + 1) (omega arith) (omega arith)
          ∙ rw (le-leb (k + 1) v (omega arith)) (ap (word t) y)

      stamps : v ≤ k → R
      stamps l =
          let z : suc (suc (suc (suc k))) ≡ head_words - 1 + v + (k - v + 1) = omega arith in
          let y : base_in v i + (head_words - 1) + v + (k - v + 1) ≡ base_in v i + suc (suc (suc (suc k))) = omega arith in
          ap (λ (a : ℕ). get_or (turned_record v v t i) a 0) z ∙ record_stamp v v t i (k - v + 1) (omega arith) (omega arith)
          ∙ rw (le-leb (k - v + 1) v (omega arith)) (ap (word t) y)

      go : (ltb k v ≡ true) ⊎ (ltb k v ≡ false) → R
      go (inl e) = values (ltb-true k v e)
      go (inr e) = stamps (ltb-false k v e)

-- the records from 1 + m on
module _ (v : ℕ) (t : List ℕ) where
  base_is : (m k : ℕ) → word t (base_in v (1 + m) + k) ≡ get_or t (header_words + (head_words + 2 * v) * m + k) 0
  unfolding word base_in
  base_is m k = let y : 1 + m - 1 ≡ m = omega arith in rw y

  pub rows_are : (n m : ℕ) → length t ≡ header_words + (head_words + 2 * v) * m + (head_words + 2 * v) * n
      → rows_from (1 + m) n (turned_record v v t) ≡ drop (header_words + (head_words + 2 * v) * m) t
  rows_are =
      rows_spell (head_words + 2 * v) (turned_record v v t) t header_words (record_length v v t) (λ m k h. record_spelled v t (1 + m) k h ∙ base_is m k)
