-- Turned and turned back.
-- Assumes nothing.
use Prim.Native.Nat.{ℕ, zero, suc, ◌+◌, ◌*◌, ◌-◌, ◌≤◌, ◌<◌}
use mathlib.Core.Path.{◌≡◌, refl, sym, ◌∙◌, ap}
use mathlib.Core.Logic.{◌⊎◌, inl, inr}
use mathlib.Core.Bool.{true, false, cond}
use mathlib.Core.List.{List, [], ◌∷◌, ◌++◌}
use native.Mathlib.Omega.{arith}
use native.Mathlib.Nat.{mul-zero}
use lib.Dec.{leb, ltb}
use lib.ListN.{length, get_or, take, drop, take-append-drop}
use lib.Seq.{take-append_seam}
use borrow.Author.Tests.{le-leb, leb-true, leb-false, ltb-true, ltb-false}
use Rattle.crdt.proofs.Tests.{test}
use Rattle.model.specs.Layout.{most_relations, header_words, head_words, word, relations}
use Rattle.model.specs.Shapes.{block_in, count_in, kind_in, mask_in, capacity_in, value_in, stamp_in}
use Rattle.model.specs.Shapes.{rows_from, fields_turned, turned_block, turned_schema, turned_record, turned_table}
use Rattle.wellformed.proofs.Ranges.{listed_length, listed_at, listed_is}
use Rattle.shape_laws.proofs.Rows.{rows_ext, rows_spell}
use Rattle.shape_laws.proofs.Turned.{head_length, capacity_of_lem, next_turned, relation_turned, label_turned, flag_turned, value_turned, stamp_turned}
use Rattle.shape_laws.proofs.Turned.{count_turned, kind_turned, mask_turned, relations_turned, block_length, block_kind, block_mask}
use Rattle.shape_laws.proofs.Spelled.{SizedIn, rows_are}

-- fields there and back, where what is lost was 0
fields_back : (v w : ℕ) (x y : ℕ → ℕ) → ((j : ℕ) → 1 ≤ j → j ≤ w → y j ≡ cond (leb j v) (x j) 0) → ((j : ℕ) → w < j → j ≤ v → x j ≡ 0)
    → fields_turned w v y ≡ fields_turned v v x
unfolding fields_turned
fields_back v w x y e l = listed_is v _ _ 0 (listed_length v _) (λ j a b. go j a b (test (leb j w)) ∙ sym (listed_at v _ j 0 a b ∙ rw (le-leb j v b)))
  where
    go : (j : ℕ) → 1 ≤ j → j ≤ v → (leb j w ≡ true) ⊎ (leb j w ≡ false) → cond (leb j w) (y j) 0 ≡ x j
    go j a b (inl h) = rw h (e j a (leb-true j w h) ∙ rw (le-leb j v b))
    go j a b (inr h) = rw h (sym (l j (leb-false j w h) b))

header_back : (v w : ℕ) (t : List ℕ) → header_words ≤ length t → take header_words (turned_table v w t) ≡ take header_words t
unfolding turned_table
header_back v w t h = rw (head_length v w t h) at (take-append_seam (take header_words t) (rows_from 1 (capacity_in v t) (turned_record v w t)))

-- there and back, where what is lost was 0
module _ (v w : ℕ) (t : List ℕ) (z : SizedIn v t)
    (lost : (i : ℕ) → 1 ≤ i → i ≤ capacity_in v t → (j : ℕ) → w < j → j ≤ v → (value_in v t i j ≡ 0) × (stamp_in v t i j ≡ 0)) where
  record_back : (i : ℕ) → 1 ≤ i → i ≤ capacity_in v t → turned_record w v (turned_table v w t) i ≡ turned_record v v t i
  unfolding turned_record
  record_back i a b =
      let l = z.least in
      let values = fields_back v w (value_in v t i) (value_in w (turned_table v w t) i) (value_turned v w t l i a b) (λ j c d. (lost i a b j c d).0) in
      let stamps = fields_back v w (stamp_in v t i) (stamp_in w (turned_table v w t) i) (stamp_turned v w t l i a b) (λ j c d. (lost i a b j c d).1) in
      rw (next_turned v w t l i a b, relation_turned v w t l i a b, label_turned v w t l i a b, flag_turned v w t l i a b, values, stamps)

  pub table_back : turned_table w v (turned_table v w t) ≡ t
  table_back =
      let records = rows_ext (turned_record w v (turned_table v w t)) (turned_record v v t) 1 (capacity_in v t) (λ i a b. record_back i a (omega arith)) in
      open_back ∙ rw (header_back v w t z.least, capacity_of_lem v w t z.least, records, rest) (take-append-drop header_words t)
    where
      open_back : turned_table w v (turned_table v w t) ≡ take header_words (turned_table v w t) ++ rows_from 1 (capacity_in w (turned_table v w t)) (turned_record w v (turned_table v w t))
      open_back = unfold turned_table in refl

      rest : rows_from 1 (capacity_in v t) (turned_record v v t) ≡ drop header_words t
      rest =
          let e : length t ≡ header_words + (head_words + 2 * v) * 0 + (head_words + 2 * v) * capacity_in v t = omega (arith, z.size, mul-zero (head_words + 2 * v)) in
          let y : header_words + (head_words + 2 * v) * 0 ≡ header_words = omega (arith, mul-zero (head_words + 2 * v)) in
          rw y at (rows_are v t (capacity_in v t) 0 e)

block_is : (v : ℕ) (s : List ℕ) (m k : ℕ) → word s (block_in v (1 + m) + k) ≡ get_or s (1 + (v + 4) * m + k) 0
unfolding word block_in
block_is v s m k = let y : 1 + m - 1 ≡ m = omega arith in rw y

module _ (v : ℕ) (s : List ℕ) (r : ℕ) where
  block_spelled : (k : ℕ) → k < v + 4 → get_or (turned_block v v s r) k 0 ≡ word s (block_in v r + k)
  unfolding count_in kind_in mask_in
  block_spelled zero h = (unfold turned_block in ap (word s) (omega arith))
  block_spelled (suc k) h = go (test (ltb k v))
    where
      go : (ltb k v ≡ true) ⊎ (ltb k v ≡ false) → get_or (turned_block v v s r) (suc k) 0 ≡ word s (block_in v r + suc k)
      go (inl e) = let l = ltb-true k v e in block_kind v v s r (suc k) (omega arith) (omega arith) ∙ rw (le-leb (suc k) v (omega arith))
      go (inr e) =
          let l = ltb-false k v e in
          let z : suc k ≡ v + (suc k - v) = omega arith in
          let y : block_in v r + v + (suc k - v) ≡ block_in v r + suc k = omega arith in
          ap (λ (j : ℕ). get_or (turned_block v v s r) j 0) z ∙ block_mask v v s r (suc k - v) (omega arith) (omega arith) ∙ ap (word s) y

module _ (v w : ℕ) (s : List ℕ) (size : length s ≡ 1 + (v + 4) * most_relations)
    (lost : (r : ℕ) → 1 ≤ r → r ≤ most_relations → (j : ℕ) → w < j → j ≤ v → kind_in v s r j ≡ 0) where
  block_back : (r : ℕ) → 1 ≤ r → r ≤ most_relations → turned_block w v (turned_schema v w s) r ≡ turned_block v v s r
  unfolding turned_block
  block_back r a b =
      let mask = mask_turned v w s r a b in
      let kinds = fields_back v w (kind_in v s r) (kind_in w (turned_schema v w s) r) (kind_turned v w s r a b) (lost r a b) in
      rw (count_turned v w s r a b, mask 1 (omega arith) (omega arith), mask 2 (omega arith) (omega arith), mask 3 (omega arith) (omega arith), kinds)

  pub schema_back : turned_schema w v (turned_schema v w s) ≡ s
  schema_back =
      let blocks = rows_ext (turned_block w v (turned_schema v w s)) (turned_block v v s) 1 most_relations (λ r a b. block_back r a (omega arith)) in
      open_back ∙ rw (relations_turned v w s, blocks, rest) (first s size)
    where
      open_back : turned_schema w v (turned_schema v w s) ≡ relations (turned_schema v w s) ∷ rows_from 1 most_relations (turned_block w v (turned_schema v w s))
      open_back = unfold turned_schema in refl

      word_is : (m k : ℕ) → k < v + 4 → get_or (turned_block v v s (1 + m)) k 0 ≡ get_or s (1 + (v + 4) * m + k) 0
      word_is m k h = block_spelled v s (1 + m) k h ∙ block_is v s m k

      rest : rows_from 1 most_relations (turned_block v v s) ≡ drop 1 s
      rest =
          let y : 1 + (v + 4) * 0 ≡ 1 = omega (arith, mul-zero (v + 4)) in
          rw y at (rows_spell (v + 4) (turned_block v v s) s 1 (block_length v v s) word_is most_relations 0 (omega (arith, size, mul-zero (v + 4))))

      first : (l : List ℕ) → length l ≡ 1 + (v + 4) * most_relations → relations l ∷ drop 1 l ≡ l
      first [] e = absurd (omega arith)
      first (x ∷ l) e = unfold relations in unfold word in refl
