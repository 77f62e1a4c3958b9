-- Rows written one behind the other, after a head.
-- Assumes nothing.
use Prim.Native.Nat.{ℕ, zero, suc, ◌+◌, ◌*◌, ◌-◌, ◌≤◌, ◌<◌}
use mathlib.Core.Path.{◌≡◌, refl, sym, ◌∙◌, ap}
use mathlib.Core.List.{List, [], ◌∷◌, ◌++◌, append_assoc, append-nil}
use native.Mathlib.Omega.{arith}
use native.Mathlib.Nat.{mul-suc, mul-zero, mul-le-mul_left}
use lib.ListN.{length, take, drop, length-drop}
use lib.Seq.{paste, length-paste, take-paste, take_all, length-take-le}
use borrow.Rule.Slice.PartMut.{put_mid}
use Rattle.model.specs.Layout.{most_relations, header_words, head_words, word, relations}
use Rattle.model.specs.Shapes.{block_in, count_in, kind_in, mask_in, base_in, capacity_in, next_in, relation_in, label_in, flag_in, value_in, stamp_in}
use Rattle.model.specs.Shapes.{rows_from, turned_block, turned_schema, turned_record, turned_table}
use Rattle.shape_laws.proofs.Turned.{record_length, head_length, block_length}
use Rattle.shape_turn.specs.Rows.{fields_after, row_turned, block_turned}
use Rattle.shape_turn.proofs.Pasted.{part_written}

rows_snoc : (f : ℕ → List ℕ) (i n : ℕ) → rows_from i (suc n) f ≡ rows_from i n f ++ f (i + n)
unfolding rows_from
rows_snoc f i zero = let z : i + 0 ≡ i = omega arith in rw z (append-nil (f i))
rows_snoc f i (suc n) =
    let z : i + suc n ≡ suc i + n = omega arith in
    rw z (ap (λ (l : List ℕ). f i ++ l) (rows_snoc f (suc i) n) ∙ sym (append_assoc (f i) (rows_from (suc i) n f) (f (suc i + n))))

-- room for one row more
pub room : (h size i n : ℕ) → i < n → h + size * i + size ≤ h + size * n
room h size i n a = omega (arith, mul-suc size i, mul-le-mul_left size (more a))
  where
    more : i < n → suc i ≤ n
    more a = omega arith

-- the part of a row
pub part_long : (to : List ℕ) (q n : ℕ) → q + n ≤ length to → length (take (q + n - q) (drop q to)) ≡ n
part_long to q n h =
    let z : q + n - q ≡ n = omega arith in
    rw z (length-take-le n (drop q to) (omega (arith, length-drop q to)))

module _ (head : List ℕ) (h size : ℕ) (f : ℕ → List ℕ) (at_head : length head ≡ h) (sized : (i : ℕ) → length (f i) ≡ size) where
  -- the head and i rows
  abbrev pub Written : ℕ → List ℕ → Type 0
  Written i to = take (h + size * i) to ≡ head ++ rows_from 1 i f

  pub none_written : (to₀ to src : List ℕ) → h ≤ length to₀ → h ≤ length src → take h src ≡ head → to ≡ paste to₀ 0 src h → (length to ≡ length to₀) × Written 0 to
  unfolding rows_from
  none_written to₀ to src a b e g =
      let z : h + size * 0 ≡ 0 + h = omega (arith, mul-zero size) in
      (rw g (length-paste to₀ 0 src h (omega arith) b), rw (z, g) (take-paste to₀ 0 src h (omega arith) b) ∙ e ∙ sym (append-nil head))

  pub row_written : (i : ℕ) (to to' row : List ℕ) → Written i to → h + size * i + size ≤ length to → row ≡ f (i + 1) → to' ≡ paste to (h + size * i) row size
      → (length to' ≡ length to) × Written (i + 1) to'
  row_written i to to' row w a e g =
      let y : i + 1 ≡ suc i = omega arith in
      let x : 1 + i ≡ suc i = omega arith in
      let z : h + size * suc i ≡ h + size * i + size = omega (arith, mul-suc size i) in
      let l : length row ≡ size = rw e (sized (i + 1)) in
      let t : take (h + size * i + size) to' ≡ take (h + size * i) to ++ take size row = rw g (take-paste to (h + size * i) row size (omega arith) (omega (arith, l))) in
      let u : take (h + size * i) to ++ take size row ≡ head ++ rows_from 1 i f ++ f (suc i) = rw (w, take_all size row (omega (arith, l)), e, y) in
      let v : rows_from 1 i f ++ f (suc i) ≡ rows_from 1 (suc i) f = sym (rw x at (rows_snoc f 1 i)) in
      (rw g (length-paste to (h + size * i) row size a (omega (arith, l))), rw (y, z) (t ∙ u ∙ append_assoc head (rows_from 1 i f) (f (suc i)) ∙ ap (λ (k : List ℕ). head ++ k) v))

  pub all_written : (i n : ℕ) (to : List ℕ) → i ≤ n → n ≤ i → length to ≡ h + size * n → Written i to → to ≡ head ++ rows_from 1 n f
  all_written i n to a b e w =
      let z : i ≡ n = omega arith in
      sym (take_all (h + size * n) to (omega (arith, e))) ∙ (rw z at w)

-- a block and a row by where they begin
block_at : (v w : ℕ) (s : List ℕ) (r : ℕ) → block_turned v w s (block_in v r) ≡ turned_block v w s r
unfolding block_turned turned_block fields_after count_in kind_in mask_in
block_at v w s r = refl

block_is : (v w : ℕ) (s : List ℕ) (r p : ℕ) → p ≡ 1 + (v + 4) * r → block_turned v w s p ≡ turned_block v w s (r + 1)
block_is v w s r p e = ap (block_turned v w s) (e ∙ begins) ∙ block_at v w s (r + 1)
  where
    begins : 1 + (v + 4) * r ≡ block_in v (r + 1)
    begins = unfold block_in in (let z : r + 1 - 1 ≡ r = omega arith in rw z)

row_at : (v w : ℕ) (t : List ℕ) (i : ℕ) → row_turned v w t (base_in v i) ≡ turned_record v w t i
unfolding row_turned turned_record fields_after next_in relation_in label_in flag_in value_in stamp_in
row_at v w t i = refl

row_of : (v w : ℕ) (t : List ℕ) (i p : ℕ) → p ≡ base_in v i → row_turned v w t p ≡ turned_record v w t i
row_of v w t i p e = ap (row_turned v w t) e ∙ row_at v w t i

row_is : (v w : ℕ) (t : List ℕ) (i p : ℕ) → p ≡ header_words + (head_words + 2 * v) * i → row_turned v w t p ≡ turned_record v w t (i + 1)
row_is v w t i p e = row_of v w t (i + 1) p (e ∙ begins)
  where
    begins : header_words + (head_words + 2 * v) * i ≡ base_in v (i + 1)
    begins = unfold base_in in (let z : i + 1 - 1 ≡ i = omega arith in rw z)

-- a schema
module _ (v w : ℕ) (s : List ℕ) where
  abbrev pub Blocks : ℕ → List ℕ → Type 0
  Blocks i to = Written (relations s ∷ []) 1 (w + 4) (turned_block v w s) refl (block_length v w s) i to

  pub blocks_none : (to₀ to : List ℕ) → 1 ≤ length to₀ → 1 ≤ length s → to ≡ paste to₀ 0 (drop 0 s) 1 → (length to ≡ length to₀) × Blocks 0 to
  blocks_none to₀ to a b e = none_written (relations s ∷ []) 1 (w + 4) (turned_block v w s) refl (block_length v w s) to₀ to s a b (first s b) e
    where
      first : (s : List ℕ) → 1 ≤ length s → take 1 s ≡ relations s ∷ []
      first [] h = absurd (omega arith)
      first (x ∷ s) h = unfold relations in unfold word in refl

  pub blocks_more : (r p q end : ℕ) (to part : List ℕ) → r < most_relations → length to ≡ 1 + (w + 4) * most_relations → p ≡ 1 + (v + 4) * r → q ≡ 1 + (w + 4) * r → end ≡ q + (w + 4)
      → Blocks r to → part ≡ block_turned v w s p → (length (put_mid q (end - q) to part) ≡ length to) × Blocks (r + 1) (put_mid q (end - q) to part)
  blocks_more r p q end to part h l a b d g e =
      let f = e ∙ block_is v w s r p a in
      row_written (relations s ∷ []) 1 (w + 4) (turned_block v w s) refl (block_length v w s) r to (put_mid q (end - q) to part) part g (omega (arith, l, room 1 (w + 4) r most_relations h)) f
      (part_written to part part q (1 + (w + 4) * r) (w + 4) end b (omega (arith, b, d)) refl (rw f (block_length v w s (r + 1))))

  pub blocks_all : (r : ℕ) (to : List ℕ) → r ≤ most_relations → most_relations ≤ r → length to ≡ 1 + (w + 4) * most_relations → Blocks r to → to ≡ turned_schema v w s
  unfolding turned_schema
  blocks_all r to a b l g = all_written (relations s ∷ []) 1 (w + 4) (turned_block v w s) refl (block_length v w s) r most_relations to a b l g

-- a table
abbrev pub Rows : ℕ → ℕ → List ℕ → ℕ → List ℕ → Type 0
Rows v w t i to = take (header_words + (head_words + 2 * w) * i) to ≡ take header_words t ++ rows_from 1 i (turned_record v w t)

module _ (v w : ℕ) (t : List ℕ) (long : header_words ≤ length t) where
  pub rows_none : (to₀ to : List ℕ) → header_words ≤ length to₀ → to ≡ paste to₀ 0 (drop 0 t) header_words → (length to ≡ length to₀) × Rows v w t 0 to
  rows_none to₀ to a e = none_written (take header_words t) header_words (head_words + 2 * w) (turned_record v w t) (head_length v w t long) (record_length v w t) to₀ to t a long refl e

  pub rows_more : (i n p q end : ℕ) (to part : List ℕ) → i < n → length to ≡ header_words + (head_words + 2 * w) * n
      → p ≡ header_words + (head_words + 2 * v) * i → q ≡ header_words + (head_words + 2 * w) * i → end ≡ q + (head_words + 2 * w)
      → Rows v w t i to → part ≡ row_turned v w t p → (length (put_mid q (end - q) to part) ≡ length to) × Rows v w t (i + 1) (put_mid q (end - q) to part)
  rows_more i n p q end to part h l a b d g e =
      let f = e ∙ row_is v w t i p a in
      row_written (take header_words t) header_words (head_words + 2 * w) (turned_record v w t) (head_length v w t long) (record_length v w t) i to
      (put_mid q (end - q) to part) part g (omega (arith, l, room header_words (head_words + 2 * w) i n h)) f
      (part_written to part part q (header_words + (head_words + 2 * w) * i) (head_words + 2 * w) end b (omega (arith, b, d)) refl (rw f (record_length v w t (i + 1))))

  pub rows_all : (i n : ℕ) (to : List ℕ) → i ≤ n → n ≤ i → n ≡ capacity_in v t → length to ≡ header_words + (head_words + 2 * w) * n → Rows v w t i to → to ≡ turned_table v w t
  unfolding turned_table
  rows_all i n to a b e l g = rw e at (all_written (take header_words t) header_words (head_words + 2 * w) (turned_record v w t) (head_length v w t long) (record_length v w t) i n to a b l g)
