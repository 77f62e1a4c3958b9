-- The words of a turned table and of a turned schema.
-- Assumes nothing.
use Prim.Native.Nat.{ℕ, zero, suc, ◌+◌, ◌*◌, ◌-◌, ◌≤◌, ◌<◌}
use mathlib.Core.Path.{◌≡◌, refl, ◌∙◌, ap}
use mathlib.Core.Bool.{cond}
use mathlib.Core.List.{List, [], ◌∷◌, ◌++◌}
use native.Mathlib.Omega.{arith}
use native.Mathlib.Nat.{mul-div_cancel_left}
use lib.Dec.{leb}
use lib.ListN.{length, get_or, take, length-append, get_or-append}
use lib.Seq.{get_or-append-add, get_or-take, length-take-le}
use Rattle.model.specs.Layout.{most_relations, header_words, head_words, word, relations}
use Rattle.model.specs.Shapes.{block_in, count_in, kind_in, mask_in, base_in, capacity_in, next_in, relation_in, label_in, flag_in, value_in, stamp_in}
use Rattle.model.specs.Shapes.{rows_from, fields_turned, turned_block, turned_schema, turned_record, turned_table}
use Rattle.wellformed.proofs.Ranges.{listed_length, listed_at}
use Rattle.shape_laws.proofs.Rows.{rows_length, rows_at}

module _ (v w : ℕ) where
  pub fields_length : (f : ℕ → ℕ) → length (fields_turned v w f) ≡ w
  unfolding fields_turned
  fields_length f = listed_length w _

  pub fields_at : (f : ℕ → ℕ) (j : ℕ) → 1 ≤ j → j ≤ w → get_or (fields_turned v w f) (j - 1) 0 ≡ cond (leb j v) (f j) 0
  unfolding fields_turned
  fields_at f j a b = listed_at w _ j 0 a b

  pub record_length : (t : List ℕ) (i : ℕ) → length (turned_record v w t i) ≡ head_words + 2 * w
  unfolding turned_record
  record_length t i =
      let e = length-append (fields_turned v w (value_in v t i)) (fields_turned v w (stamp_in v t i)) in
      omega (arith, e, fields_length (value_in v t i), fields_length (stamp_in v t i))

  -- the words of a record that was turned
  module _ (t : List ℕ) (i : ℕ) where
    pub record_value : (j : ℕ) → 1 ≤ j → j ≤ w → get_or (turned_record v w t i) (head_words - 1 + j) 0 ≡ cond (leb j v) (value_in v t i j) 0
    unfolding turned_record
    record_value j a b =
        let z : head_words - 1 + j ≡ suc (suc (suc (suc (j - 1)))) = omega arith in
        let l : j - 1 < length (fields_turned v w (value_in v t i)) = omega (arith, fields_length (value_in v t i)) in
        rw z (get_or-append (fields_turned v w (value_in v t i)) (fields_turned v w (stamp_in v t i)) 0 (j - 1) l ∙ fields_at (value_in v t i) j a b)

    pub record_stamp : (j : ℕ) → 1 ≤ j → j ≤ w → get_or (turned_record v w t i) (head_words - 1 + w + j) 0 ≡ cond (leb j v) (stamp_in v t i j) 0
    unfolding turned_record
    record_stamp j a b =
        let z : head_words - 1 + w + j ≡ suc (suc (suc (suc (length (fields_turned v w (value_in v t i)) + (j - 1))))) = omega (arith, fields_length (value_in v t i)) in
        rw z (get_or-append-add (fields_turned v w (value_in v t i)) (fields_turned v w (stamp_in v t i)) (j - 1) 0 ∙ fields_at (stamp_in v t i) j a b)

  module _ (t : List ℕ) (h : header_words ≤ length t) where
    pub head_length : length (take header_words t) ≡ header_words
    head_length = length-take-le header_words t h

    pub header_turned : (k : ℕ) → k < header_words → word (turned_table v w t) k ≡ word t k
    unfolding word turned_table
    header_turned k l =
        let m : k < length (take header_words t) = omega (arith, head_length) in
        get_or-append (take header_words t) (rows_from 1 (capacity_in v t) (turned_record v w t)) 0 k m ∙ get_or-take header_words t k 0 l

    pub turned_length : length (turned_table v w t) ≡ header_words + (head_words + 2 * w) * capacity_in v t
    unfolding turned_table
    turned_length =
        length-append (take header_words t) (rows_from 1 (capacity_in v t) (turned_record v w t))
        ∙ rw (head_length, rows_length (head_words + 2 * w) (turned_record v w t) (record_length t) 1 (capacity_in v t))

    -- "with N equal on both sides"
    pub capacity_of_lem : capacity_in w (turned_table v w t) ≡ capacity_in v t
    unfolding capacity_in
    capacity_of_lem =
        let e : length (turned_table v w t) - header_words ≡ (head_words + 2 * w) * capacity_in v t = omega (arith, turned_length) in
        rw e (mul-div_cancel_left (capacity_in v t) (omega arith))

    pub record_turned : (i k : ℕ) → 1 ≤ i → i ≤ capacity_in v t → k < head_words + 2 * w → word (turned_table v w t) (base_in w i + k) ≡ get_or (turned_record v w t i) k 0
    unfolding word turned_table base_in
    record_turned i k a b c =
        let z : header_words + (head_words + 2 * w) * (i - 1) + k ≡ length (take header_words t) + ((head_words + 2 * w) * (i - 1) + k) = rw head_length (omega arith) in
        let y : 1 + (i - 1) ≡ i = omega arith in
        let r = rows_at (head_words + 2 * w) (turned_record v w t) (record_length t) 1 (capacity_in v t) (i - 1) k (omega arith) c in
        rw z (get_or-append-add (take header_words t) (rows_from 1 (capacity_in v t) (turned_record v w t)) ((head_words + 2 * w) * (i - 1) + k) 0 ∙ (rw y at r))

    -- word by word
    module _ (i : ℕ) (a : 1 ≤ i) (b : i ≤ capacity_in v t) where
      pub head_turned : (k : ℕ) → k < head_words → word (turned_table v w t) (base_in w i + k) ≡ word t (base_in v i + k)
      head_turned k h = record_turned i k a b (omega arith) ∙ spelled k h
        where
          spelled : (k : ℕ) → k < head_words → get_or (turned_record v w t i) k 0 ≡ word t (base_in v i + k)
          spelled zero h = unfold turned_record in unfold next_in in ap (word t) (omega arith)
          spelled (suc zero) h = unfold turned_record in unfold relation_in in refl
          spelled (suc (suc zero)) h = unfold turned_record in unfold label_in in refl
          spelled (suc (suc (suc zero))) h = unfold turned_record in unfold flag_in in refl
          spelled (suc (suc (suc (suc k)))) h = absurd (omega arith)

      pub next_turned : next_in w (turned_table v w t) i ≡ next_in v t i
      unfolding next_in
      next_turned =
          let y : base_in w i ≡ base_in w i + 0 = omega arith in
          let z : base_in v i + 0 ≡ base_in v i = omega arith in
          ap (word (turned_table v w t)) y ∙ head_turned 0 (omega arith) ∙ ap (word t) z

      pub relation_turned : relation_in w (turned_table v w t) i ≡ relation_in v t i
      unfolding relation_in
      relation_turned = head_turned 1 (omega arith)

      pub label_turned : label_in w (turned_table v w t) i ≡ label_in v t i
      unfolding label_in
      label_turned = head_turned 2 (omega arith)

      pub flag_turned : flag_in w (turned_table v w t) i ≡ flag_in v t i
      unfolding flag_in
      flag_turned = head_turned 3 (omega arith)

      pub value_turned : (j : ℕ) → 1 ≤ j → j ≤ w → value_in w (turned_table v w t) i j ≡ cond (leb j v) (value_in v t i j) 0
      unfolding value_in
      value_turned j c d =
          let z : base_in w i + (head_words - 1) + j ≡ base_in w i + (head_words - 1 + j) = omega arith in
          ap (word (turned_table v w t)) z ∙ record_turned i (head_words - 1 + j) a b (omega arith) ∙ record_value t i j c d

      pub stamp_turned : (j : ℕ) → 1 ≤ j → j ≤ w → stamp_in w (turned_table v w t) i j ≡ cond (leb j v) (stamp_in v t i j) 0
      unfolding stamp_in
      stamp_turned j c d =
          let z : base_in w i + (head_words - 1) + w + j ≡ base_in w i + (head_words - 1 + w + j) = omega arith in
          ap (word (turned_table v w t)) z ∙ record_turned i (head_words - 1 + w + j) a b (omega arith) ∙ record_stamp t i j c d

-- the blocks of a schema
module _ (v w : ℕ) (s : List ℕ) where
  pub block_length : (r : ℕ) → length (turned_block v w s r) ≡ w + 4
  unfolding turned_block
  block_length r = omega (arith, length-append (fields_turned v w (kind_in v s r)) (mask_in v s r 1 ∷ mask_in v s r 2 ∷ mask_in v s r 3 ∷ []), fields_length v w (kind_in v s r))

  pub block_turned_lem : (r k : ℕ) → 1 ≤ r → r ≤ most_relations → k < w + 4 → word (turned_schema v w s) (block_in w r + k) ≡ get_or (turned_block v w s r) k 0
  unfolding word turned_schema block_in
  block_turned_lem r k a b c =
      let z : 1 + (w + 4) * (r - 1) + k ≡ suc ((w + 4) * (r - 1) + k) = omega arith in
      let y : 1 + (r - 1) ≡ r = omega arith in
      rw z (rw y at (rows_at (w + 4) (turned_block v w s) block_length 1 most_relations (r - 1) k (omega arith) c))

  pub block_kind : (r j : ℕ) → 1 ≤ j → j ≤ w → get_or (turned_block v w s r) j 0 ≡ cond (leb j v) (kind_in v s r j) 0
  unfolding turned_block
  block_kind r j c d =
      let z : j ≡ suc (j - 1) = omega arith in
      let l : j - 1 < length (fields_turned v w (kind_in v s r)) = omega (arith, fields_length v w (kind_in v s r)) in
      ap (λ (k : ℕ). get_or (count_in v s r ∷ (fields_turned v w (kind_in v s r) ++ (mask_in v s r 1 ∷ mask_in v s r 2 ∷ mask_in v s r 3 ∷ []))) k 0) z
      ∙ get_or-append (fields_turned v w (kind_in v s r)) (mask_in v s r 1 ∷ mask_in v s r 2 ∷ mask_in v s r 3 ∷ []) 0 (j - 1) l ∙ fields_at v w (kind_in v s r) j c d

  pub block_mask : (r m : ℕ) → 1 ≤ m → m ≤ 3 → get_or (turned_block v w s r) (w + m) 0 ≡ mask_in v s r m
  unfolding turned_block
  block_mask r m c d =
      let z : w + m ≡ suc (length (fields_turned v w (kind_in v s r)) + (m - 1)) = omega (arith, fields_length v w (kind_in v s r)) in
      rw z (get_or-append-add (fields_turned v w (kind_in v s r)) (mask_in v s r 1 ∷ mask_in v s r 2 ∷ mask_in v s r 3 ∷ []) (m - 1) 0 ∙ go m c d)
    where
      go : (m : ℕ) → 1 ≤ m → m ≤ 3 → get_or (mask_in v s r 1 ∷ mask_in v s r 2 ∷ mask_in v s r 3 ∷ []) (m - 1) 0 ≡ mask_in v s r m
      go zero c d = absurd (omega arith)
      go (suc zero) c d = refl
      go (suc (suc zero)) c d = refl
      go (suc (suc (suc zero))) c d = refl
      go (suc (suc (suc (suc m)))) c d = absurd (omega arith)

  pub relations_turned : relations (turned_schema v w s) ≡ relations s
  unfolding relations word turned_schema
  relations_turned = refl

  module _ (r : ℕ) (a : 1 ≤ r) (b : r ≤ most_relations) where
    pub count_turned : count_in w (turned_schema v w s) r ≡ count_in v s r
    unfolding count_in turned_block
    count_turned = let z : block_in w r ≡ block_in w r + 0 = omega arith in ap (word (turned_schema v w s)) z ∙ block_turned_lem r 0 a b (omega arith)

    pub kind_turned : (j : ℕ) → 1 ≤ j → j ≤ w → kind_in w (turned_schema v w s) r j ≡ cond (leb j v) (kind_in v s r j) 0
    unfolding kind_in
    kind_turned j c d = block_turned_lem r j a b (omega arith) ∙ block_kind r j c d

    pub mask_turned : (m : ℕ) → 1 ≤ m → m ≤ 3 → mask_in w (turned_schema v w s) r m ≡ mask_in v s r m
    unfolding mask_in
    mask_turned m c d =
        let z : block_in w r + w + m ≡ block_in w r + (w + m) = omega arith in
        ap (word (turned_schema v w s)) z ∙ block_turned_lem r (w + m) a b (omega arith) ∙ block_mask r m c d
