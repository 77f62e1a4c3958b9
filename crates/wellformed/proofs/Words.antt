-- The words of a table's value, one by one; the encoding of a value decodes to it.
-- Assumes nothing.
use Prim.Native.Nat.{ℕ, zero, suc, ◌+◌, ◌*◌, ◌-◌, ◌%◌, ◌≤◌, ◌<◌}
use mathlib.Core.Path.{◌≡◌, refl, sym, ◌∙◌, ap}
use mathlib.Core.Bool.{true}
use mathlib.Core.List.{List, [], ◌∷◌, ◌++◌, map, append_assoc}
use native.Mathlib.Omega.{arith}
use lib.Dec.{eqb, leb}
use lib.ListN.{length, get_or, set, drop, replicate, replicate-append-replicate, length-append, length-map, length-replicate, get_or-replicate, get_or-append, get_or-map}
use lib.Seq.{get_or-append-add, drop-append-add, drop_at}
use borrow.Author.Tests.{le-leb, eq-eqb}
use Rattle.crdt.proofs.Tests.{and_left, and_right}
use Rattle.crdt.specs.Cells.{Reg, reg, no_reg}
use Rattle.model.specs.Layout.{fields, replica_word, clock_word, header_words, head_words, record_words, most_relations, most_records, first_words, zero_word, zero_words, word, base, capacity_of, replica_at, clock_at, used_at, first_at, next_at, relation_at, label_at, flag_at, value_at, stamp_at}
use Rattle.model.specs.Lists.{from, listed, only, all_of}
use Rattle.model.specs.Schemas.{Relation}
use Rattle.model.specs.Records.{Rec, place, relation, label, least_above, position_from}
use Rattle.model.specs.Tables.{Table, follower, encode_record, encode_records, encode_header, encode, record_of, decode}
use Rattle.model.specs.Valid.{valid, valid_record}
use Rattle.model.specs.Calls.{table_length}
use Rattle.wellformed.proofs.Ranges.{whole, listed_length, listed_at, listed_is}
use Rattle.wellformed.proofs.Follow.{no_rec, record_at}
use Rattle.wellformed.proofs.ValidParts.{valid_record_lem, valid_table}

-- each record has a register for each field
abbrev pub Sized : List Rec → Type 0
Sized [] = Unit {0}
Sized (x ∷ xs) = (length x.cell.regs ≡ fields) × Sized xs

-- what the words need of a value: registers for each field, and room for its records
pub record Fits (v : Table) : Type 0 where
  pub sized : Sized v.records
  pub room : length v.records ≤ v.capacity

-- the registers of a record
pub sized_at : (xs : List Rec) (n : ℕ) → Sized xs → n < length xs → length (get_or xs n no_rec).cell.regs ≡ fields
sized_at [] n z h = absurd (omega arith)
sized_at (x ∷ xs) zero z h = z.0
sized_at (x ∷ xs) (suc n) z h = sized_at xs n z.1 (omega arith)

header_length : (v : Table) → length (encode_header v) ≡ header_words
unfolding encode_header listed from
header_length v = refl

record_length : (s : List Rec) (x : Rec) → length x.cell.regs ≡ fields → length (encode_record s x) ≡ record_words
unfolding encode_record
record_length s x h =
    let g = x.cell.regs in
    omega (arith, length-append (map (λ (g : Reg). g.value) g) (map (λ (g : Reg). g.stamp) g), length-map g (λ (g : Reg). g.value), length-map g (λ (g : Reg). g.stamp))

records_length : (s xs : List Rec) → Sized xs → length (encode_records s xs) ≡ record_words * length xs
unfolding encode_records
records_length s [] z = refl
records_length s (x ∷ xs) z =
    omega (arith, length-append (encode_record s x) (encode_records s xs), record_length s x z.0, records_length s xs z.1)

-- a register's words in a record
module _ (s : List Rec) (x : Rec) (e : length x.cell.regs ≡ fields) (j : ℕ) (a : 1 ≤ j) (b : j ≤ fields) where
  abbrev values : List ℕ
  values = map (λ (g : Reg). g.value) x.cell.regs

  abbrev stamps : List ℕ
  stamps = map (λ (g : Reg). g.stamp) x.cell.regs

  abbrev head : List ℕ
  head = follower s (relation x) x.key ∷ relation x ∷ label x ∷ x.cell.flag ∷ []

  record_value : get_or (encode_record s x) (head_words + (j - 1)) 0 ≡ (get_or x.cell.regs (j - 1) no_reg).value
  unfolding encode_record
  record_value =
      get_or-append-add head (values ++ stamps) (j - 1) 0 ∙ get_or-append values stamps 0 (j - 1) (omega (arith, length-map x.cell.regs (λ (g : Reg). g.value)))
      ∙ get_or-map (λ (g : Reg). g.value) x.cell.regs (j - 1) no_reg

  record_stamp : get_or (encode_record s x) (head_words + (fields + (j - 1))) 0 ≡ (get_or x.cell.regs (j - 1) no_reg).stamp
  unfolding encode_record
  record_stamp =
      let l : fields + (j - 1) ≡ length values + (j - 1) = omega (arith, length-map x.cell.regs (λ (g : Reg). g.value)) in
      get_or-append-add head (values ++ stamps) (fields + (j - 1)) 0 ∙ ap (λ (k : ℕ). get_or (values ++ stamps) k 0) l ∙ get_or-append-add values stamps (j - 1) 0
      ∙ get_or-map (λ (g : Reg). g.stamp) x.cell.regs (j - 1) no_reg

-- the words of record n + 1 of the records, in what follows the header
records_at : (s xs : List Rec) (rest : List ℕ) (n f : ℕ) → Sized xs → n < length xs → f < record_words
    → get_or (encode_records s xs ++ rest) (record_words * n + f) 0 ≡ get_or (encode_record s (get_or xs n no_rec)) f 0
unfolding encode_records
records_at s [] rest n f z h l = absurd (omega arith)
records_at s (x ∷ xs) rest zero f z h l =
    let e : record_words * 0 + f ≡ f = omega arith in
    let b : f < length (encode_record s x) = omega (arith, record_length s x z.0) in
    rw (e, append_assoc) (get_or-append (encode_record s x) (encode_records s xs ++ rest) 0 f b)
records_at s (x ∷ xs) rest (suc n) f z h l =
    let e : record_words * suc n + f ≡ length (encode_record s x) + (record_words * n + f) = omega (arith, record_length s x z.0) in
    rw (e, append_assoc) (get_or-append-add (encode_record s x) (encode_records s xs ++ rest) (record_words * n + f) 0 ∙ records_at s xs rest n f z.1 (omega arith) l)

module _ (v : Table) where
  -- a word of the header
  header_word_lem : (k : ℕ) → k < header_words → word (encode v) k ≡ get_or (encode_header v) k 0
  unfolding word encode
  header_word_lem k h = get_or-append (encode_header v) _ 0 k (omega (arith, header_length v))

  pub enc_replica : replica_at (encode v) ≡ v.replica
  unfolding replica_at
  enc_replica = header_word_lem 0 (omega arith) ∙ unfold encode_header in refl

  pub enc_clock : clock_at (encode v) ≡ v.clock
  unfolding clock_at
  enc_clock = header_word_lem 1 (omega arith) ∙ unfold encode_header in refl

  pub enc_used : used_at (encode v) ≡ length v.records
  unfolding used_at
  enc_used = header_word_lem 2 (omega arith) ∙ unfold encode_header in refl

  pub enc_zero : word (encode v) zero_word ≡ 0
  enc_zero = header_word_lem 3 (omega arith) ∙ unfold encode_header in refl

  pub enc_zeros : (j : ℕ) → 1 ≤ j → j ≤ zero_words → word (encode v) (first_words + most_relations + (j - 1)) ≡ 0
  unfolding encode_header listed from
  enc_zeros j a b =
      header_word_lem (first_words + most_relations + (j - 1)) (omega arith)
      ∙ get_or-append-add (v.replica ∷ v.clock ∷ length v.records ∷ 0 ∷ listed most_relations (λ r. follower v.records r 0)) (replicate zero_words 0) (j - 1) 0
      ∙ get_or-replicate zero_words (j - 1) 0 0 (omega arith)

  pub enc_first : (r : ℕ) → 1 ≤ r → r ≤ most_relations → first_at (encode v) r ≡ follower v.records r 0
  unfolding first_at encode_header
  enc_first r a b =
      header_word_lem (first_words + (r - 1)) (omega arith)
      ∙ get_or-append-add (v.replica ∷ v.clock ∷ length v.records ∷ 0 ∷ []) (listed most_relations (λ r. follower v.records r 0) ++ replicate zero_words 0) (r - 1) 0
      ∙ get_or-append (listed most_relations (λ r. follower v.records r 0)) (replicate zero_words 0) 0 (r - 1) (omega (arith, listed_length most_relations (λ r. follower v.records r 0)))
      ∙ listed_at most_relations (λ r. follower v.records r 0) r 0 a b

  module _ (z : Sized v.records) (i : ℕ) (a : 1 ≤ i) (b : i ≤ length v.records) where
    -- a word of a record
    record_word : (f : ℕ) → f < record_words → word (encode v) (base i + f) ≡ get_or (encode_record v.records (record_at v.records i)) f 0
    unfolding word base encode
    record_word f l =
        let e : header_words + record_words * (i - 1) + f ≡ length (encode_header v) + (record_words * (i - 1) + f) = omega (arith, header_length v) in
        rw e (get_or-append-add (encode_header v) _ (record_words * (i - 1) + f) 0 ∙ records_at v.records v.records _ (i - 1) f z (omega arith) l)

    pub enc_next : next_at (encode v) i ≡ follower v.records (relation (record_at v.records i)) (record_at v.records i).key
    unfolding next_at
    enc_next = let e : base i ≡ base i + 0 = omega arith in ap (word (encode v)) e ∙ record_word 0 (omega arith) ∙ unfold encode_record in refl

    pub enc_relation : relation_at (encode v) i ≡ relation (record_at v.records i)
    unfolding relation_at
    enc_relation = record_word 1 (omega arith) ∙ unfold encode_record in refl

    pub enc_label : label_at (encode v) i ≡ label (record_at v.records i)
    unfolding label_at
    enc_label = record_word 2 (omega arith) ∙ unfold encode_record in refl

    pub enc_flag : flag_at (encode v) i ≡ (record_at v.records i).cell.flag
    unfolding flag_at
    enc_flag = record_word 3 (omega arith) ∙ unfold encode_record in refl

    pub enc_value : (j : ℕ) → 1 ≤ j → j ≤ fields → value_at (encode v) i j ≡ (get_or (record_at v.records i).cell.regs (j - 1) no_reg).value
    unfolding value_at
    enc_value j c d =
        let e : base i + (head_words - 1) + j ≡ base i + (head_words + (j - 1)) = omega arith in
        ap (word (encode v)) e ∙ record_word (head_words + (j - 1)) (omega arith)
        ∙ record_value v.records (record_at v.records i) (sized_at v.records (i - 1) z (omega arith)) j c d

    pub enc_stamp : (j : ℕ) → 1 ≤ j → j ≤ fields → stamp_at (encode v) i j ≡ (get_or (record_at v.records i).cell.regs (j - 1) no_reg).stamp
    unfolding stamp_at
    enc_stamp j c d =
        let e : base i + (head_words - 1) + fields + j ≡ base i + (head_words + (fields + (j - 1))) = omega arith in
        ap (word (encode v)) e ∙ record_word (head_words + (fields + (j - 1))) (omega arith)
        ∙ record_stamp v.records (record_at v.records i) (sized_at v.records (i - 1) z (omega arith)) j c d

module _ (v : Table) (w : Fits v) where
  pub encode_length : length (encode v) ≡ header_words + record_words * v.capacity
  unfolding encode
  encode_length =
      let s = v.records in
      let zeros : List ℕ = replicate (record_words * (v.capacity - length s)) 0 in
      omega (
        arith,
        w.room,
        length-append (encode_header v) (encode_records s s ++ zeros),
        length-append (encode_records s s) zeros,
        header_length v,
        records_length s s w.sized,
        length-replicate {A = ℕ} (record_words * (v.capacity - length s)) 0,
      )

  pub enc_capacity : capacity_of (encode v) ≡ v.capacity
  unfolding capacity_of
  enc_capacity = rw encode_length (omega arith)

  -- the words above the used records
  pub enc_rest : drop (base (used_at (encode v) + 1)) (encode v) ≡ replicate (record_words * (v.capacity - length v.records)) 0
  unfolding base encode
  enc_rest =
      let s = v.records in
      let zeros : List ℕ = replicate (record_words * (v.capacity - length s)) 0 in
      let e : header_words + record_words * (used_at (encode v) + 1 - 1) ≡ length (encode_header v) + length (encode_records s s) = omega (arith, header_length v, records_length s s w.sized, enc_used v) in
      rw e (drop-append-add (encode_header v) (encode_records s s ++ zeros) (length (encode_records s s)) ∙ drop_at (encode_records s s) zeros _ refl)

  pub enc_record : (i : ℕ) → 1 ≤ i → i ≤ length v.records → record_of (encode v) i ≡ record_at v.records i
  unfolding record_of
  enc_record i a b =
      let x = record_at v.records i in
      let z = w.sized in
      let e : place (relation_at (encode v) i) (label_at (encode v) i) ≡ x.key = omega (arith, enc_relation v z i a b, enc_label v z i a b) in
      let g : listed fields (λ j. reg (value_at (encode v) i j) (stamp_at (encode v) i j)) ≡ x.cell.regs =
      listed_is fields (λ j. reg (value_at (encode v) i j) (stamp_at (encode v) i j)) x.cell.regs no_reg (sized_at v.records (i - 1) z (omega arith))
      (λ j c d. rw (enc_value v z i a b j c d, enc_stamp v z i a b j c d)) in
      rw (e, g, enc_flag v z i a b)

-- The encoding of a value decodes to it.
pub decode_fits : (v : Table) → Fits v → decode (encode v) ≡ v
unfolding decode
decode_fits v w =
    let g : listed (used_at (encode v)) (record_of (encode v)) ≡ v.records =
    listed_is _ _ v.records no_rec (sym (enc_used v)) (λ i a b. enc_record v w i a (omega (arith, enc_used v))) in
    rw (g, enc_capacity v w, enc_replica v, enc_clock v)

-- A valid value has registers for each field, and room for its records.
all_sized : (σ : List Relation) (clock : ℕ) (s : List Rec) → all_of (valid_record fields σ clock) s ≡ true → Sized s
unfolding all_of
all_sized σ clock [] h = tt
all_sized σ clock (x ∷ xs) h =
    ((valid_record_lem fields σ clock x (and_left (valid_record fields σ clock x) _ h)).sized, all_sized σ clock xs (and_right (valid_record fields σ clock x) _ h))

pub valid_fits : (σ : List Relation) (v : Table) → valid fields σ v ≡ true → Fits v
valid_fits σ v h = let t = valid_table fields σ v h in record { sized = all_sized σ v.clock v.records t.all; room = t.room }

pub decode_encode : (σ : List Relation) (v : Table) → valid fields σ v ≡ true → decode (encode v) ≡ v
decode_encode σ v h = decode_fits v (valid_fits σ v h)

-- It has a table's length.
pub encode_table : (σ : List Relation) (v : Table) → valid fields σ v ≡ true → table_length (encode v) ≡ true
unfolding table_length
encode_table σ v h =
    let w = valid_fits σ v h in
    let t = valid_table fields σ v h in
    let l = encode_length v w in
    let a : header_words ≤ length (encode v) = omega arith in
    let e : (length (encode v) - header_words) % record_words ≡ 0 = omega arith in
    whole (leb header_words (length (encode v)))
    (eqb ((length (encode v) - header_words) % record_words) 0 ∷ leb (capacity_of (encode v)) most_records ∷ [])
    (le-leb _ _ a, (eq-eqb _ _ e, (rw (enc_capacity v w) (le-leb _ _ t.small), tt)))

-- A table of capacity n that is started for replica r is the encoding of a value with no records.
pub start_encodes : (n r : ℕ) → set (replicate (header_words + record_words * n) 0) replica_word r ≡ encode (record { capacity = n; replica = r; clock = 0; records = [] })
unfolding encode encode_header encode_records listed from follower only least_above position_from
start_encodes n r =
    let e : n ≡ n - 0 = omega arith in
    rw (← (replicate-append-replicate {A = ℕ} header_words (record_words * n) 0)) (ap (λ (k : ℕ). r ∷ (replicate 15 0 ++ replicate (record_words * k) 0)) e)

-- A clock stored into the encoding of a value.
pub clock_words : (v : Table) (c : ℕ) → set (encode v) clock_word c ≡ encode (record { capacity = v.capacity; replica = v.replica; clock = c; records = v.records })
unfolding encode encode_header
clock_words v c = refl
