-- A well-formed table of a table's length is the encoding of its value.
-- Assumes nothing.
use Prim.Native.Nat.{ℕ, zero, suc, ◌+◌, ◌*◌, ◌-◌, ◌≤◌, ◌<◌}
use mathlib.Core.Path.{◌≡◌, refl, sym, ◌∙◌, ap, ap₂}
use mathlib.Core.Bool.{true, false}
use mathlib.Core.List.{List, [], ◌∷◌, ◌++◌, map}
use native.Mathlib.Omega.{arith}
use native.Mathlib.Nat.{add-zero}
use lib.Dec.{eqb}
use lib.ListN.{length, take, drop, replicate, take-append-drop, length-drop}
use lib.Seq.{take-add, drop-drop}
use borrow.Author.Tests.{eqb-true}
use Rattle.crdt.proofs.Tests.{and_left, and_right}
use Rattle.crdt.specs.Cells.{Reg, reg}
use Rattle.model.specs.Layout.{fields, most_relations, header_words, head_words, record_words, first_words, zero_words, word, base, capacity_of, replica_at, clock_at, used_at, first_at, next_at, relation_at, label_at, flag_at, value_at, stamp_at}
use Rattle.model.specs.Lists.{from, listed, all_of}
use Rattle.model.specs.Schemas.{broken}
use Rattle.model.specs.Records.{Rec, relation, label}
use Rattle.model.specs.Tables.{record_of, decode, follower, encode_record, encode_records, encode_header, encode}
use Rattle.model.specs.WellFormed.{rest_zero, well_formed}
use Rattle.model.specs.Calls.{table_length}
use Rattle.wellformed.proofs.Ranges.{listed_length}
use Rattle.wellformed.proofs.ListRanges.{map_from, span, replicate_from}
use Rattle.wellformed.proofs.Facts.{Sized, table_sized, SoundSchema, schema_sound, Formed, formed}
use Rattle.wellformed.proofs.Values.{relation_is, label_is}
use Rattle.wellformed.proofs.Links.{first_link, next_link}

-- a part of the words, listed
part : (t : List ℕ) (b n i : ℕ) (f : ℕ → ℕ) → b + n ≤ length t → ((k : ℕ) → k < n → f (i + k) ≡ word t (b + k)) → from i n f ≡ take n (drop b t)
unfolding word
part t b n i f l h = span t b n i f l h

-- the four words that begin a record and a header, and a part made of three
head_words_lem : (t : List ℕ) (b : ℕ) → b + head_words ≤ length t → word t b ∷ word t (b + 1) ∷ word t (b + 2) ∷ word t (b + 3) ∷ [] ≡ take head_words (drop b t)
unfolding from
head_words_lem t b h = ap (λ (k : ℕ). word t k ∷ word t (b + 1) ∷ word t (b + 2) ∷ word t (b + 3) ∷ []) (sym (add-zero b)) ∙ part t b head_words 0 (λ k. word t (b + k)) h (λ k l. ap (λ (j : ℕ). word t (b + j)) (omega arith))

three_parts : (t : List ℕ) (b l m n : ℕ) → take l (drop b t) ++ (take m (drop (b + l) t) ++ take n (drop (b + l + m) t)) ≡ take (l + (m + n)) (drop b t)
three_parts t b l m n =
    ap (λ (q : List ℕ). take l (drop b t) ++ q)
    (ap (λ (q : List ℕ). take m (drop (b + l) t) ++ take n q) (sym (drop-drop m (b + l) t)) ∙ sym (take-add m n (drop (b + l) t)) ∙ ap (take (m + n)) (sym (drop-drop l b t)))
    ∙ sym (take-add l (m + n) (drop b t))

zeros_listed : (t : List ℕ) (b n : ℕ) → b + n ≤ length t → ((k : ℕ) → k < n → word t (b + k) ≡ 0) → replicate {A = ℕ} n 0 ≡ take n (drop b t)
zeros_listed t b n l h = replicate_from n 0 ∙ part t b n 0 (λ k. 0) l (λ k p. sym (h k p))

all_zeros : (l : List ℕ) → all_of (λ x. eqb x 0) l ≡ true → replicate {A = ℕ} (length l) 0 ≡ l
unfolding all_of
all_zeros [] h = refl
all_zeros (x ∷ l) h =
    ap₂ ◌∷◌ (sym (eqb-true x 0 (and_left (eqb x 0) (all_of (λ x. eqb x 0) l) h))) (all_zeros l (and_right (eqb x 0) (all_of (λ x. eqb x 0) l) h))

four : {a b c d a' b' c' d' : ℕ} → a ≡ a' → b ≡ b' → c ≡ c' → d ≡ d' → a ∷ b ∷ c ∷ d ∷ [] ≡ a' ∷ b' ∷ c' ∷ d' ∷ []
four p q r u = cc

-- where record i begins
base_next : (i : ℕ) → 1 ≤ i → base (suc i) ≡ base i + record_words
unfolding base
base_next i h = omega arith

base_end : (n : ℕ) → base (n + 1) ≡ header_words + record_words * n
unfolding base
base_end n = omega arith

base_within : (i n c : ℕ) → 1 ≤ i → i ≤ n → n ≤ c → base i + record_words ≤ header_words + record_words * c
unfolding base
base_within i n c a b h = omega arith

module _ (s t : List ℕ) (sound : SoundSchema s) (fm : Formed s t) (sized : Sized t) where
  abbrev recs : List Rec
  recs = listed (used_at t) (record_of t)

  long : header_words ≤ length t
  long = omega (arith, sized.size)

  -- the header
  header_head : replica_at t ∷ clock_at t ∷ length recs ∷ 0 ∷ [] ≡ take first_words (drop 0 t)
  unfolding replica_at clock_at used_at
  header_head = four refl refl (listed_length (used_at t) (record_of t)) (sym fm.third) ∙ head_words_lem t 0 (omega (arith, long))

  header_firsts : listed most_relations (λ r. follower recs r 0) ≡ take most_relations (drop first_words t)
  unfolding listed first_at
  header_firsts =
      part t first_words most_relations 1 (λ r. follower recs r 0) (omega (arith, long))
      (λ k h. sym (first_link s t sound fm (1 + k) (omega arith) (omega arith)) ∙ ap (word t) (omega arith))

  header_zeros : replicate {A = ℕ} zero_words 0 ≡ take zero_words (drop (first_words + most_relations) t)
  header_zeros =
      zeros_listed t (first_words + most_relations) zero_words (omega (arith, long)) (λ k h. ap (word t) (omega arith) ∙ fm.zeros (k + 1) (omega arith) (omega arith))

  header_words_lem : encode_header (decode t) ≡ take header_words t
  unfolding encode_header decode
  header_words_lem = ap₂ ◌++◌ header_head (ap₂ ◌++◌ header_firsts header_zeros) ∙ three_parts t 0 first_words most_relations zero_words

  -- record i of 1 to used
  module _ (i : ℕ) (a : 1 ≤ i) (b : i ≤ used_at t) where
    inside : base i + record_words ≤ length t
    inside = rw sized.size (base_within i (used_at t) (capacity_of t) a b fm.used)

    record_head : follower recs (relation (record_of t i)) (record_of t i).key ∷ relation (record_of t i) ∷ label (record_of t i) ∷ (record_of t i).cell.flag ∷ [] ≡ take head_words (drop (base i) t)
    unfolding record_of next_at relation_at label_at flag_at
    record_head =
        four (sym (next_link s t sound fm i a b)) (relation_is s t sound fm i a b) (label_is s t sound fm i a b) refl
        ∙ head_words_lem t (base i) (omega (arith, inside))

    record_values : map (λ (g : Reg). g.value) (record_of t i).cell.regs ≡ take fields (drop (base i + head_words) t)
    unfolding record_of listed value_at
    record_values =
        map_from (λ (g : Reg). g.value) 1 fields (λ j. reg (value_at t i j) (stamp_at t i j))
        ∙ part t (base i + head_words) fields 1 (value_at t i) (omega (arith, inside)) (λ k h. ap (word t) (omega arith))

    record_stamps : map (λ (g : Reg). g.stamp) (record_of t i).cell.regs ≡ take fields (drop (base i + head_words + fields) t)
    unfolding record_of listed stamp_at
    record_stamps =
        map_from (λ (g : Reg). g.stamp) 1 fields (λ j. reg (value_at t i j) (stamp_at t i j))
        ∙ part t (base i + head_words + fields) fields 1 (stamp_at t i) (omega (arith, inside)) (λ k h. ap (word t) (omega arith))

    record_words_lem : encode_record recs (record_of t i) ≡ take record_words (drop (base i) t)
    unfolding encode_record
    record_words_lem = ap₂ ◌++◌ record_head (ap₂ ◌++◌ record_values record_stamps) ∙ three_parts t (base i) head_words fields fields

  records_words : (n i : ℕ) → 1 ≤ i → i + n ≤ used_at t + 1 → encode_records recs (from i n (record_of t)) ≡ take (record_words * n) (drop (base i) t)
  unfolding encode_records from
  records_words zero i a b = refl
  records_words (suc n) i a b =
      let e : record_words + record_words * n ≡ record_words * suc n = omega arith in
      ap₂ ◌++◌ (record_words_lem i a (omega arith))
      (records_words n (suc i) (omega arith) (omega arith) ∙ ap (λ (k : ℕ). take (record_words * n) (drop k t)) (base_next i a) ∙ ap (take (record_words * n)) (sym (drop-drop record_words (base i) t)))
      ∙ sym (take-add record_words (record_words * n) (drop (base i) t)) ∙ ap (λ (k : ℕ). take k (drop (base i) t)) e

  -- what stands above
  rest_words : replicate {A = ℕ} (record_words * (capacity_of t - used_at t)) 0 ≡ drop (record_words * used_at t) (drop header_words t)
  unfolding rest_zero
  rest_words =
      let e : record_words * (capacity_of t - used_at t) ≡ length (drop (base (used_at t + 1)) t) = omega (arith, length-drop (base (used_at t + 1)) t, base_end (used_at t), sized.size, fm.used) in
      ap (λ (n : ℕ). replicate {A = ℕ} n 0) e
      ∙ all_zeros (drop (base (used_at t + 1)) t) fm.rest
      ∙ ap (λ (k : ℕ). drop k t) (base_end (used_at t)) ∙ sym (drop-drop (record_words * used_at t) header_words t)

  all_records : encode_records recs recs ≡ take (record_words * used_at t) (drop header_words t)
  unfolding listed base
  all_records = records_words (used_at t) 1 (omega arith) (omega arith)

  value_words : encode (decode t) ≡ t
  unfolding encode decode
  value_words =
      ap₂ ◌++◌ header_words_lem (ap₂ ◌++◌ all_records (ap (λ (n : ℕ). replicate {A = ℕ} (record_words * (capacity_of t - n)) 0) (listed_length (used_at t) (record_of t)) ∙ rest_words))
      ∙ ap (λ (l : List ℕ). take header_words t ++ l) (take-append-drop (record_words * used_at t) (drop header_words t)) ∙ take-append-drop header_words t

pub formed_encoded : (s t : List ℕ) → broken s ≡ false → table_length t ≡ true → well_formed s t ≡ true → encode (decode t) ≡ t
formed_encoded s t b l w = value_words s t (schema_sound s b) (formed s t w) (table_sized t l)
