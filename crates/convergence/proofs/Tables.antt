-- Tables of words: what an accepted call found, and what it leaves, by their values.
-- Assumes nothing.
use Prim.Native.Nat.{ℕ, zero, suc, ◌+◌, ◌*◌, ◌-◌, ◌/◌, ◌%◌, ◌≤◌, ◌<◌}
use mathlib.Core.Path.{◌≡◌, refl, sym, ◌∙◌, ap}
use mathlib.Core.Logic.{◌⊎◌, inl, inr, ◌↔◌}
use mathlib.Core.Bool.{Bool, true, false, cond, ◌||◌, ◌&&◌, not}
use mathlib.Core.List.Memᴰ
use mathlib.Core.List.{List, [], ◌∷◌}
use native.Mathlib.Omega.{arith}
use lib.Dec.{eqb, leb, ltb}
use lib.ListN.{length, get_or, set, replicate}
use borrow.Author.Tests.{ltb-true, ltb-false, le-ltb, lt-ltb, leb-true, eqb-true, not-false as unnot}
use Rattle.crdt.specs.Labels.{largest_counter, is_replica}
use Rattle.crdt.proofs.Tests.{test, clash, not_true, not_false, and_left, and_right, and_both, or_cases, or_left, or_right, or_false}
use Rattle.model.specs.Layout.{fields, header_words, record_words, most_records, capacity_of, replica_word, relations, field_count, kind_at}
use Rattle.model.specs.Lists.{all_of, listed, Check, check, lowest}
use Rattle.model.specs.Schemas.{Relation, broken, no_relation, relation_of, schema_of, relation_numbered}
use Rattle.model.specs.Records.{Rec, in_order, join, Distinct}
use Rattle.model.specs.Tables.{Table, decode, encode, contents}
use Rattle.model.specs.WellFormed.{well_formed}
use Rattle.model.specs.Valid.{valid}
use Rattle.model.specs.Merge.{merged_records, merged, too_many}
use Rattle.model.specs.Edits.{Edit, delta_of, edited_by}
use Rattle.model.specs.Calls.{schema_length, table_length, delta_length, done, schema_number, table_number, start_number, start_table, merge_number, merge_table, edit_number, edit_table, edit_delta}
use Rattle.laws.proofs.Lists.{◌∈◌}
use Rattle.laws.proofs.Valid.{Valid, valid_true, true_valid, merged_valid}
use Rattle.laws.proofs.Checks.{Passed, numbered, passed, none_applies}
use Rattle.laws.proofs.Drafts.{Drafted}
use Rattle.wellformed.proofs.Ranges.{listed_length, listed_at}
use Rattle.wellformed.proofs.Words.{decode_encode, encode_table, start_encodes, enc_capacity, valid_fits}
use Rattle.wellformed.proofs.Formed.{encode_formed, schema_length_lem}
use Rattle.wellformed.proofs.Facts.{SoundSchema, schema_sound, Sized, table_sized}
use Rattle.wellformed.proofs.Values.{formed_valid}
use Rattle.wellformed.proofs.Encoded.{formed_encoded}

-- a schema that isn't broken, and a well-formed table, of their lengths
pub record Good (s t : List ℕ) : Type 0 where
  pub lent : schema_length s ≡ true
  pub sized : table_length t ≡ true
  pub sound : broken s ≡ false
  pub formed : well_formed s t ≡ true

pub good_table : (s t : List ℕ) → table_number s t ≡ 0 → Good s t
unfolding table_number all_of
good_table s t h =
    let p = passed _ refl h in
    let l = unnot _ p.0 in
    record { lent = and_left (schema_length s) _ l; sized = and_right (schema_length s) _ l; sound = p.1.0; formed = unnot _ p.1.1.0 }

not_both : (x : Bool) → x ≡ true → not x ≡ false
not_both true h = refl
not_both false h = sym h

pub table_good : (s t : List ℕ) → Good s t → table_number s t ≡ 0
unfolding table_number
table_good s t g = none_applies _ (not_both _ (and_both _ _ g.lent g.sized), (g.sound, (not_both _ g.formed, tt)))

pub good_valid : (s t : List ℕ) → Good s t → Valid fields (schema_of s) (decode t)
good_valid s t g = valid_true fields (schema_of s) (decode t) (formed_valid s t g.sound g.sized g.formed)

pub good_encoded : (s t : List ℕ) → Good s t → encode (decode t) ≡ t
good_encoded s t g = formed_encoded s t g.sound g.sized g.formed

-- the encoding of a valid value, and the value of the encoding
pub valid_good : (s : List ℕ) (v : Table) → schema_length s ≡ true → broken s ≡ false → Valid fields (schema_of s) v → Good s (encode v)
valid_good s v l b f =
    let e = true_valid fields (schema_of s) v f in
    record { lent = l; sized = encode_table (schema_of s) v e; sound = b; formed = encode_formed s v b e }

pub valid_value : (s : List ℕ) (v : Table) → Valid fields (schema_of s) v → decode (encode v) ≡ v
valid_value s v f = decode_encode (schema_of s) v (true_valid fields (schema_of s) v f)

-- a slice is well-formed exactly if its value is valid and it is that value's encoding
pub formed_exactly : (s t : List ℕ) → broken s ≡ false → table_length t ≡ true → (well_formed s t ≡ true) ↔ ((valid fields (schema_of s) (decode t) ≡ true) × (encode (decode t) ≡ t))
formed_exactly s t b l = (λ w. (formed_valid s t b l w, formed_encoded s t b l w), λ v. rw v.1 at (encode_formed s (decode t) b v.0))

-- a relation of a schema that isn't broken has at most as many fields as a record
pub narrow : (s : List ℕ) → broken s ≡ false → (r : ℕ) → length (relation_numbered (schema_of s) r).kinds ≤ fields
unfolding relation_numbered schema_of
narrow s b r = go (test (ltb (r - 1) (relations s)))
  where
    count : (q : ℕ) → 1 ≤ q → q ≤ relations s → length (relation_of s q).kinds ≤ fields
    count q l m = unfold relation_of in rw (listed_length (field_count s q) (kind_at s q)) ((schema_sound s b).counts q l m)

    past : (l : List Relation) (j : ℕ) → length l ≤ j → (get_or l j no_relation).kinds ≡ []
    past [] j h = refl
    past (x ∷ l) zero h = absurd (omega arith)
    past (x ∷ l) (suc j) h = past l j (omega arith)

    go : (ltb (r - 1) (relations s) ≡ true) ⊎ (ltb (r - 1) (relations s) ≡ false) → length (get_or (listed (relations s) (relation_of s)) (r - 1) no_relation).kinds ≤ fields
    go (inl p) =
        let h : r - 1 < relations s = ltb-true (r - 1) (relations s) p in
        let e : get_or (listed (relations s) (relation_of s)) (r - 1 + 1 - 1) no_relation ≡ relation_of s (r - 1 + 1) = listed_at (relations s) (relation_of s) (r - 1 + 1) no_relation (omega arith) (omega arith) in
        let z : r - 1 + 1 - 1 ≡ r - 1 = omega arith in
        let e' : get_or (listed (relations s) (relation_of s)) (r - 1) no_relation ≡ relation_of s (r - 1 + 1) = rw z at e in
        rw e' (count (r - 1 + 1) (omega arith) (omega arith))
    go (inr p) =
        let h : relations s ≤ r - 1 = ltb-false (r - 1) (relations s) p in
        rw (past (listed (relations s) (relation_of s)) (r - 1) (omega (arith, listed_length (relations s) (relation_of s)))) (omega arith)

-- a start
pub record Begun (s t : List ℕ) : Type 0 where
  pub good : Good s t
  pub empty : (decode t).records ≡ []

pub start_good : (s t : List ℕ) (r : ℕ) → schema_length s ≡ true → broken s ≡ false → start_number t r ≡ 0 → Begun s (start_table t r)
unfolding start_table start_number all_of
start_good s t r l b h =
    let p = passed _ refl h in
    let z = table_sized t (unnot (table_length t) p.0) in
    let v : Table = record { capacity = capacity_of t; replica = r; clock = 0; records = [] } in
    let fine : Valid fields (schema_of s) v = record { replica = unnot (is_replica r) p.1.0; clock = omega arith; used = omega arith; capacity = z.capacity; records = λ x m. absurd (Memᴰ.not-nil m); distinct = tt } in
    let e : set (replicate (length t) 0) replica_word r ≡ encode v = rw z.size (start_encodes (capacity_of t) r) in
    rw h (rw e (record { good = valid_good s v l b fine; empty = ap (λ (u : Table). u.records) (valid_value s v fine) }))

-- a merge of good tables: it fits, or it answers 11
pub data Merging (s a b : List ℕ) : Type 0 where
  fits : merge_number s a b ≡ 0 → merge_table s a b ≡ encode (merged (decode a) (decode b)) → length (merged_records (decode a).records (decode b).records) ≤ (decode a).capacity → Merging s a b
  full : merge_number s a b ≡ 11 → merge_table s a b ≡ a → (decode a).capacity < length (merged_records (decode a).records (decode b).records) → Merging s a b

merge_done : (s a b : List ℕ) → merge_number s a b ≡ 0 → merge_table s a b ≡ encode (merged (decode a) (decode b))
unfolding merge_table
merge_done s a b n = rw n

merge_full : (s a b : List ℕ) → merge_number s a b ≡ 11 → merge_table s a b ≡ a
unfolding merge_table
merge_full s a b n = rw n

merge_number_lem : (s a b : List ℕ) → not (schema_length s && table_length a && table_length b) ≡ false → broken s ≡ false → not (well_formed s a) ≡ false → not (well_formed s b) ≡ false
    → merge_number s a b ≡ cond (too_many (decode a) (decode b)) 11 0
unfolding merge_number lowest
merge_number_lem s a b l n f g = rw (l, n, f, g)

too_many_lem : (a b : Table) → too_many a b ≡ true → a.capacity < length (merged_records a.records b.records)
unfolding too_many
too_many_lem a b p = ltb-true a.capacity (length (merged_records a.records b.records)) p

few_enough : (a b : Table) → too_many a b ≡ false → length (merged_records a.records b.records) ≤ a.capacity
unfolding too_many
few_enough a b p = ltb-false a.capacity (length (merged_records a.records b.records)) p

pub merging : (s a b : List ℕ) → Good s a → Good s b → Merging s a b
merging s a b ga gb = go (test (too_many (decode a) (decode b)))
  where
    lengths : not (schema_length s && table_length a && table_length b) ≡ false
    lengths = not_both _ (and_both _ _ (and_both _ _ ga.lent ga.sized) gb.sized)

    number : merge_number s a b ≡ cond (too_many (decode a) (decode b)) 11 0
    number = merge_number_lem s a b lengths ga.sound (not_both _ ga.formed) (not_both _ gb.formed)

    go : (too_many (decode a) (decode b) ≡ true) ⊎ (too_many (decode a) (decode b) ≡ false) → Merging s a b
    go (inl p) =
        let n : merge_number s a b ≡ 11 = number ∙ rw p in
        full n (merge_full s a b n) (too_many_lem (decode a) (decode b) p)
    go (inr p) =
        let n : merge_number s a b ≡ 0 = number ∙ rw p in
        fits n (merge_done s a b n) (few_enough (decode a) (decode b) p)

-- what an accepted merge found
pub merge_good : (s a b : List ℕ) → merge_number s a b ≡ 0 → Good s a × Good s b
unfolding merge_number all_of
merge_good s a b h =
    let p = passed _ refl h in
    let l = unnot (schema_length s && table_length a && table_length b) p.0 in
    let l' = and_left (schema_length s && table_length a) _ l in (
      record { lent = and_left (schema_length s) _ l'; sized = and_right (schema_length s) _ l'; sound = p.1.0; formed = unnot (well_formed s a) p.1.1.0 },
      record { lent = and_left (schema_length s) _ l'; sized = and_right (schema_length s && table_length a) _ l; sound = p.1.0; formed = unnot (well_formed s b) p.1.1.1.0 },
    )

-- and what it leaves
pub record Left (s t : List ℕ) (v : Table) : Type 0 where
  pub good : Good s t
  pub value : decode t ≡ v

pub left_by : (s : List ℕ) (a b : Table) → schema_length s ≡ true → broken s ≡ false → Valid fields (schema_of s) a → Valid fields (schema_of s) b → length (merged_records a.records b.records) ≤ a.capacity
    → Left s (encode (merged a b)) (merged a b)
left_by s a b l n va vb r =
    let f = merged_valid a b va vb r in
    record { good = valid_good s (merged a b) l n f; value = valid_value s (merged a b) f }

pub merge_left : (s a b : List ℕ) → merge_number s a b ≡ 0 → Left s (merge_table s a b) (merged (decode a) (decode b))
merge_left s a b h = let g = merge_good s a b h in go g.0 g.1 (merging s a b g.0 g.1)
  where
    go : Good s a → Good s b → Merging s a b → Left s (merge_table s a b) (merged (decode a) (decode b))
    go ga gb (fits n e r) = rw e (left_by s (decode a) (decode b) ga.lent ga.sound (good_valid s a ga) (good_valid s b gb) r)
    go ga gb (full n e r) = let z : ◌≡◌ {A = ℕ} 0 11 = sym h ∙ n in absurd (omega arith)

-- what an accepted edit found, and what it leaves: its table, and its delta
pub edit_good : (index : Bool) (s t d : List ℕ) (e : Edit) → all_of numbered e.checks ≡ true → edit_number index s t d e ≡ 0 → Good s t × (lowest e.checks ≡ 0)
unfolding edit_number all_of
edit_good index s t d e m h =
    let p = passed (check 1 (not (schema_length s && table_length t && delta_length d) || index) ∷ check 2 (broken s) ∷ check 3 (not (well_formed s t)) ∷ e.checks) m h in
    let l = unnot (schema_length s && table_length t && delta_length d) (or_false _ _ p.0).0 in
    let l' = and_left (schema_length s && table_length t) _ l in (
      record { lent = and_left (schema_length s) _ l'; sized = and_right (schema_length s) _ l'; sound = p.1.0; formed = unnot (well_formed s t) p.1.1.0 },
      none_applies e.checks p.1.1.1,
    )

pub edit_left : (index : Bool) (s t d : List ℕ) (e : Edit) → Good s t → Drafted fields (schema_of s) (decode t) e → edit_number index s t d e ≡ 0
    → Left s (edit_table (edit_number index s t d e) t e) (merged (decode t) (delta_of fields (decode t) e)) × Left s (edit_delta (edit_number index s t d e) t d e) (delta_of fields (decode t) e)
unfolding edit_table edit_delta edited_by
edit_left index s t d e g f h =
    rw h (
      left_by s (decode t) (delta_of fields (decode t) e) g.lent g.sound (good_valid s t g) f.delta f.fits,
      record { good = valid_good s _ g.lent g.sound f.delta; value = valid_value s _ f.delta },
    )
