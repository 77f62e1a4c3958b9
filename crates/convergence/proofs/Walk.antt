-- The walk over the marks of an accepted table gives the shown records in list order, and is ended by its answer.
-- Assumes nothing.
use Prim.Native.Nat.{ℕ, zero, suc, ◌+◌, ◌-◌, ◌%◌, ◌≤◌, ◌<◌}
use mathlib.Core.Path.{◌≡◌, refl, sym, ◌∙◌, ap}
use mathlib.Core.Logic.{◌⊎◌, inl, inr, ◌≢◌}
use mathlib.Core.Bool.{true, false}
use mathlib.Core.List.Memᴰ
use mathlib.Core.List.{List, [], ◌∷◌, ◌++◌, map}
use mathlib.Core.Option.{Option, some}
use native.Mathlib.Omega.{arith}
use lib.ListN.{length, get_or, replicate, length-append, length-map, length-replicate}
use borrow.Author.Tests.{ne_eqb}
use Rattle.crdt.specs.Cells.{Cell}
use Rattle.crdt.proofs.Tests.{test, clash}
use Rattle.model.specs.Layout.{fields, capacity_of, used_at}
use Rattle.model.specs.Lists.{listed}
use Rattle.model.specs.Schemas.{schema_of}
use Rattle.model.specs.Records.{Rec, label, label_span, has, in_order, at, Rising, Distinct, least_above, position}
use Rattle.model.specs.Tables.{record_of, decode}
use Rattle.model.specs.Shown.{shown}
use Rattle.model.specs.Edits.{record_at}
use Rattle.model.specs.Calls.{table_number, marks_of, marks_number, marks_count, marks_marks, marked, place_key, walk_number, walk_given, Entry, entry_at, Walked, walked, table_walked, shown_list}
use Rattle.convergence.specs.Entries.{entry_of}
use Rattle.laws.proofs.Lists.{◌∈◌}
use Rattle.laws.proofs.Order.{order_rising, order_length, at_order}
use Rattle.laws.proofs.Members.{rising_distinct, at_member, one_record}
use Rattle.laws.proofs.Valid.{Valid, valid_true}
use Rattle.laws.proofs.Drafts.{shown_in, shown_has, has_order}
use Rattle.laws.proofs.Shown.{has_in, in_has}
use Rattle.laws.proofs.Fields.{label_nonzero}
use Rattle.wellformed.proofs.Ranges.{listed_length}
use Rattle.wellformed.proofs.Follow.{no_rec, has_here, has_there, has_cases, has_none, least_is, least_none, position_some, position_none, record_at as recordOn}
use Rattle.wellformed.proofs.Values.{formed_valid}
use Rattle.convergence.proofs.Rising.{Few, shown_few, rising_has}
use Rattle.convergence.proofs.Marked.{marked_only, held_by, held_has, has_held}
use Rattle.convergence.proofs.Accepted.{accepted, marks_zero, walk_zero}
use Rattle.convergence.proofs.Words.{entry_is, record_is}

-- one turn of the walk
walked_end : (n : ℕ) (s t m : List ℕ) (p : ℕ) → walk_given s t m p ≡ 0 → walked (suc n) s t m p ≡ record { given = []; stop = p }
unfolding walked
walked_end n s t m p e = rw e

walked_more : (n : ℕ) (s t m : List ℕ) (p i : ℕ) → walk_given s t m p ≡ i → i ≢ 0
    → walked (suc n) s t m p ≡ record { given = i ∷ (walked n s t m i).given; stop = (walked n s t m i).stop }
unfolding walked
walked_more n s t m p i e ne = rw (e, ne_eqb i 0 ne)

pub get_d_in : {A : Type 0} (l : List A) (n : ℕ) (d : A) → n < length l → get_or l n d ∈ l
get_d_in [] n d h = absurd (omega arith)
get_d_in (x ∷ xs) zero d h = Memᴰ.head refl
get_d_in (x ∷ xs) (suc n) d h = Memᴰ.tail (get_d_in xs n d (omega arith))

rising_one : (l : List Rec) → has l 0 ≡ false → Rising 0 l → Rising 1 l
rising_one [] h r = tt
rising_one (x ∷ xs) h r =
    let n : 0 ≢ x.key = λ e. clash (rw e (has_here x xs)) h in
    (omega arith, r.1)

cons_same : {a b : Entry} {l l' : List Entry} → a ≡ b → l ≡ l' → a ∷ l ≡ b ∷ l'
cons_same p q = cc

padded_length : (p : Rec → ℕ) (l : List Rec) (n : ℕ) → length l ≤ n → length (map p l ++ replicate (n - length l) 0) ≡ n
padded_length p l n h = simp (length-append, length-map, length-replicate) (omega arith)

up_to : (k j : ℕ) → (k < j → ⊥) → j ≤ k
up_to k j n = omega arith

past : (x : Rec) (xs : List Rec) (j : ℕ) → has (x ∷ xs) j ≡ true → x.key < j → has xs j ≡ true
past x xs j h l = go (has_cases x xs j h)
  where
    go : (j ≡ x.key) ⊎ (has xs j ≡ true) → has xs j ≡ true
    go (inl e) = absurd (omega arith)
    go (inr q) = q

-- the walk from a place is the list l, and was ended
record Ends (s t m : List ℕ) (w : Walked) (l : List Rec) : Type 0 where
  listed : map (entry_at s t) w.given ≡ map (entry_of (schema_of s)) l
  number : walk_number s t m w.stop ≡ 0
  given : walk_given s t m w.stop ≡ 0

module _ (s t m : List ℕ) (T : table_number s t ≡ 0) (size : length m ≡ capacity_of t) where
  abbrev recs : List Rec
  recs = (decode t).records

  value_valid : Valid fields (schema_of s) (decode t)
  value_valid = let a = accepted s t T in valid_true fields (schema_of s) (decode t) (formed_valid s t a.sound a.table a.formed)

  used_is : length recs ≡ used_at t
  unfolding decode
  used_is = listed_length (used_at t) (record_of t)

  no_zero : has recs 0 ≡ false
  no_zero = go (test (has recs 0))
    where
      go : (has recs 0 ≡ true) ⊎ (has recs 0 ≡ false) → has recs 0 ≡ false
      go (inr e) = e
      go (inl e) = let r = has_in recs 0 e in absurd (label_nonzero (label r.0) (value_valid.records r.0 r.1).labelled (ap (λ (k : ℕ). k % label_span) r.2))

  given_is : (p : ℕ) → p ≤ used_at t → walk_given s t m p ≡ position (least_above (place_key (decode t) p) (marked m recs)) recs
  unfolding walk_given
  given_is p h = rw (walk_zero s t m T size p h)

  place_key_lem : (i : ℕ) → 1 ≤ i → place_key (decode t) i ≡ (recordOn recs i).key
  unfolding place_key record_at
  place_key_lem i h = let n : i ≢ 0 = omega arith in rw (ne_eqb i 0 n)

  -- From a place on, where l rises above the key of the place, has the keys marked above it, and the fuel exceeds its length.
  walk_on : (n : ℕ) (l : List Rec) (p : ℕ) → p ≤ used_at t → Rising (suc (place_key (decode t) p)) l
      → ((j : ℕ) → has (marked m recs) j ≡ true → place_key (decode t) p < j → has l j ≡ true)
      → ((j : ℕ) → has l j ≡ true → has (marked m recs) j ≡ true)
      → ((j : ℕ) → has l j ≡ true → has recs j ≡ true)
      → ((y : Rec) → y ∈ l → entry_at s t (position y.key recs) ≡ entry_of (schema_of s) y)
      → length l < n → Ends s t m (walked n s t m p) l
  walk_on zero l p b r f g c e h = absurd (omega arith)
  walk_on (suc n) [] p b r f g c e h =
      let q : least_above (place_key (decode t) p) (marked m recs) ≡ 0 = least_none _ _ (λ j a. up_to _ j (λ d. clash (f j a d) (has_none j))) in
      let z : walk_given s t m p ≡ 0 = given_is p b ∙ rw q (position_none 0 recs no_zero) in
      rw (walked_end n s t m p z) (record { listed = refl; number = walk_zero s t m T size p b; given = z })
  walk_on (suc n) (x ∷ xs) p b r f g c e h =
      let k : ℕ = place_key (decode t) p in
      let i : ℕ = position x.key recs in
      let q : least_above k (marked m recs) ≡ x.key = least_is k x.key (marked m recs) (omega (arith, r.0)) (g x.key (has_here x xs)) (λ j a d. rising_has x.key (x ∷ xs) j (omega arith, r.1) (f j a d)) in
      let P = position_some x.key recs (c x.key (has_here x xs)) in
      let z : walk_given s t m p ≡ i = given_is p b ∙ ap (λ (a : ℕ). position a recs) q in
      let ne : i ≢ 0 = omega (arith, P.from_one) in
      let u : place_key (decode t) i ≡ x.key = place_key_lem i P.from_one ∙ P.keyed in
      let ih = walk_on n xs i (omega (arith, P.within, used_is)) (rw u r.1) (λ j a d. let d' : x.key < j = rw u at d in past x xs j (f j a (omega (arith, r.0))) d') (λ j a. g j (has_there x xs j a)) (λ j a. c j (has_there x xs j a)) (λ y a. e y (Memᴰ.tail a)) (omega arith) in
      rw (walked_more n s t m p i z ne) (record { listed = cons_same (e x (Memᴰ.head refl)) ih.listed; number = ih.number; given = ih.given })

module _ (s t : List ℕ) (T : table_number s t ≡ 0) where
  abbrev records : List Rec
  records = (decode t).records

  abbrev shown_records : List Rec
  shown_records = shown (schema_of s) (in_order (decode t).records)

  abbrev marks : List ℕ
  marks = marks_marks s t (replicate (capacity_of t) 0)

  pub table_valid : Valid fields (schema_of s) (decode t)
  table_valid = value_valid s t (replicate (capacity_of t) 0) T (length-replicate (capacity_of t) 0)

  marks_are : marks ≡ marks_of s t
  unfolding marks_marks
  marks_are = rw (marks_zero s t (replicate (capacity_of t) 0) T (length-replicate (capacity_of t) 0))

  marks_size : length records ≤ (decode t).capacity → length (marks_of s t) ≡ capacity_of t
  unfolding marks_of decode
  marks_size h = padded_length _ (listed (used_at t) (record_of t)) (capacity_of t) h

  marks_long : length marks ≡ capacity_of t
  marks_long = rw marks_are (marks_size table_valid.used)

  marked_are : marked marks records ≡ held_by shown_records records
  marked_are = rw marks_are (unfold marks_of in marked_only _ records _)

  pub shown_rising : Few (used_at t) shown_records
  shown_rising =
      shown_few (schema_of s) (used_at t) (in_order records)
      (record { rising = order_rising records; few = omega (arith, order_length records table_valid.distinct, used_is s t marks T marks_long) })

  shown_held : (j : ℕ) → has shown_records j ≡ true → has records j ≡ true
  shown_held j h = sym (has_order records j) ∙ shown_has (schema_of s) (in_order records) j h

  -- the entry read at the position of a shown record is that record's
  found : (y : Rec) → y ∈ shown_records → entry_at s t (position y.key records) ≡ entry_of (schema_of s) y
  found y h =
      let a = accepted s t T in
      let P = position_some y.key records (shown_held y.key (in_has shown_records y y.key h refl)) in
      let i : ℕ = position y.key records in
      let hi : i ≤ used_at t = omega (arith, P.within, used_is s t marks T marks_long) in
      let e : recordOn records i ≡ y = one_record records (recordOn records i) y table_valid.distinct (get_d_in records (i - 1) no_rec (omega (arith, P.within, P.from_one))) (shown_in (schema_of s) (in_order records) y h) P.keyed in
      entry_is s t a.sound a.formed i P.from_one hi ∙ ap (entry_of (schema_of s)) (sym (record_is s t a.sound a.formed i P.from_one hi) ∙ e)

  shown_zero : has shown_records 0 ≡ false
  shown_zero = go (test (has shown_records 0))
    where
      go : (has shown_records 0 ≡ true) ⊎ (has shown_records 0 ≡ false) → has shown_records 0 ≡ false
      go (inl e) = clash (shown_held 0 e) (no_zero s t marks T marks_long)
      go (inr e) = e

  from_one : Rising (suc (place_key (decode t) 0)) shown_records
  unfolding place_key
  from_one = rising_one shown_records shown_zero shown_rising.rising

  walk_whole : Ends s t marks (table_walked s t) shown_records
  unfolding table_walked
  walk_whole =
      walk_on s t marks T marks_long (used_at t + 1) shown_records 0 (omega arith) from_one
      (λ j a d. held_has shown_records records j (rw marked_are at a))
      (λ j a. rw marked_are (has_held shown_records records j a (shown_held j a)))
      shown_held found (omega (arith, shown_rising.few))

  -- the list that the table shows is its shown records in list order
  pub walk_lists : shown_list s t ≡ map (entry_of (schema_of s)) (shown (schema_of s) (in_order (decode t).records))
  unfolding shown_list
  walk_lists = walk_whole.listed

  -- the walk was ended by its answer
  pub walk_ends : (walk_number s t (marks_marks s t (replicate (capacity_of t) 0)) (table_walked s t).stop ≡ 0)
      × (walk_given s t (marks_marks s t (replicate (capacity_of t) 0)) (table_walked s t).stop ≡ 0)
  walk_ends = (walk_whole.number, walk_whole.given)

  -- the marks count the list
  pub marks_count_lem : (m : List ℕ) → length m ≡ capacity_of t → (marks_number s t m ≡ 0) × (marks_count s t m ≡ length (shown_list s t))
  unfolding marks_count
  marks_count_lem m h =
      let z = marks_zero s t m T h in
      (z, rw z (sym (ap length walk_lists ∙ length-map shown_records (entry_of (schema_of s)))))
