-- Where records and blocks stand: a record's words lie in the table, apart from the header and from every other record's, and each word
-- behind the header is a field of one record. The stride of records is named in no other file of laws.
-- Assumes nothing.
use Prim.Native.Nat.{ℕ, ◌+◌, ◌*◌, ◌-◌, ◌/◌, ◌%◌, ◌≤◌, ◌<◌}
use mathlib.Core.Path.{◌≡◌, refl}
use mathlib.Core.Bool.{true, false, ◌&&◌, ◌||◌}
use mathlib.Core.List.{List}
use mathlib.Core.Logic.{◌≢◌}
use native.Mathlib.Omega.{arith}
use lib.Dec.{leb, ltb, eqb}
use lib.ListN.{length}
use borrow.Author.Tests.{leb-true, eqb-true, eqb-false, ltb-false}
use Rattle.crdt.proofs.Tests.{or_false, and_left, and_right}
use Rattle.model.specs.Layout.{header_words, record_words, most_records, delta_words, delta_records, base, capacity_of, used_at}
use Rattle.model.specs.Calls.{table_length, delta_length, bad_index}

pub base_first : base 1 ≡ header_words
unfolding base
base_first = refl

pub base_next : (i : ℕ) → 1 ≤ i → base (i + 1) ≡ base i + record_words
unfolding base
base_next i h = omega arith

-- past the header, and no further than the number of records says
pub base_header : (i : ℕ) → header_words ≤ base i
unfolding base
base_header i = omega arith

pub base_most : (i n : ℕ) → i ≤ n → base i ≤ header_words + record_words * n
unfolding base
base_most i n h = omega arith

-- records are disjoint
pub base_apart : (i j : ℕ) → 1 ≤ i → i < j → base i + record_words ≤ base j
unfolding base
base_apart i j h g = omega arith

-- a word is a field of one record only
pub base_field : (i j f g : ℕ) → 1 ≤ i → 1 ≤ j → f < record_words → g < record_words → base i + f ≡ base j + g → (i ≡ j) × (f ≡ g)
unfolding base
base_field i j f g a b p q e = (omega arith, omega arith)

-- word k, behind the header, is a field of record (k - header_words) / record_words + 1
pub base_word : (k : ℕ) → header_words ≤ k → k ≡ base ((k - header_words) / record_words + 1) + (k - header_words) % record_words
unfolding base
base_word k h = omega arith

-- what the length of a table says
pub record Sized (t : List ℕ) : Type 0 where
  pub words : length t ≡ header_words + record_words * capacity_of t
  pub end : length t ≡ base (capacity_of t + 1)
  pub least : header_words ≤ length t
  pub most : capacity_of t ≤ most_records

pub sized : (t : List ℕ) → table_length t ≡ true → Sized t
unfolding table_length capacity_of base
sized t e =
    let p = and_left (leb header_words (length t) && eqb ((length t - header_words) % record_words) 0) (leb ((length t - header_words) / record_words) most_records) e in
    let q = and_right (leb header_words (length t) && eqb ((length t - header_words) % record_words) 0) (leb ((length t - header_words) / record_words) most_records) e in
    let m = leb-true ((length t - header_words) / record_words) most_records q in
    let h = leb-true header_words (length t) (and_left (leb header_words (length t)) (eqb ((length t - header_words) % record_words) 0) p) in
    let z = eqb-true ((length t - header_words) % record_words) 0 (and_right (leb header_words (length t)) (eqb ((length t - header_words) % record_words) 0) p) in
    record { words = omega arith; end = omega arith; least = h; most = m }

-- a record within the capacity lies in the table
pub record_in : (t : List ℕ) (i : ℕ) → table_length t ≡ true → 1 ≤ i → i ≤ capacity_of t → base i + record_words ≤ length t
unfolding base
record_in t i e h g = let s = sized t e in omega arith

-- and also where only the header is known to be there
pub capacity_in_lem : (t : List ℕ) (i : ℕ) → 1 ≤ i → i ≤ capacity_of t → base i + record_words ≤ length t
unfolding base capacity_of
capacity_in_lem t i h g = omega arith

-- the length of a delta
pub delta_sized : (d : List ℕ) → delta_length d ≡ true → length d ≡ delta_words
unfolding delta_length
delta_sized d e = eqb-true (length d) delta_words e

pub delta_capacity : (d : List ℕ) → delta_length d ≡ true → capacity_of d ≡ delta_records
unfolding capacity_of
delta_capacity d e = rw (delta_sized d e)

-- what an index within the capacity says
pub record Inside (t : List ℕ) (i : ℕ) : Type 0 where
  pub small : record_words * i ≤ length t
  pub within : base i + record_words ≤ length t

pub inside : (t : List ℕ) (i : ℕ) → 1 ≤ i → i ≤ capacity_of t → Inside t i
unfolding capacity_of base
inside t i h g = record { small = omega arith; within = omega arith }

pub index_inside : (t : List ℕ) (i : ℕ) → bad_index t i ≡ false → Inside t i
unfolding bad_index
index_inside t i e =
    let a = or_false (eqb i 0 || ltb (used_at t) i) (ltb (capacity_of t) i) e in
    let b = or_false (eqb i 0) (ltb (used_at t) i) a.0 in
    let n : i ≢ 0 = eqb-false i 0 b.0 in
    inside t i (omega arith) (ltb-false (capacity_of t) i a.1)
