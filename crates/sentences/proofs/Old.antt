-- Lengths of the figures before document 02, F-7: 97 words for a schema, 196 for a delta, 16 + 20N for a table.
-- Assumes nothing.
use Prim.Native.Nat.{ℕ, ◌≤◌, ◌+◌, ◌*◌, ◌-◌, ◌%◌, ◌/◌}
use mathlib.Core.Path.{◌≡◌}
use mathlib.Core.Logic.{◌⊎◌, inl, inr}
use mathlib.Core.Bool.{true, false, ◌&&◌}
use mathlib.Core.List.{List}
use native.Mathlib.Omega.{arith}
use lib.Dec.{eqb, leb}
use lib.ListN.{length}
use borrow.Author.Tests.{eqb-true, eqb-false, eq-eqb, ne_eqb, le-leb}
use Rattle.crdt.proofs.Tests.{test}
use Rattle.model.specs.Layout.{header_words, record_words, most_records, capacity_of}
use Rattle.model.specs.Calls.{schema_length, table_length, delta_length}

pub old_schema_lem : (s : List ℕ) → length s ≡ 97 → schema_length s ≡ false
unfolding schema_length
old_schema_lem s e = rw e

pub old_delta : (d : List ℕ) → length d ≡ 196 → delta_length d ≡ false
unfolding delta_length
old_delta d e = rw e

-- lengths do not tell old tables from new ones: those of an N that is a multiple of 7 have the length of a new one
pub old_length : (t : List ℕ) (n : ℕ) → n ≤ most_records → length t ≡ header_words + 20 * n → table_length t ≡ eqb (n % 7) 0
unfolding table_length capacity_of
old_length t n h e = go (test (eqb (n % 7) 0))
  where
    least : leb header_words (length t) ≡ true
    least = le-leb header_words (length t) (omega arith)

    most : leb ((length t - header_words) / record_words) most_records ≡ true
    most = le-leb ((length t - header_words) / record_words) most_records (omega arith)

    go : (eqb (n % 7) 0 ≡ true) ⊎ (eqb (n % 7) 0 ≡ false)
        → leb header_words (length t) && eqb ((length t - header_words) % record_words) 0 && leb ((length t - header_words) / record_words) most_records ≡ eqb (n % 7) 0
    go (inl p) =
        let z = eqb-true (n % 7) 0 p in
        let k : length t - header_words ≡ 5 * (n / 7) * record_words = omega arith in
        let w : (length t - header_words) % record_words ≡ 0 = omega (arith, k) in
        rw (p, least, most, eq-eqb _ _ w)
    go (inr p) = rw (p, least, most, ne_eqb ((length t - header_words) % record_words) 0 (λ q. eqb-false (n % 7) 0 p (divides q)))
      where
        seven : (j : ℕ) → n ≡ 7 * j → n % 7 ≡ 0
        seven j f = omega arith

        sevens : (k : ℕ) → 20 * n ≡ record_words * k → n % 7 ≡ 0
        sevens k f = let l : 4 * k ≤ 3 * n = omega arith in seven (3 * n - 4 * k) (omega arith)

        divides : (length t - header_words) % record_words ≡ 0 → n % 7 ≡ 0
        divides q = sevens ((length t - header_words) / record_words) (omega arith)

-- and have five sevenths of its records
pub old_capacity : (t : List ℕ) (n : ℕ) → length t ≡ header_words + 20 * (7 * n) → capacity_of t ≡ 5 * n
unfolding capacity_of
old_capacity t n e = omega arith
