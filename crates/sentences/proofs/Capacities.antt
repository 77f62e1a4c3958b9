-- Zeros behind a table make a larger N, and a table cut behind its used records is a table too.
-- Assumes nothing.
use Prim.Native.Nat.{ℕ, ◌+◌, ◌*◌, ◌-◌, ◌≤◌}
use mathlib.Core.Path.{◌≡◌, refl, sym, ◌∙◌, ap, ap₂, subst}
use mathlib.Core.List.{List, ◌++◌, append_assoc, map}
use native.Mathlib.Omega.{arith}
use lib.ListN.{length, take, replicate, replicate-append-replicate}
use lib.Seq.{take-append_seam}
use Rattle.model.specs.Layout.{fields, record_words, most_records, base, capacity_of, used_at}
use Rattle.model.specs.Schemas.{schema_of}
use Rattle.model.specs.Records.{Rec, in_order}
use Rattle.model.specs.Tables.{Table, record_of, decode, encode_records, encode_header, encode, contents}
use Rattle.model.specs.Merge.{merged, too_many}
use Rattle.model.specs.Shown.{shown}
use Rattle.model.specs.Calls.{table_number, merge_number, merge_table, merge_changed, shown_list}
use Rattle.laws.proofs.Valid.{Valid, true_valid}
use Rattle.wellformed.proofs.Ranges.{listed_length}
use Rattle.wellformed.proofs.Facts.{table_sized}
use Rattle.wellformed.proofs.Words.{valid_fits, encode_length}
use Rattle.convergence.specs.Entries.{entry_of}
use Rattle.convergence.proofs.Tables.{Good, good_table, table_good, good_valid, good_encoded, valid_good, valid_value}
use Rattle.convergence.proofs.Walk.{walk_lists}
use Rattle.sentences.specs.Capacities.{OfCapacity}

-- The value with another N.
with_capacity : ℕ → Table → Table
with_capacity n v = record { capacity = n; replica = v.replica; clock = v.clock; records = v.records }

more_zeros : (x y : List ℕ) (a b : ℕ) → x ++ (y ++ replicate a 0) ++ replicate b 0 ≡ x ++ (y ++ replicate (a + b) 0)
more_zeros x y a b =
    append_assoc x (y ++ replicate a 0) (replicate b 0)
    ∙ ap (λ (l : List ℕ). x ++ l) (append_assoc y (replicate a 0) (replicate b 0) ∙ ap (λ (l : List ℕ). y ++ l) (replicate-append-replicate a b 0))

same_header : (v : Table) (m n : ℕ) → encode_header (with_capacity m v) ≡ encode_header (with_capacity n v)
unfolding with_capacity encode_header
same_header v m n = refl

-- Its words are those of a smaller N with zeros behind.
zeros_behind : (v : Table) (m n : ℕ) → length v.records ≤ m → encode (with_capacity m v) ++ replicate (record_words * n) 0 ≡ encode (with_capacity (m + n) v)
unfolding with_capacity encode
zeros_behind v m n h =
    let words : List ℕ = encode_records v.records v.records in
    let free : ℕ = record_words * (m - length v.records) in
    let e : free + record_words * n ≡ record_words * (m + n - length v.records) = omega (arith, h) in
    more_zeros (encode_header (with_capacity m v)) words free (record_words * n)
    ∙ ap₂ (λ (x : List ℕ) (k : ℕ). x ++ (words ++ replicate k 0)) (same_header v m (m + n)) e

module _ (s t : List ℕ) (h : table_number s t ≡ 0) where
  good : Good s t
  good = good_table s t h

  used : length (decode t).records ≡ used_at t
  unfolding decode
  used = listed_length (used_at t) (record_of t)

  within : used_at t ≤ capacity_of t
  unfolding decode
  within = let u : length (decode t).records ≤ capacity_of t = (good_valid s t good).used in omega (arith, u, used)

  -- its words, by its own N
  own_words_lem : encode (with_capacity (capacity_of t) (decode t)) ≡ t
  unfolding with_capacity decode
  own_words_lem = good_encoded s t good

  module _ (n : ℕ) (room : used_at t ≤ n) (most : n ≤ most_records) where
    resized : List ℕ
    resized = encode (with_capacity n (decode t))

    fits : Valid fields (schema_of s) (with_capacity n (decode t))
    unfolding with_capacity
    fits =
        let f = good_valid s t good in
        record { replica = f.replica; clock = f.clock; used = omega (arith, used, room); capacity = most; records = f.records; distinct = f.distinct }

    value : decode resized ≡ with_capacity n (decode t)
    unfolding resized
    value = valid_value s (with_capacity n (decode t)) fits

    whole : Good s resized
    unfolding resized
    whole = valid_good s (with_capacity n (decode t)) good.lent good.sound fits

    records : (decode resized).records ≡ (decode t).records
    unfolding with_capacity
    records = ap (λ (x : Table). x.records) value

    clock : (decode resized).clock ≡ (decode t).clock
    unfolding with_capacity
    clock = ap (λ (x : Table). x.clock) value

    joined : (own : List ℕ) → merged (decode own) (decode resized) ≡ merged (decode own) (decode t)
    unfolding merged with_capacity
    joined own = ap (merged (decode own)) value

    many : (own : List ℕ) → too_many (decode own) (decode resized) ≡ too_many (decode own) (decode t)
    unfolding too_many with_capacity
    many own = ap (too_many (decode own)) value

    number : (own : List ℕ) → merge_number s own resized ≡ merge_number s own t
    unfolding merge_number
    number own = rw (many own, whole.sized, whole.formed, good.sized, good.formed)

    table : (own : List ℕ) → merge_table s own resized ≡ merge_table s own t
    unfolding merge_table
    table own = rw (number own, joined own)

    lists : shown_list s resized ≡ shown_list s t
    lists =
        walk_lists s resized (table_good s resized whole)
        ∙ ap (λ (l : List Rec). map (entry_of (schema_of s)) (shown (schema_of s) (in_order l))) records ∙ sym (walk_lists s t h)

    of_capacity : OfCapacity s t resized n
    unfolding with_capacity contents decode
    of_capacity =
        record {
          accepted = table_good s resized whole;
          capacity = ap (λ (x : Table). x.capacity) value;
          replica = ap (λ (x : Table). x.replica) value;
          same = λ i. record { clock = clock i; records = in_order (records i) };
          list = lists;
          answers = number;
          merges = table;
          counts = λ own. unfold merge_changed in rw (number own, table own);
        }

  -- Zeros behind a table make a larger N.
  pub zeros_enlarge : (n : ℕ) → capacity_of t + n ≤ most_records → OfCapacity s t (t ++ replicate (record_words * n) 0) (capacity_of t + n)
  unfolding resized
  zeros_enlarge n most =
      let e = ap (λ (l : List ℕ). l ++ replicate (record_words * n) 0) (sym own_words_lem) ∙ zeros_behind (decode t) (capacity_of t) n (omega (arith, used, within)) in
      subst (λ (u : List ℕ). OfCapacity s t u (capacity_of t + n)) (sym e) (of_capacity (capacity_of t + n) (omega (arith, within)) most)

  -- A table cut behind its used records is a table too, and so is one cut later.
  module _ (n : ℕ) (room : used_at t ≤ n) (less : n ≤ capacity_of t) where
    most : n ≤ most_records
    most = omega (arith, (table_sized t good.sized).capacity, less)

    cut : List ℕ
    unfolding resized
    cut = resized n room most

    cut_length : length cut ≡ base (n + 1)
    unfolding cut base with_capacity
    cut_length =
        let f = true_valid fields (schema_of s) (with_capacity n (decode t)) (fits n room most) in
        encode_length (with_capacity n (decode t)) (valid_fits (schema_of s) (with_capacity n (decode t)) f) ∙ omega arith

    cut_words : take (base (n + 1)) t ≡ cut
    unfolding cut
    cut_words =
        let z : List ℕ = replicate (record_words * (capacity_of t - n)) 0 in
        let k : n + (capacity_of t - n) ≡ capacity_of t = omega (arith, less) in
        let b = zeros_behind (decode t) n (capacity_of t - n) (omega (arith, used, room)) in
        let e : cut ++ z ≡ t = b ∙ ap (λ (m : ℕ). encode (with_capacity m (decode t))) k ∙ own_words_lem in
        ap₂ (λ (m : ℕ) (l : List ℕ). take m l) (sym cut_length) (sym e) ∙ take-append_seam cut z

    pub cut_behind : OfCapacity s t (take (base (n + 1)) t) n
    unfolding cut
    cut_behind = subst (λ (u : List ℕ). OfCapacity s t u n) (sym cut_words) (of_capacity n room most)
