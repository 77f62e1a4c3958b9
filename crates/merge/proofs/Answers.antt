-- What a merge answers, check by check, and what follows from answer 0.
-- Assumes nothing.
use Prim.Native.Nat.{ℕ, ◌+◌, ◌≤◌}
use mathlib.Core.Path.{◌≡◌, refl, sym, ◌∙◌, ap, ap₂}
use mathlib.Core.Bool.{Bool, true, false, cond, ◌&&◌, not}
use mathlib.Core.List.{List, [], ◌∷◌}
use mathlib.Core.Logic.{◌≢◌}
use native.Mathlib.Omega.{arith}
use lib.Dec.{eqb, ltb}
use lib.ListN.{length}
use borrow.Author.Tests.{ltb-false, ne_eqb, not-false}
use Rattle.model.specs.Layout.{most_records, capacity_of, used_at}
use Rattle.model.specs.Lists.{lowest, all_of, check}
use Rattle.model.specs.Schemas.{broken}
use Rattle.model.specs.Tables.{Table, decode, encode}
use Rattle.model.specs.WellFormed.{well_formed}
use Rattle.model.specs.Merge.{merged_records, merged, too_many, changes}
use Rattle.model.specs.Calls.{schema_length, table_length, merge_number, merge_table, merge_changed}
use Rattle.laws.proofs.Checks.{passed}
use Rattle.convergence.proofs.Tables.{merge_left}
use Rattle.merge_laws.specs.Absorb.{records_in, Whole, Mergeable}
use Rattle.merge_laws.proofs.Chain.{merged_missing, missing_within}
use Rattle.merge_laws.proofs.Wholes.{first_long, second_long, formed_mergeable}
use Rattle.model.specs.Records.{Rec, place}
use Rattle.answers.specs.Told.{Told, told}

-- how many records a merge gives at most
pub merged_small : (t b : List ℕ) → Whole t → Whole b → length (merged_records (records_in t) (records_in b)) ≤ most_records + most_records
merged_small t b wt wb =
    let v = wt.value in
    let u = wb.value in
    omega (arith, merged_missing (records_in t) b wb, missing_within (records_in t) (records_in b) (place 1 0) u.single, v.room, v.most, u.room, u.most)

pub full_is : (t b : List ℕ) (c u n : ℕ) → c ≡ capacity_of t → u ≡ used_at t → used_at t + n ≡ length (merged_records (records_in t) (records_in b)) → ltb c (u + n) ≡ too_many (decode t) (decode b)
unfolding too_many decode
full_is t b c u n e d h = rw (e, d) (ap (ltb (capacity_of t)) h)

-- each answer
module _ (s t b : List ℕ) where
  abbrev lengths : Bool
  lengths = schema_length s && table_length t && table_length b

  module _ (l : (schema_length s && table_length t && table_length b) ≡ true) where
    pub number_2 : broken s ≡ true → 2 ≡ merge_number s t b
    unfolding merge_number lowest
    number_2 nb = rw (l, nb)

    pub number_3 : broken s ≡ false → well_formed s t ≡ false → 3 ≡ merge_number s t b
    unfolding merge_number lowest
    number_3 nb wt = rw (l, nb, wt)

    pub number_4 : broken s ≡ false → well_formed s t ≡ true → well_formed s b ≡ false → 4 ≡ merge_number s t b
    unfolding merge_number lowest
    number_4 nb wt wb = rw (l, nb, wt, wb)

    pub number_11 : broken s ≡ false → well_formed s t ≡ true → well_formed s b ≡ true → too_many (decode t) (decode b) ≡ true → 11 ≡ merge_number s t b
    unfolding merge_number lowest
    number_11 nb wt wb f = rw (l, nb, wt, wb, f)

    pub number_0 : broken s ≡ false → well_formed s t ≡ true → well_formed s b ≡ true → too_many (decode t) (decode b) ≡ false → 0 ≡ merge_number s t b
    unfolding merge_number lowest
    number_0 nb wt wb f = rw (l, nb, wt, wb, f)

  pub number_1 : (schema_length s && table_length t && table_length b) ≡ false → 1 ≡ merge_number s t b
  unfolding merge_number lowest
  number_1 l = rw l

  -- answer 0
  pub accepted : 0 ≡ merge_number s t b → Mergeable t b
  unfolding merge_number all_of too_many
  accepted e =
      let p =
      passed
      (check 1 (not (schema_length s && table_length t && table_length b)) ∷ check 2 (broken s) ∷ check 3 (not (well_formed s t)) ∷ check 4 (not (well_formed s b)) ∷ check 11 (too_many (decode t) (decode b)) ∷ [])
      refl (sym e) in
      let l = not-false _ p.0 in
      formed_mergeable s t b p.1.0 (first_long s t b l) (not-false _ p.1.1.0) (second_long s t b l) (not-false _ p.1.1.1.0) (ltb-false _ _ p.1.1.1.1.0)

  pub done_words : (u : List ℕ) → 0 ≡ merge_number s t b → u ≡ encode (merged (decode t) (decode b)) → u ≡ merge_table s t b
  unfolding merge_table
  done_words u e d = d ∙ sym (ap (λ (n : ℕ). cond (eqb n 0) (encode (merged (decode t) (decode b))) t) (sym e))

  pub refused_words : merge_number s t b ≢ 0 → t ≡ merge_table s t b
  unfolding merge_table
  refused_words n = rw (ne_eqb (merge_number s t b) 0 n)

  -- the figure
  done_figure : (n : ℕ) → 0 ≡ merge_number s t b → n ≡ changes (records_in t) (merged_records (records_in t) (records_in b)) → n ≡ merge_changed s t b
  unfolding merge_changed merged
  done_figure n e d =
      let v : (decode (merge_table s t b)).records ≡ merged_records (records_in t) (records_in b) = ap (λ (v : Table). v.records) (merge_left s t b (sym e)).value in
      d ∙ ap (λ (l : List Rec). changes (records_in t) l) (sym v) ∙ ap (λ (k : ℕ). cond {A = ℕ} (eqb k 0) (changes (records_in t) (decode (merge_table s t b)).records) 0) e

  refused_figure : merge_number s t b ≢ 0 → 0 ≡ merge_changed s t b
  unfolding merge_changed
  refused_figure n = rw (ne_eqb (merge_number s t b) 0 n)

-- by what the answer tells
module _ (s t b : List ℕ) (n : ℕ) (d : told n 0 ≡ told (merge_number s t b) 0) where
  is_number : n ≡ merge_number s t b
  is_number = ap (λ (x : Told). x.number) d

  pub refused_at : n ≢ 0 → t ≡ merge_table s t b
  refused_at h = refused_words s t b (λ z. h (is_number ∙ z))

  pub told_refused : n ≢ 0 → told n 0 ≡ told (merge_number s t b) (merge_changed s t b)
  told_refused h = d ∙ ap (λ (x : ℕ). told (merge_number s t b) x) (refused_figure s t b (λ z. h (is_number ∙ z)))

module _ (s t b : List ℕ) (d : told 0 0 ≡ told (merge_number s t b) 0) where
  accepts : 0 ≡ merge_number s t b
  accepts = ap (λ (x : Told). x.number) d

  pub accepted_at : Mergeable t b
  accepted_at = accepted s t b accepts

  pub done_at : (u : List ℕ) → u ≡ encode (merged (decode t) (decode b)) → u ≡ merge_table s t b
  done_at u g = done_words s t b u accepts g

  pub told_done : (x : ℕ) → x ≡ changes (records_in t) (merged_records (records_in t) (records_in b)) → told 0 x ≡ told (merge_number s t b) (merge_changed s t b)
  told_done x g = ap₂ (λ (y z : ℕ). told y z) accepts (done_figure s t b x accepts g)
