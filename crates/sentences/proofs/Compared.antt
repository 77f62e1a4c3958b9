-- Behind or alike, by merge (document 02, F-3), of any two tables.
-- Assumes nothing.
use Prim.Native.Nat.{ℕ, max}
use mathlib.Core.Path.{◌≡◌, refl, sym, ◌∙◌, ap}
use mathlib.Core.Logic.{◌≢◌, ◌↔◌}
use mathlib.Core.Bool.{◌&&◌}
use mathlib.Core.List.{List}
use native.Mathlib.Omega.{arith}
use lib.ListN.{length}
use borrow.Author.Tests.{eq-eqb, ne_eqb, not-false}
use Rattle.crdt.proofs.Tests.{and_left, and_right}
use Rattle.model.specs.Lists.{all_of}
use Rattle.model.specs.Records.{Rec, in_order}
use Rattle.model.specs.Tables.{Table, decode, encode, Contents, contents}
use Rattle.model.specs.Merge.{merged_records, merged}
use Rattle.model.specs.WellFormed.{well_formed}
use Rattle.model.specs.Calls.{schema_length, table_length, table_number, merge_number, merge_table}
use Rattle.model.specs.Compare.{join_contents, alike, first_behind, compared, compare_number, compare_verdict, Within}
use Rattle.laws.proofs.Checks.{passed}
use Rattle.laws.proofs.Merge.{order_merged}
use Rattle.laws.proofs.Compared.{contents_comm, table_ordered, least_above_lem, exact, merged_within}
use Rattle.convergence.proofs.Tables.{Good, good_table, table_good, good_valid, good_encoded, Merging, fits, full, merging, merge_left}

-- "the merge of both": where a merge is accepted, its contents are the join.
value_contents : Table → Contents
value_contents v = record { clock = v.clock; records = in_order v.records }

value_joins : (v w : Table) → value_contents (merged v w) ≡ join_contents (value_contents v) (value_contents w)
unfolding value_contents merged join_contents
value_joins v w = ap (λ (l : List Rec). record { clock = max v.clock w.clock; records = l }) (order_merged v.records w.records)

pub merge_joins : (s a b : List ℕ) → merge_number s a b ≡ 0 → contents (merge_table s a b) ≡ join_contents (contents a) (contents b)
unfolding contents value_contents
merge_joins s a b n = ap value_contents (merge_left s a b n).value ∙ value_joins (decode a) (decode b)

-- A merged table holds both.
pub merge_above : (s a b : List ℕ) → merge_number s a b ≡ 0 → Within (contents a) (contents (merge_table s a b)) × Within (contents b) (contents (merge_table s a b))
merge_above s a b n =
    let e = merge_joins s a b n in
    let x = table_ordered a in
    let y = table_ordered b in
    (rw e (least_above_lem.first (contents a) (contents b) x y), rw e (least_above_lem.second (contents a) (contents b) x y))

module _ (s a b : List ℕ) (ta : table_number s a ≡ 0) (tb : table_number s b ≡ 0) where
  ga : Good s a
  ga = good_table s a ta

  gb : Good s b
  gb = good_table s b tb

  module _ (w : Within (contents a) (contents b)) where
    records_kept : merged_records (decode b).records (decode a).records ≡ (decode b).records
    unfolding contents join_contents
    records_kept = merged_within (decode a).records (decode b).records (good_valid s b gb).distinct (ap (λ (c : Contents). c.records) w)

    clock_kept : max (decode b).clock (decode a).clock ≡ (decode b).clock
    unfolding contents join_contents
    clock_kept = let e : max (decode a).clock (decode b).clock ≡ (decode b).clock = ap (λ (c : Contents). c.clock) w in omega (arith, e)

    value_kept : merged (decode b) (decode a) ≡ decode b
    unfolding merged
    value_kept = λ i. record { capacity = (decode b).capacity; replica = (decode b).replica; clock = clock_kept i; records = records_kept i }

    kept : Merging s b a → (merge_number s b a ≡ 0) × (merge_table s b a ≡ b)
    kept (fits n e r) = (n, e ∙ ap encode value_kept ∙ good_encoded s b gb)
    kept (full n e r) = absurd (omega (arith, ap length records_kept, (good_valid s b gb).used))

  unchanged : (merge_number s b a ≡ 0) × (merge_table s b a ≡ b) → Within (contents a) (contents b)
  unchanged m = contents_comm (contents a) (contents b) (table_ordered a) (table_ordered b) ∙ sym (merge_joins s b a m.0) ∙ ap contents m.1

  -- Of two tables that table check accepts, the first is behind or alike exactly if merging it into the second answers 0 and changes no word,
  -- whatever the capacities.
  pub within_merge : Within (contents a) (contents b) ↔ ((merge_number s b a ≡ 0) × (merge_table s b a ≡ b))
  within_merge = (λ w. kept w (merging s b a gb ga), unchanged)

-- What an accepted comparison found, and its verdict.
pub compare_accepts : (s a b : List ℕ) → compare_number s a b ≡ 0 → (table_number s a ≡ 0) × (table_number s b ≡ 0)
unfolding compare_number all_of
compare_accepts s a b h =
    let p = passed _ refl h in
    let l = not-false (schema_length s && table_length a && table_length b) p.0 in
    let m = and_left (schema_length s && table_length a) (table_length b) l in
    let ga : Good s a = record { lent = and_left (schema_length s) _ m; sized = and_right (schema_length s) _ m; sound = p.1.0; formed = not-false (well_formed s a) p.1.1.0 } in
    let gb : Good s b = record { lent = and_left (schema_length s) _ m; sized = and_right (schema_length s && table_length a) _ l; sound = p.1.0; formed = not-false (well_formed s b) p.1.1.1.0 } in
    (table_good s a ga, table_good s b gb)

pub verdict_refused : (s a b : List ℕ) → compare_number s a b ≢ 0 → compare_verdict s a b ≡ 0
unfolding compare_verdict
verdict_refused s a b n = rw (ne_eqb _ 0 n)

module _ (s a b : List ℕ) (n : compare_number s a b ≡ 0) where
  pub verdict_is : compare_verdict s a b ≡ compared (contents a) (contents b)
  unfolding compare_verdict
  verdict_is = rw (eq-eqb _ 0 n)

  pub alike_exactly : (compare_verdict s a b ≡ alike) ↔ (contents a ≡ contents b)
  alike_exactly =
      let e = exact.equal (contents a) (contents b) in
      (λ h. e.0 (sym verdict_is ∙ h), λ h. verdict_is ∙ e.1 h)

  -- The first is behind exactly if merging it into the second answers 0 and changes no word, and the contents differ.
  pub behind_exactly : (compare_verdict s a b ≡ first_behind) ↔ ((merge_number s b a ≡ 0) × (merge_table s b a ≡ b) × (contents a ≢ contents b))
  behind_exactly =
      let t = compare_accepts s a b n in
      let e = exact.behind (contents a) (contents b) in
      let m = within_merge s a b t.0 t.1 in
      (λ h. let p = e.0 (sym verdict_is ∙ h) in let q = m.0 p.0 in (q.0, q.1, p.1), λ h. verdict_is ∙ e.1 (m.1 (h.0, h.1), h.2))
