-- What a merge counts (document 02, F-1), of any two tables.
-- Assumes nothing.
use Prim.Native.Nat.{ℕ}
use mathlib.Core.Path.{◌≡◌, refl, sym, ◌∙◌, ap}
use mathlib.Core.Bool.{not}
use mathlib.Core.List.{List, map}
use mathlib.Core.Logic.{◌≢◌, ◌↔◌}
use borrow.Author.Tests.{eq-eqb, ne_eqb}
use Rattle.model.specs.Lists.{only}
use Rattle.model.specs.Records.{Rec, has, in_order}
use Rattle.model.specs.Tables.{Table, decode}
use Rattle.model.specs.Merge.{joined_with, merged_records, merged, changes}
use Rattle.model.specs.Calls.{table_number, merge_number, merge_table, merge_changed}
use Rattle.laws.proofs.Changes.{changes_self, changes_none}
use Rattle.convergence.proofs.Tables.{merge_left}
use Rattle.convergence.proofs.Laws.{merge_idempotent}

-- "and is 0 in a refused merge"
pub figure_refused : (s own other : List ℕ) → merge_number s own other ≢ 0 → merge_changed s own other ≡ 0
unfolding merge_changed
figure_refused s own other n = rw (ne_eqb _ 0 n)

figure_is : (s own other : List ℕ) → merge_number s own other ≡ 0 → merge_changed s own other ≡ changes (decode own).records (decode (merge_table s own other)).records
unfolding merge_changed
figure_is s own other e = rw (eq-eqb _ 0 e)

-- "For a copy of itself it is 0.": of a table that table check accepts.
pub figure_copy : (s a : List ℕ) → table_number s a ≡ 0 → merge_changed s a a ≡ 0
figure_copy s a g =
    let i = merge_idempotent s a g in
    figure_is s a a i.0 ∙ ap (λ (t : List ℕ). changes (decode a).records (decode t).records) i.1 ∙ changes_self (decode a).records

module _ (s own other : List ℕ) (n : merge_number s own other ≡ 0) where
  after : (decode (merge_table s own other)).records ≡ merged_records (decode own).records (decode other).records
  unfolding merged
  after = ap (λ (v : Table). v.records) (merge_left s own other n).value

  kept : changes (decode own).records (merged_records (decode own).records (decode other).records) ≡ 0 → merged_records (decode own).records (decode other).records ≡ (decode own).records
  unfolding merged_records joined_with
  kept z =
      changes_none (joined_with (decode other).records) (λ (x : Rec). refl) (decode own).records
      (only (λ (y : Rec). not (has (decode own).records y.key)) (in_order (decode other).records)) z

  same_records : merge_changed s own other ≡ 0 → (decode (merge_table s own other)).records ≡ (decode own).records
  same_records e = after ∙ kept (ap (λ (l : List Rec). changes (decode own).records l) (sym after) ∙ sym (figure_is s own other n) ∙ e)

  none_changed : (decode (merge_table s own other)).records ≡ (decode own).records → merge_changed s own other ≡ 0
  none_changed e = figure_is s own other n ∙ ap (λ (l : List Rec). changes (decode own).records l) e ∙ changes_self (decode own).records

  -- An accepted merge counts 0 exactly if the records before and after are equal.
  pub figure_zero : (merge_changed s own other ≡ 0) ↔ ((decode (merge_table s own other)).records ≡ (decode own).records)
  figure_zero = (same_records, none_changed)
