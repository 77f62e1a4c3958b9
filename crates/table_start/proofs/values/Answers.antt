-- `table_start::values` meets its contract.
-- Assumes nothing.
use Prim.Native.Nat.{◌+◌}
use mathlib.Core.Path.{◌≡◌, refl, sym, ◌∙◌}
use native.Mathlib.Omega.{arith}
use Rattle.model.specs.Layout.{base, head_words}
use Rattle.layout.proofs.Stride.{Inside, index_inside}
use Rattle.layout.proofs.Words.{part_at}
use Rattle.table_rules.proofs.Rules.{values_length, values_index, values_given, first_length, first_index_lem, first_given}
use Rattle.table_start.proofs.values.Goals as goal

pub returns-then-not-table_length : goal.returns-then-not-table_length
returns-then-not-table_length c =
    let x = c.table_length.ensures in
    let n = c.if-not-table_length.true in
    record { words = values_length _ _ _ x n; part = (refl, omega (arith, first_length _ c.args.index _ x n)) }

pub returns-then-bad_index : goal.returns-then-bad_index
returns-then-bad_index c =
    let x = c.table_length.ensures in
    let y = c.if-not-table_length.false in
    record { words = values_index _ _ _ x _ y c.bad_index.ensures c.if-bad_index.true; part = (refl, omega (arith, first_index_lem _ _ _ x _ y c.bad_index.ensures c.if-bad_index.true)) }

pub base-at-requires : goal.base-at-requires
base-at-requires c = omega (arith, (let k : Inside c.args.table.now c.args.index = index_inside _ _ (sym c.bad_index.ensures ∙ c.if-bad_index.false) in k))

pub overflow_add-at : goal.overflow_add-at
overflow_add-at c = omega (arith, (let k : Inside c.args.table.now c.args.index = index_inside _ _ (sym c.bad_index.ensures ∙ c.if-bad_index.false) in k), c.base-at.ensures)

pub overflow_add-result : goal.overflow_add-result
overflow_add-result c = omega (arith, (let k : Inside c.args.table.now c.args.index = index_inside _ _ (sym c.bad_index.ensures ∙ c.if-bad_index.false) in k), c.base-at.ensures)

pub offset_bounds-table-at : goal.offset_bounds-table-at
offset_bounds-table-at c = omega (arith, (let k : Inside c.args.table.now c.args.index = index_inside _ _ (sym c.bad_index.ensures ∙ c.if-bad_index.false) in k), c.base-at.ensures)

pub slice_bounds-result-end-2 : goal.slice_bounds-result-end-2
slice_bounds-result-end-2 c = omega (arith, (let k : Inside c.args.table.now c.args.index = index_inside _ _ (sym c.bad_index.ensures ∙ c.if-bad_index.false) in k), c.base-at.ensures)

pub returns : goal.returns
returns c =
    let e : c.base-at.result + head_words ≡ base c.args.index + head_words = omega (arith, c.base-at.ensures) in
    let x = c.table_length.ensures in
    let y = c.if-not-table_length.false in
    record {
      words = part_at _ _ _ _ e ∙ values_given _ _ _ x _ y c.bad_index.ensures c.if-bad_index.false;
      part = (refl, omega (arith, e, first_given _ _ _ x _ y c.bad_index.ensures c.if-bad_index.false));
    }
