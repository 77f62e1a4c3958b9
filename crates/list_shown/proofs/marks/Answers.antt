-- `list_shown::marks` meets its contract.
-- Assumes nothing.
use mathlib.Core.Path.{◌∙◌}
use native.Mathlib.Omega.{arith}
use Rattle.answers.proofs.Told.{handed_on}
use Rattle.judged.specs.Checked.{Checked}
use Rattle.list_shown.proofs.Counted.{right_of, rights, room, told_length, told_refused, told_marked, marks_are, marks_counted}
use Rattle.list_shown.proofs.marks.Goals as goal

pub returns-then-not-lengths : goal.returns-then-not-lengths
returns-then-not-lengths c = told_length _ _ _ (right_of _ _ _ _ _ _ _ c.schema_length.ensures c.table_length.ensures c.marks_length.ensures c.if-not-lengths.true)

pub returns-in_err-t : goal.returns-in_err-t
returns-in_err-t c =
    let e = right_of _ _ c.args.marks.now _ _ _ _ c.schema_length.ensures c.table_length.ensures c.marks_length.ensures c.if-not-lengths.false in
    let f = told_refused _ _ _ e _ c.in_err-t.ensures.number in
    (handed_on _ _ _ c.from_residual.ensures.1 ∙ f.0, f.1)

pub mark_shown-requires : goal.mark_shown-requires
mark_shown-requires c =
    let e = right_of _ _ c.args.marks.now _ _ _ _ c.schema_length.ensures c.table_length.ensures c.marks_length.ensures c.if-not-lengths.false in
    rw c.in_ok-t.ensures.lent.1 (omega (arith, room _ _ (rw c.in_ok-t.ensures.lent.1 at c.in_ok-t.t.checked), (rights _ _ _ e).2))

pub clear_above-requires : goal.clear_above-requires
clear_above-requires c =
    let e = right_of _ _ c.args.marks.now _ _ _ _ c.schema_length.ensures c.table_length.ensures c.marks_length.ensures c.if-not-lengths.false in
    omega (arith, room _ _ (rw c.in_ok-t.ensures.lent.1 at c.in_ok-t.t.checked), (rights _ _ _ e).2, c.mark_shown.auto.marks, c.used.ensures)

pub returns : goal.returns
returns c =
    let e = right_of _ _ c.args.marks.now _ _ _ _ c.schema_length.ensures c.table_length.ensures c.marks_length.ensures c.if-not-lengths.false in
    let g = (rights _ _ _ e).2 in
    let l = c.in_ok-t.ensures.lent in
    let k : Checked c.args.schema.now c.args.table.now = rw (l.0, l.1) at c.in_ok-t.t.checked in
    let f = rw (l.0, l.1) at c.mark_shown.ensures in
    let u = c.used.ensures in
    let x = c.clear_above.ensures in
    told_marked _ _ _ _ _ e c.in_ok-t.ensures.number
    (c.count.ensures ∙ marks_counted _ _ k c.args.marks.now _ _ _ g c.mark_shown.auto.marks f u x)
    (marks_are _ _ k c.args.marks.now _ _ _ g c.mark_shown.auto.marks f u x)
