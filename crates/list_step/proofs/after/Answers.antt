-- `list_step::after` meets its contract.
-- Assumes nothing.
use mathlib.Core.Path.{sym, ◌∙◌}
use mathlib.Core.Logic.{inl, inr}
use native.Mathlib.Omega.{arith}
use Rattle.list_step.proofs.Cursor.{turn, turn_less, goes_past, start_past, gives_none, gives_record}
use Rattle.list_step.proofs.after.Goals as goal
use Rattle.list_step.proofs.after.Goals.{then-i-ne0 as along, else-i-ne0+then-r-lt-MOST_RELATIONS as over}

pub loop-i-init : goal.loop-i-init
loop-i-init c = start_past _ _ _ c.args.t.checked _ c.requires _ c.relation_of-r.ensures

pub returns-else-r-lt-MOST_RELATIONS : goal.returns-else-r-lt-MOST_RELATIONS
returns-else-r-lt-MOST_RELATIONS c = gives_none _ _ _ c.args.t.checked _ c.requires _ _ c.loop-i.invariant c.if-i-ne0.false (omega arith)

pub returns-then-is_marked : goal.returns-then-is_marked
returns-then-is_marked c =
    let k = c.args.t.checked in
    gives_record _ _ _ k _ c.requires _ _
    (turn _ _ _ k _ _ _ c.loop-i.invariant c.if-i-ne0.r c.if-i-ne0.i
    (elim c.if-i-ne0.branch [
      | along w ↦ inl (w.if-i-ne0.true, w.r-is, w.i-is ∙ w.next_at-i.ensures)
      | over w ↦ inr (w.if-i-ne0.false, omega arith, w.r-is, w.i-is ∙ w.first_at-i.ensures)
    ]))
    (sym c.is_marked.ensures ∙ c.if-is_marked.true)

pub loop-i-smaller : goal.loop-i-smaller
loop-i-smaller c =
    turn_less _ _ _ c.args.t.checked _ _ _ c.loop-i.invariant c.if-i-ne0.r c.if-i-ne0.i
    (elim c.if-i-ne0.branch [
      | along w ↦ inl (w.if-i-ne0.true, w.r-is, w.i-is ∙ w.next_at-i.ensures)
      | over w ↦ inr (w.if-i-ne0.false, omega arith, w.r-is, w.i-is ∙ w.first_at-i.ensures)
    ])

pub loop-i-preserved : goal.loop-i-preserved
loop-i-preserved c =
    let k = c.args.t.checked in
    goes_past _ _ _ k _ _ _
    (turn _ _ _ k _ _ _ c.loop-i.invariant c.if-i-ne0.r c.if-i-ne0.i
    (elim c.if-i-ne0.branch [
      | along w ↦ inl (w.if-i-ne0.true, w.r-is, w.i-is ∙ w.next_at-i.ensures)
      | over w ↦ inr (w.if-i-ne0.false, omega arith, w.r-is, w.i-is ∙ w.first_at-i.ensures)
    ]))
    (sym c.is_marked.ensures ∙ c.if-is_marked.false)
