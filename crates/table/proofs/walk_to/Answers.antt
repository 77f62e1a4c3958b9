-- `table::walk_to` meets its contract. Each turn reads a record, and what is left of the walk ends as the whole does.
-- Assumes nothing.
use native.Mathlib.Omega.{arith}
use Rattle.table.proofs.Links.{ahead_first, ahead_fuel, ahead_broken, ahead_at, ahead_next, ahead_end}
use Rattle.table.proofs.walk_to.Goals as goal

pub loop-left-init : goal.loop-left-init
loop-left-init g c = (omega (arith, c.used-left.ensures), ahead_first _ _ _ _ _ _ _ c.used-left.ensures c.first_at-i.ensures)

pub returns-then-not-is_good : goal.returns-then-not-is_good
returns-then-not-is_good g c = ahead_broken _ _ _ _ _ _ _ _ _ c.loop-left.invariant.1 c.loop-left-test.true _ c.is_good.ensures c.if-not-is_good.true

pub returns-then-label-low : goal.returns-then-label-low
returns-then-label-low g c =
    ahead_at _ _ _ _ _ _ _ _ _ c.loop-left.invariant.1 c.loop-left-test.true
    _ c.is_good.ensures c.if-not-is_good.false _ c.label_in-low.ensures (omega (arith, c.if-label-low.true))

pub loop-left-preserved : goal.loop-left-preserved
loop-left-preserved g c = (
  omega (arith, ahead_fuel _ _ _ _ _ _ _ _ _ c.loop-left.invariant.1 c.loop-left-test.true),
  ahead_next _ _ _ _ _ _ _ _ _ c.loop-left.invariant.1 c.loop-left-test.true
      _ c.is_good.ensures c.if-not-is_good.false _ c.label_in-low.ensures (omega (arith, c.if-label-low.false)) _ c.next_in-i.ensures,
)

pub returns : goal.returns
returns g c = ahead_end _ _ _ _ _ _ _ _ _ c.loop-left.invariant.1 c.loop-left-test.false
