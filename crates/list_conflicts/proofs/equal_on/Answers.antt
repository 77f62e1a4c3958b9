-- `list_conflicts::equal_on` meets its contract.
-- Assumes nothing.
use mathlib.Core.Path.{sym, ◌∙◌}
use native.Mathlib.Omega.{arith}
use Rattle.list_conflicts.proofs.Keys.{onward_start, onward_end, turn_stops, turn_goes}
use Rattle.list_conflicts.proofs.equal_on.Goals as goal

pub loop-j-init : goal.loop-j-init
loop-j-init c = onward_start _ _ _ _ _

pub returns-then-not-agrees : goal.returns-then-not-agrees
returns-then-not-agrees c = turn_stops _ _ _ _ _ _ _ _ _ c.loop-j.invariant (omega arith) (omega arith) (omega arith) c.kind_at.ensures c.agrees.ensures c.if-not-agrees.true

pub loop-j-preserved : goal.loop-j-preserved
loop-j-preserved c = turn_goes _ _ _ _ _ _ _ _ _ c.loop-j.invariant (omega arith) (omega arith) (omega arith) c.kind_at.ensures c.agrees.ensures c.if-not-agrees.false

pub returns : goal.returns
returns c = sym (c.loop-j.invariant ∙ onward_end _ _ _ _ _ _ (omega arith))
