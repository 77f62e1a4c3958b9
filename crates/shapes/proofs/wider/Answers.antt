-- `shapes::wider` meets its contract.
-- Assumes nothing.
use mathlib.Core.Path.{◌≡◌}
use native.Mathlib.Omega.{arith}
use Rattle.model.specs.Layout.{relations}
use Rattle.shapes.specs.Turn.{wider}
use Rattle.shapes.proofs.Turns.{wider_none, wider_more}
use Rattle.shapes.proofs.wider.Goals as goal

pub loop-r-init : goal.loop-r-init
loop-r-init g c = wider_none _ _ _

pub loop-r-preserved : goal.loop-r-preserved
loop-r-preserved g c = wider_more _ _ _ _ _ _ c.count_in.ensures c.loop-r.invariant

pub returns : goal.returns
unfolding wider
returns g c = let e : c.loop-r.r ≡ relations c.args.schema.now = omega (arith, c.relations-r-end.ensures) in rw e at c.loop-r.invariant
