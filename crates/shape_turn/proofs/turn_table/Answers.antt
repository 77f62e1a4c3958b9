-- `shape_turn::turn_table` meets its contract.
-- Assumes nothing.
use mathlib.Core.Path.{refl, ◌∙◌}
use native.Mathlib.Omega.{arith}
use Rattle.model.specs.Shapes.{capacity_in}
use Rattle.shape_turn.proofs.Written.{rows_none, rows_more, rows_all}
use Rattle.shape_turn.proofs.turn_table.Goals as goal

pub loop-i-init : goal.loop-i-init
loop-i-init g c =
    let b = rows_none g.row.V g.row.W c.args.t.now (omega (arith, c.requires)) c.args.to.now _ (omega (arith, c.requires)) c.paste.ensures in
    (b.0 ∙ c.requires.4, b.1)

pub loop-i-preserved : goal.loop-i-preserved
loop-i-preserved g c =
    let v = c.loop-i.invariant in
    let b = rows_more g.row.V g.row.W c.args.t.now (omega (arith, c.requires.3)) c.loop-i.i (capacity_in g.row.V c.args.t.now) _ _ _ c.loop-i.to _
    (omega (arith, c.capacity_in-i-end.ensures)) v.0 refl refl refl v.1 c.turn_row.ensures in
    (b.0 ∙ v.0, b.1)

pub returns : goal.returns
returns g c =
    rows_all g.row.V g.row.W c.args.t.now (omega (arith, c.requires.3)) c.loop-i.i (capacity_in g.row.V c.args.t.now) c.loop-i.to
    (omega (arith, c.capacity_in-i-end.ensures)) (omega (arith, c.capacity_in-i-end.ensures)) refl c.loop-i.invariant.0 c.loop-i.invariant.1
