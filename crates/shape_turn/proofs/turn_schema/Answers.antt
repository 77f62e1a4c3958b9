-- `shape_turn::turn_schema` meets its contract.
-- Assumes nothing.
use mathlib.Core.Path.{refl, ◌∙◌}
use native.Mathlib.Omega.{arith}
use Rattle.shape_turn.proofs.Written.{blocks_none, blocks_more, blocks_all}
use Rattle.shape_turn.proofs.turn_schema.Goals as goal

pub loop-r-init : goal.loop-r-init
loop-r-init g c =
    let b = blocks_none g.row.V g.row.W c.args.s.now c.args.to.now _ (omega (arith, c.requires)) (omega (arith, c.requires)) c.paste.ensures in
    (b.0 ∙ c.requires.3, b.1)

pub loop-r-preserved : goal.loop-r-preserved
loop-r-preserved g c =
    let v = c.loop-r.invariant in
    let b = blocks_more g.row.V g.row.W c.args.s.now c.loop-r.r _ _ _ c.loop-r.to _ c.loop-r-test.true v.0 refl refl refl v.1 c.turn_block.ensures in
    (b.0 ∙ v.0, b.1)

pub returns : goal.returns
returns g c = blocks_all g.row.V g.row.W c.args.s.now c.loop-r.r c.loop-r.to (omega arith) (omega arith) c.loop-r.invariant.0 c.loop-r.invariant.1
