-- `schema::Blocks::empty_block` meets its contract.
-- Assumes nothing.
use native.Mathlib.Omega.{arith}
use Rattle.layout.proofs.Forms.{block_bound}
use Rattle.model.specs.Shapes.{empty_block_in}
use Rattle.layout.proofs.Each.{each_none}
use Rattle.schema.proofs.Rules.{empty_more}
use borrow.Author.Rules.{rules}
use Rattle.schema.proofs.Blocks.empty_block.Goals as goal

pub loop-j-init : goal.loop-j-init
loop-j-init g c = (c.block_in-from.ensures, each_none _)

pub overflow_add-from : goal.overflow_add-from
overflow_add-from g c = omega (arith, c.block_in-from.ensures, block_bound g.row.F c.args.r c.args.self.form)

pub loop-j-preserved : goal.loop-j-preserved
loop-j-preserved g c = (c.loop-j.invariant.0, empty_more _ _ _ _ _ _ _ c.loop-j.invariant.0 c.word.ensures c.loop-j.invariant.1)

pub returns : goal.returns
unfolding empty_block_in
returns g c = search rules
