-- `schema::Blocks::kinds_good` meets its contract.
-- Assumes nothing.
use Rattle.schema.proofs.Rules.{kind_at_place}
use Rattle.layout.proofs.Each.{each_none, each_more}
use Rattle.schema.proofs.Blocks.kinds_good.Goals as goal

pub loop-j-init : goal.loop-j-init
loop-j-init g c = each_none _

pub loop-j-preserved : goal.loop-j-preserved
loop-j-preserved g c = each_more _ _ _ _ c.loop-j.invariant (kind_at_place _ _ _ _ _ _ _ c.args.self.counted c.requires c.kind_in.ensures c.kind_placed-good.ensures)
