-- `list_text::Out::copy` meets its contract.
-- Assumes nothing.
use Rattle.list_text.proofs.Laying.{copy_on, copy_end}
use Rattle.list_text.proofs.Out.copy.Goals as goal

pub loop-x-preserved : goal.loop-x-preserved
loop-x-preserved c = copy_on c.args.text.now c.loop-x.x-index c.loop-x-test.true c.loop-x.invariant c.put.ensures

pub returns : goal.returns
returns c = copy_end c.args.text.now c.loop-x.x-index c.loop-x.auto.x-index-end c.loop-x-test.false c.loop-x.invariant
