-- `compare_within::within` meets its contract.
-- Assumes nothing.
use Rattle.compare_within.proofs.Forms.{clock_late, clock_good}
use Rattle.compare_within.proofs.within.Goals as goal

pub returns-then-clock : goal.returns-then-clock
returns-then-clock c = clock_late _ _ _ _ c.clock.ensures c.clock-2.ensures c.if-clock.true

pub returns : goal.returns
returns c = clock_good _ _ _ _ c.clock.ensures c.clock-2.ensures c.if-clock.false _ c.records_within.ensures
