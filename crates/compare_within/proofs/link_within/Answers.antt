-- `compare_within::link_within` meets its contract.
-- Assumes nothing.
use native.Mathlib.Omega.{arith}
use Rattle.compare_within.proofs.Forms.{link_there, link_not}
use Rattle.compare_within.proofs.link_within.Goals as goal

pub record_within-requires : goal.record_within-requires
record_within-requires c = omega (arith, c.word.ensures, c.requires)

pub returns-then-meets : goal.returns-then-meets
returns-then-meets c = link_there _ _ _ _ _ _ _ c.label_at.ensures c.meets.ensures c.if-meets.true c.word.ensures _ c.record_within.ensures

pub returns : goal.returns
returns c = link_not _ _ _ _ _ 0 _ c.label_at.ensures c.meets.ensures c.if-meets.false
