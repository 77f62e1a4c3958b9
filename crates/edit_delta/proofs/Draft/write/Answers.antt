-- `edit_delta::Draft::write` meets its contract.
-- Assumes nothing.
use native.Mathlib.Omega.{arith}
use Rattle.edit_delta.proofs.Turns.{walk_begins, walk_ends}
use Rattle.edit_delta.proofs.Draft.write.Goals as goal

pub loop-relation-init : goal.loop-relation-init
loop-relation-init c = walk_begins _ _ c.args.self.source _ _ c.args.self.edited _ _ _ c.replica.ensures c.clock.ensures c.begin.ensures

pub returns : goal.returns
returns c = walk_ends _ _ c.args.self.source _ _ c.args.self.edited _ c.loop-relation.relation (omega arith) c.loop-relation.invariant
