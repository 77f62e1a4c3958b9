-- `list_settled::settle` meets its contract.
-- Assumes nothing.
use Rattle.list_settled.proofs.Between.{between_kept, at_rest}
use Rattle.list_settled.proofs.Rounds.{turn_between, turn_rests, round_less}
use Rattle.list_settled.proofs.settle.Goals as goal

pub loop-init : goal.loop-init
loop-init c = between_kept _ _ c.args.resolved.t.checked _ c.requires.0

pub loop-smaller : goal.loop-smaller
loop-smaller c = round_less _ _ _ _ _ c.round.ensures.0 c.round.ensures.1 c.loop-test.true

pub loop-preserved : goal.loop-preserved
loop-preserved c = turn_between _ _ _ _ c.args.resolved.t.checked c.args.resolved.resolves c.loop.invariant _ _ c.used-used.ensures c.round.ensures.1

pub returns : goal.returns
returns c =
    let k = c.args.resolved.t.checked in
    let u = c.used-used.ensures in
    let d = c.round.ensures in
    let z = turn_between _ _ _ _ k c.args.resolved.resolves c.loop.invariant _ _ u d.1 in
    at_rest _ _ k _ _ c.args.resolved.resolves z (turn_rests _ _ _ _ _ _ u d.0 d.1 c.loop-test.false)
