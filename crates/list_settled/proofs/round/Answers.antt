-- `list_settled::round` meets its contract.
-- Assumes nothing.
use native.Mathlib.Omega.{arith}
use Rattle.list_settled.proofs.Rounds.{round_none, any_none, round_more, any_more, round_done, any_done}
use Rattle.list_settled.proofs.round.Goals as goal

pub loop-i-init : goal.loop-i-init
loop-i-init c = (any_none _ _, round_none _ _)

pub loop-i-preserved : goal.loop-i-preserved
loop-i-preserved c =
    let v = c.loop-i.invariant in
    let d = c.drop_record-any.ensures in
    (any_more _ _ _ _ _ _ v.1 v.0 d.0, round_more _ _ _ _ _ v.1 d.1)

pub returns : goal.returns
returns c = let v = c.loop-i.invariant in (any_done _ _ _ _ _ (omega arith) v.0, round_done _ _ _ _ _ (omega arith) v.1)
