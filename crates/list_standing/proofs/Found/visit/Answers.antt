-- `list_standing::Found::visit` meets its contract.
-- Assumes nothing.
use native.Mathlib.Omega.{arith}
use Rattle.list_standing.proofs.Fields.{count_is}
use Rattle.list_standing.proofs.Work.{more_more, visited_more}
use Rattle.list_standing.proofs.Found.visit.Goals as goal

pub loop-j-preserved : goal.loop-j-preserved
loop-j-preserved c =
    let v = c.loop-j.invariant in
    let f = c.hop in
    (f.ensures.0, more_more _ _ _ _ _ _ _ _ _ _ v.1 f.ensures.1, visited_more _ _ _ _ _ _ _ _ f.ensures.1 _ _ _ v.2 f.ensures.2 (omega arith))

pub returns-2 : goal.returns-2
returns-2 c =
    let v = c.loop-j.invariant in
    let f = c.hop in
    let t = c.args.resolved.t in
    let n = count_is t.schema.now t.table.now c.args.i _ _ c.relation_at.ensures c.field_count-j-end.ensures in
    (f.ensures.0, more_more _ _ _ _ _ _ _ _ _ _ v.1 f.ensures.1, visited_more _ _ _ _ _ _ _ _ f.ensures.1 _ _ _ v.2 f.ensures.2 (omega arith))
