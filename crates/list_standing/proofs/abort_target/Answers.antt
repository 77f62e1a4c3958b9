-- `list_standing::abort_target` meets its contract.
-- Assumes nothing.
use mathlib.Core.Path.{sym, ◌∙◌}
use borrow.Author.Tests.{ltb-true}
use Rattle.std.proofs.slice.Orders.{nat_cmp-ltb}
use Rattle.std.proofs.lemmas.Map.Keys.{le_from_is_le}
use Rattle.list_standing.proofs.Work.{target_there}
use Rattle.list_standing.proofs.abort_target.Goals as goal

pub returns : goal.returns
returns c =
    let k = c.if-not-contains.ensures.cases in
    let l = le_from_is_le _ _ k.0 in
    let m = ltb-true _ _ (sym (nat_cmp-ltb _ _) ∙ k.1) in
    rw c.from.ensures (target_there _ _ _ _ _ c.at-p.ensures c.args.resolved.t.checked _ _ c.relation_at.ensures c.kind_at-kind.ensures l m
    c.if-p-eq0.false c.if-p.false)
