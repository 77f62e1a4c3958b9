-- `edit_conflicts::takes` meets its contract.
-- Assumes nothing.
use Rattle.edit_basics.proofs.Turns.{not_left}
use Rattle.edit_laws.proofs.Clash.{takes_hidden, takes_but, takes_other, takes_here}
use Rattle.std.proofs.lemmas.Bool.{not_from_true}
use Rattle.edit_conflicts.proofs.takes.Goals as goal

pub returns-then-not-is_marked : goal.returns-then-not-is_marked
returns-then-not-is_marked c = takes_hidden _ _ _ _ _ _ _ _ _ _ c.is_marked.ensures (c.if-not-is_marked.true)

pub returns-then-y-but : goal.returns-then-y-but
returns-then-y-but c = takes_but _ _ _ _ _ _ _ _ _ c.if-y-but.true

pub returns-then-relation_at-r : goal.returns-then-relation_at-r
returns-then-relation_at-r c = takes_other _ _ _ _ _ _ _ _ _ _ c.relation_at.ensures c.if-relation_at-r.true

pub returns : goal.returns
returns c =
    takes_here _ _ _ _ _ _ _ _ _ _ _ _ _ c.is_marked.ensures (not_left _ (not_from_true _ c.if-not-is_marked.false)) c.if-y-but.false
    c.relation_at.ensures c.if-relation_at-r.false c.conflicts_on.ensures c.conflicts_on-2.ensures
