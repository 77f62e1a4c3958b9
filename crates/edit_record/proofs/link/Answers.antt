-- `edit_record::link` meets its contract.
-- Assumes nothing.
use Rattle.edit_record.proofs.Words.{link_yes, link_no}
use Rattle.edit_record.proofs.link.Goals as goal

pub returns-then-last-relation_at : goal.returns-then-last-relation_at
returns-then-last-relation_at c = link_yes _ _ _ _ _ c.used-last.ensures c.relation_at.ensures c.if-last-relation_at.true c.base.ensures

pub returns : goal.returns
returns c = link_no _ _ _ _ c.used-last.ensures c.relation_at.ensures c.if-last-relation_at.false
