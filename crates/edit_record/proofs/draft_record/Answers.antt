-- `edit_record::draft_record` meets its contract.
-- Assumes nothing.
use Rattle.edit_record.proofs.Words.{stepped_yes, stepped_no}
use Rattle.edit_record.proofs.draft_record.Goals as goal

pub returns-then-again-i : goal.returns-then-again-i
returns-then-again-i c = stepped_yes _ _ _ _ _ _ _ _ _ _ c.is_marked-again.ensures c.if-again-i.true c.relation_at.ensures c.label_at.ensures c.draft_flag.ensures c.append.ensures

pub returns-else-again-i : goal.returns-else-again-i
returns-else-again-i c = stepped_no _ _ _ _ _ _ c.is_marked-again.ensures c.if-again-i.false
