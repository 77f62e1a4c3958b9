-- `table_rules::zero_words` meets its contract.
-- Assumes nothing.
use Rattle.layout.proofs.Each.{each_none}
use Rattle.table_rules.proofs.Rules.{zeros_more}
use Rattle.table_rules.proofs.zero_words.Goals as goal

pub loop-j-init : goal.loop-j-init
loop-j-init c = each_none _

pub loop-j-preserved : goal.loop-j-preserved
loop-j-preserved c = zeros_more _ _ _ _ c.word.ensures c.loop-j.invariant
