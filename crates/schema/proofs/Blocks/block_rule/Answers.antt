-- `schema::Blocks::block_rule` meets its contract.
-- Assumes nothing.
use Rattle.schema.proofs.Rules.{block_low, block_high, block_tested}
use Rattle.schema.proofs.Blocks.block_rule.Goals as goal

pub returns-then-count-lt1 : goal.returns-then-count-lt1
returns-then-count-lt1 g c = block_low _ _ _ _ c.count_in-count.ensures c.if-count-lt1.true

pub returns-then-count : goal.returns-then-count
returns-then-count g c = block_high _ _ _ _ c.count_in-count.ensures c.if-count.true

pub returns : goal.returns
returns g c =
    block_tested _ _ _ _ c.count_in-count.ensures _ _ _ _ _ _ c.if-count-lt1.false c.if-count.false c.kinds_good-kinds.ensures c.mask_in.ensures
    c.mask_in-2.ensures c.mask_in-3.ensures c.mask_rule-key1.ensures c.mask_rule-key2.ensures
