-- `schema::is_broken_in` meets its contract.
-- Assumes nothing.
use Rattle.schema.proofs.Rules.{broken_low, broken_high, broken_tested}
use Rattle.schema.proofs.is_broken_in.Goals as goal

pub returns-then-most-lt1 : goal.returns-then-most-lt1
returns-then-most-lt1 g c = broken_low _ _ _ c.relations-most.ensures c.if-most-lt1.true

pub returns-then-most-gt-MOST_RELATIONS : goal.returns-then-most-gt-MOST_RELATIONS
returns-then-most-gt-MOST_RELATIONS g c = broken_high _ _ _ c.relations-most.ensures c.if-most-gt-MOST_RELATIONS.true

pub returns : goal.returns
returns g c = broken_tested _ _ _ c.relations-most.ensures _ c.if-most-lt1.false c.if-most-gt-MOST_RELATIONS.false c.good.ensures
