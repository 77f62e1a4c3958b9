-- `shape_turn::field_word` meets its contract.
-- Assumes nothing.
use Rattle.shape_turn.proofs.Pasted.{field_is}
use Rattle.shape_turn.proofs.field_word.Goals as goal

pub returns-then-j : goal.returns-then-j
returns-then-j g c = field_is _ _ _ _ c.if-j.true
