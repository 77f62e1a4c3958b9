use Rattle.list.proofs.Whole.{not_words, not_long, whole_is}
use Rattle.list.proofs.is_whole.Goals as goal

pub returns-then-input-ne0 : goal.returns-then-input-ne0
returns-then-input-ne0 c = not_words _ c.if-input-ne0.true

pub returns-then-words : goal.returns-then-words
returns-then-words c = not_long _ c.if-words.true

pub returns : goal.returns
returns c = whole_is _ c.if-input-ne0.false c.if-words.false
