-- `merge_seek::space` meets its contract. The record is met, or added.
-- Assumes nothing.
use mathlib.Core.Path.{sym, ◌∙◌}
use Rattle.merge_laws.proofs.Take.{space_here, space_new}
use Rattle.merge_seek.proofs.Forms.{used_most}
use Rattle.merge_seek.proofs.space.Goals as goal

pub returns-then-meets : goal.returns-then-meets
returns-then-meets c = let m = space_here _ _ _ _ c.requires (sym c.meets.ensures ∙ c.if-meets.true) in record { words = m.0; index = c.word.ensures ∙ m.1 }

pub add-requires : goal.add-requires
add-requires c = used_most _ c.requires.whole

pub returns : goal.returns
returns c = let m = space_new _ _ _ _ c.requires (sym c.meets.ensures ∙ c.if-meets.false) _ c.add.ensures in record { words = m.0; index = c.used.ensures ∙ m.1 }
