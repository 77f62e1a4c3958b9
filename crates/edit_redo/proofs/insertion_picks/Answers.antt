-- `edit_redo::insertion_picks` meets its contract.
-- Assumes nothing.
use Rattle.edit_laws.proofs.Picks.{insertion_even, insertion_odd}
use Rattle.edit_redo.proofs.insertion_picks.Goals as goal

pub returns-then-flag_at-eq1 : goal.returns-then-flag_at-eq1
returns-then-flag_at-eq1 c = insertion_odd _ _ _ _ c.requires.0 c.flag_at.ensures _ _ c.if-flag_at-eq1.true c.lead_to.ensures

pub returns : goal.returns
returns c = insertion_even _ _ _ _ c.requires.0 c.flag_at.ensures _ c.if-flag_at-eq1.false
