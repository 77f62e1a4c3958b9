-- `edit_record::new_label` meets its contract.
-- Assumes nothing.
use mathlib.Core.Path.{◌∙◌}
use Rattle.edit_record.proofs.Words.{label_now}
use Rattle.edit_record.proofs.new_label.Goals as goal

pub returns : goal.returns
returns c = c.of.ensures ∙ label_now _ _ _ c.clock.ensures c.replica.ensures
