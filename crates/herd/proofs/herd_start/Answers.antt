-- `herd::herd_start` meets its contract.
-- Assumes nothing.
use mathlib.Core.Path.{◌∙◌}
use Rattle.answers.proofs.Told.{done_number}
use Rattle.herd.proofs.herd_start.Goals as goal

pub returns : goal.returns
returns c = record { answer = c.number.ensures ∙ done_number _ c.start.ensures.answer; words = c.start.ensures.words }
