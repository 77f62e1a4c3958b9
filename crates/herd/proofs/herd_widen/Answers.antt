-- `herd::herd_widen` meets its contract.
-- Assumes nothing.
use mathlib.Core.Path.{◌∙◌}
use Rattle.answers.proofs.Told.{done_number}
use Rattle.herd.proofs.herd_widen.Goals as goal

pub returns : goal.returns
returns c = record { answer = c.number.ensures ∙ done_number _ c.widen.ensures.answer; schema_words = c.widen.ensures.schema_words; table_words = c.widen.ensures.table_words }
