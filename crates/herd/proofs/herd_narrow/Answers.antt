-- `herd::herd_narrow` meets its contract.
-- Assumes nothing.
use mathlib.Core.Path.{◌∙◌}
use Rattle.answers.proofs.Told.{done_number}
use Rattle.herd.proofs.herd_narrow.Goals as goal

pub returns : goal.returns
returns c = record { answer = c.number.ensures ∙ done_number _ c.narrow.ensures.answer; schema_words = c.narrow.ensures.schema_words; table_words = c.narrow.ensures.table_words }
