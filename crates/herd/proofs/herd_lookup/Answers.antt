-- `herd::herd_lookup` meets its contract.
-- Assumes nothing.
use mathlib.Core.Path.{◌∙◌}
use Rattle.answers.proofs.Told.{known_number, known_index}
use Rattle.herd.proofs.herd_lookup.Goals as goal

pub returns : goal.returns
returns c =
    let e = c.lookup-answer.ensures in
    record { answer = c.number.ensures ∙ known_number _ e; position = c.index.ensures ∙ known_index _ e }
