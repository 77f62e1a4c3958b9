-- `herd::herd_walk` meets its contract.
-- Assumes nothing.
use mathlib.Core.Path.{◌∙◌}
use Rattle.answers.proofs.Told.{given_number, given_index}
use Rattle.herd.proofs.herd_walk.Goals as goal

pub returns : goal.returns
returns c =
    let e = c.next_from-m.ensures in
    record { answer = c.number.ensures ∙ given_number _ e.0; index = c.index.ensures ∙ given_index _ e.0; moved = e.1 }
