-- `list_text::refused` meets its contract.
-- Assumes nothing.
use Rattle.std.proofs.Common.{rules}
use Rattle.list_text.specs.Text.{refused_text}
use Rattle.list_text.proofs.refused.Goals as goal

pub returns : goal.returns
unfolding refused_text
returns c = search (rules, c.told.ensures.same, c.told.ensures.text)
