-- `list_text::shown` meets its contract.
-- Assumes nothing.
use Rattle.std.proofs.Common.{rules}
use Rattle.list_text.specs.Text.{shown_text}
use Rattle.list_text.proofs.Laying.{then}
use Rattle.list_text.proofs.shown.Goals as goal

pub returns : goal.returns
unfolding shown_text
returns c = let p = then _ _ c.told.ensures c.lines.ensures in search (rules, p.same, p.text)
