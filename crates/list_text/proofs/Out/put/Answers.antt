-- `list_text::Out::put` meets its contract.
-- Assumes nothing.
use mathlib.Core.Path.{refl}
use Rattle.list_text.proofs.Laying.{one_fits, one_out}
use Rattle.list_text.proofs.Out.put.Goals as goal

pub returns-then-at-self : goal.returns-then-at-self
returns-then-at-self c = record { same = refl; text = one_fits _ _ _ c.if-at-self.true }

pub returns-else-at-self : goal.returns-else-at-self
returns-else-at-self c = record { same = refl; text = one_out _ _ _ c.if-at-self.false }
