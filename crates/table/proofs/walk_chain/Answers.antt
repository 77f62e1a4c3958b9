-- `table::walk_chain` meets its contract.
-- Assumes nothing.
use mathlib.Core.Path.{sym, ap, ◌∙◌}
use Rattle.std.specs.Prelude.{Some}
use Rattle.table.specs.Chains.{walked_of}
use Rattle.table.proofs.Links.{chain_walked}
use Rattle.table.proofs.walk_chain.Goals as goal

pub returns-in_err-walk_to : goal.returns-in_err-walk_to
returns-in_err-walk_to g c = c.from_residual.ensures ∙ sym (ap walked_of c.in_err-walk_to.was) ∙ ap walked_of c.walk_to.ensures ∙ chain_walked _ _ _ _

pub returns-in-At : goal.returns-in-At
returns-in-At g c = sym (ap walked_of (c.in_ok-walk_to.was ∙ ap Some c.in-At.is)) ∙ ap walked_of c.walk_to.ensures ∙ chain_walked _ _ _ _

pub returns-in-End : goal.returns-in-End
returns-in-End g c = sym (ap walked_of (c.in_ok-walk_to.was ∙ ap Some c.in-End.is)) ∙ ap walked_of c.walk_to.ensures ∙ chain_walked _ _ _ _
