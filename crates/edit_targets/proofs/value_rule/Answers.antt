-- `edit_targets::value_rule` meets its contract.
-- Assumes nothing.
use mathlib.Core.Path.{ap₂}
use mathlib.Core.Bool.{Bool, ◌||◌, not}
use lib.Dec.{eqb}
use Rattle.edit_targets.proofs.value_rule.Goals as goal

pub returns : goal.returns
returns c = ap₂ (λ (a b : Bool). (not a || eqb c.args.v 0) || b) c.is_reference.ensures c.is_label.ensures
