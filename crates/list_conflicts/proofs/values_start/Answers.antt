-- `list_conflicts::values_start` meets its contract.
-- Assumes nothing.
use native.Mathlib.Omega.{arith}
use Rattle.model.specs.Layout.{base}
use Rattle.list_conflicts.proofs.Keys.{values_in}
use Rattle.list_conflicts.proofs.values_start.Goals as goal

pub base-requires : goal.base-requires
unfolding base
base-requires c = let h = values_in _ _ c.args.t.checked.schema c.args.t.checked.formed _ c.requires.0 c.requires.1 in omega (arith, h)

pub overflow_add-result : goal.overflow_add-result
overflow_add-result c = let h = values_in _ _ c.args.t.checked.schema c.args.t.checked.formed _ c.requires.0 c.requires.1 in omega (arith, h)

pub returns-clause-within : goal.returns-clause-within
returns-clause-within c = let h = values_in _ _ c.args.t.checked.schema c.args.t.checked.formed _ c.requires.0 c.requires.1 in omega (arith, h)
