-- `edit_first::survey` meets its contract.
-- Assumes nothing.
use native.Mathlib.Omega.{arith}
use Rattle.references.proofs.Places.{used_most}
use Rattle.edit_first.proofs.survey.Goals as goal

pub resolve-requires : goal.resolve-requires
resolve-requires c = omega (arith, used_most _ _ c.args.t.checked, c.requires.0)

pub invariant_of-resolved : goal.invariant_of-resolved
invariant_of-resolved c = record { resolves = c.resolve.ensures; room = omega (arith, used_most _ _ c.args.t.checked, c.requires.0, c.resolve.auto.refs) }

pub stand-requires : goal.stand-requires
stand-requires c = omega (arith, used_most _ _ c.args.t.checked, c.requires.1)

pub show-requires : goal.show-requires
show-requires c = (c.stand.ensures, omega (arith, used_most _ _ c.args.t.checked, c.requires.2))
