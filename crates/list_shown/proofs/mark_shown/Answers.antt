-- `list_shown::mark_shown` meets its contract.
-- Assumes nothing.
use native.Mathlib.Omega.{arith}
use Rattle.references.proofs.Places.{used_most}
use Rattle.list_shown.proofs.mark_shown.Goals as goal

pub resolve-requires : goal.resolve-requires
resolve-requires c = let m = used_most _ _ c.args.t.checked in omega arith

pub invariant_of-resolved : goal.invariant_of-resolved
invariant_of-resolved c = let m = used_most _ _ c.args.t.checked in record { resolves = c.resolve.ensures; room = omega (arith, c.resolve.auto.refs) }

pub stand-requires : goal.stand-requires
stand-requires c = used_most _ _ c.args.t.checked

pub show-requires : goal.show-requires
show-requires c = (c.stand.ensures, c.requires)
