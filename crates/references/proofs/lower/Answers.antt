-- `references::lower` meets its contract.
-- Assumes nothing.
use Prim.Native.Nat.{◌/◌, ◌-◌}
use mathlib.Core.Path.{refl}
use native.Mathlib.Omega.{arith}
use Rattle.references.proofs.Search.{between_step, cut_most}
use Rattle.references.proofs.lower.Goals as goal

pub at_least-requires : goal.at_least-requires
at_least-requires c =
    let b = c.loop-rest.invariant in
    (c.requires.0.small _ (omega (arith, b.part, b.most)), c.requires.1)

pub overflow_sub-high-in-loop-rest : goal.overflow_sub-high-in-loop-rest
overflow_sub-high-in-loop-rest c = let m = cut_most _ _ _ (c.loop-rest.rest - c.loop-rest.rest / 2) c.at_least.ensures in omega arith

pub loop-rest-preserved : goal.loop-rest-preserved
loop-rest-preserved c = between_step _ _ _ _ _ _ c.requires.0 c.loop-rest.invariant c.loop-rest-test.true refl c.at_least.ensures
