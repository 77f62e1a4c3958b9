-- `references::Listed::resolve_all` meets its contract.
-- Assumes nothing.
use native.Mathlib.Omega.{arith}
use Rattle.references.proofs.Refs.{filled_by, fill_none, fill_all}
use Rattle.references.proofs.Listed.resolve_all.Goals as goal

pub loop-r-init : goal.loop-r-init
loop-r-init c = filled_by _ _ _ _ _ (omega arith) (fill_none _ _ _ c.args.self.t.checked c.requires.1)

pub returns : goal.returns
returns c = fill_all _ _ _ c.args.self.t.checked (filled_by _ _ _ _ _ (omega arith) c.loop-r.invariant)
