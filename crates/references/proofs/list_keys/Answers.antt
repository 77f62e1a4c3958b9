-- `references::list_keys` meets its contract.
-- Assumes nothing.
use Rattle.references.proofs.Parts.{lists_keyed}
use native.Mathlib.Omega.{arith}
use Rattle.references.proofs.list_keys.Goals as goal

pub returns : goal.returns
returns c = lists_keyed _ _ c.args.t.checked _ _ c.requires.1 (omega arith) (λ j l. c.loop-k.invariant j (omega arith))
