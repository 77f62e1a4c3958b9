-- `codec::decode` meets its contract.
-- Assumes nothing.
use native.Mathlib.Omega.{arith}
use Rattle.codec.proofs.Words.{decoded}
use Rattle.codec.proofs.decode.Goals as goal

pub returns : goal.returns
returns c = decoded _ _ (omega (arith, c.loop-i.invariant.0, c.requires)) (λ k h. c.loop-i.invariant.1 k (omega arith))
