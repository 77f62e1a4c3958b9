-- `list_keys::digest` meets its contract.
-- Assumes nothing.
use native.Mathlib.Omega.{arith}
use Rattle.list_keys.proofs.Digests.{mixed_below, digest_start, digest_turn, digest_end}
use Rattle.list_keys.proofs.digest.Goals as goal

pub loop-j-init : goal.loop-j-init
loop-j-init c = (omega arith, digest_start _ _ _ _)

pub loop-j-preserved : goal.loop-j-preserved
loop-j-preserved c = (rw c.mix-d.ensures (mixed_below _ _ _ c.loop-j.invariant.0), digest_turn _ _ _ _ _ _ _ c.loop-j.invariant.1 (omega arith) c.mix-d.ensures)

pub returns : goal.returns
returns c = digest_end _ _ _ _ _ _ c.loop-j.invariant.1 (omega arith)
