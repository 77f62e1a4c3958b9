-- `list_keys::keep` meets its contract.
-- Assumes nothing.
use native.Mathlib.Omega.{arith}
use Rattle.list_keys.proofs.Beaten.{upto_none, upto_all}
use Rattle.list_keys.proofs.keep.Goals as goal

pub loop-r-init : goal.loop-r-init
loop-r-init c = let k = c.args.t.checked in upto_none _ _ k.schema k.formed _ c.requires.0 _ _ c.used.ensures c.copy_marks.ensures

pub returns : goal.returns
returns c = let k = c.args.t.checked in upto_all _ _ k.schema k.formed _ _ (omega arith) c.loop-r.invariant
