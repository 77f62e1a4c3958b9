-- `edit_insertion::pad` meets its contract.
-- Assumes nothing.
use native.Mathlib.Omega.{arith}
use Rattle.model.specs.Layout.{word}
use Rattle.edit_laws.proofs.InsertionNumber.{pad_more}
use Rattle.edit_insertion.proofs.pad.Goals as goal

pub loop-j-preserved : goal.loop-j-preserved
unfolding word
loop-j-preserved c = pad_more c.args.values.now c.loop-j.value-items c.loop-j.j _ (omega arith) c.loop-j.invariant c.word.ensures
