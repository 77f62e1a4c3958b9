-- `layout::stamp_at` meets its contract.
-- Assumes nothing.
use native.Mathlib.Omega.{arith}
use Rattle.model.specs.Layout.{stamp_at, base}
use Rattle.model.specs.Shapes.{base_in}
use Rattle.layout.proofs.Words.{word_at}
use Rattle.layout.proofs.stamp_at.Goals as goal

pub returns : goal.returns
unfolding stamp_at base base_in
returns c = word_at _ _ _ _ (omega arith) c.record_word.ensures
