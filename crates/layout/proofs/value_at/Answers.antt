-- `layout::value_at` meets its contract.
-- Assumes nothing.
use native.Mathlib.Omega.{arith}
use Rattle.model.specs.Layout.{value_at, base}
use Rattle.model.specs.Shapes.{base_in}
use Rattle.layout.proofs.Words.{word_at}
use Rattle.layout.proofs.value_at.Goals as goal

pub returns : goal.returns
unfolding value_at base base_in
returns c = word_at _ _ _ _ (omega arith) c.record_word.ensures
