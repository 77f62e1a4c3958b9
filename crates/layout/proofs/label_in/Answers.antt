-- `layout::label_in` meets its contract.
-- Assumes nothing.
use native.Mathlib.Omega.{arith}
use Rattle.model.specs.Shapes.{label_in}
use Rattle.layout.proofs.Words.{word_at}
use Rattle.layout.proofs.label_in.Goals as goal

pub returns : goal.returns
unfolding label_in
returns g c = word_at _ _ _ _ (omega arith) c.record_word.ensures
