-- `layout::count_in` meets its contract.
-- Assumes nothing.
use native.Mathlib.Omega.{arith}
use Rattle.model.specs.Shapes.{count_in}
use Rattle.layout.proofs.Words.{word_at}
use Rattle.layout.proofs.count_in.Goals as goal

pub returns : goal.returns
unfolding count_in
returns g c = word_at _ _ _ _ (omega arith) c.block_word.ensures
