-- `layout::kind_in` meets its contract.
-- Assumes nothing.
use native.Mathlib.Omega.{arith}
use Rattle.model.specs.Shapes.{kind_in}
use Rattle.layout.proofs.Words.{word_at}
use Rattle.layout.proofs.kind_in.Goals as goal

pub returns : goal.returns
unfolding kind_in
returns g c = word_at _ _ _ _ (omega arith) c.block_word.ensures
