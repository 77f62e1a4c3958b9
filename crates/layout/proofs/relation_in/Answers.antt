-- `layout::relation_in` meets its contract.
-- Assumes nothing.
use native.Mathlib.Omega.{arith}
use Rattle.model.specs.Shapes.{relation_in}
use Rattle.layout.proofs.Words.{word_at}
use Rattle.layout.proofs.relation_in.Goals as goal

pub returns : goal.returns
unfolding relation_in
returns g c = word_at _ _ _ _ (omega arith) c.record_word.ensures
