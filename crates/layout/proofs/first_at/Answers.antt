-- `layout::first_at` meets its contract.
-- Assumes nothing.
use native.Mathlib.Omega.{arith}
use Rattle.layout.proofs.Words.{first_word}
use Rattle.layout.proofs.first_at.Goals as goal

pub returns : goal.returns
returns c = first_word _ _ _ _ _ (omega arith) c.saturating_sub.ensures c.saturating_add.ensures c.word.ensures
