-- `layout::block_word` meets its contract.
-- Assumes nothing.
use native.Mathlib.Omega.{arith}
use Rattle.layout.proofs.Words.{word_past}
use Rattle.layout.proofs.Forms.{block_far_in, block_bound}
use Rattle.layout.proofs.block_word.Goals as goal

pub returns-then-r-gt-LARGEST_INDEX : goal.returns-then-r-gt-LARGEST_INDEX
returns-then-r-gt-LARGEST_INDEX g c = block_far_in _ _ _ _ _ (omega arith) c.if-r-gt-LARGEST_INDEX.true

pub returns-then-s-j : goal.returns-then-s-j
returns-then-s-j g c = word_past _ _ (omega arith)

pub overflow_add-block_in : goal.overflow_add-block_in
overflow_add-block_in g c = omega (arith, c.block_in.ensures, block_bound g.row.F c.args.r c.requires.0)

pub overflow_add-block_in-2 : goal.overflow_add-block_in-2
overflow_add-block_in-2 g c = omega (arith, c.block_in.ensures, block_bound g.row.F c.args.r c.requires.0)
