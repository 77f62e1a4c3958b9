-- `layout::record_word` meets its contract.
-- Assumes nothing.
use native.Mathlib.Omega.{arith}
use Rattle.layout.proofs.Words.{word_past}
use Rattle.layout.proofs.Forms.{record_far_in, base_bound}
use Rattle.layout.proofs.record_word.Goals as goal

pub returns-then-i-gt-LARGEST_INDEX : goal.returns-then-i-gt-LARGEST_INDEX
returns-then-i-gt-LARGEST_INDEX g c = record_far_in _ _ _ _ _ (omega arith) c.if-i-gt-LARGEST_INDEX.true

pub returns-then-t-j : goal.returns-then-t-j
returns-then-t-j g c = word_past _ _ (omega arith)

pub overflow_add-base_in : goal.overflow_add-base_in
overflow_add-base_in g c = omega (arith, c.base_in.ensures, base_bound g.row.F c.args.i c.requires.0)

pub overflow_add-base_in-2 : goal.overflow_add-base_in-2
overflow_add-base_in-2 g c = omega (arith, c.base_in.ensures, base_bound g.row.F c.args.i c.requires.0)
