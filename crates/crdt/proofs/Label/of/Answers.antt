-- `crdt::Label::of` meets its contract.
-- Assumes nothing.
use native.Mathlib.Omega.{arith}
use Rattle.crdt.specs.Labels.{label_within}
use Rattle.crdt.proofs.Order.{within}
use Rattle.crdt.proofs.Label.of.Goals as goal

pub overflow_mul-result : goal.overflow_mul-result
overflow_mul-result c = omega (arith, within c.args.counter c.args.replica c.if-good.true)

pub overflow_add-result-then-good : goal.overflow_add-result-then-good
overflow_add-result-then-good c = omega (arith, within c.args.counter c.args.replica c.if-good.true)

pub returns-then-good : goal.returns-then-good
unfolding label_within
returns-then-good c = rw c.if-good.true

pub returns : goal.returns
unfolding label_within
returns c = rw c.if-good.false
