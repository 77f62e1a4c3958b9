-- `crdt::redo` meets its contract.
-- Assumes nothing.
use native.Mathlib.Omega.{arith}
use borrow.Author.Tests.{ltb-true}
use Rattle.crdt.specs.Flags.{largest_flag, redone, is_odd}
use Rattle.crdt.proofs.Tests.{and_right}
use lib.Dec.{ltb}
use Rattle.crdt.proofs.redo.Goals as goal

pub overflow_add-result : goal.overflow_add-result
overflow_add-result c = let f = c.args.flag in omega (arith, ltb-true f largest_flag (and_right (is_odd f) (ltb f largest_flag) c.if-flag.true))

pub returns-then-flag : goal.returns-then-flag
unfolding redone
returns-then-flag c = rw c.if-flag.true

pub returns : goal.returns
unfolding redone
returns c = rw c.if-flag.false
