-- `references::list_chain` meets its contract.
-- Assumes nothing.
use native.Mathlib.Omega.{arith}
use Rattle.references.proofs.Order.{along_start, along_turn, along_step, along_end}
use Rattle.references.proofs.list_chain.Goals as goal

pub loop-i-init : goal.loop-i-init
loop-i-init c = along_start _ _ c.args.t.checked _ _ _ _ c.requires.0 c.requires.1 c.requires.3 c.first_at-i.ensures

pub overflow_cast-order : goal.overflow_cast-order
overflow_cast-order c = let v = along_turn _ _ c.args.t.checked _ _ _ _ c.loop-i.invariant c.loop-i-test.true (omega arith) in omega arith

pub bounds-order-n : goal.bounds-order-n
bounds-order-n c = (along_turn _ _ c.args.t.checked _ _ _ _ c.loop-i.invariant c.loop-i-test.true (omega arith)).room

pub loop-i-smaller : goal.loop-i-smaller
loop-i-smaller c = let v = along_turn _ _ c.args.t.checked _ _ _ _ c.loop-i.invariant c.loop-i-test.true (omega arith) in omega arith

pub loop-i-preserved : goal.loop-i-preserved
loop-i-preserved c =
    let v = along_turn _ _ c.args.t.checked _ _ _ _ c.loop-i.invariant c.loop-i-test.true (omega arith) in
    along_step _ _ c.args.t.checked _ _ _ _ c.loop-i.invariant c.loop-i-test.true _ v.room c.next_at-i.ensures

pub returns : goal.returns
returns c = along_end _ _ c.args.t.checked _ _ _ _ c.loop-i.invariant c.loop-i-test.false
