-- `merge_seek::add` meets its contract. Five stores.
-- Assumes nothing.
use native.Mathlib.Omega.{arith}
use Rattle.model.specs.Layout.{base}
use Rattle.merge_seek.proofs.Forms.{added_is}
use Rattle.merge_seek.proofs.add.Goals as goal

pub overflow_add-at : goal.overflow_add-at
unfolding base
overflow_add-at c = omega (arith, c.base-at.ensures, c.used-new.ensures, c.requires)

pub overflow_add-at-2 : goal.overflow_add-at-2
unfolding base
overflow_add-at-2 c = omega (arith, c.base-at.ensures, c.used-new.ensures, c.requires)

pub returns : goal.returns
returns c = added_is _ _ _ _ _ _ _ _ _ _ _ _ c.word-next.ensures c.used-new.ensures c.base-at.ensures c.store.ensures c.store-2.ensures c.store-3.ensures c.store-4.ensures c.store-5.ensures
