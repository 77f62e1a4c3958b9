-- `compare_within::record_within` meets its contract.
-- Assumes nothing.
use native.Mathlib.Omega.{arith}
use Rattle.model.specs.Layout.{base}
use Rattle.compare_within.proofs.Forms.{flag_later, record_is}
use Rattle.compare_within.proofs.record_within.Goals as goal

pub returns-then-flag_at : goal.returns-then-flag_at
returns-then-flag_at c = flag_later _ _ _ _ _ _ c.flag_at.ensures c.flag_at-2.ensures c.if-flag_at.true

pub overflow_add-p : goal.overflow_add-p
unfolding base
overflow_add-p c = omega (arith, c.base.ensures, c.requires)

pub overflow_add-q : goal.overflow_add-q
unfolding base
overflow_add-q c = omega (arith, c.base-2.ensures, c.requires)

pub fields_within-requires : goal.fields_within-requires
unfolding base
fields_within-requires c = omega (arith, c.base-2.ensures, c.base.ensures, c.requires)

pub returns : goal.returns
returns c = record_is _ _ _ _ _ _ c.flag_at.ensures c.flag_at-2.ensures c.if-flag_at.false _ _ c.base.ensures c.base-2.ensures _ c.fields_within.ensures
