-- `merge_join::join_flag` meets its contract. Both flags are flags, so that their join is the larger.
-- Assumes nothing.
use native.Mathlib.Omega.{arith}
use Rattle.model.specs.Layout.{base}
use Rattle.merge_join.proofs.Forms.{flag_is, flag_stays, flag_changed_lem}
use Rattle.merge_join.proofs.join_flag.Goals as goal

pub returns-in_default-clause-words : goal.returns-in_default-clause-words
returns-in_default-clause-words c = flag_stays _ _ _ _ _ _ c.flag_at.ensures c.flag_at-2.ensures c.requires.1 c.requires.2 c.in_default.ensures.flags

pub returns-in_default-clause-changed : goal.returns-in_default-clause-changed
returns-in_default-clause-changed c = flag_changed_lem _ _ _ _ _ _ _ _ c.flag_at.ensures c.flag_at-2.ensures c.requires.1 c.requires.2 c.in_default.ensures.flags c.in_default.ensures.changed

pub overflow_add-base : goal.overflow_add-base
unfolding base
overflow_add-base c = omega (arith, c.base.ensures, c.requires)

pub returns-clause-words : goal.returns-clause-words
returns-clause-words c =
    let e = c.in-Some.ensures in
    flag_is _ _ _ _ _ _ _ _ _ c.flag_at.ensures c.flag_at-2.ensures c.requires.1 c.requires.2 e.flags c.base.ensures c.store.ensures

pub returns-clause-changed : goal.returns-clause-changed
returns-clause-changed c =
    let e = c.in-Some.ensures in
    flag_changed_lem _ _ _ _ _ _ _ _ c.flag_at.ensures c.flag_at-2.ensures c.requires.1 c.requires.2 e.flags e.changed
