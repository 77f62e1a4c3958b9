-- `merge_join::join_field` meets its contract. Two stores of the joined register, or none where it is unchanged.
-- Assumes nothing.
use mathlib.Core.Path.{refl, sym, ◌∙◌}
use native.Mathlib.Omega.{arith}
use Rattle.model.specs.Layout.{base}
use Rattle.merge_join.proofs.Forms.{field_is, field_stays, field_changed_lem}
use Rattle.merge_join.proofs.join_field.Goals as goal

pub returns-in_default-clause-words : goal.returns-in_default-clause-words
returns-in_default-clause-words c =
    let e = c.in_default.ensures in
    field_stays _ _ _ _ _ _ _ _ _ _ _ _ c.value_at.ensures c.stamp_at.ensures c.value_at-2.ensures c.stamp_at-2.ensures e.joined e.changed refl

pub returns-in_default-clause-changed : goal.returns-in_default-clause-changed
returns-in_default-clause-changed c =
    let e = c.in_default.ensures in
    field_changed_lem _ _ _ _ _ _ _ _ _ _ _ _ c.value_at.ensures c.stamp_at.ensures c.value_at-2.ensures c.stamp_at-2.ensures e.joined e.changed

pub overflow_add-at : goal.overflow_add-at
unfolding base
overflow_add-at c = omega (arith, c.base.ensures, c.requires)

pub overflow_add-at-2 : goal.overflow_add-at-2
unfolding base
overflow_add-at-2 c = omega (arith, c.base.ensures, c.requires)

pub overflow_add-at-3 : goal.overflow_add-at-3
unfolding base
overflow_add-at-3 c = omega (arith, c.base.ensures, c.requires)

pub overflow_add-at-4 : goal.overflow_add-at-4
unfolding base
overflow_add-at-4 c = omega (arith, c.base.ensures, c.requires)

pub returns-clause-words : goal.returns-clause-words
returns-clause-words c =
    let e = c.in-Some.ensures in
    field_is _ _ _ _ _ _ _ _ _ _ _ _ _ _ c.value_at.ensures c.stamp_at.ensures c.value_at-2.ensures c.stamp_at-2.ensures e.joined c.base.ensures c.store.ensures c.store-2.ensures

pub returns-clause-changed : goal.returns-clause-changed
returns-clause-changed c =
    let e = c.in-Some.ensures in
    field_changed_lem _ _ _ _ _ _ _ _ _ _ _ _ c.value_at.ensures c.stamp_at.ensures c.value_at-2.ensures c.stamp_at-2.ensures e.joined e.changed
