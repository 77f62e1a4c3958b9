-- `merge_join::join_fields` meets its contract. The loop's invariant: the first fields are joined.
-- Assumes nothing.
use mathlib.Core.Path.{refl, ◌∙◌}
use native.Mathlib.Omega.{arith}
use Rattle.merge_join.proofs.Forms.{fields_none, fields_more, changed_none, changed_more}
use Rattle.merge_join.proofs.join_fields.Goals as goal

pub loop-done-init : goal.loop-done-init
loop-done-init c = (refl, fields_none _ _ _ _, changed_none _ _ _ _)

pub loop-done-preserved : goal.loop-done-preserved
loop-done-preserved c =
    let v = c.loop-done.invariant in
    let k = c.join_field-changed in
    (k.auto.own ∙ v.0, fields_more _ _ _ _ _ _ _ v.1 k.ensures.words, changed_more _ _ _ _ _ _ _ _ v.1 v.2 k.ensures.changed)
