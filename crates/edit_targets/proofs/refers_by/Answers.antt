-- `edit_targets::refers_by` meets its contract.
-- Assumes nothing.
use Prim.Native.Nat.{◌+◌}
use mathlib.Core.Path.{sym}
use native.Mathlib.Omega.{arith}
use Rattle.edit_basics.proofs.Turns.{none_more}
use Rattle.edit_basics.proofs.Refs.{refers_found, refers_none}
use Rattle.edit_targets.proofs.Meets.{counted, within, hit, elsewhere, unchosen}
use Rattle.edit_targets.proofs.refers_by.Goals as goal
use Rattle.edit_targets.proofs.refers_by.Goals.{else-s-at-via-then-s-at+else-is_chosen, else-s-at-via-else-s-at}

pub overflow_mul-at : goal.overflow_mul-at
overflow_mul-at g c = omega (arith, within _ _ _ _ _ _ c.requires.1.1.1.1.0 c.relation_at-r.ensures c.field_count-j-end.ensures c.loop-j-test.true)

pub overflow_add-at : goal.overflow_add-at
overflow_add-at g c = omega (arith, within _ _ _ _ _ _ c.requires.1.1.1.1.0 c.relation_at-r.ensures c.field_count-j-end.ensures c.loop-j-test.true)

pub offset_bounds-s-at : goal.offset_bounds-s-at
offset_bounds-s-at g c = omega (arith, within _ _ _ _ _ _ c.requires.1.1.1.1.0 c.relation_at-r.ensures c.field_count-j-end.ensures c.loop-j-test.true)

pub bounds-s-at : goal.bounds-s-at
bounds-s-at g c =
    omega (arith, within _ _ _ _ _ _ c.requires.1.1.1.1.0 c.relation_at-r.ensures c.field_count-j-end.ensures c.loop-j-test.true, c.args.s.long)

pub returns-then-is_chosen : goal.returns-then-is_chosen
returns-then-is_chosen g c =
    let o = c.requires.1.1.1.1 in
    let f = counted _ _ _ _ _ c.relation_at-r.ensures c.field_count-j-end.ensures in
    sym (refers_found g.q c.requires.1.1.1.0 _ _ _ _ _ o.0 o.1 c.args.s.resolved (c.loop-j.j + 1) (omega arith) (omega (arith, f))
    (hit g.q _ _ _ _ _ _ _ _ c.relation_at-r.ensures c.kind_at.ensures c.if-s-at.true (c.requires.1.1.0 _ _ c.kind_at.type_inv (c.if-is_chosen.ensures))))

pub loop-j-preserved : goal.loop-j-preserved
loop-j-preserved g c =
    none_more _ _ c.loop-j.invariant
    (elim c.else-s-at.branch [
      | else-s-at-via-then-s-at+else-is_chosen w ↦
          unchosen g.q _ _ _ _ _ _ _ _ c.relation_at-r.ensures w.kind_at.ensures (c.requires.1.1.0 _ _ w.kind_at.type_inv w.if-is_chosen.ensures)
      | else-s-at-via-else-s-at w ↦ elsewhere g.q _ _ _ _ _ _ w.if-s-at.false
    ])

pub returns : goal.returns
returns g c =
    let o = c.requires.1.1.1.1 in
    let f = counted _ _ _ _ _ c.relation_at-r.ensures c.field_count-j-end.ensures in
    sym (refers_none g.q c.requires.1.1.1.0 _ _ _ _ _ o.0 o.1 c.args.s.resolved (λ y a b. c.loop-j.invariant y a (omega (arith, f))))
