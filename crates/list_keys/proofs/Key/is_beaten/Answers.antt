-- `list_keys::Key::is_beaten` meets its contract.
-- Assumes nothing.
use mathlib.Core.Path.{sym, ◌∙◌}
use native.Mathlib.Omega.{arith}
use Rattle.references.proofs.Places.{used_most}
use Rattle.list_keys.proofs.Bucketed.{walk_start, walk_in, walk_next, walk_less, walk_beaten, walk_unbeaten, not_beaten, slot_none, slot_some, slot_room}
use Rattle.list_keys.proofs.Key.is_beaten.Goals as goal

pub returns-in_default : goal.returns-in_default
returns-in_default c = let k = c.args.t.checked in let p = c.requires in not_beaten _ _ _ k.schema k.formed _ _ p.0 p.1 (slot_none _ _ _ _ (sym c.in_default.is ∙ p.2))

pub offset_bounds-self-b : goal.offset_bounds-self-b
offset_bounds-self-b c = omega (arith, slot_room _ _ _ _ _ (sym c.in-Some.is ∙ c.requires.2))

pub bounds-self-b : goal.bounds-self-b
bounds-self-b c = slot_room _ _ _ _ _ (sym c.in-Some.is ∙ c.requires.2)

pub loop-at-init : goal.loop-at-init
loop-at-init c =
    let k = c.args.t.checked in
    let p = c.requires in
    walk_start _ _ _ k.schema k.formed _ _ _ _ p.3 _ _ (slot_some _ _ _ _ _ (sym c.in-Some.is ∙ p.2)).0 c.from-at.ensures

pub records_conflict-requires : goal.records_conflict-requires
records_conflict-requires c =
    let k = c.args.t.checked in
    let p = c.requires in
    let o = (walk_in _ _ _ k.schema k.formed _ _ _ _ p.3 _ c.loop-at.invariant c.loop-at-test.true).0 in
    (o.least, o.within, p.0, p.1)

pub returns-then-records_conflict : goal.returns-then-records_conflict
returns-then-records_conflict c =
    let k = c.args.t.checked in
    walk_beaten _ _ _ k.schema k.formed _ _ _ _ c.requires.3 _ c.loop-at.invariant c.loop-at-test.true (sym c.records_conflict.ensures ∙ c.if-records_conflict.true)

pub offset_bounds-self-at : goal.offset_bounds-self-at
offset_bounds-self-at c =
    let k = c.args.t.checked in
    let o = (walk_in _ _ _ k.schema k.formed _ _ _ _ c.requires.3 _ c.loop-at.invariant c.loop-at-test.true).0 in
    omega (arith, o.within, used_most _ _ k)

pub bounds-self-at : goal.bounds-self-at
bounds-self-at c =
    let k = c.args.t.checked in
    let o = (walk_in _ _ _ k.schema k.formed _ _ _ _ c.requires.3 _ c.loop-at.invariant c.loop-at-test.true).0 in
    omega (arith, o.least, o.within, used_most _ _ k)

pub loop-at-smaller : goal.loop-at-smaller
loop-at-smaller c =
    let k = c.args.t.checked in
    walk_less _ _ _ k.schema k.formed _ _ _ _ c.requires.3 _ c.loop-at.invariant c.loop-at-test.true _ c.from-at-in-loop-at.ensures

pub loop-at-preserved : goal.loop-at-preserved
loop-at-preserved c =
    let k = c.args.t.checked in
    walk_next _ _ _ k.schema k.formed _ _ _ _ c.requires.3 _ c.loop-at.invariant c.loop-at-test.true _ c.from-at-in-loop-at.ensures (sym c.records_conflict.ensures ∙ c.if-records_conflict.false)

pub returns : goal.returns
returns c = let k = c.args.t.checked in let p = c.requires in walk_unbeaten _ _ _ k.schema k.formed _ _ p.0 p.1 _ c.loop-at.invariant c.loop-at-test.false
