-- `list_keys::keep_along` meets its contract.
-- Assumes nothing.
use native.Mathlib.Omega.{arith}
use Rattle.marks.proofs.Chain.{next_less}
use Rattle.list_keys.proofs.Passing.{going_start, going_on, going_first, going_second, going_next, going_end}
use Rattle.list_keys.proofs.keep_along.Goals as goal

pub loop-i-init : goal.loop-i-init
loop-i-init c = let p = c.requires in going_start _ _ c.args.t.checked _ _ _ _ _ p.0 p.1 c.first_at-i.ensures p.2 p.3 p.5 p.6 p.7

pub pass-requires : goal.pass-requires
pass-requires c =
    let k = c.args.t.checked in
    let v = c.loop-i.invariant in
    let z = c.loop-i-test.true in
    let o = going_on _ _ k _ _ _ _ _ v z in
    (o.from_one, o.within, omega (arith, c.requires.4, c.loop-i.auto.marks), going_first _ _ k _ _ _ _ _ v z, going_second _ _ k _ _ _ _ _ v z)

pub loop-i-smaller : goal.loop-i-smaller
loop-i-smaller c =
    let k = c.args.t.checked in
    rw c.next_at-i.ensures (next_less _ _ k.schema k.formed _ _ (going_on _ _ k _ _ _ _ _ c.loop-i.invariant c.loop-i-test.true))

pub loop-i-preserved : goal.loop-i-preserved
loop-i-preserved c =
    let f = c.pass.ensures in
    going_next _ _ c.args.t.checked _ _ _ _ _ c.loop-i.invariant c.loop-i-test.true _ _ _ _ c.next_at-i.ensures
    (omega (arith, c.requires.4, c.loop-i.auto.marks)) f.marks f.first f.second

pub returns : goal.returns
returns c = going_end _ _ c.args.t.checked _ _ _ _ _ c.loop-i.invariant c.loop-i-test.false
