-- `crdt::larger_register` meets its contract: the order of the fields is that of the join.
-- Assumes nothing.
use Rattle.std.proofs.Common.{◌≡◌, refl, ◌∙◌, ap, Bool, true, false, cond}
use Rattle.crdt.specs.declared.Register.{Register}
use Rattle.crdt.specs.Cells.{reg}
use Rattle.crdt.proofs.Order.{join_larger}
use Rattle.crdt.proofs.larger_register.Goals as goal

picked : (p : Bool) (x y : Register) → reg (cond p x y).value (cond p x y).stamp ≡ cond p (reg x.value x.stamp) (reg y.value y.stamp)
picked true x y = refl
picked false x y = refl

pub returns : goal.returns
returns c =
    let a = c.args.a in
    let b = c.args.b in
    ap (λ (r : Register). reg r.value r.stamp) c.max.ensures ∙ picked _ a b ∙ join_larger a.value a.stamp b.value b.stamp
