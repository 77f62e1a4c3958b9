-- `list_standing::Found::spread` meets its contract.
-- Assumes nothing.
use native.Mathlib.Omega.{arith}
use mathlib.Core.Path.{◌≡◌}
use Rattle.list_standing.proofs.Work.{live_keep, done_more, all_marked}
use Rattle.list_standing.proofs.Found.spread.Goals as goal

pub loop-k-preserved : goal.loop-k-preserved
loop-k-preserved c =
    let v = c.loop-k.invariant in
    let f = c.visit in
    let l = c.loop-k-test.true in (
      omega (arith, f.ensures.1.grows),
      f.ensures.0,
      live_keep _ _ _ _ _ _ _ _ f.ensures.1 v.2,
      done_more _ _ _ _ _ _ _ _ _ _ l v.3 f.ensures.1 c.from-i.ensures f.ensures.2,
    )

pub returns : goal.returns
returns c =
    let v = c.loop-k.invariant in
    let e : c.loop-k.k ≡ c.loop-k.self.count = omega arith in
    all_marked _ _ _ _ _ c.args.resolved.t.checked v.1 v.2 (rw e at v.3)
