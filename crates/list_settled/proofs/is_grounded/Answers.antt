-- `list_settled::is_grounded` meets its contract.
-- Assumes nothing.
use mathlib.Core.Path.{refl}
use native.Mathlib.Omega.{arith}
use Rattle.layout.proofs.Each.{each_none}
use Rattle.list_settled.proofs.Rounds.{lead_more, lead_all}
use Rattle.list_settled.proofs.is_grounded.Goals as goal

pub loop-j-init : goal.loop-j-init
loop-j-init c = each_none _

pub loop-j-preserved : goal.loop-j-preserved
loop-j-preserved c = lead_more c.args.refs.now c.args.marks.now c.args.i _ c.loop-j.j _ _ refl c.loop-j.invariant c.leads_on-good.ensures

pub returns : goal.returns
returns c = lead_all c.args.refs.now c.args.marks.now c.args.i c.loop-j.j _ (omega arith) c.loop-j.invariant
