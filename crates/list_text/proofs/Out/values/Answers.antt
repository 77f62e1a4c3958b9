-- `list_text::Out::values` meets its contract.
-- Assumes nothing.
use native.Mathlib.Omega.{arith}
use Rattle.list_text.proofs.Laying.{leads_start, leads_as}
use Rattle.list_text.proofs.Fields.{rest_start, values_on, values_end}
use Rattle.list_text.proofs.Out.values.Goals as goal

pub loop-j-init : goal.loop-j-init
loop-j-init c = leads_as (rest_start _ _ _) (leads_start _ _)

pub loop-j-preserved : goal.loop-j-preserved
loop-j-preserved c = values_on _ _ _ c.loop-j.j (omega arith) _ _ c.kind_at.ensures c.value_at.ensures c.loop-j.invariant c.field.ensures

pub returns : goal.returns
returns c = values_end _ _ _ c.loop-j.j (omega arith) c.loop-j.invariant
