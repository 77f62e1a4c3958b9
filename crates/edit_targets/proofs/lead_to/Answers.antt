-- `edit_targets::lead_to` meets its contract.
-- Assumes nothing.
use mathlib.Core.Path.{sym, ◌∙◌, ap}
use native.Mathlib.Omega.{arith}
use Rattle.model.specs.Lists.{some_of}
use Rattle.edit_basics.proofs.Values.{values_fit, rules_start, rule_now, rule_next, ahead_start, some_stop, some_go, some_end}
use Rattle.edit_targets.proofs.lead_to.Goals as goal

pub loop-j-init : goal.loop-j-init
loop-j-init c = (values_fit _ _ _ c.requires.1, sym (rules_start _ _ _) ∙ c.requires.1, ap (some_of _) (ahead_start _ _ _))

pub leads_to-requires : goal.leads_to-requires
leads_to-requires c = (c.requires.0, rule_now _ _ _ _ _ (omega arith) (omega arith) c.kind_at.ensures c.loop-j.invariant.1)

pub returns-then-leads_to : goal.returns-then-leads_to
returns-then-leads_to c = some_stop _ _ _ _ _ (omega arith) (omega arith) c.kind_at.ensures _ _ _ c.loop-j.invariant.2 c.leads_to.ensures c.if-leads_to.true

pub loop-j-preserved : goal.loop-j-preserved
loop-j-preserved c = (
  c.loop-j.invariant.0,
  rule_next _ _ _ _ _ (omega arith) (omega arith) c.kind_at.ensures c.loop-j.invariant.1,
  some_go _ _ _ _ _ (omega arith) (omega arith) c.kind_at.ensures _ _ _ c.loop-j.invariant.2 c.leads_to.ensures c.if-leads_to.false,
)

pub returns : goal.returns
returns c = some_end _ _ _ _ _ _ c.loop-j.invariant.2 (omega arith)
