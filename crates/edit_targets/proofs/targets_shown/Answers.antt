-- `edit_targets::targets_shown` meets its contract.
-- Assumes nothing.
use mathlib.Core.Path.{sym, ◌∙◌, ap}
use native.Mathlib.Omega.{arith}
use Rattle.model.specs.Lists.{all_of}
use Rattle.edit_basics.proofs.Turns.{not_left}
use Rattle.edit_basics.proofs.Values.{values_fit, rules_start, rule_now, rule_next, ahead_start, all_stop, all_go, all_end}
use Rattle.std.proofs.lemmas.Bool.{not_from_true}
use Rattle.edit_targets.proofs.targets_shown.Goals as goal

pub loop-j-init : goal.loop-j-init
loop-j-init c = (values_fit _ _ _ c.requires, sym (rules_start _ _ _) ∙ c.requires, ap (all_of _) (ahead_start _ _ _))

pub target_shown-requires : goal.target_shown-requires
target_shown-requires c = rule_now _ _ _ _ _ (omega arith) (omega arith) c.kind_at.ensures c.loop-j.invariant.1

pub returns-then-not-target_shown : goal.returns-then-not-target_shown
returns-then-not-target_shown c = all_stop _ _ _ _ _ (omega arith) (omega arith) c.kind_at.ensures _ _ _ c.loop-j.invariant.2 c.target_shown.ensures (c.if-not-target_shown.true)

pub loop-j-preserved : goal.loop-j-preserved
loop-j-preserved c = (
  c.loop-j.invariant.0,
  rule_next _ _ _ _ _ (omega arith) (omega arith) c.kind_at.ensures c.loop-j.invariant.1,
  all_go _ _ _ _ _ (omega arith) (omega arith) c.kind_at.ensures _ _ _ c.loop-j.invariant.2 c.target_shown.ensures (not_left _ (not_from_true _ c.if-not-target_shown.false)),
)

pub returns : goal.returns
returns c = all_end _ _ _ _ _ _ c.loop-j.invariant.2 (omega arith)
