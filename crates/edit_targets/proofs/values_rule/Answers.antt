-- `edit_targets::values_rule` meets its contract.
-- Assumes nothing.
use mathlib.Core.Path.{sym, ◌∙◌}
use native.Mathlib.Omega.{arith}
use Rattle.edit_basics.proofs.Turns.{not_left}
use Rattle.edit_basics.proofs.Values.{wrong_count, rules_start, rules_end, rules_stop, rules_go}
use Rattle.std.proofs.lemmas.Bool.{not_from_true}
use Rattle.edit_targets.proofs.values_rule.Goals as goal

pub returns-then-values-field_count : goal.returns-then-values-field_count
returns-then-values-field_count c = wrong_count _ _ _ (λ e. omega arith)

pub loop-j-init : goal.loop-j-init
loop-j-init c = rules_start _ _ _

pub returns-then-not-value_rule : goal.returns-then-not-value_rule
returns-then-not-value_rule c = rules_stop _ _ _ _ _ (omega arith) (omega arith) c.kind_at.ensures _ _ c.loop-j.invariant c.value_rule.ensures (c.if-not-value_rule.true)

pub loop-j-preserved : goal.loop-j-preserved
loop-j-preserved c = rules_go _ _ _ _ _ (omega arith) (omega arith) c.kind_at.ensures _ _ c.loop-j.invariant c.value_rule.ensures (not_left _ (not_from_true _ c.if-not-value_rule.false))

pub returns : goal.returns
returns c = sym (c.loop-j.invariant ∙ rules_end _ _ _ _ (omega arith) (omega arith))
