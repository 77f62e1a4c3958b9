-- `edit_insertion::check_insertion` meets its contract.
-- Assumes nothing.
use mathlib.Core.Path.{sym, ◌∙◌}
use native.Mathlib.Omega.{arith}
use Rattle.edit_basics.proofs.Turns.{not_left}
use Rattle.edit_laws.proofs.InsertionNumber.{insertion_below, insertion_above, insertion_bad, insertion_target, insertion_taken, insertion_later}
use Rattle.std.proofs.lemmas.Bool.{not_from_true}
use Rattle.std.proofs.lemmas.Bool.{not_from_true}
use Rattle.edit_insertion.proofs.check_insertion.Goals as goal

pub returns-then-r-lt1-clause-number : goal.returns-then-r-lt1-clause-number
returns-then-r-lt1-clause-number c = insertion_below _ _ c.args.s.t.checked _ _ c.if-r-lt1.true

pub returns-then-relations-r-clause-number : goal.returns-then-relations-r-clause-number
returns-then-relations-r-clause-number c =
    insertion_above _ _ c.args.s.t.checked _ _ (omega arith) _ c.relations.ensures c.if-relations-r.true

pub returns-then-not-values_rule-clause-number : goal.returns-then-not-values_rule-clause-number
returns-then-not-values_rule-clause-number c =
    let n = c.relations.ensures in
    insertion_bad _ _ c.args.s.t.checked _ _ (omega arith) (omega arith) _ c.values_rule.ensures (c.if-not-values_rule.true)

pub returns-then-not-targets_shown-clause-number : goal.returns-then-not-targets_shown-clause-number
returns-then-not-targets_shown-clause-number c =
    let n = c.relations.ensures in
    let v = sym c.values_rule.ensures ∙ not_left _ (not_from_true _ c.if-not-values_rule.false) in
    insertion_target _ _ c.args.s.t.checked _ _ (omega arith) (omega arith) v _ c.targets_shown.ensures (c.if-not-targets_shown.true)

pub returns-then-is_insertion_taken-clause-number : goal.returns-then-is_insertion_taken-clause-number
returns-then-is_insertion_taken-clause-number c =
    let n = c.relations.ensures in
    let v = sym c.values_rule.ensures ∙ not_left _ (not_from_true _ c.if-not-values_rule.false) in
    insertion_taken _ _ c.args.s.t.checked _ _ (omega arith) (omega arith) v _ c.targets_shown.ensures (not_left _ (not_from_true _ c.if-not-targets_shown.false)) _ c.is_insertion_taken.ensures c.if-is_insertion_taken.true

pub returns-clause-number : goal.returns-clause-number
returns-clause-number c =
    let n = c.relations.ensures in
    let v = sym c.values_rule.ensures ∙ not_left _ (not_from_true _ c.if-not-values_rule.false) in
    c.judge_room.ensures.number ∙ sym (insertion_later _ _ c.args.s.t.checked _ _ (omega arith) (omega arith) v _ c.targets_shown.ensures (not_left _ (not_from_true _ c.if-not-targets_shown.false)) _ c.is_insertion_taken.ensures c.if-is_insertion_taken.false)
