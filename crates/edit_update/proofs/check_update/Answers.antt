-- `edit_update::check_update` meets its contract. In an answer `e1` to `e7` are the places behind the tests that were passed, and `st` is the start.
-- Assumes nothing.
use mathlib.Core.Path.{sym, ◌∙◌}
use native.Mathlib.Omega.{arith}
use Rattle.references.proofs.Places.{fields_most}
use Rattle.edit_basics.proofs.Turns.{not_left}
use Rattle.edit_laws.proofs.UpdateNumber.{update_hidden, update_below, update_above, update_bad, update_target, update_taken, update_clock, update_spent, update_done, old_rule, count_as, field_within, kind_as, spent_as}
use Rattle.std.proofs.lemmas.Bool.{not_from_true}
use Rattle.std.proofs.lemmas.Bool.{not_from_true}
use Rattle.std.proofs.lemmas.Bool.{not_from_true}
use Rattle.edit_update.proofs.check_update.Goals as goal

pub returns-then-not-is_marked-clause-number : goal.returns-then-not-is_marked-clause-number
returns-then-not-is_marked-clause-number c =
    update_hidden _ _ _ _ _ c.requires.0 _ c.args.s.shown_marks _ c.is_marked.ensures (c.if-not-is_marked.true)

pub returns-then-f-lt1-clause-number : goal.returns-then-f-lt1-clause-number
returns-then-f-lt1-clause-number c =
    update_below _ _ _ _ _ c.requires.0 _ c.args.s.shown_marks _ c.is_marked.ensures (not_left _ (not_from_true _ c.if-not-is_marked.false)) c.if-f-lt1.true

pub returns-then-field_count-f-clause-number : goal.returns-then-field_count-f-clause-number
returns-then-field_count-f-clause-number c =
    let n = count_as _ _ _ _ c.relation_at-r.ensures _ c.field_count.ensures in
    update_above _ _ _ _ _ c.requires.0 _ c.args.s.shown_marks _ c.is_marked.ensures (not_left _ (not_from_true _ c.if-not-is_marked.false)) c.if-f-lt1.false _ n c.if-field_count-f.true

pub returns-then-not-value_rule-clause-number : goal.returns-then-not-value_rule-clause-number
returns-then-not-value_rule-clause-number c =
    let l = field_within _ _ _ _ c.relation_at-r.ensures _ _ c.field_count.ensures c.if-field_count-f.false in
    let k = kind_as _ _ _ _ c.relation_at-r.ensures _ _ c.kind_at-kind.ensures in
    update_bad _ _ _ _ _ c.requires.0 _ c.args.s.shown_marks _ c.is_marked.ensures (not_left _ (not_from_true _ c.if-not-is_marked.false)) c.if-f-lt1.false l _ k _ c.value_rule.ensures (c.if-not-value_rule.true)

pub returns-then-not-target_shown-clause-number : goal.returns-then-not-target_shown-clause-number
returns-then-not-target_shown-clause-number c =
    let l = field_within _ _ _ _ c.relation_at-r.ensures _ _ c.field_count.ensures c.if-field_count-f.false in
    let k = kind_as _ _ _ _ c.relation_at-r.ensures _ _ c.kind_at-kind.ensures in
    update_target _ _ _ _ _ c.requires.0 _ c.args.s.shown_marks _ c.is_marked.ensures (not_left _ (not_from_true _ c.if-not-is_marked.false)) c.if-f-lt1.false l _ k _ c.value_rule.ensures (not_left _ (not_from_true _ c.if-not-value_rule.false)) _ c.target_shown.ensures (c.if-not-target_shown.true)

pub is_update_taken-requires : goal.is_update_taken-requires
is_update_taken-requires c =
    let o = c.requires.0 in
    let l = field_within _ _ _ _ c.relation_at-r.ensures _ _ c.field_count.ensures c.if-field_count-f.false in
    let u = fields_most _ _ o.checked _ o.least o.most in
    (o, c.args.s.standing_marks, c.if-f-lt1.false, omega arith)

pub returns-then-is_update_taken-clause-number : goal.returns-then-is_update_taken-clause-number
returns-then-is_update_taken-clause-number c =
    let l = field_within _ _ _ _ c.relation_at-r.ensures _ _ c.field_count.ensures c.if-field_count-f.false in
    let k = kind_as _ _ _ _ c.relation_at-r.ensures _ _ c.kind_at-kind.ensures in
    update_taken _ _ _ _ _ c.requires.0 _ c.args.s.shown_marks _ c.is_marked.ensures (not_left _ (not_from_true _ c.if-not-is_marked.false)) c.if-f-lt1.false l _ k _ c.value_rule.ensures (not_left _ (not_from_true _ c.if-not-value_rule.false)) _ c.target_shown.ensures (not_left _ (not_from_true _ c.if-not-target_shown.false)) _ c.is_update_taken.ensures c.if-is_update_taken.true

pub returns-then-clock-eq-LARGEST_COUNTER-clause-number : goal.returns-then-clock-eq-LARGEST_COUNTER-clause-number
returns-then-clock-eq-LARGEST_COUNTER-clause-number c =
    let l = field_within _ _ _ _ c.relation_at-r.ensures _ _ c.field_count.ensures c.if-field_count-f.false in
    let k = kind_as _ _ _ _ c.relation_at-r.ensures _ _ c.kind_at-kind.ensures in
    update_clock _ _ _ _ _ c.requires.0 _ c.args.s.shown_marks _ c.is_marked.ensures (not_left _ (not_from_true _ c.if-not-is_marked.false)) c.if-f-lt1.false l _ k _ c.value_rule.ensures (not_left _ (not_from_true _ c.if-not-value_rule.false)) _ c.target_shown.ensures (not_left _ (not_from_true _ c.if-not-target_shown.false)) _ c.is_update_taken.ensures c.if-is_update_taken.false _ c.clock.ensures c.if-clock-eq-LARGEST_COUNTER.true

pub mark_update-requires : goal.mark_update-requires
mark_update-requires c =
    let l = field_within _ _ _ _ c.relation_at-r.ensures _ _ c.field_count.ensures c.if-field_count-f.false in
    let k = kind_as _ _ _ _ c.relation_at-r.ensures _ _ c.kind_at-kind.ensures in
    (c.requires.0, old_rule _ _ _ _ c.requires.0 c.if-f-lt1.false l _ _ k c.value_at-old.ensures, sym c.value_rule.ensures ∙ not_left _ (not_from_true _ c.if-not-value_rule.false), c.requires.1)

pub returns-then-is_spent-clause-number : goal.returns-then-is_spent-clause-number
returns-then-is_spent-clause-number c =
    let l = field_within _ _ _ _ c.relation_at-r.ensures _ _ c.field_count.ensures c.if-field_count-f.false in
    let k = kind_as _ _ _ _ c.relation_at-r.ensures _ _ c.kind_at-kind.ensures in
    let p = c.mark_update.ensures in
    let e = spent_as _ _ _ _ _ _ _ _ c.value_at-old.ensures (c.is_spent.ensures _ p) in
    update_spent _ _ _ _ _ c.requires.0 _ c.args.s.shown_marks _ c.is_marked.ensures (not_left _ (not_from_true _ c.if-not-is_marked.false)) c.if-f-lt1.false l _ k _ c.value_rule.ensures (not_left _ (not_from_true _ c.if-not-value_rule.false)) _ c.target_shown.ensures (not_left _ (not_from_true _ c.if-not-target_shown.false)) _ c.is_update_taken.ensures c.if-is_update_taken.false _ c.clock.ensures c.if-clock-eq-LARGEST_COUNTER.false _ e c.if-is_spent.true

pub returns-clause-number : goal.returns-clause-number
returns-clause-number c =
    let l = field_within _ _ _ _ c.relation_at-r.ensures _ _ c.field_count.ensures c.if-field_count-f.false in
    let k = kind_as _ _ _ _ c.relation_at-r.ensures _ _ c.kind_at-kind.ensures in
    let p = c.mark_update.ensures in
    let e = spent_as _ _ _ _ _ _ _ _ c.value_at-old.ensures (c.is_spent.ensures _ p) in
    update_done _ _ _ _ _ c.requires.0 _ c.args.s.shown_marks _ c.is_marked.ensures (not_left _ (not_from_true _ c.if-not-is_marked.false)) c.if-f-lt1.false l _ k _ c.value_rule.ensures (not_left _ (not_from_true _ c.if-not-value_rule.false)) _ c.target_shown.ensures (not_left _ (not_from_true _ c.if-not-target_shown.false)) _ c.is_update_taken.ensures c.if-is_update_taken.false _ c.clock.ensures c.if-clock-eq-LARGEST_COUNTER.false _ e c.if-is_spent.false
