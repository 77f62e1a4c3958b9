-- `edit_targets::target_shown` meets its contract.
-- Assumes nothing.
use mathlib.Core.Path.{◌∙◌, sym}
use borrow.Author.Tests.{leb-true, leb-false}
use Rattle.laws.proofs.Drafts.{shown_in}
use Rattle.edit_basics.proofs.Marks.{mark_position, rule_below, lead_plain, lead_empty, none_leads, one_leads}
use Rattle.std.proofs.Common.{rules}
use Rattle.edit_targets.proofs.Sought.{mark_sought}
use Rattle.edit_targets.proofs.target_shown.Goals as goal

pub returns-then-value-eq0 : goal.returns-then-value-eq0
returns-then-value-eq0 c = none_leads _ _ _ (lead_empty _ _ c.if-value-eq0.true)

pub returns-then-not-is_reference : goal.returns-then-not-is_reference
returns-then-not-is_reference c = none_leads _ _ _ (lead_plain _ _ (leb-false _ _ (sym c.is_reference.ensures ∙ c.if-not-is_reference.true)))

pub find-requires : goal.find-requires
find-requires c = rule_below c.args.kind _ c.requires (leb-true _ _ (sym c.is_reference.ensures ∙ c.if-not-is_reference.false))

pub returns : goal.returns
returns c =
    one_leads _ _ _ _ (leb-true _ _ (sym c.is_reference.ensures ∙ c.if-not-is_reference.false)) c.if-value-eq0.false
    (mark_sought _ _ c.args.s.marks.now _ c.find.ensures.found c.find.ensures.missing c.is_some_and.ensures (λ i k. search rules)
    ∙ mark_position _ _ c.args.s.t.checked _ (shown_in _ _) _ c.args.s.shown_marks _)
