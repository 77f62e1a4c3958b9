-- `edit_targets::find` meets its contract.
-- Assumes nothing.
use mathlib.Core.Path.{sym, ◌∙◌}
use mathlib.Core.Logic.{inl, inr}
use native.Mathlib.Omega.{arith}
use Rattle.edit_basics.proofs.Chain.{seek_start, seek_step, seek_less, found, missed, not_there}
use Rattle.edit_targets.proofs.find.Goals as goal

pub returns-then-r-lt1-clause-missing : goal.returns-then-r-lt1-clause-missing
returns-then-r-lt1-clause-missing c = not_there _ _ c.args.t.checked _ _ c.requires (λ a b. omega arith)

pub returns-then-r-gt-MOST_RELATIONS-clause-missing : goal.returns-then-r-gt-MOST_RELATIONS-clause-missing
returns-then-r-gt-MOST_RELATIONS-clause-missing c = not_there _ _ c.args.t.checked _ _ c.requires (λ a b. omega arith)

pub loop-i-init : goal.loop-i-init
loop-i-init c = seek_start _ _ c.args.t.checked _ _ (omega arith) (omega arith) _ c.first_at-i.ensures

pub loop-i-smaller : goal.loop-i-smaller
loop-i-smaller c = seek_less _ _ c.args.t.checked _ _ _ _ c.loop-i.invariant (sym c.precedes.ensures ∙ c.loop-i-test.true) c.next_at-i.ensures

pub loop-i-preserved : goal.loop-i-preserved
loop-i-preserved c = seek_step _ _ c.args.t.checked _ _ _ _ c.loop-i.invariant (sym c.precedes.ensures ∙ c.loop-i-test.true) c.next_at-i.ensures

pub returns-then-i-eq0-clause-missing : goal.returns-then-i-eq0-clause-missing
returns-then-i-eq0-clause-missing c = missed _ _ c.args.t.checked _ _ c.requires _ c.loop-i.invariant (sym c.precedes.ensures ∙ c.loop-i-test.false) (inl c.if-i-eq0.true)

pub returns-then-label_at-label-clause-found : goal.returns-then-label_at-label-clause-found
returns-then-label_at-label-clause-found c = (omega arith, found _ _ c.args.t.checked _ _ c.requires _ c.loop-i.invariant c.if-i-eq0.false (sym c.label_at.ensures ∙ c.if-label_at-label.true))

pub returns-clause-missing : goal.returns-clause-missing
returns-clause-missing c =
    missed _ _ c.args.t.checked _ _ c.requires _ c.loop-i.invariant (sym c.precedes.ensures ∙ c.loop-i-test.false) (inr (λ e. c.if-label_at-label.false (c.label_at.ensures ∙ e)))
