use mathlib.Core.Path.{refl, sym, ap, ◌∙◌}
use Rattle.answers.specs.Refused.{value_told}
use Rattle.answers.proofs.Told.{refused_above}
use Rattle.list.proofs.Answers.{answer_refused, answer_used, answer_shown}
use Rattle.list.proofs.list.Goals as goal

pub shown-requires : goal.shown-requires
shown-requires c = answer_used _ _ _ c.requires _ _ (ap value_told (sym c.in-Ok.is) ∙ c.marks.ensures.0) refl refl

pub returns-in-Ok : goal.returns-in-Ok
returns-in-Ok c = answer_shown _ _ _ c.requires _ _ (ap value_told (sym c.in-Ok.is) ∙ c.marks.ensures.0) refl _ _ refl refl c.marks.ensures.1 c.shown.ensures

pub returns-in-Err : goal.returns-in-Err
returns-in-Err c =
    answer_refused _ _ _ c.requires _ _ (ap value_told (sym c.in-Err.is) ∙ c.marks.ensures.0) c.from.ensures (λ h. refused_above _ (sym c.from.ensures ∙ h)) c.refused.ensures
