-- `merge::merge` meets its contract. A refusal keeps the words; answer 0 says all that the act needs.
-- Assumes nothing.
use mathlib.Core.Path.{◌∙◌}
use Rattle.answers.proofs.Told.{handed_on, refused_above}
use Rattle.merge.proofs.Answers.{refused_at, accepted_at, done_at, told_refused, told_done}
use Rattle.merge.proofs.merge.Goals as goal

pub returns-in_err-judge-clause-answer : goal.returns-in_err-judge-clause-answer
returns-in_err-judge-clause-answer c =
    let e = c.in_err-judge.ensures in
    handed_on _ _ _ c.from_residual.ensures.1 ∙ told_refused _ _ _ _ e (refused_above _)

pub returns-in_err-judge-clause-words : goal.returns-in_err-judge-clause-words
returns-in_err-judge-clause-words c = refused_at _ _ _ _ c.in_err-judge.ensures (refused_above _)

pub act-requires : goal.act-requires
act-requires c = accepted_at _ _ _ c.in_ok-judge.ensures

pub returns-clause-answer : goal.returns-clause-answer
returns-clause-answer c = told_done _ _ _ c.in_ok-judge.ensures _ c.act.ensures.count

pub returns-clause-words : goal.returns-clause-words
returns-clause-words c = done_at _ _ _ c.in_ok-judge.ensures _ c.act.ensures.words
