-- `edits::insertion` meets its contract. A refusal keeps the words; answer 0 says all that the label, the draft and the merge need.
-- Assumes nothing.
use mathlib.Core.Path.{◌∙◌}
use Rattle.model.specs.Layout.{most_records}
use Rattle.answers.specs.Told.{told}
use Rattle.answers.proofs.Told.{handed_on}
use Rattle.edit_laws.proofs.Room.{array_long}
use Rattle.edit_laws.proofs.AcceptedInsertion.{insertion_kept, insertion_ready, insertion_mergeable, insertion_written, insertion_done, insertion_unlabelled, insertion_clock, insertion_told_lem}
use Rattle.edits.proofs.insertion.Goals as goal

pub returns-in_err-judge_insertion-clause-answer : goal.returns-in_err-judge_insertion-clause-answer
returns-in_err-judge_insertion-clause-answer c = handed_on (told 0) c.from_residual.result _ c.from_residual.ensures.1 ∙ insertion_unlabelled _ _ _ _ _ _ c.in_err-judge_insertion.ensures.number

pub returns-in_err-judge_insertion-clause-words : goal.returns-in_err-judge_insertion-clause-words
returns-in_err-judge_insertion-clause-words c = (insertion_kept _ _ _ _ _ _ c.in_err-judge_insertion.ensures.number).0

pub returns-in_err-judge_insertion-clause-delta_words : goal.returns-in_err-judge_insertion-clause-delta_words
returns-in_err-judge_insertion-clause-delta_words c = (insertion_kept _ _ _ _ _ _ c.in_err-judge_insertion.ensures.number).1

pub new_label-label-requires : goal.new_label-label-requires
new_label-label-requires c = insertion_clock _ _ _ _ _ c.in_ok-judge_insertion.ensures.number

pub draft_insertion-requires : goal.draft_insertion-requires
draft_insertion-requires c = insertion_ready _ _ _ _ _ c.in_ok-judge_insertion.ensures.number _ c.in_ok-judge_insertion.ensures.redone (array_long most_records _ c.judge_insertion.auto.redo)

pub act-requires : goal.act-requires
act-requires c = insertion_mergeable _ _ _ _ _ c.in_ok-judge_insertion.ensures.number _ c.in_ok-judge_insertion.ensures.redone (array_long most_records _ c.judge_insertion.auto.redo) _ c.draft_insertion.ensures

pub returns-clause-answer : goal.returns-clause-answer
returns-clause-answer c = insertion_told_lem _ _ _ _ _ c.in_ok-judge_insertion.ensures.number _ c.new_label-label.ensures

pub returns-clause-words : goal.returns-clause-words
returns-clause-words c = insertion_done _ _ _ _ _ c.in_ok-judge_insertion.ensures.number _ c.in_ok-judge_insertion.ensures.redone (array_long most_records _ c.judge_insertion.auto.redo) _ c.draft_insertion.ensures _ c.act.ensures.words

pub returns-clause-delta_words : goal.returns-clause-delta_words
returns-clause-delta_words c = insertion_written _ _ _ _ _ c.in_ok-judge_insertion.ensures.number _ c.in_ok-judge_insertion.ensures.redone (array_long most_records _ c.judge_insertion.auto.redo) _ c.draft_insertion.ensures
