-- `edits::deletion` meets its contract. A refusal keeps the words; answer 0 says all that the draft and the merge need.
-- Assumes nothing.
use Rattle.model.specs.Layout.{most_records}
use Rattle.edit_laws.proofs.Room.{array_long}
use Rattle.edit_laws.proofs.AcceptedDeletion.{deletion_kept, deletion_ready, deletion_mergeable, deletion_written, deletion_done}
use Rattle.edits.proofs.deletion.Goals as goal

pub returns-in_err-judge_deletion-clause-words : goal.returns-in_err-judge_deletion-clause-words
returns-in_err-judge_deletion-clause-words c = (deletion_kept _ _ _ _ _ c.in_err-judge_deletion.ensures.number).0

pub returns-in_err-judge_deletion-clause-delta_words : goal.returns-in_err-judge_deletion-clause-delta_words
returns-in_err-judge_deletion-clause-delta_words c = (deletion_kept _ _ _ _ _ c.in_err-judge_deletion.ensures.number).1

pub draft_deletion-requires : goal.draft_deletion-requires
draft_deletion-requires c = deletion_ready _ _ _ _ c.in_ok-judge_deletion.ensures.number _ c.in_ok-judge_deletion.ensures.redone (array_long most_records _ c.judge_deletion.auto.redo)

pub act-requires : goal.act-requires
act-requires c = deletion_mergeable _ _ _ _ c.in_ok-judge_deletion.ensures.number _ c.in_ok-judge_deletion.ensures.redone (array_long most_records _ c.judge_deletion.auto.redo) _ c.draft_deletion.ensures

pub returns-clause-words : goal.returns-clause-words
returns-clause-words c = deletion_done _ _ _ _ c.in_ok-judge_deletion.ensures.number _ c.in_ok-judge_deletion.ensures.redone (array_long most_records _ c.judge_deletion.auto.redo) _ c.draft_deletion.ensures _ c.act.ensures.words

pub returns-clause-delta_words : goal.returns-clause-delta_words
returns-clause-delta_words c = deletion_written _ _ _ _ c.in_ok-judge_deletion.ensures.number _ c.in_ok-judge_deletion.ensures.redone (array_long most_records _ c.judge_deletion.auto.redo) _ c.draft_deletion.ensures
