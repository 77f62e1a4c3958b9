-- `edits::update` meets its contract. A refusal keeps the words; answer 0 says all that the draft and the merge need.
-- Assumes nothing.
use Rattle.model.specs.Layout.{most_records}
use Rattle.edit_laws.proofs.Room.{array_long}
use Rattle.edit_laws.proofs.AcceptedUpdate.{update_kept, update_ready, update_mergeable, update_written, update_done}
use Rattle.edits.proofs.update.Goals as goal

pub returns-in_err-judge_update-clause-words : goal.returns-in_err-judge_update-clause-words
returns-in_err-judge_update-clause-words c = (update_kept _ _ _ _ _ _ _ c.in_err-judge_update.ensures.number).0

pub returns-in_err-judge_update-clause-delta_words : goal.returns-in_err-judge_update-clause-delta_words
returns-in_err-judge_update-clause-delta_words c = (update_kept _ _ _ _ _ _ _ c.in_err-judge_update.ensures.number).1

pub draft_update-requires : goal.draft_update-requires
draft_update-requires c = update_ready _ _ _ _ _ _ c.in_ok-judge_update.ensures.number _ c.in_ok-judge_update.ensures.redone (array_long most_records _ c.judge_update.auto.redo)

pub act-requires : goal.act-requires
act-requires c = update_mergeable _ _ _ _ _ _ c.in_ok-judge_update.ensures.number _ c.in_ok-judge_update.ensures.redone (array_long most_records _ c.judge_update.auto.redo) _ c.draft_update.ensures

pub returns-clause-words : goal.returns-clause-words
returns-clause-words c = update_done _ _ _ _ _ _ c.in_ok-judge_update.ensures.number _ c.in_ok-judge_update.ensures.redone (array_long most_records _ c.judge_update.auto.redo) _ c.draft_update.ensures _ c.act.ensures.words

pub returns-clause-delta_words : goal.returns-clause-delta_words
returns-clause-delta_words c = update_written _ _ _ _ _ _ c.in_ok-judge_update.ensures.number _ c.in_ok-judge_update.ensures.redone (array_long most_records _ c.judge_update.auto.redo) _ c.draft_update.ensures
