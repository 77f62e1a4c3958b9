-- `book_edits::strike` meets its contract. Of the kind it is the library's call; of another kind the first checks tell, then 6.
-- Assumes nothing.
use mathlib.Core.Path.{◌∙◌, ap}
use Rattle.answers.specs.Told.{told}
use Rattle.answers.proofs.Told.{handed_on}
use Rattle.book_edits.proofs.Calls.{struck, unstruck}
use Rattle.book_edits.proofs.strike.Goals as goal

pub returns-in_err-check_kind-clause-answer : goal.returns-in_err-check_kind-clause-answer
returns-in_err-check_kind-clause-answer c = handed_on (λ _. told 0 0) c.from_residual.result _ c.from_residual.ensures.1 ∙ ap (λ n. told n 0) (unstruck _ _ _ _ c.in_err-check_kind.ensures.other.0 _ c.in_err-check_kind.ensures.other.1).0

pub returns-in_err-check_kind-clause-words : goal.returns-in_err-check_kind-clause-words
returns-in_err-check_kind-clause-words c = (unstruck _ _ _ _ c.in_err-check_kind.ensures.other.0 _ c.in_err-check_kind.ensures.other.1).1.0

pub returns-in_err-check_kind-clause-delta_words : goal.returns-in_err-check_kind-clause-delta_words
returns-in_err-check_kind-clause-delta_words c = (unstruck _ _ _ _ c.in_err-check_kind.ensures.other.0 _ c.in_err-check_kind.ensures.other.1).1.1

pub returns-clause-answer : goal.returns-clause-answer
returns-clause-answer c = (struck _ _ _ c.schema-schema.ensures _ _ _ _ _ c.in_ok-check_kind.ensures.same c.deletion.ensures.answer c.deletion.ensures.words c.deletion.ensures.delta_words).0

pub returns-clause-words : goal.returns-clause-words
returns-clause-words c = (struck _ _ _ c.schema-schema.ensures _ _ _ _ _ c.in_ok-check_kind.ensures.same c.deletion.ensures.answer c.deletion.ensures.words c.deletion.ensures.delta_words).1.0

pub returns-clause-delta_words : goal.returns-clause-delta_words
returns-clause-delta_words c = (struck _ _ _ c.schema-schema.ensures _ _ _ _ _ c.in_ok-check_kind.ensures.same c.deletion.ensures.answer c.deletion.ensures.words c.deletion.ensures.delta_words).1.1
