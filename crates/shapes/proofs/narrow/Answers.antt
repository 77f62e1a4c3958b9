-- `shapes::narrow` meets its contract.
-- Assumes nothing.
use Prim.Native.Nat.{ℕ}
use mathlib.Core.Path.{ap, ◌∙◌}
use Rattle.answers.specs.Told.{told}
use Rattle.shapes.proofs.Turns.{narrow_is, narrow_schema_is, narrow_table_is}
use Rattle.shapes.proofs.narrow.Goals as goal

pub returns-clause-answer : goal.returns-clause-answer
returns-clause-answer c = c.turn.ensures.answer ∙ ap (λ (n : ℕ). told n 0) (narrow_is _ _ _ _)

pub returns-clause-schema_words : goal.returns-clause-schema_words
returns-clause-schema_words c = c.turn.ensures.schema_words ∙ narrow_schema_is _ _ _ _

pub returns-clause-table_words : goal.returns-clause-table_words
returns-clause-table_words c = c.turn.ensures.table_words ∙ narrow_table_is _ _ _ _
