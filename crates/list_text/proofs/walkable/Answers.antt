-- `list_text::walkable` meets its contract.
-- Assumes nothing.
use mathlib.Core.Path.{sym, ◌∙◌}
use Rattle.list_step.proofs.Steps.{right}
use Rattle.list_text.proofs.Turns.{refused_length, walkable_is}
use Rattle.list_text.proofs.walkable.Goals as goal

pub returns-then-wrong_length : goal.returns-then-wrong_length
returns-then-wrong_length c = refused_length _ _ _ _ (sym c.wrong_length.ensures ∙ c.if-wrong_length.true)

pub judge-requires : goal.judge-requires
judge-requires c = let r = right _ _ _ _ (sym c.wrong_length.ensures ∙ c.if-wrong_length.false) in (r.0, r.1)

pub returns : goal.returns
returns c =
    walkable_is _ _ _ _ _ c.ok.ensures.value (sym c.wrong_length.ensures ∙ c.if-wrong_length.false) c.judge.ensures.number c.judge.ensures.lent
