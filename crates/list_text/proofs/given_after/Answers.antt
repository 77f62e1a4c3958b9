-- `list_text::given_after` meets its contract: of a judged table check 1 alone can refuse.
-- Assumes nothing.
use mathlib.Core.Path.{sym, ◌∙◌}
use Rattle.list_step.proofs.Steps.{right}
use Rattle.list_text.proofs.Turns.{refused_length, given_on}
use Rattle.list_text.proofs.given_after.Goals as goal

pub returns-then-wrong_length : goal.returns-then-wrong_length
returns-then-wrong_length c = refused_length _ _ _ _ (sym c.wrong_length.ensures ∙ c.if-wrong_length.true)

pub after-requires : goal.after-requires
after-requires c = (right _ _ _ _ (sym c.wrong_length.ensures ∙ c.if-wrong_length.false)).2

pub returns : goal.returns
returns c = given_on _ _ _ _ (sym c.wrong_length.ensures ∙ c.if-wrong_length.false) c.args.t.checked _ c.after.ensures
