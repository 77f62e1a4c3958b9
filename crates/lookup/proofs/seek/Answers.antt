-- `lookup::seek` meets its contract. Where the walk stops is where the page's walk ends.
-- Assumes nothing.
use mathlib.Core.Path.{sym, ◌∙◌, ap}
use Rattle.std.specs.Prelude.{Option, Some, Ok}
use Prim.Native.Nat.{ℕ}
use Rattle.answers.specs.Refused.{known_told}
use Rattle.lookup.proofs.Stops.{told_broken, told_at, told_end}
use Rattle.lookup.proofs.seek.Goals as goal

pub returns-in-None : goal.returns-in-None
returns-in-None c = told_broken _ _ _ _ (sym c.in-None.is ∙ c.walk_to.ensures)

pub returns-in-Some-At : goal.returns-in-Some-At
returns-in-Some-At c =
    ap (λ (o : Option ℕ). known_told (Ok o)) c.then_some.ensures
    ∙ told_at _ _ _ _ _ _ (sym (c.in-Some-At.is ∙ ap Some c.in-Some-At.field-0-is) ∙ c.walk_to.ensures) c.label_at.ensures

pub returns-in-Some-End : goal.returns-in-Some-End
returns-in-Some-End c = told_end _ _ _ _ _ (sym (c.in-Some-End.is ∙ ap Some c.in-Some-End.field-0-is) ∙ c.walk_to.ensures)
