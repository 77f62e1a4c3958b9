-- `judged::judge` meets its contract.
-- Assumes nothing.
use Rattle.std.proofs.Common.{◌≡◌, true, false, refl, sym, ◌∙◌}
use Rattle.model.specs.Lists.{lowest}
use Rattle.model.specs.Schemas.{broken}
use Rattle.model.specs.WellFormed.{well_formed}
use Rattle.judged.proofs.judge.Goals as goal

pub returns-then-is_broken-clause-number : goal.returns-then-is_broken-clause-number
unfolding lowest
returns-then-is_broken-clause-number c = let b = sym c.is_broken.ensures ∙ c.if-is_broken.true in rw b refl

pub returns-then-not-well_formed-clause-number : goal.returns-then-not-well_formed-clause-number
unfolding lowest
returns-then-not-well_formed-clause-number c =
    let b = sym c.is_broken.ensures ∙ c.if-is_broken.false in
    let w = sym c.well_formed-2.ensures ∙ c.if-not-well_formed.true in
    rw (b, w) refl

pub returns-clause-number : goal.returns-clause-number
unfolding lowest
returns-clause-number c =
    let b = sym c.is_broken.ensures ∙ c.if-is_broken.false in
    let w = sym c.well_formed-2.ensures ∙ c.if-not-well_formed.false in
    rw (b, w) refl
