-- `schema::schema_check` meets its contract.
-- Assumes nothing.
use Prim.Native.Nat.{ℕ}
use mathlib.Core.Path.{ap, sym, ◌∙◌}
use Rattle.answers.specs.Told.{told}
use Rattle.schema.proofs.Rules.{check_length, check_broken, check_good}
use Rattle.schema.proofs.schema_check.Goals as goal

pub returns-then-not-schema_length : goal.returns-then-not-schema_length
returns-then-not-schema_length c = ap (λ (n : ℕ). told n 0) (check_length _ (sym c.schema_length.ensures ∙ c.if-not-schema_length.true))

pub returns-then-is_broken : goal.returns-then-is_broken
returns-then-is_broken c = ap (λ (n : ℕ). told n 0) (check_broken _ (sym c.schema_length.ensures ∙ c.if-not-schema_length.false) (sym c.is_broken.ensures ∙ c.if-is_broken.true))

pub returns : goal.returns
returns c = ap (λ (n : ℕ). told n 0) (check_good _ (sym c.schema_length.ensures ∙ c.if-not-schema_length.false) (sym c.is_broken.ensures ∙ c.if-is_broken.false))
