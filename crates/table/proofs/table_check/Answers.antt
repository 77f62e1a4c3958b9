-- `table::table_check` meets its contract.
-- Assumes nothing.
use Prim.Native.Nat.{ℕ}
use mathlib.Core.Path.{ap, ap₂}
use mathlib.Core.Bool.{◌&&◌}
use Rattle.answers.specs.Told.{told}
use Rattle.table_rules.proofs.Rules.{table_length_lem, table_broken, table_ill, table_good}
use Rattle.table.proofs.table_check.Goals as goal

pub returns-then-not-lengths : goal.returns-then-not-lengths
returns-then-not-lengths c =
    ap (λ (n : ℕ). told n 0) (table_length_lem _ _ _ (ap₂ ◌&&◌ c.schema_length.ensures c.table_length.ensures) c.if-not-lengths.true)

pub returns-then-is_broken : goal.returns-then-is_broken
returns-then-is_broken c =
    ap (λ (n : ℕ). told n 0)
    (table_broken _ _ _ (ap₂ ◌&&◌ c.schema_length.ensures c.table_length.ensures) c.if-not-lengths.false _ c.is_broken.ensures c.if-is_broken.true)

pub returns-then-not-well_formed : goal.returns-then-not-well_formed
returns-then-not-well_formed c =
    ap (λ (n : ℕ). told n 0)
    (table_ill _ _ _ (ap₂ ◌&&◌ c.schema_length.ensures c.table_length.ensures) c.if-not-lengths.false _ _ c.is_broken.ensures
    c.if-is_broken.false c.well_formed-2.ensures c.if-not-well_formed.true)

pub returns : goal.returns
returns c =
    ap (λ (n : ℕ). told n 0)
    (table_good _ _ _ (ap₂ ◌&&◌ c.schema_length.ensures c.table_length.ensures) c.if-not-lengths.false _ _ c.is_broken.ensures
    c.if-is_broken.false c.well_formed-2.ensures c.if-not-well_formed.false)
