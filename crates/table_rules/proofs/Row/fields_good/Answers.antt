-- `table_rules::Row::fields_good` meets its contract.
-- Assumes nothing.
use mathlib.Core.Path.{sym, ◌∙◌}
use native.Mathlib.Omega.{arith}
use Rattle.table_rules.proofs.Rows.{none_good, more_bad}
use Rattle.table_rules.proofs.Row.fields_good.Goals as goal

pub fields_between-requires : goal.fields_between-requires
fields_between-requires g c = (omega arith, (omega arith, omega arith, none_good _ _ _ _))

pub returns-then-not-fields_between : goal.returns-then-not-fields_between
returns-then-not-fields_between g c = more_bad _ _ _ _ _ _ (omega arith) (sym c.fields_between.ensures ∙ c.if-not-fields_between.true)
