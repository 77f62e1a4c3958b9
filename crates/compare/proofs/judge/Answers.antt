-- `compare::judge` meets its contract. The verdict follows from the two tests.
-- Assumes nothing.
use mathlib.Core.Path.{refl}
use Rattle.laws.proofs.Compared.{table_ordered, verdict_alike, verdict_first, verdict_second, verdict_neither}
use Rattle.compare.proofs.judge.Goals as goal

pub returns-in-true-true : goal.returns-in-true-true
returns-in-true-true c = verdict_alike _ _ (table_ordered _) (table_ordered _) _ _ c.in-true-true.ensures c.in-true-true.ensures' refl

pub returns-in-true-false : goal.returns-in-true-false
returns-in-true-false c = verdict_first _ _ (table_ordered _) (table_ordered _) _ _ c.in-true-false.ensures c.in-true-false.ensures' refl refl

pub returns-in-false-true : goal.returns-in-false-true
returns-in-false-true c = verdict_second _ _ (table_ordered _) (table_ordered _) _ _ c.in-false-true.ensures c.in-false-true.ensures' refl refl

pub returns-in-false-false : goal.returns-in-false-false
returns-in-false-false c = verdict_neither _ _ (table_ordered _) (table_ordered _) _ _ c.in-false-false.ensures c.in-false-false.ensures' refl refl
