-- `merge::is_full` meets its contract. The merged records are the used ones and those that are missing.
-- Assumes nothing.
use native.Mathlib.Omega.{arith}
use Rattle.merge.proofs.Answers.{merged_small, full_is}
use Rattle.merge.proofs.is_full.Goals as goal

pub overflow_add-result : goal.overflow_add-result
overflow_add-result c = omega (arith, c.missing.ensures, c.used.ensures, merged_small _ _ c.args.own.whole c.args.other.whole)

pub returns : goal.returns
returns c = full_is _ _ _ _ _ c.capacity.ensures c.used.ensures c.missing.ensures
