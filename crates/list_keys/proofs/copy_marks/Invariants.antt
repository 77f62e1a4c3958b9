use Rattle.list_keys.specs.Passes.{Copied}
use Rattle.list_keys.proofs.copy_marks.Given as goal

abbrev pub invariant-loop-k : goal.invariant-loop-k
invariant-loop-k l = Copied l.stands l.k l.marks
