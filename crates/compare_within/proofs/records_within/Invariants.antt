use Rattle.compare_within.proofs.Forms.{UpToBelow}
use Rattle.compare_within.proofs.records_within.Given as goal

abbrev pub invariant-loop-relation : goal.invariant-loop-relation
invariant-loop-relation l = UpToBelow l.second.words.now l.first.words.now l.relation
