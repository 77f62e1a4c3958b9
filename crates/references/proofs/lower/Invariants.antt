use Rattle.references.proofs.Search.{Between}
use Rattle.references.proofs.lower.Given as goal

abbrev pub invariant-loop-rest : goal.invariant-loop-rest
invariant-loop-rest l = Between l.keys l.key l.high l.rest

abbrev pub decreases-loop-rest : goal.decreases-loop-rest
decreases-loop-rest l = l.rest
