use Rattle.merge_laws.specs.Absorb.{records_in, ahead}
use Rattle.merge_laws.proofs.Chain.{Counting}
use Rattle.merge.proofs.missing_in.Given as goal

abbrev pub invariant-loop-j : goal.invariant-loop-j
invariant-loop-j l = Counting l.own.words.now l.other.words.now l.relation l.j l.link l.count

abbrev pub decreases-loop-j : goal.decreases-loop-j
decreases-loop-j l = ahead (records_in l.other.words.now) l.j
