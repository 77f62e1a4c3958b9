use Rattle.merge_laws.specs.Absorb.{records_in, ahead}
use Rattle.compare_laws.proofs.Steps.{Comparing}
use Rattle.compare_within.proofs.chain_within.Given as goal

abbrev pub invariant-loop-j : goal.invariant-loop-j
invariant-loop-j l = Comparing l.second.words.now l.first.words.now l.relation l.j l.link

abbrev pub decreases-loop-j : goal.decreases-loop-j
decreases-loop-j l = ahead (records_in l.first.words.now) l.j
