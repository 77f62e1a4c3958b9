use mathlib.Core.Path.{◌≡◌}
use lib.ListN.{length}
use Rattle.merge_laws.specs.Absorb.{records_in, ahead}
use Rattle.merge_laws.proofs.Chain.{Along}
use Rattle.merge_act.proofs.take_chain.Given as goal

abbrev pub invariant-loop-j : goal.invariant-loop-j
invariant-loop-j l = (length l.own ≡ length l.initial.own) × Along l.initial.own l.own l.other l.relation l.j l.link l.count

abbrev pub decreases-loop-j : goal.decreases-loop-j
decreases-loop-j l = ahead (records_in l.other) l.j
