use Prim.Native.Nat.{ℕ, ◌≤◌}
use Rattle.model.specs.Layout.{most_relations, word}
use Rattle.merge_laws.specs.Absorb.{records_in, ahead, Linked}
use Rattle.merge_seek.proofs.seek.Given as goal

abbrev pub invariant-loop-link : goal.invariant-loop-link
invariant-loop-link l = (r : ℕ) → 1 ≤ r → r ≤ most_relations → Linked (records_in l.own) r l.label l.from → Linked (records_in l.own) r l.label l.link

abbrev pub decreases-loop-link : goal.decreases-loop-link
decreases-loop-link l = ahead (records_in l.own) (word l.own l.link)
