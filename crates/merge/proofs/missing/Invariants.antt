use Prim.Native.Nat.{◌≤◌, ◌+◌, ◌-◌}
use mathlib.Core.Path.{◌≡◌}
use Rattle.model.specs.Layout.{most_relations}
use Rattle.model.specs.Records.{place}
use Rattle.merge_laws.specs.Absorb.{records_in, missing}
use Rattle.merge.proofs.missing.Given as goal

abbrev pub invariant-loop-relation : goal.invariant-loop-relation
invariant-loop-relation l = (l.count + missing (records_in l.own.words.now) (place l.relation 0) (records_in l.other.words.now) ≡ missing (records_in l.own.words.now) (place 1 0) (records_in l.other.words.now))
