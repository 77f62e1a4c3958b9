use Prim.Native.Nat.{◌≤◌, ◌+◌, ◌-◌}
use mathlib.Core.Path.{◌≡◌}
use lib.ListN.{length}
use Rattle.model.specs.Layout.{most_relations}
use Rattle.model.specs.Records.{place}
use Rattle.merge_laws.specs.Absorb.{records_in, Taken}
use Rattle.merge_act.proofs.take_chains.Given as goal

abbrev pub invariant-loop-relation : goal.invariant-loop-relation
invariant-loop-relation l = (length l.own ≡ length l.initial.own) × Taken l.initial.own l.own (records_in l.other) (place 1 0) (place l.relation 0) l.count
