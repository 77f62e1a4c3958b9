use lib.ListN.{get_or}
use Rattle.references.specs.Order.{key_at}
use Rattle.references.proofs.Refs.{Ruled}
use Rattle.references.proofs.list_keys.Given as goal

abbrev pub invariant-loop-k : goal.invariant-loop-k
invariant-loop-k l = Ruled (λ q. key_at l.t.table.now (get_or l.order q 0)) l.keys l.k
