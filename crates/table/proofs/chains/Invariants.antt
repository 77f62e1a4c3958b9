use Prim.Native.Nat.{◌≤◌, ◌+◌, ◌*◌}
use mathlib.Core.Path.{◌≡◌}
use mathlib.Core.Bool.{true, ◌&&◌}
use lib.ListN.{length}
use Rattle.model.specs.Layout.{most_records}
use Rattle.model.specs.Lists.{each, all_of}
use Rattle.model.specs.Shapes.{chain_in, rises_in}
use Rattle.table.specs.Chains.{record_good}
use Rattle.table.proofs.Count.{sum_to}
use Rattle.table.proofs.chains.Given as goal

abbrev pub invariant-loop-r : goal.invariant-loop-r
invariant-loop-r g l =
    let w = g.row.F in
    let s = l.of.schema.now in
    let t = l.of.table.now in
    (l.count ≤ (most_records + 1) * l.r) × (l.count ≡ sum_to l.r (λ q. length (chain_in w t q)))
    × (each l.r (λ q. rises_in w t q 0 (chain_in w t q) && all_of (record_good w s t) (chain_in w t q)) ≡ true)
