use Rattle.std.proofs.Common.{◌≤◌, length}
use Rattle.vectors_fleets.proofs.calls.begin.Given as goal

abbrev pub invariant-loop-slot : goal.invariant-loop-slot
invariant-loop-slot l = length l.item.told.rest.now ≤ length l.initial.from.told.rest.now
