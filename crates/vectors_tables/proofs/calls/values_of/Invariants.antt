use Rattle.std.proofs.Common.{◌≤◌, length}
use Rattle.vectors_tables.proofs.calls.values_of.Given as goal

abbrev pub invariant-loop-k : goal.invariant-loop-k
invariant-loop-k l = length l.back.item.told.rest.now ≤ length l.initial.from.told.rest.now
