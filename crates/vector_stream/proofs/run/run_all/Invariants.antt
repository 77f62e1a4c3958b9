use Rattle.std.proofs.Common.{◌≤◌}
use Rattle.vector_stream.proofs.run.run_all.Given as goal

abbrev pub invariant-loop : goal.invariant-loop
invariant-loop g l = l.tally.items ≤ l.counter
