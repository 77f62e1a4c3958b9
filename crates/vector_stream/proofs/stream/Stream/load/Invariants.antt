use Rattle.std.proofs.Common.{◌≤◌, length}
use Rattle.vector_stream.proofs.stream.Stream.load.Given as goal

abbrev pub invariant-loop-to : goal.invariant-loop-to
invariant-loop-to l = length l.words.stream.rest.now ≤ length l.initial.self.rest.now
