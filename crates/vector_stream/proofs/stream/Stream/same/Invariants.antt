use Rattle.std.proofs.Common.{◌≤◌, length}
use Rattle.vector_stream.proofs.stream.Stream.same.Given as goal

abbrev pub invariant-loop-word : goal.invariant-loop-word
invariant-loop-word l = length l.words.stream.rest.now ≤ length l.initial.self.rest.now
