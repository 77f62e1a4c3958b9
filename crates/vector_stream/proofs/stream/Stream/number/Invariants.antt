use Rattle.std.proofs.Common.{◌≡◌, ◌≤◌, length}
use Rattle.vector_stream.specs.Stream.{number_from, behind}
use Rattle.vector_stream.proofs.stream.Stream.number.Given as goal

abbrev pub invariant-loop-first : goal.invariant-loop-first
invariant-loop-first l =
    (number_from l.value l.self.rest.now ≡ number_from 0 l.initial.self.rest.now)
    × ((behind l.self.rest.now ≡ behind l.initial.self.rest.now)
    × (length l.self.rest.now ≤ length l.initial.self.rest.now))

abbrev pub decreases-loop-first : goal.decreases-loop-first
decreases-loop-first l = length l.self.rest.now
