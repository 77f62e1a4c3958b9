use Prim.Native.Nat.{ℕ, ◌<◌, ◌*◌}
use mathlib.Core.Path.{◌≡◌}
use lib.ListN.{length, get_or}
use Rattle.model.specs.Layout.{word_bytes}
use Rattle.codec.specs.Bytes.{word_at}
use Rattle.codec.proofs.decode.Given as goal

abbrev pub invariant-loop-i : goal.invariant-loop-i
invariant-loop-i l = (length l.w ≡ length l.initial.w) × ((k : ℕ) → k < l.i → get_or l.w k 0 ≡ word_at l.b (word_bytes * k))
