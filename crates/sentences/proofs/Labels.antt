-- Labels as numbers.
-- Assumes nothing.
use Prim.Native.Nat.{ℕ, ◌≤◌, ◌<◌}
use mathlib.Core.Path.{◌≡◌, refl}
use native.Mathlib.Omega.{arith}
use Rattle.crdt.specs.Labels.{largest_replica, label_of}

-- "Written 2.1: counter 2, replica 1, the number 513."
pub written : label_of 2 1 ≡ 513
written = refl

-- "Labels compare as numbers.": by counter, and by replica where the counters are equal.
pub counter_first : (counter counter' replica replica' : ℕ) → replica ≤ largest_replica → counter < counter' → label_of counter replica < label_of counter' replica'
counter_first counter counter' replica replica' h l = omega arith

pub replica_next : (counter replica replica' : ℕ) → replica < replica' → label_of counter replica < label_of counter replica'
replica_next counter replica replica' l = omega arith
