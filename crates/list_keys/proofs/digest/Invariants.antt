use Prim.Native.Nat.{◌<◌, ◌-◌}
use mathlib.Core.Path.{◌≡◌}
use Rattle.model.specs.Layout.{field_count}
use Rattle.list_keys.specs.Buckets.{digests, digest_from, digest_of}
use Rattle.list_keys.proofs.digest.Given as goal

abbrev pub invariant-loop-j : goal.invariant-loop-j
invariant-loop-j l = (l.d < digests) × (digest_of l.schema l.r l.mask l.values ≡ digest_from l.d l.m l.j (field_count l.schema l.r - l.j) l.values)
