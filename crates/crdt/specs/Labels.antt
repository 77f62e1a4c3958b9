-- Labels (document 01, "Labels, registers, flags").
-- Assumes nothing.
use Rattle.std.specs.Prelude.{ℕ, ◌+◌, ◌*◌, ◌-◌, ◌/◌, ◌%◌, ◌^◌, Bool, cond, ◌&&◌, leb}

-- "counter 1 to 2^40 − 1"
abbrev pub largest_counter : ℕ
largest_counter = 2 ^ 40 - 1

-- "replica 1 to 255"
abbrev pub largest_replica : ℕ
largest_replica = 255

-- "A label is counter × 256 + replica"
abbrev pub label_of : ℕ → ℕ → ℕ
label_of counter replica = counter * (largest_replica + 1) + replica

abbrev pub counter_of : ℕ → ℕ
counter_of x = x / (largest_replica + 1)

abbrev pub replica_of : ℕ → ℕ
replica_of x = x % (largest_replica + 1)

abbrev pub is_counter : ℕ → Bool
is_counter c = leb 1 c && leb c largest_counter

abbrev pub is_replica : ℕ → Bool
is_replica r = leb 1 r && leb r largest_replica

-- "counter 1 to 2^40 − 1, replica 1 to 255"
unfoldable pub is_label : ℕ → Bool
is_label x = is_counter (counter_of x) && leb 1 (replica_of x)

-- "0 means none"
abbrev pub no_label : ℕ
no_label = 0

-- The label of a counter and a replica; none where either is outside its limits.
unfoldable pub label_within : ℕ → ℕ → ℕ
label_within counter replica = cond (is_counter counter && is_replica replica) (label_of counter replica) no_label
