-- A key with its buckets, as the code holds them.
-- Assumes nothing.
use Rattle.std.specs.Prelude.{ℕ, ◌-◌, List, Option, Some, None, get_or, set}
use Rattle.list_keys.specs.declared.Key.{Key}
use Rattle.list_keys.specs.Buckets.{Buckets}

-- The records of relation r with a label below l that can conflict on the key, in buckets. s is the schema, t the table, k the marks.
abbrev pub Holds : List ℕ → List ℕ → List ℕ → ℕ → ℕ → Key → Type 0
Holds s t k r l q = Buckets s t k q.mask r l q.heads q.links

-- Record i put at the head of a bucket, or of none.
abbrev pub linked : Key → Option ℕ → ℕ → Key
linked q None i = q
linked q (Some b) i = record { mask = q.mask; heads = set q.heads b i; links = set q.links (i - 1) (get_or q.heads b 0) }
