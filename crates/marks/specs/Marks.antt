-- Marks, one byte per record.
-- Assumes nothing.
use Rattle.std.specs.Prelude.{ℕ, ◌-◌, Bool, ◌&&◌, not, List, eqb, get_or}

-- The mark of record i is 1: "takes any other mark for 0".
unfoldable pub is_marked : List ℕ → ℕ → Bool
is_marked m i = not (eqb i 0) && eqb (get_or m (i - 1) 0) 1
