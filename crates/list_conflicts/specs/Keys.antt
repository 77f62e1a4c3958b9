-- The key comparison over values as they stand in a table.
-- Assumes nothing.
use Rattle.std.specs.Prelude.{ℕ, ◌+◌, Bool, ◌&&◌, not, List, map, eqb, take, drop}
use Rattle.crdt.specs.Cells.{Reg, reg}
use Rattle.model.specs.Layout.{fields, head_words, base, field_count, kind_at}
use Rattle.model.specs.Lists.{listed}
use Rattle.model.specs.Shown.{equal_on}

-- Values as registers: a comparison reads no stamps.
abbrev pub registers : List ℕ → List Reg
registers vs = map (λ (v : ℕ). reg v 0) vs

-- Values of relation r conflict on a key: "Mask 0 is no key".
unfoldable pub values_conflict : List ℕ → ℕ → ℕ → List ℕ → List ℕ → Bool
values_conflict s r m xs ys = not (eqb m 0) && equal_on m (listed (field_count s r) (kind_at s r)) (registers xs) (registers ys)

-- The values of record i, a part of the table.
unfoldable pub values_at : List ℕ → ℕ → List ℕ
values_at t i = take fields (drop (base i + head_words) t)
