-- Merge on table values (document 01, "Merge and edits").
-- Assumes nothing.
use Rattle.std.specs.Prelude.{ℕ, max, ◌+◌, Bool, cond, not, List, [], ◌∷◌, ◌++◌, map, ltb, length}
use Rattle.std.proofs.Math.Option.{Option, none, some}
use Rattle.crdt.specs.Cells.{Cell, join_cell, cell_changed}
use Rattle.model.specs.Lists.{only}
use Rattle.model.specs.Records.{Rec, has, at, in_order}
use Rattle.model.specs.Tables.{Table}

abbrev pub join_held : Cell → Option Cell → Cell
join_held c none = c
join_held c (some d) = join_cell c d

-- "records with the same relation and label join register by register and flag by flag"
unfoldable pub joined_with : List Rec → Rec → Rec
joined_with other x = record { key = x.key; cell = join_held x.cell (at x.key other) }

-- "others are added at used + 1 onward in list order", "old positions remain"
unfoldable pub merged_records : List Rec → List Rec → List Rec
merged_records own other = map (joined_with other) own ++ only (λ (y : Rec). not (has own y.key)) (in_order other)

-- "The clock becomes the larger one; the own replica number and old positions remain. Capacities may differ."
unfoldable pub merged : Table → Table → Table
merged own other =
    record {
      capacity = own.capacity;
      replica = own.replica;
      clock = max own.clock other.clock;
      records = merged_records own.records other.records;
    }

-- "merge needs more than N distinct records"
unfoldable pub too_many : Table → Table → Bool
too_many own other = ltb own.capacity (length (merged_records own.records other.records))

-- "the number of old records with such a change plus those added", "counted from the table before and after" (document 02, F-1): position by position.
-- An old record counts 1 however many of its registers changed; a record past the old ones was added.
unfoldable pub changes : List Rec → List Rec → ℕ
changes [] after = length after
changes (x ∷ before) [] = 0
changes (x ∷ before) (y ∷ after) = cond (cell_changed x.cell y.cell) 1 0 + changes before after
