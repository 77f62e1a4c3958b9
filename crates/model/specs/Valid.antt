-- Valid table values: what "Well-formed" (document 01, "Table") says of a table's value, apart from its links and its length. The number of fields
-- of a record is the parameter w. A slice of a table's length is well-formed exactly if its value is valid and it is that value's encoding.
-- Assumes nothing.
use Rattle.std.specs.Prelude.{ℕ, Bool, true, false, ◌||◌, ◌&&◌, not, List, [], ◌∷◌, eqb, leb, length}
use Rattle.crdt.specs.Labels.{largest_counter, is_replica, is_label, counter_of}
use Rattle.crdt.specs.Flags.{largest_flag}
use Rattle.crdt.specs.Cells.{Reg, Cell}
use Rattle.model.specs.Layout.{most_records}
use Rattle.model.specs.Lists.{all_of}
use Rattle.model.specs.Schemas.{Relation, is_reference}
use Rattle.model.specs.Records.{Rec, relation, label, distinct}
use Rattle.model.specs.Tables.{Table}
use Rattle.model.specs.WellFormed.{field_rule}
use Rattle.model.specs.Shown.{described}

-- The rules of the F fields, and "unused fields are zero".
unfoldable pub valid_regs : List ℕ → List Reg → Bool
valid_regs [] gs = all_of (λ (g : Reg). eqb g.value 0 && eqb g.stamp 0) gs
valid_regs (k ∷ ks) [] = false
valid_regs (k ∷ ks) (g ∷ gs) = field_rule k g.value g.stamp && valid_regs ks gs

-- "the clock is at least every counter in .. stamps and references"
unfoldable pub regs_under : ℕ → List ℕ → List Reg → Bool
regs_under clock [] gs = true
regs_under clock (k ∷ ks) [] = true
regs_under clock (k ∷ ks) (g ∷ gs) =
    leb (counter_of g.stamp) clock && (not (is_reference k) || leb (counter_of g.value) clock) && regs_under clock ks gs

unfoldable pub valid_record : ℕ → List Relation → ℕ → Rec → Bool
valid_record w σ clock x =
    leb 1 (relation x) && leb (relation x) (length σ) && is_label (label x) && leb x.cell.flag largest_flag
    && eqb (length x.cell.regs) w && valid_regs (described σ x).kinds x.cell.regs
    && leb (counter_of (label x)) clock && regs_under clock (described σ x).kinds x.cell.regs

unfoldable pub valid : ℕ → List Relation → Table → Bool
valid w σ v =
    is_replica v.replica && leb v.clock largest_counter && leb (length v.records) v.capacity && leb v.capacity most_records
    && all_of (valid_record w σ v.clock) v.records && distinct v.records
