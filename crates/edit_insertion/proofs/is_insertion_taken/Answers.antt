-- `edit_insertion::is_insertion_taken` meets its contract.
-- Assumes nothing.
use Rattle.model.specs.Schemas.{schema_of}
use Rattle.model.specs.Records.{Rec}
use Rattle.model.specs.Layout.{fields}
use Rattle.model.specs.Tables.{decode}
use Rattle.model.specs.Shown.{conflict}
use Rattle.model.specs.Edits.{new_record}
use Rattle.edit_laws.proofs.InsertionNumber.{insertion_clash}
use Rattle.edit_insertion.proofs.is_insertion_taken.Goals as goal

pub returns : goal.returns
returns c =
    let q = c.requires in
    c.is_taken.ensures (λ (y : Rec). conflict (schema_of c.args.t.schema.now) y (new_record fields (decode c.args.t.table.now) c.args.r c.args.values.now))
    (insertion_clash _ _ c.args.t.checked _ _ q.3 q.1 q.2 _ _ c.mask_at-first.ensures c.mask_at-second.ensures _ c.pad-padded.ensures)
