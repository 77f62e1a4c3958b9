-- `shape_turn::turn_row` meets its contract.
-- Assumes nothing.
use Rattle.shape_turn.proofs.Pasted.{row_made}
use Rattle.shape_turn.proofs.turn_row.Goals as goal

pub returns : goal.returns
returns g c =
    row_made _ _ _ _ c.args.row.now _ _ _ c.requires.2 c.requires.3 c.paste.ensures c.turn_fields.ensures c.turn_fields-2.ensures
