-- `shapes::turn` meets its contract.
-- Assumes nothing.
use Rattle.shapes.proofs.Turns.{schema_room, table_room, turn_fits}
use Rattle.shapes.proofs.turn.Goals as goal

pub turn_schema-requires : goal.turn_schema-requires
turn_schema-requires g c = schema_room _ _ _ _ _ _ c.requires.0 c.requires.1 (turn_fits _ _ _ _ _ _ c.in_ok-judge.ensures)

pub turn_table-requires : goal.turn_table-requires
turn_table-requires g c = table_room _ _ _ _ _ _ c.requires.0 c.requires.1 (turn_fits _ _ _ _ _ _ c.in_ok-judge.ensures)
