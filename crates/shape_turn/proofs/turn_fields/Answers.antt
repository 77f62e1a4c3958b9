-- `shape_turn::turn_fields` meets its contract.
-- Assumes nothing.
use lib.ListN.{length-set}
use Rattle.shape_turn.proofs.Pasted.{field_turn}
use Rattle.shape_turn.proofs.turn_fields.Goals as goal

pub loop-j-preserved : goal.loop-j-preserved
loop-j-preserved g c =
    let v = c.loop-j.invariant in
    (simp length-set v.0, field_turn _ _ _ _ _ _ _ _ _ c.requires.1 c.loop-j-test.true c.field_word.ensures v.1)
