-- `shape_turn::turn_block` meets its contract.
-- Assumes nothing.
use Rattle.shape_turn.proofs.Pasted.{block_made}
use Rattle.shape_turn.proofs.turn_block.Goals as goal

pub returns : goal.returns
returns g c =
    block_made _ _ _ _ c.args.block.now _ _ _ c.requires.2 c.requires.3 c.paste.ensures c.turn_fields.ensures c.paste-2.ensures
