-- `codec::load` meets its contract.
-- Assumes nothing.
use Rattle.codec.proofs.Words.{load_room, load_words}
use Rattle.codec.proofs.load.Goals as goal

pub decode-requires : goal.decode-requires
decode-requires c = load_room c.args.b.now c.args.w.now c.requires.0 c.requires.1

pub returns : goal.returns
returns c = load_words c.args.b.now _ _ c.requires.0 c.decode.ensures
