-- `edit_record::begin` meets its contract.
-- Assumes nothing.
use Rattle.edit_record.proofs.Words.{begun}
use Rattle.edit_record.proofs.begin.Goals as goal

pub returns : goal.returns
returns c = begun c.args.delta.now _ _ _ _ _ c.requires (c.fill.ensures.after (λ y h. h)) c.store.ensures c.store-2.ensures
