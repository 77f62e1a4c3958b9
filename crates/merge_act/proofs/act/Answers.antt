-- `merge_act::act` meets its contract. The chains are taken in, then the clock becomes the larger one.
-- Assumes nothing.
use Rattle.merge_act.proofs.Forms.{act_is}
use Rattle.merge_act.proofs.act.Goals as goal

pub returns : goal.returns
returns c = record { words = act_is _ _ _ _ _ _ _ c.clock.ensures c.clock-2.ensures c.max-clock.ensures c.take_chains-count.ensures.words c.store.ensures; count = c.take_chains-count.ensures.count }
