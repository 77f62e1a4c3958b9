use native.Mathlib.Omega.{arith}
use Rattle.list.proofs.Room.{list_whole}
use Rattle.list.proofs.respond.Goals as goal

pub returns : goal.returns
returns c = list_whole _ (omega arith) c.write.ensures
