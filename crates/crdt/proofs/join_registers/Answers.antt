use Rattle.std.proofs.Common.{rules, refl}
use Rattle.crdt.specs.Cells.{reg_changed}
use Rattle.crdt.proofs.join_registers.Goals as goal

pub returns-clause-changed : goal.returns-clause-changed
unfolding reg_changed
returns-clause-changed c = search rules
