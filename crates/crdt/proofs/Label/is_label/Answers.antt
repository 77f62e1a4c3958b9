-- `crdt::Label::is_label` meets its contract.
-- Assumes nothing.
use Rattle.crdt.specs.Labels.{is_label}
use Rattle.crdt.proofs.Label.is_label.Goals as goal

pub returns : goal.returns
unfolding is_label
returns c = cc
