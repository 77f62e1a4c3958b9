use Rattle.model.specs.Schemas.{is_reference}
use Rattle.edit_targets.proofs.refers.Given as goal

abbrev pub ghost-refers_by : goal.ghost-refers_by
ghost-refers_by a = is_reference
