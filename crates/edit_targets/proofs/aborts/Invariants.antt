use Rattle.model.specs.Schemas.{is_abort}
use Rattle.edit_targets.proofs.aborts.Given as goal

abbrev pub ghost-refers_by : goal.ghost-refers_by
ghost-refers_by a = is_abort
