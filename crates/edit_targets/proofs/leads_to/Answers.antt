-- `edit_targets::leads_to` meets its contract.
-- Assumes nothing.
use Prim.Native.Nat.{◌%◌}
use mathlib.Core.Path.{◌∙◌, ap}
use mathlib.Core.Bool.{Bool, ◌&&◌, not}
use lib.Dec.{eqb}
use Rattle.model.specs.Schemas.{abort_kinds}
use Rattle.edit_basics.proofs.Marks.{value_leads}
use Rattle.edit_targets.proofs.leads_to.Goals as goal

pub returns : goal.returns
returns c =
    ap (λ (b : Bool). (b && not (eqb c.args.value 0)) && (eqb c.relation_at.result (c.args.kind % abort_kinds) && eqb c.label_at.result c.args.value)) c.is_reference.ensures
    ∙ value_leads _ _ _ _ _ _ _ c.requires.0 c.requires.1 c.relation_at.ensures c.label_at.ensures
