-- `list_settled::leads_on` meets its contract.
-- Assumes nothing.
use mathlib.Core.Path.{◌∙◌, ap}
use mathlib.Core.Bool.{Bool, ◌||◌, ◌&&◌, not}
use lib.Dec.{eqb}
use Rattle.marks.specs.Marks.{is_marked}
use Rattle.references.specs.Resolved.{absent}
use Rattle.list_settled.proofs.leads_on.Goals as goal

pub returns : goal.returns
returns c =
    ap (λ (x : Bool). eqb c.args.p 0 || (not (eqb c.args.p absent) && x))
    (c.is_marked-found.ensures ∙ ap (is_marked c.args.marks.now) c.from.ensures)
