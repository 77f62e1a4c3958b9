-- `edit_redo::is_spent` meets its contract.
-- Assumes nothing.
use mathlib.Core.Path.{◌∙◌}
use mathlib.Core.Bool.{◌&&◌}
use lib.Dec.{eqb}
use Rattle.std.proofs.Common.{rules}
use Rattle.crdt.specs.Flags.{largest_flag}
use Rattle.model.specs.Layout.{flag_at}
use Rattle.marks.specs.Marks.{is_marked}
use Rattle.edit_basics.proofs.Upto.{any_upto}
use Rattle.edit_laws.proofs.Picks.{spent_found, spent_none}
use Rattle.edit_redo.proofs.is_spent.Goals as goal

pub returns : goal.returns
returns c = λ ks k.
    any_upto (λ i. is_marked c.args.redo.now i && eqb (flag_at c.args.t.table.now i) largest_flag) _ _ _ _ _
    c.new.ensures.start (c.new.ensures.end ∙ c.used.ensures) c.new.ensures.exhausted c.any.ensures.ran (λ x b q h. search rules) _
    (spent_found _ _ c.args.t.checked ks _ k) (spent_none _ _ c.args.t.checked ks _ k)
