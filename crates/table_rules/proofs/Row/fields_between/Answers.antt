-- `table_rules::Row::fields_between` meets its contract.
-- Assumes nothing.
use Prim.Native.Nat.{◌+◌}
use mathlib.Core.Path.{refl, sym, ◌∙◌}
use native.Mathlib.Omega.{arith}
use Rattle.model.specs.Layout.{word}
use Rattle.layout.proofs.Each.{each_next, each_fail}
use Rattle.table_rules.specs.Rows.{fields_good_to}
use Rattle.table_rules.proofs.Rows.{field_turn}
use Rattle.table_rules.proofs.Row.fields_between.Goals as goal

pub loop-j-init : goal.loop-j-init
unfolding word
loop-j-init g c = (refl, c.requires.2)

pub returns-then-not-field_placed : goal.returns-then-not-field_placed
unfolding fields_good_to word
returns-then-not-field_placed g c =
    let j = c.loop-j.j in
    each_fail c.args.to _ (j + 1) (omega arith) (omega arith)
    (sym (field_turn _ _ c.args.self.block.now c.args.self.words.now j _ _ _ _ _ refl refl refl refl c.field_placed.ensures) ∙ c.if-not-field_placed.true)

pub loop-j-preserved : goal.loop-j-preserved
unfolding fields_good_to word
loop-j-preserved g c =
    let j = c.loop-j.j in
    (refl, each_next j _ c.loop-j.invariant.1 (sym (field_turn _ _ c.args.self.block.now c.args.self.words.now j _ _ _ _ _ refl refl refl refl c.field_placed.ensures) ∙ c.if-not-field_placed.false))
