use mathlib.Core.Path.{◌≡◌}
use mathlib.Core.Bool.{true}
use Rattle.model.specs.Layout.{word}
use Rattle.table_rules.specs.Rows.{fields_good_to}
use Rattle.table_rules.proofs.Row.fields_between.Given as goal

abbrev pub invariant-loop-j : goal.invariant-loop-j
invariant-loop-j g l = (l.count ≡ word l.self.block.now 0) × (fields_good_to g.row.F l.j l.self.clock.counter l.self.block.now l.self.words.now ≡ true)
