-- `table_rules::Records::good` meets its contract. A record that lies within the capacity lies within the words.
-- Assumes nothing.
use mathlib.Core.Path.{refl}
use native.Mathlib.Omega.{arith}
use Rattle.layout.proofs.Forms.{InsideIn, inside_in}
use Rattle.layout.proofs.Words.{part_at}
use Rattle.table_rules.proofs.Rows.{record_row}
use Rattle.table_rules.proofs.Records.good.Goals as goal

pub base_in-a-requires : goal.base_in-a-requires
base_in-a-requires g c = record { 0 = c.args.self.form; 1 = omega (arith, (let k : InsideIn g.row.F c.args.self.table.now c.args.i = inside_in _ _ _ c.requires.0 c.requires.1 in k)) }

pub overflow_add-a : goal.overflow_add-a
overflow_add-a g c = omega (arith, (let k : InsideIn g.row.F c.args.self.table.now c.args.i = inside_in _ _ _ c.requires.0 c.requires.1 in k), c.base_in-a.ensures)

pub offset_bounds-self-a : goal.offset_bounds-self-a
offset_bounds-self-a g c = omega (arith, (let k : InsideIn g.row.F c.args.self.table.now c.args.i = inside_in _ _ _ c.requires.0 c.requires.1 in k), c.base_in-a.ensures)

pub slice_bounds-row_good-end : goal.slice_bounds-row_good-end
slice_bounds-row_good-end g c = omega (arith, (let k : InsideIn g.row.F c.args.self.table.now c.args.i = inside_in _ _ _ c.requires.0 c.requires.1 in k), c.base_in-a.ensures)

pub returns : goal.returns
returns g c = record_row _ _ _ _ _ _ _ refl (part_at _ _ _ _ c.base_in-a.ensures) c.row_good.ensures
