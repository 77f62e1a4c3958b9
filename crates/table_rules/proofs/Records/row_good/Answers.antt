-- `table_rules::Records::row_good` meets its contract.
-- Assumes nothing.
use Prim.Native.Nat.{ℕ, ◌≤◌}
use mathlib.Core.Path.{sym, ◌∙◌, ap}
use native.Mathlib.Omega.{arith}
use lib.ListN.{get_or}
use Rattle.model.specs.Layout.{most_relations, word}
use Rattle.layout.proofs.Forms.{block_inside}
use Rattle.layout.proofs.Words.{part_at}
use Rattle.table_rules.specs.Rows.{row_good}
use Rattle.table_rules.proofs.Rows.{row_low, row_high, row_named, row_flag, row_fields}
use Rattle.table_rules.proofs.Records.row_good.Goals as goal

pub returns-then-relation-lt1 : goal.returns-then-relation-lt1
unfolding word
returns-then-relation-lt1 g c = row_low _ _ _ _ c.if-relation-lt1.true

pub returns-then-relations-relation : goal.returns-then-relations-relation
unfolding word
returns-then-relations-relation g c = row_high _ _ _ _ _ c.relations.ensures c.if-relations-relation.true

pub returns-then-not-label_under : goal.returns-then-not-label_under
unfolding word
returns-then-not-label_under g c =
    row_named _ _ _ _ (sym c.label_under.ensures ∙ c.if-not-label_under.true)
    ∙ ap (λ (k : ℕ). row_good g.row.F c.args.self.schema.now k c.args.words.now) c.clock.ensures

pub returns-then-words-gt-LARGEST_FLAG : goal.returns-then-words-gt-LARGEST_FLAG
unfolding word
returns-then-words-gt-LARGEST_FLAG g c = row_flag _ _ _ _ c.if-words-gt-LARGEST_FLAG.true

pub overflow_add-block-2 : goal.overflow_add-block-2
overflow_add-block-2 g c =
    let r : get_or c.args.words.now 1 0 ≤ most_relations = omega (arith, c.if-relations-relation.false, c.relations.ensures, c.args.self.related) in
    omega (arith, block_inside g.row.F (get_or c.args.words.now 1 0) r, c.block_in-b.ensures)

pub offset_bounds-self-b : goal.offset_bounds-self-b
offset_bounds-self-b g c =
    let r : get_or c.args.words.now 1 0 ≤ most_relations = omega (arith, c.if-relations-relation.false, c.relations.ensures, c.args.self.related) in
    omega (arith, block_inside g.row.F (get_or c.args.words.now 1 0) r, c.block_in-b.ensures)

pub slice_bounds-block-end : goal.slice_bounds-block-end
slice_bounds-block-end g c =
    let r : get_or c.args.words.now 1 0 ≤ most_relations = omega (arith, c.if-relations-relation.false, c.relations.ensures, c.args.self.related) in
    omega (arith, block_inside g.row.F (get_or c.args.words.now 1 0) r, c.block_in-b.ensures)

pub returns : goal.returns
unfolding word
returns g c =
    row_fields _ _ _ _ _ _ _ c.relations.ensures c.if-relation-lt1.false c.if-relations-relation.false (sym c.label_under.ensures ∙ c.if-not-label_under.false)
    c.if-words-gt-LARGEST_FLAG.false (part_at _ _ _ _ c.block_in-b.ensures) c.fields_good.ensures
    ∙ ap (λ (k : ℕ). row_good g.row.F c.args.self.schema.now k c.args.words.now) c.clock.ensures
