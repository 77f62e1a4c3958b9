-- `layout::table_length_in` meets its contract.
-- Assumes nothing.
use Rattle.model.specs.Shapes.{table_length_in}
use borrow.Author.Tests.{lt-leb, le-leb}
use Rattle.layout.proofs.table_length_in.Goals as goal

pub returns-then-t-lt-HEADER_WORDS : goal.returns-then-t-lt-HEADER_WORDS
unfolding table_length_in
returns-then-t-lt-HEADER_WORDS g c = simp (lt-leb _ _ c.if-t-lt-HEADER_WORDS.true)

pub returns : goal.returns
unfolding table_length_in
returns g c = simp (le-leb _ _ c.if-t-lt-HEADER_WORDS.false, c.capacity_in-most.ensures)
