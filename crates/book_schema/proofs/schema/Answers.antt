-- `book_schema::schema` meets its contract: the constant is the schema, by computation.
-- Assumes nothing.
use mathlib.Core.Path.{refl}
use Rattle.model.specs.Book.{book}
use Rattle.book_schema.proofs.schema.Goals as goal

pub returns : goal.returns
unfolding book
returns c = refl
