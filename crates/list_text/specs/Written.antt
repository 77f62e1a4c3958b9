-- A text written by a cursor, whose buffer stays the one that was lent.
-- Assumes nothing.
use Rattle.std.specs.Prelude.{ℕ, ◌≡◌, List}
use Rattle.list_text.specs.declared.Out.{Out}
use Rattle.list_text.specs.Placed.{Placed}

pub record Written (a b : Out) (x : List ℕ) : Type 0 where
  pub same : b.bytes.ghost_name ≡ a.bytes.ghost_name
  pub text : Placed a.bytes.now a.at x b.at b.bytes.now
