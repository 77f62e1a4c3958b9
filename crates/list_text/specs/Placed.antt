-- A text written into a buffer, character by character. What the buffer has no room for is left out.
-- Assumes nothing.
use Rattle.std.specs.Prelude.{ℕ, ◌+◌, ◌≡◌, cond, List, [], ◌∷◌, ltb, length, set}

-- The index after one character in a buffer of n.
unfoldable pub next_index : ℕ → ℕ → ℕ
next_index n at = cond (ltb at n) (at + 1) at

-- The index after a text, and the buffer with it.
unfoldable pub end_of : ℕ → ℕ → List ℕ → ℕ
end_of n at [] = at
end_of n at (c ∷ cs) = end_of n (next_index n at) cs

unfoldable pub laid : List ℕ → ℕ → List ℕ → List ℕ
laid o at [] = o
laid o at (c ∷ cs) = laid (set o at c) (next_index (length o) at) cs

-- A text written from an index on: the index after it, and the buffer afterwards.
pub record Placed (o : List ℕ) (at : ℕ) (x : List ℕ) (r : ℕ) (o' : List ℕ) : Type 0 where
  pub end : r ≡ end_of (length o) at x
  pub chars : o' ≡ laid o at x
