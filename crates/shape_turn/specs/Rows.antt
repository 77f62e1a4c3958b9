-- A row of a table and a block of a schema, v fields turned into w, by the word where it begins.
-- Assumes nothing.
use Rattle.std.specs.Prelude.{ℕ, ◌+◌, ◌-◌, List, [], ◌∷◌, ◌++◌}
use Rattle.model.specs.Layout.{head_words, word}
use Rattle.model.specs.Shapes.{fields_turned}

module _ (v w : ℕ) (t : List ℕ) where
  -- the fields whose first stands at word p + 1
  unfoldable pub fields_after : ℕ → List ℕ
  fields_after p = fields_turned v w (λ j. word t (p + j))

  unfoldable pub row_turned : ℕ → List ℕ
  row_turned p =
      word t p ∷ word t (p + 1) ∷ word t (p + 2) ∷ word t (p + 3) ∷ (fields_after (p + (head_words - 1)) ++ fields_after (p + (head_words - 1) + v))

  unfoldable pub block_turned : ℕ → List ℕ
  block_turned p = word t p ∷ (fields_after p ++ (word t (p + v + 1) ∷ word t (p + v + 2) ∷ word t (p + v + 3) ∷ []))
