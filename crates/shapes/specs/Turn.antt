-- The two calls of document 02, F-8, as one: a schema and a table of v fields turned into ones of w fields.
-- Assumes nothing.
use Rattle.std.specs.Prelude.{ℕ, Bool, ◌&&◌, not, List, [], ◌∷◌, eqb, ltb}
use Rattle.model.specs.Layout.{relations}
use Rattle.model.specs.Lists.{any, check, lowest}
use Rattle.model.specs.Shapes.{count_in, capacity_in, schema_length_in, table_length_in, broken_in, well_formed_in}

module _ (v w : ℕ) where
  -- the schema and table turned, s and t, and those written
  unfoldable pub turn_lengths : List ℕ → List ℕ → List ℕ → List ℕ → Bool
  turn_lengths s t ws wt =
      schema_length_in v s && table_length_in v t && schema_length_in w ws && table_length_in w wt && eqb (capacity_in v t) (capacity_in w wt)

  -- a relation with more fields than the form written holds
  unfoldable pub wider : List ℕ → Bool
  wider s = any (relations s) (λ r. ltb w (count_in v s r))

  unfoldable pub turn_number : List ℕ → List ℕ → List ℕ → List ℕ → ℕ
  turn_number s t ws wt =
      lowest
      (check 1 (not (turn_lengths s t ws wt)) ∷ check 2 (broken_in v s) ∷ check 3 (not (well_formed_in v s t)) ∷ check 14 (wider s) ∷ [])
