-- How many fields a key may name (document 01, "Schema"), as data. Figures are written out here, as the page has them.
-- Assumes nothing.
use Rattle.std.specs.Prelude.{ℕ, Bool, ◌&&◌, List, [], ◌∷◌, ◌++◌, eqb, replicate}
use Rattle.model.specs.Lists.{all_of}
use Rattle.model.specs.Calls.{schema_number}

-- One relation with five plain fields and these two keys.
keyed : ℕ → ℕ → List ℕ
keyed key1 key2 = 1 ∷ 5 ∷ (replicate 5 1 ++ (replicate 7 0 ++ (key1 ∷ key2 ∷ replicate 113 0)))

-- "otherwise a key names at least one and at most four fields, all within F": any four of the five, and all five, in either key.
unfoldable pub key_fields : Bool
unfolding keyed
key_fields =
    all_of (λ m. eqb (schema_number (keyed m 0)) 0 && eqb (schema_number (keyed 0 m)) 0) (15 ∷ 23 ∷ 27 ∷ 29 ∷ 30 ∷ [])
    && eqb (schema_number (keyed 31 0)) 2 && eqb (schema_number (keyed 0 31)) 2
