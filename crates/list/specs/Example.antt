-- The example of document 01: "C5 with name 12, tag 40".
-- Assumes nothing.
use Rattle.std.specs.Prelude.{ℕ, List, [], ◌∷◌, ◌++◌}
use Rattle.crdt.specs.Labels.{label_of}
use Rattle.model.specs.Cases.{header, row}

-- "C5 group 1.1 flag 1, cow 2.1 in it"
unfoldable pub example_table : List ℕ
example_table =
    header 2 2 (1 ∷ 2 ∷ [])
    ++ (row 0 1 (label_of 1 1) 1 (12 ∷ []) (label_of 1 1 ∷ []) ++ row 0 2 (label_of 2 1) 0 (40 ∷ label_of 1 1 ∷ []) (label_of 2 1 ∷ label_of 2 1 ∷ []))

abbrev pub example_text : List ℕ
example_text =
    -- `shown 2`
    115 ∷ 104 ∷ 111 ∷ 119 ∷ 110 ∷ 32 ∷ 50 ∷ 10
    -- `1 1.1 12`
    ∷ 49 ∷ 32 ∷ 49 ∷ 46 ∷ 49 ∷ 32 ∷ 49 ∷ 50 ∷ 10
    -- `2 2.1 40 1.1`
    ∷ 50 ∷ 32 ∷ 50 ∷ 46 ∷ 49 ∷ 32 ∷ 52 ∷ 48 ∷ 32 ∷ 49 ∷ 46 ∷ 49 ∷ 10
    ∷ []
