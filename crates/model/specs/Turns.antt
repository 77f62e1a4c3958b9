-- An old barn and the same barn in the new form (document 02, F-8), as data. Figures of the old form are written out.
-- Assumes nothing.
use Rattle.std.specs.Prelude.{ℕ, Bool, ◌&&◌, List, [], ◌∷◌, ◌++◌, eqb, length, replicate}
use Rattle.crdt.specs.Labels.{label_of}
use Rattle.model.specs.Layout.{record_words}
use Rattle.model.specs.Cases.{pad, herd, header, row, same_words}
use Rattle.model.specs.Shapes.{widen_number, widen_schema, widen_table, narrow_number, narrow_schema, narrow_table}

-- "Then eight blocks of 12: field count F (1 to 8), eight field kinds, two key masks, a zero."
unfoldable pub old_block : ℕ → List ℕ → ℕ → List ℕ
unfolding pad
old_block count kinds key = count ∷ (pad 8 kinds ++ (key ∷ 0 ∷ 0 ∷ []))

-- The schema of the table of cases with the block of its third relation.
unfoldable pub old_schema_of : List ℕ → List ℕ
unfolding old_block
old_schema_of third = 3 ∷ (old_block 1 (1 ∷ []) 1 ++ (old_block 2 (1 ∷ 17 ∷ []) 1 ++ (third ++ replicate 60 0)))

unfoldable pub old_herd : List ℕ
unfolding old_block old_schema_of
old_herd = old_schema_of (old_block 2 (34 ∷ 1 ∷ []) 0)

-- "next, relation, label, flag, eight values, eight stamps"
unfoldable pub old_row : ℕ → ℕ → ℕ → ℕ → List ℕ → List ℕ → List ℕ
unfolding pad
old_row next r l flag values stamps = next ∷ r ∷ l ∷ flag ∷ (pad 8 values ++ pad 8 stamps)

-- C5 with room for one record more.
abbrev pub group : ℕ
group = label_of 1 1

abbrev pub cow : ℕ
cow = label_of 2 1

unfoldable pub old_barn : List ℕ
unfolding header old_row
old_barn =
    header 2 2 (1 ∷ 2 ∷ [])
    ++ (old_row 0 1 group 1 (12 ∷ []) (group ∷ []) ++ (old_row 0 2 cow 0 (40 ∷ group ∷ []) (cow ∷ cow ∷ []) ++ replicate 20 0))

unfoldable pub new_barn : List ℕ
unfolding header row
new_barn =
    header 2 2 (1 ∷ 2 ∷ [])
    ++ (row 0 1 group 1 (12 ∷ []) (group ∷ []) ++ (row 0 2 cow 0 (40 ∷ group ∷ []) (cow ∷ cow ∷ []) ++ replicate record_words 0))

-- A buffer that holds something.
unfoldable pub stale : ℕ → List ℕ
stale n = replicate n 7

-- Both ways, over buffers that hold something; and a new table with room for one record more gets 1.
unfoldable pub turns : Bool
unfolding old_block old_schema_of old_herd old_row old_barn new_barn stale
turns =
    let s = stale 129 in let t = stale 100 in let os = stale 97 in let ot = stale 76 in
    eqb (length old_herd) 97 && eqb (length old_barn) 76 && eqb (length new_barn) 100
    && eqb (widen_number old_herd old_barn s t) 0 && same_words (widen_schema old_herd old_barn s t) herd
    && same_words (widen_table old_herd old_barn s t) new_barn
    && eqb (narrow_number herd new_barn os ot) 0 && same_words (narrow_schema herd new_barn os ot) old_herd
    && same_words (narrow_table herd new_barn os ot) old_barn && eqb (widen_number old_herd old_barn s (stale 128)) 1
