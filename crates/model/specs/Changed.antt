-- Examples of what a merge counts (document 02, F-1), as data.
-- Assumes nothing.
use Rattle.std.specs.Prelude.{ℕ, Bool, ◌&&◌, List, [], ◌∷◌, ◌++◌, eqb, replicate}
use Rattle.crdt.specs.Labels.{label_of}
use Rattle.model.specs.Layout.{record_words, clock_at}
use Rattle.model.specs.Calls.{merge_number, merge_table, merge_changed}
use Rattle.model.specs.Cases.{herd, header, row}

-- The group 1.1 and the cow 2.1, under the schema of the cases.
abbrev group : ℕ
group = label_of 1 1

abbrev cow : ℕ
cow = label_of 2 1

-- The group under a clock and with a flag; the same with room for one record only.
alone : ℕ → ℕ → List ℕ
unfolding header row
alone clock flag = header clock 1 (1 ∷ []) ++ (row 0 1 group flag (12 ∷ []) (group ∷ []) ++ replicate record_words 0)

small : List ℕ
unfolding header row
small = header 1 1 (1 ∷ []) ++ row 0 1 group 0 (12 ∷ []) (group ∷ [])

-- The group and the cow, with the flag of each, and the cow's values and stamps.
both : ℕ → ℕ → ℕ → List ℕ → List ℕ → List ℕ
unfolding header row
both clock f g values stamps = header clock 2 (1 ∷ 2 ∷ []) ++ (row 0 1 group f (12 ∷ []) (group ∷ []) ++ row 0 2 cow g values stamps)

full : List ℕ
unfolding both
full = both 2 0 0 (40 ∷ group ∷ []) (cow ∷ cow ∷ [])

-- The answer and the figure of a merge.
gives : List ℕ → List ℕ → ℕ → ℕ → Bool
gives own other answer figure = eqb (merge_number herd own other) answer && eqb (merge_changed herd own other) figure

unfoldable pub figures : Bool
unfolding alone small both full gives
figures =
    -- "For a copy of itself it is 0."
    gives full full 0 0
    -- a record added in one direction, none in the other
    && gives (alone 1 0) full 0 1 && gives full (alone 1 0) 0 0
    -- both registers of a record changed; a stamp alone; a value alone; a flag alone
    && gives full (both 3 0 0 (41 ∷ 0 ∷ []) (label_of 3 2 ∷ label_of 3 2 ∷ [])) 0 1
    && gives full (both 3 0 0 (40 ∷ group ∷ []) (label_of 3 2 ∷ cow ∷ [])) 0 1
    && gives full (both 2 0 0 (41 ∷ group ∷ []) (cow ∷ cow ∷ [])) 0 1
    && gives full (both 2 0 1 (40 ∷ group ∷ []) (cow ∷ cow ∷ [])) 0 1
    -- a record with flag 0 and no stamps added; one changed and one added; two changed
    && gives (alone 1 0) (both 2 0 0 [] []) 0 1
    && gives (alone 1 0) (both 2 1 0 (40 ∷ group ∷ []) (cow ∷ cow ∷ [])) 0 2
    && gives full (both 2 1 1 (40 ∷ group ∷ []) (cow ∷ cow ∷ [])) 0 2
    -- a clock raised alone: the words change, no record does
    && gives (alone 1 0) (alone 9 0) 0 0 && eqb (clock_at (merge_table herd (alone 1 0) (alone 9 0))) 9
    -- refused for want of room, and for a damaged other table, whose clock is below a label
    && gives small full 11 0 && gives full (alone 0 0) 4 0
