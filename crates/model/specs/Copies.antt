-- Examples of which copy is ahead (document 02, F-3), as data.
-- Assumes nothing.
use Rattle.std.specs.Prelude.{ℕ, Bool, ◌&&◌, List, [], ◌∷◌, ◌++◌, eqb, set, replicate}
use Rattle.crdt.specs.Labels.{label_of}
use Rattle.model.specs.Layout.{record_words, replica_word}
use Rattle.model.specs.Calls.{merge_number}
use Rattle.model.specs.Compare.{alike, first_behind, second_behind, neither, compare_number, compare_verdict}
use Rattle.model.specs.Cases.{herd, header, row}

-- The group 1.1 and the cow 2.1, under the schema of the cases.
abbrev group : ℕ
group = label_of 1 1

abbrev cow : ℕ
cow = label_of 2 1

-- The group alone, and the cow alone: tables with room for one record.
group_alone : ℕ → List ℕ
unfolding header row
group_alone clock = header clock 1 (1 ∷ []) ++ row 0 1 group 0 (12 ∷ []) (group ∷ [])

cow_alone : List ℕ
unfolding header row
cow_alone = header 2 1 (0 ∷ 1 ∷ []) ++ row 0 2 cow 0 (40 ∷ group ∷ []) (cow ∷ cow ∷ [])

-- The group, and the cow with a flag, values and stamps.
pair : ℕ → ℕ → List ℕ → List ℕ → List ℕ
unfolding header row
pair clock flag values stamps = header clock 2 (1 ∷ 2 ∷ []) ++ (row 0 1 group 0 (12 ∷ []) (group ∷ []) ++ row 0 2 cow flag values stamps)

full : List ℕ
unfolding pair
full = pair 2 0 (40 ∷ group ∷ []) (cow ∷ cow ∷ [])

-- The same contents: the cow at position 1, replica 7, room for three records.
turned : List ℕ
unfolding header row
turned = set (header 2 2 (2 ∷ 1 ∷ []) ++ (row 0 2 cow 0 (40 ∷ group ∷ []) (cow ∷ cow ∷ []) ++ (row 0 1 group 0 (12 ∷ []) (group ∷ []) ++ replicate record_words 0))) replica_word 7

-- The verdict on two tables, which is 1 to 4 only where the answer is 0; that the first is behind, and so the second after an exchange; a refusal.
says : List ℕ → List ℕ → ℕ → Bool
says a b verdict = eqb (compare_verdict herd a b) verdict

behind : List ℕ → List ℕ → Bool
behind a b = says a b first_behind && says b a second_behind

refuses : List ℕ → List ℕ → List ℕ → ℕ → Bool
refuses s a b answer = eqb (compare_number s a b) answer && eqb (compare_verdict s a b) 0

unfoldable pub verdicts : Bool
unfolding group_alone cow_alone pair full turned says behind refuses
verdicts =
    -- equal contents at other positions, under another replica and another capacity
    eqb (compare_number herd full turned) 0 && says full turned alike
    -- a lower clock alone
    && behind full (pair 9 0 (40 ∷ group ∷ []) (cow ∷ cow ∷ []))
    -- the clock behind and a record ahead
    && says full (group_alone 9) neither
    -- a record more; a record with flag 0 and no stamps is not none; an incomplete record counts, and so does a deleted one
    && behind (group_alone 2) full && behind (group_alone 2) (pair 2 0 [] [])
    && behind (group_alone 2) (pair 2 0 (40 ∷ []) (cow ∷ [])) && behind (group_alone 2) (pair 2 1 (40 ∷ group ∷ []) (cow ∷ cow ∷ []))
    -- a stamp more; a flag more
    && behind (pair 2 0 (40 ∷ []) (cow ∷ [])) full && behind full (pair 2 1 (40 ∷ group ∷ []) (cow ∷ cow ∷ []))
    -- equal stamps: the smaller value is behind
    && behind full (pair 2 0 (41 ∷ group ∷ []) (cow ∷ cow ∷ []))
    -- a register ahead and a flag behind
    && says (pair 2 0 (41 ∷ group ∷ []) (cow ∷ cow ∷ [])) (pair 2 1 (40 ∷ group ∷ []) (cow ∷ cow ∷ [])) neither
    -- "Capacities play no part.": the merge has no room in either, and neither contains the other
    && eqb (merge_number herd (group_alone 1) cow_alone) 11 && eqb (merge_number herd cow_alone (group_alone 1)) 11 && says (group_alone 1) cow_alone neither
    -- "Either table being damaged gives 3 for the first and 4 for the second.": a clock below a label; both; before them a broken schema, and a length
    && refuses herd (group_alone 0) full 3 && refuses herd full (group_alone 0) 4 && refuses herd (group_alone 0) (group_alone 0) 3
    && refuses (set herd 0 0) (group_alone 0) (group_alone 0) 2 && refuses (set herd 0 0) (group_alone 0) [] 1
    && refuses (set herd 0 0) [] (group_alone 0) 1 && refuses [] (group_alone 0) (group_alone 0) 1
