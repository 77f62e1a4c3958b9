-- Answers 9 and 10 over standing records (document 01, "What a call hands back", and document 02, F-5), as data: a loser of step 3 is not shown and
-- still counts. The schema is the herd book's.
-- Assumes nothing.
use Rattle.std.specs.Prelude.{ℕ, Bool, ◌&&◌, List, [], ◌∷◌, ◌++◌, eqb, replicate}
use Rattle.crdt.specs.Labels.{label_of}
use Rattle.model.specs.Calls.{update_number, deletion_number}
use Rattle.model.specs.Book.{groups, cows, book}
use Rattle.model.specs.Cases.{header, row}
use Rattle.sentences.specs.Examples.{buffer}
use Rattle.sentences.specs.Twelve.{shows}

-- The group 1.1 and the cows 2.1, 2.2 and 2.3.
abbrev group : ℕ
group = label_of 1 1

abbrev winner : ℕ
winner = label_of 2 1

abbrev loser : ℕ
loser = label_of 2 2

abbrev youngest : ℕ
youngest = label_of 2 3

-- A cow with ear tag, transponder and group.
cow : ℕ → ℕ → List ℕ → List ℕ
unfolding row
cow next l values = row next cows l 0 values (replicate 3 l)

-- The winner has ear tag 40 and transponder 7, the youngest cow 41 and 9; the loser's values are told.
barn : List ℕ → List ℕ
unfolding header row cow
barn values =
    header 2 4 (1 ∷ 2 ∷ [])
    ++ (row 0 groups group 0 (12 ∷ []) (group ∷ []) ++ (cow 3 winner (40 ∷ 7 ∷ 0 ∷ []) ++ (cow 4 loser values ++ cow 0 youngest (41 ∷ 9 ∷ 0 ∷ []))))

-- "update: another standing record would conflict on a key that names the field", "Answer 9 still looks at all standing records.": transponder 8 is the
-- loser's alone.
unfoldable pub nine_over_standing : Bool
unfolding barn buffer shows
nine_over_standing =
    let t = barn (40 ∷ 8 ∷ 0 ∷ []) in
    shows book t (group ∷ winner ∷ youngest ∷ []) && eqb (update_number book t buffer 4 2 8) 9 && eqb (update_number book t buffer 4 2 10) 0

-- "deletion: another standing record references it by abort": the group is the loser's alone.
unfoldable pub ten_over_standing : Bool
unfolding barn buffer shows
ten_over_standing =
    let t = barn (40 ∷ 8 ∷ group ∷ []) in
    shows book t (group ∷ winner ∷ youngest ∷ []) && eqb (deletion_number book t buffer 1) 10 && eqb (deletion_number book (barn (40 ∷ 8 ∷ 0 ∷ [])) buffer 1) 0
