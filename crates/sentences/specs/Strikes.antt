-- Strikes in the herd book (document 02, F-2), as data: a record that one field of another names, and nothing else does.
-- Assumes nothing.
use Rattle.std.specs.Prelude.{ℕ, Bool, ◌&&◌, List, [], ◌∷◌, ◌++◌, eqb, replicate}
use Rattle.crdt.specs.Labels.{label_of}
use Rattle.model.specs.Book.{cows, robots, milkings, cleanings, treatments, book, strike_number, strike_table}
use Rattle.model.specs.Cases.{header, row}
use Rattle.sentences.specs.Examples.{buffer}
use Rattle.sentences.specs.Twelve.{shows}

-- The record named, 1.1, a cow or a robot, and the one that names it, 2.1.
abbrev named : ℕ
named = label_of 1 1

abbrev naming : ℕ
naming = label_of 2 1

cow : List ℕ
unfolding row
cow = row 0 cows named 0 (40 ∷ 70 ∷ 0 ∷ []) (replicate 3 named)

robot : List ℕ
unfolding row
robot = row 0 robots named 0 (5 ∷ []) (named ∷ [])

milking : ℕ → ℕ → List ℕ
unfolding row
milking itsCow itsRobot = row 0 milkings naming 0 (itsCow ∷ itsRobot ∷ 9000 ∷ 385 ∷ 600 ∷ []) (replicate 5 naming)

cleaning : ℕ → List ℕ
unfolding row
cleaning itsRobot = row 0 cleanings naming 0 (itsRobot ∷ 610 ∷ 620 ∷ []) (replicate 3 naming)

treatment : ℕ → List ℕ
unfolding row
treatment itsCow = row 0 treatments naming 0 (itsCow ∷ 800 ∷ 900 ∷ []) (replicate 3 naming)

-- The barn of these two, told by the first records of the six kinds.
barn : List ℕ → List ℕ → List ℕ → List ℕ
unfolding header
barn firsts x y = header 2 2 firsts ++ (x ++ y)

-- Both records are shown. The first is not struck off, and both are shown as before; or it is, and neither is.
held : ℕ → List ℕ → Bool
unfolding buffer shows
held kind t = shows book t (named ∷ naming ∷ []) && eqb (strike_number kind t buffer 1) 10 && shows book (strike_table kind t buffer 1) (named ∷ naming ∷ [])

taken : ℕ → List ℕ → Bool
unfolding buffer shows
taken kind t = shows book t (named ∷ naming ∷ []) && eqb (strike_number kind t buffer 1) 0 && shows book (strike_table kind t buffer 1) []

-- The second record does not name the first, which is struck off alone.
free : ℕ → List ℕ → Bool
unfolding buffer shows
free kind t = shows book t (named ∷ naming ∷ []) && eqb (strike_number kind t buffer 1) 0 && shows book (strike_table kind t buffer 1) (naming ∷ [])

-- "A milking names cow by propagation and robot by abort": a robot that a milking alone names is not struck off.
unfoldable pub robot_of_milking : Bool
unfolding barn robot milking held free
robot_of_milking =
    let firsts : List ℕ = 0 ∷ 0 ∷ 1 ∷ 2 ∷ [] in
    held robots (barn firsts robot (milking 0 named)) && free robots (barn firsts robot (milking 0 0))

-- The same: a cow that a milking alone names is struck off, and the milking leaves the list.
unfoldable pub cow_of_milking : Bool
unfolding barn cow milking taken free
cow_of_milking =
    let firsts : List ℕ = 0 ∷ 1 ∷ 0 ∷ 2 ∷ [] in
    taken cows (barn firsts cow (milking named 0)) && free cows (barn firsts cow (milking 0 0))

-- "A cleaning names its robot by abort": a robot that a cleaning alone names is not struck off.
unfoldable pub robot_of_cleaning : Bool
unfolding barn robot cleaning held free
robot_of_cleaning =
    let firsts : List ℕ = 0 ∷ 0 ∷ 1 ∷ 0 ∷ 2 ∷ [] in
    held robots (barn firsts robot (cleaning named)) && free robots (barn firsts robot (cleaning 0))

-- "A treatment names its cow by propagation": a cow that a treatment alone names is struck off, and the treatment leaves the list.
unfoldable pub cow_of_treatment : Bool
unfolding barn cow treatment taken free
cow_of_treatment =
    let firsts : List ℕ = 0 ∷ 1 ∷ 0 ∷ 0 ∷ 0 ∷ 2 ∷ [] in
    taken cows (barn firsts cow (treatment named)) && free cows (barn firsts cow (treatment 0))
