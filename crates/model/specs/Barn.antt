-- A barn in the herd book (document 02, F-2), as data: what its calls answer.
-- Assumes nothing.
use Rattle.std.specs.Prelude.{ℕ, ◌+◌, Bool, ◌&&◌, List, [], ◌∷◌, ◌++◌, eqb, replicate}
use Rattle.crdt.specs.Labels.{label_of}
use Rattle.model.specs.Layout.{record_words, delta_words, flag_at, value_at}
use Rattle.model.specs.Records.{label_span}
use Rattle.model.specs.Calls.{schema_number, marks_marks, insertion_number, insertion_label}
use Rattle.model.specs.Cases.{header, row, same_words}
use Rattle.model.specs.Book.{groups, cows, robots, milkings, cleanings, treatments, book, change_number, change_table, strike_number, strike_table, find_number, find_index}

-- The group 1.1, the cow 2.1, the robot 3.1, the milking 4.1 and the cleaning 5.1.
abbrev group : ℕ
group = label_of 1 1

abbrev cow : ℕ
cow = label_of 2 1

abbrev robot : ℕ
robot = label_of 3 1

abbrev milking : ℕ
milking = label_of 4 1

abbrev cleaning : ℕ
cleaning = label_of 5 1

-- Group 12; the cow with ear tag 40 and transponder 70, with a flag; robot 5; a milking and a cleaning. There is room for one record more.
barn : ℕ → List ℕ
unfolding header row
barn flag =
    header 5 5 (1 ∷ 2 ∷ 3 ∷ 4 ∷ 5 ∷ [])
    ++ (row 0 groups group 0 (12 ∷ []) (group ∷ [])
    ++ (row 0 cows cow flag (40 ∷ 70 ∷ group ∷ []) (cow ∷ cow ∷ cow ∷ [])
    ++ (row 0 robots robot 0 (5 ∷ []) (robot ∷ [])
    ++ (row 0 milkings milking 0 (cow ∷ robot ∷ 9000 ∷ 385 ∷ 600 ∷ []) (milking ∷ milking ∷ milking ∷ milking ∷ milking ∷ [])
    ++ (row 0 cleanings cleaning 0 (robot ∷ 610 ∷ 620 ∷ []) (cleaning ∷ cleaning ∷ cleaning ∷ []) ++ replicate record_words 0)))))

-- Two cows that were entered apart, with these ear tags and transponders.
pair : ℕ → ℕ → ℕ → ℕ → List ℕ
unfolding header row
pair tag chip tag' chip' =
    header 2 2 (0 ∷ 1 ∷ [])
    ++ (row 2 cows (label_of 2 1) 0 (tag ∷ chip ∷ 0 ∷ []) (label_of 2 1 ∷ label_of 2 1 ∷ label_of 2 1 ∷ [])
    ++ row 0 cows (label_of 2 2) 0 (tag' ∷ chip' ∷ 0 ∷ []) (label_of 2 2 ∷ label_of 2 2 ∷ label_of 2 2 ∷ []))

buffer : List ℕ
buffer = replicate delta_words 0

enters : ℕ → List ℕ → ℕ → ℕ → Bool
unfolding barn buffer
enters kind values answer label = eqb (insertion_number book (barn 0) buffer kind values) answer && eqb (insertion_label book (barn 0) buffer kind values) label

changes : ℕ → ℕ → ℕ → ℕ → ℕ → Bool
unfolding barn buffer
changes kind i f new answer = eqb (change_number kind (barn 0) buffer i f new) answer

strikes : ℕ → ℕ → ℕ → Bool
unfolding barn buffer
strikes kind i answer = eqb (strike_number kind (barn 0) buffer i) answer

finds : List ℕ → ℕ → ℕ → ℕ → Bool
finds t l answer i = eqb (find_number t) answer && eqb (find_index t l) i

shows : List ℕ → List ℕ → Bool
shows t marks = same_words (marks_marks book t (0 ∷ 0 ∷ [])) marks

-- The schema is good, and each kind is entered; a reference may be empty.
unfoldable pub entered : Bool
unfolding enters
entered =
    eqb (schema_number book) 0
    && enters groups (13 ∷ []) 0 (label_of 6 1)
    && enters cows (41 ∷ 71 ∷ group ∷ []) 0 (label_of 6 1) && enters cows (41 ∷ 71 ∷ 0 ∷ []) 0 (label_of 6 1)
    && enters robots (6 ∷ []) 0 (label_of 6 1)
    && enters milkings (cow ∷ robot ∷ 9100 ∷ 384 ∷ 700 ∷ []) 0 (label_of 6 1) && enters milkings (0 ∷ 0 ∷ 9100 ∷ 384 ∷ 700 ∷ []) 0 (label_of 6 1)
    && enters cleanings (robot ∷ 710 ∷ 720 ∷ []) 0 (label_of 6 1)
    && enters treatments (cow ∷ 800 ∷ 900 ∷ []) 0 (label_of 6 1)
    -- a reference that is no label; the robot's label as a cow's; each key
    && enters treatments (7 ∷ 800 ∷ 900 ∷ []) 7 0
    && enters treatments (robot ∷ 800 ∷ 900 ∷ []) 8 0
    && enters groups (12 ∷ []) 9 0 && enters robots (5 ∷ []) 9 0
    && enters cows (40 ∷ 71 ∷ group ∷ []) 9 0 && enters cows (41 ∷ 70 ∷ group ∷ []) 9 0

-- "with 6 also for a record of another kind": after 1 and 3, before 7.
unfoldable pub of_its_kind : Bool
unfolding barn buffer changes strikes
of_its_kind =
    changes cows 2 2 72 0 && eqb (value_at (change_table cows (barn 0) buffer 2 2 72) 2 2) 72
    && changes cows 2 4 72 7
    && changes robots 2 2 72 6 && changes robots 2 4 72 6 && changes robots 6 1 72 1
    && strikes milkings 4 0 && eqb (flag_at (strike_table milkings (barn 0) buffer 4) 4) 1
    && strikes cows 4 6 && eqb (flag_at (strike_table cows (barn 0) buffer 4) 4) 0
    && strikes groups 1 10 && strikes cows 1 6 && strikes groups 0 1
    && eqb (change_number robots (barn 65536) buffer 2 2 72) 3 && eqb (strike_number cows (barn 65536) buffer 4) 3

-- The shown milking of a label: struck off, or with its cow struck off, it is not shown.
unfoldable pub found_milkings : Bool
unfolding barn buffer finds
found_milkings =
    finds (barn 0) milking 0 4
    && finds (strike_table milkings (barn 0) buffer 4) milking 0 0
    && finds (barn 1) milking 0 0
    && finds (barn 0) cow 0 0 && finds (barn 0) (label_of 9 9) 0 0 && finds (barn 0) 0 0 0
    && finds (0 ∷ []) milking 1 0 && finds (barn 65536) milking 3 0

-- A number past the labels, where the place of the cleaning lies.
unfoldable pub past_the_labels : Bool
unfolding barn finds
past_the_labels = finds (barn 0) (label_span + cleaning) 0 0

-- "A cow has ear tag and transponder, each a key": of two that share one, the first is shown.
unfoldable pub keys_of_cows : Bool
unfolding pair shows
keys_of_cows =
    shows (pair 40 70 41 71) (1 ∷ 1 ∷ [])
    && shows (pair 40 70 40 71) (1 ∷ 0 ∷ [])
    && shows (pair 40 70 41 70) (1 ∷ 0 ∷ [])
