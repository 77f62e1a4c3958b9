-- The table of cases (document 01, "Table of cases"): C1 to C12, as data, with what must come back.
-- Assumes nothing.
use Rattle.std.specs.Prelude.{ℕ, ◌+◌, ◌*◌, ◌-◌, Bool, true, false, ◌&&◌, List, [], ◌∷◌, ◌++◌, eqb, length, replicate}
use Rattle.crdt.specs.Labels.{label_of}
use Rattle.crdt.specs.Cells.{Reg, reg, join_reg, join_cell}
use Rattle.model.specs.Layout.{fields, most_relations, block_words, delta_words, zero_words, capacity_of}
use Rattle.model.specs.Lists.{all_of}
use Rattle.model.specs.Calls.{schema_number, table_number, marks_number, marks_count, marks_marks, Entry, shown_list, deletion_number, deletion_table, deletion_delta}

-- A list filled up with zeros to n words.
unfoldable pub pad : ℕ → List ℕ → List ℕ
pad n l = l ++ replicate (n - length l) 0

-- A block of a schema: the kinds and the first key mask.
unfoldable pub block_of : List ℕ → ℕ → List ℕ
unfolding pad
block_of kinds key = length kinds ∷ (pad fields kinds ++ (key ∷ 0 ∷ 0 ∷ []))

-- "Schema: 1 group (name; key name), 2 cow (tag, group by abort; key tag), 3 milking (cow by propagation, grams)."
unfoldable pub herd : List ℕ
unfolding pad block_of
herd = 3 ∷ (block_of (1 ∷ []) 1 ++ (block_of (1 ∷ 17 ∷ []) 1 ++ (block_of (34 ∷ 1 ∷ []) 0 ++ replicate ((most_relations - 3) * block_words) 0)))

-- A table's header of replica 1: clock, used, and the first records of relations 1, 2, 3.
unfoldable pub header : ℕ → ℕ → List ℕ → List ℕ
unfolding pad
header clock used firsts = 1 ∷ clock ∷ used ∷ 0 ∷ (pad most_relations firsts ++ replicate zero_words 0)

-- A record's words: next, relation, label, flag, then values and stamps.
unfoldable pub row : ℕ → ℕ → ℕ → ℕ → List ℕ → List ℕ → List ℕ
unfolding pad
row next r l flag values stamps = next ∷ r ∷ l ∷ flag ∷ (pad fields values ++ pad fields stamps)

-- The labels written 1.1, 2.1, 2.2, 3.1 and 9.9, the group's name, two tags and the grams of a milking.
abbrev g1 : ℕ
g1 = label_of 1 1

abbrev c1 : ℕ
c1 = label_of 2 1

abbrev c2 : ℕ
c2 = label_of 2 2

abbrev m1 : ℕ
m1 = label_of 3 1

abbrev unknown : ℕ
unknown = label_of 9 9

abbrev name : ℕ
name = 12

abbrev tag : ℕ
tag = 40

abbrev other_tag : ℕ
other_tag = 41

abbrev grams : ℕ
grams = 9000

-- Records: the group 1.1, a cow with its tag in a group, a milking of a cow; each register has its record's own label as stamp.
group : ℕ → ℕ → List ℕ
unfolding row
group next flag = row next 1 g1 flag (name ∷ []) (g1 ∷ [])

cow : ℕ → ℕ → ℕ → ℕ → ℕ → List ℕ
unfolding row
cow next l flag t g = row next 2 l flag (t ∷ g ∷ []) (l ∷ l ∷ [])

milking : ℕ → List ℕ
unfolding row
milking l = row 0 3 m1 0 (l ∷ grams ∷ []) (m1 ∷ m1 ∷ [])

-- Entries of the list.
abbrev group_shown : Entry
group_shown = record { relation = 1; label = g1; values = name ∷ [] }

abbrev cow_shown : ℕ → ℕ → ℕ → Entry
cow_shown l t g = record { relation = 2; label = l; values = t ∷ g ∷ [] }

-- A case: two registers and their join; two flags and theirs; a table with its marks and its list; a table, the index of a record to delete,
-- the words of table and delta afterwards, and then the marks and the list.
pub data Case : Type 0 where
  registers : Reg → Reg → Reg → Case
  flags : ℕ → ℕ → ℕ → Case
  shows : List ℕ → List ℕ → List Entry → Case
  deletes : List ℕ → ℕ → List ℕ → List ℕ → List ℕ → List Entry → Case

unfoldable pub table : List Case
unfolding header group cow milking row pad
table =
    -- "C1 ⟨5, 257⟩ with ⟨7, 514⟩: ⟨7, 514⟩."
    registers (reg 5 257) (reg 7 514) (reg 7 514)
    -- "C2 ⟨5, 257⟩ with ⟨7, 257⟩: ⟨7, 257⟩."
    ∷ registers (reg 5 257) (reg 7 257) (reg 7 257)
    -- "C3 none with ⟨5, 257⟩: ⟨5, 257⟩."
    ∷ registers (reg 0 0) (reg 5 257) (reg 5 257)
    -- "C4 flags 1 and 2: 2."
    ∷ flags 1 2 2
    -- "C5 group 1.1 flag 1, cow 2.1 in it: both shown."
    ∷ shows (header 2 2 (1 ∷ 2 ∷ []) ++ (group 0 1 ++ cow 0 c1 0 tag g1)) (1 ∷ 1 ∷ []) (group_shown ∷ cow_shown c1 tag g1 ∷ [])
    -- "C6 group 1.1, cow 2.1 flag 1, milking 3.1 of it: only the group."
    ∷ shows (header 3 3 (1 ∷ 2 ∷ 3 ∷ []) ++ (group 0 0 ++ (cow 0 c1 1 tag g1 ++ milking c1))) (1 ∷ 0 ∷ 0 ∷ []) (group_shown ∷ [])
    -- "C7 group 1.1, cows 2.1 and 2.2 in it, both tag 40: group and 2.1."
    ∷ shows (header 2 3 (1 ∷ 2 ∷ []) ++ (group 0 0 ++ (cow 3 c1 0 tag g1 ++ cow 0 c2 0 tag g1))) (1 ∷ 1 ∷ 0 ∷ []) (group_shown ∷ cow_shown c1 tag g1 ∷ [])
    -- "C8 as C7, milking 3.1 of 2.2: hidden."
    ∷ shows (header 3 4 (1 ∷ 2 ∷ 4 ∷ []) ++ (group 0 0 ++ (cow 3 c1 0 tag g1 ++ (cow 0 c2 0 tag g1 ++ milking c2)))) (1 ∷ 1 ∷ 0 ∷ 0 ∷ []) (group_shown ∷ cow_shown c1 tag g1 ∷ [])
    -- "C9 cow 2.1 in group 9.9, unknown: hidden."
    ∷ shows (header 9 1 (0 ∷ 1 ∷ []) ++ cow 0 c1 0 tag unknown) (0 ∷ []) []
    -- "C10 cow with empty group: shown."
    ∷ shows (header 2 1 (0 ∷ 1 ∷ []) ++ cow 0 c1 0 tag 0) (1 ∷ []) (cow_shown c1 tag 0 ∷ [])
    -- "C11 C5, delete cow 2.1: group flag stays 1, nothing shown."
    ∷ deletes (header 2 2 (1 ∷ 2 ∷ []) ++ (group 0 1 ++ cow 0 c1 0 tag g1)) 2
    (header 2 2 (1 ∷ 2 ∷ []) ++ (group 0 1 ++ cow 0 c1 1 tag g1))
    (pad delta_words (header 2 1 (0 ∷ 1 ∷ []) ++ row 0 2 c1 1 [] [])) (0 ∷ 0 ∷ []) []
    -- "C12 C5 with cow 2.2 of another tag, delete 2.1: group flag 2, group and 2.2 shown."
    ∷ deletes (header 2 3 (1 ∷ 2 ∷ []) ++ (group 0 1 ++ (cow 3 c1 0 tag g1 ++ cow 0 c2 0 other_tag g1))) 2
    (header 2 3 (1 ∷ 2 ∷ []) ++ (group 0 2 ++ (cow 3 c1 1 tag g1 ++ cow 0 c2 0 other_tag g1)))
    (pad delta_words (header 2 2 (1 ∷ 2 ∷ []) ++ (row 0 1 g1 2 [] [] ++ row 0 2 c1 1 [] []))) (1 ∷ 0 ∷ 1 ∷ []) (group_shown ∷ cow_shown c2 other_tag g1 ∷ [])
    ∷ []

-- Equality of lists of numbers, of entries and of lists of them, as tests.
unfoldable pub same_words : List ℕ → List ℕ → Bool
same_words [] [] = true
same_words [] (y ∷ ys) = false
same_words (x ∷ xs) [] = false
same_words (x ∷ xs) (y ∷ ys) = eqb x y && same_words xs ys

unfoldable pub same_entries : List Entry → List Entry → Bool
same_entries [] [] = true
same_entries [] (y ∷ ys) = false
same_entries (x ∷ xs) [] = false
same_entries (x ∷ xs) (y ∷ ys) =
    eqb x.relation y.relation && eqb x.label y.label && same_words x.values y.values && same_entries xs ys

-- Table check answers 0, marks answer 0 with the marks and the length of the list, and the walked list is the list.
unfoldable pub lists : List ℕ → List ℕ → List Entry → Bool
lists t m l =
    let zeros : List ℕ = replicate (capacity_of t) 0 in
    eqb (table_number herd t) 0 && eqb (marks_number herd t zeros) 0 && same_words (marks_marks herd t zeros) m
    && eqb (marks_count herd t zeros) (length l) && same_entries (shown_list herd t) l

unfoldable pub holds : Case → Bool
holds (registers a b c) = eqb (join_reg a b).value c.value && eqb (join_reg a b).stamp c.stamp
holds (flags a b c) = eqb (join_cell (record { flag = a; regs = [] }) (record { flag = b; regs = [] })).flag c
holds (shows t m l) = lists t m l
holds (deletes t i t' d m l) =
    let zeros : List ℕ = replicate delta_words 0 in
    eqb (table_number herd t) 0 && eqb (deletion_number herd t zeros i) 0 && same_words (deletion_table herd t zeros i) t'
    && same_words (deletion_delta herd t zeros i) d && lists t' m l

-- The schema isn't broken, and every case holds.
unfoldable pub all_hold : Bool
all_hold = eqb (schema_number herd) 0 && all_of holds table

-- The same case, as a test.
unfoldable pub same_reg : Reg → Reg → Bool
same_reg a b = eqb a.value b.value && eqb a.stamp b.stamp

unfoldable pub same_case : Case → Case → Bool
same_case (registers a b c) (registers a' b' c') = same_reg a a' && same_reg b b' && same_reg c c'
same_case (registers a b c) (flags a' b' c') = false
same_case (registers a b c) (shows t' m' l') = false
same_case (registers a b c) (deletes t' i' u' d' m' l') = false
same_case (flags a b c) (registers a' b' c') = false
same_case (flags a b c) (flags a' b' c') = eqb a a' && eqb b b' && eqb c c'
same_case (flags a b c) (shows t' m' l') = false
same_case (flags a b c) (deletes t' i' u' d' m' l') = false
same_case (shows t m l) (registers a' b' c') = false
same_case (shows t m l) (flags a' b' c') = false
same_case (shows t m l) (shows t' m' l') = same_words t t' && same_words m m' && same_entries l l'
same_case (shows t m l) (deletes t' i' u' d' m' l') = false
same_case (deletes t i u d m l) (registers a' b' c') = false
same_case (deletes t i u d m l) (flags a' b' c') = false
same_case (deletes t i u d m l) (shows t' m' l') = false
same_case (deletes t i u d m l) (deletes t' i' u' d' m' l') =
    same_words t t' && eqb i i' && same_words u u' && same_words d d' && same_words m m' && same_entries l l'

unfoldable pub same_cases : List Case → List Case → Bool
same_cases [] [] = true
same_cases [] (y ∷ ys) = false
same_cases (x ∷ xs) [] = false
same_cases (x ∷ xs) (y ∷ ys) = same_case x y && same_cases xs ys
