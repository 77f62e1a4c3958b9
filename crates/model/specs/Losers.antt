-- Examples of step 3 with two keys (document 02, F-5), as data.
-- Assumes nothing.
use Rattle.std.specs.Prelude.{ℕ, ◌*◌, ◌-◌, Bool, ◌&&◌, List, [], ◌∷◌, ◌++◌, map, eqb, replicate}
use Rattle.crdt.specs.Labels.{label_of}
use Rattle.model.specs.Layout.{fields, most_relations, block_words, record_words, delta_words}
use Rattle.model.specs.Calls.{table_number, insertion_number, Entry, shown_list}
use Rattle.model.specs.Cases.{pad, header, row, same_words}

-- "Herds now use two keys, ear tag and transponder."
two_keys : List ℕ
unfolding pad
two_keys = 1 ∷ (2 ∷ (pad fields (1 ∷ 1 ∷ []) ++ (1 ∷ 2 ∷ 0 ∷ replicate ((most_relations - 1) * block_words) 0)))

-- The cows 2.1, 2.2 and 2.3, and 3.1, which is younger.
abbrev first : ℕ
first = label_of 2 1

abbrev second : ℕ
second = label_of 2 2

abbrev third : ℕ
third = label_of 2 3

abbrev fourth : ℕ
fourth = label_of 3 1

cow : ℕ → ℕ → ℕ → List ℕ → List ℕ
unfolding row
cow next l flag keys = row next 1 l flag keys (l ∷ l ∷ [])

-- Two cows, with room for one more; three, the first with a flag; four.
two : List ℕ → List ℕ → List ℕ
unfolding header cow
two x y = header 2 2 (1 ∷ []) ++ (cow 2 first 0 x ++ (cow 0 second 0 y ++ replicate record_words 0))

three : ℕ → List ℕ → List ℕ → List ℕ → List ℕ
unfolding header cow
three flag x y z = header 2 3 (1 ∷ []) ++ (cow 2 first flag x ++ (cow 3 second 0 y ++ cow 0 third 0 z))

four : List ℕ → List ℕ → List ℕ → List ℕ → List ℕ
unfolding header cow
four x y z u = header 3 4 (1 ∷ []) ++ (cow 2 first 0 x ++ (cow 3 second 0 y ++ (cow 4 third 0 z ++ cow 0 fourth 0 u)))

-- A table that shows these labels.
shows : List ℕ → List ℕ → Bool
shows t labels = eqb (table_number two_keys t) 0 && same_words (map (λ (e : Entry). e.label) (shown_list two_keys t)) labels

unfoldable pub losers : Bool
unfolding two_keys two three four shows
losers =
    -- "Cow 2.1 has (40, 7), cow 2.2 has (40, 8), cow 2.3 has (41, 8)." "Shown here: 2.1 and 2.3."
    shows (three 0 (40 ∷ 7 ∷ []) (40 ∷ 8 ∷ []) (41 ∷ 8 ∷ [])) (first ∷ third ∷ [])
    -- the same with the keys exchanged
    && shows (three 0 (7 ∷ 40 ∷ []) (8 ∷ 40 ∷ []) (8 ∷ 41 ∷ [])) (first ∷ third ∷ [])
    -- a younger one that conflicts with 2.3, which is kept, is dropped
    && shows (four (40 ∷ 7 ∷ []) (40 ∷ 8 ∷ []) (41 ∷ 8 ∷ []) (41 ∷ 9 ∷ [])) (first ∷ third ∷ [])
    -- "Answer 9 still looks at all standing records.": with 2.1 and 2.2 alone (41, 8) is refused
    && eqb (insertion_number two_keys (two (40 ∷ 7 ∷ []) (40 ∷ 8 ∷ [])) (replicate delta_words 0) 1 (41 ∷ 8 ∷ [])) 9
    -- without 2.1, 2.2 is kept and 2.3 goes
    && shows (three 1 (40 ∷ 7 ∷ []) (40 ∷ 8 ∷ []) (41 ∷ 8 ∷ [])) (second ∷ [])
