-- Examples of twelve fields (document 02, F-7), as data. Figures are written out here, as the request has them.
-- Assumes nothing.
use Rattle.std.specs.Prelude.{ℕ, zero, suc, ◌+◌, ◌*◌, Bool, cond, ◌&&◌, List, [], ◌∷◌, ◌++◌, map, eqb, length, set, take, replicate}
use Rattle.crdt.specs.Labels.{label_of}
use Rattle.model.specs.Layout.{header_words, record_words, delta_words, word, used_at, flag_at, value_at, stamp_at}
use Rattle.model.specs.Lists.{listed}
use Rattle.model.specs.Calls.{schema_number, table_number, values_part, values_first, merge_table, merge_changed, insertion_number, insertion_table, insertion_delta, update_number, update_table, update_delta, deletion_number, Entry, shown_list}
use Rattle.model.specs.Cases.{herd, header, row, same_words}

-- Relation 1, cows, with a tag; relation 2, treatments: a field count, twelve kinds and two masks; nothing else.
schema_with : ℕ → List ℕ → ℕ → ℕ → List ℕ
schema_with count kinds key1 key2 =
    2 ∷ (1 ∷ 1 ∷ (replicate 11 0 ++ (1 ∷ 0 ∷ 0 ∷ (count ∷ (kinds ++ (key1 ∷ key2 ∷ 0 ∷ replicate 96 0))))))

-- Treatments with eleven plain values and a cow in field 12, and with a cow in each field; the mask of fields 9 to 12.
abbrev last_key : ℕ
last_key = 3840

by_last : ℕ → List ℕ
by_last kind = replicate 11 1 ++ (kind ∷ [])

aborts : List ℕ
unfolding schema_with by_last
aborts = schema_with 12 (by_last 17) last_key 0

propagates : List ℕ
unfolding schema_with by_last
propagates = schema_with 12 (by_last 33) 0 0

every_field : List ℕ
unfolding schema_with
every_field = schema_with 12 (replicate 12 17) 0 0

-- "F may be 1 to 12", and a key may name any of them.
unfoldable pub wide_schemas : Bool
unfolding schema_with by_last aborts propagates every_field
wide_schemas =
    eqb (schema_number aborts) 0 && eqb (schema_number propagates) 0 && eqb (schema_number every_field) 0
    && eqb (schema_number (schema_with 13 (by_last 17) 0 0)) 2 && eqb (schema_number (schema_with 11 (by_last 17) 0 0)) 2
    && eqb (schema_number (schema_with 11 (replicate 11 1 ++ (0 ∷ [])) 1024 0)) 0 && eqb (schema_number (schema_with 11 (replicate 11 1 ++ (0 ∷ [])) 2048 0)) 2
    && eqb (schema_number (schema_with 12 (by_last 17) 1 2048)) 0 && eqb (schema_number (schema_with 12 (by_last 17) 4096 0)) 2
    && eqb (schema_number (schema_with 12 (by_last 17) 3968 0)) 2

-- Two cows and two treatments, with room for one record more.
abbrev first : ℕ
first = label_of 1 1

abbrev second : ℕ
second = label_of 2 1

abbrev third : ℕ
third = label_of 3 1

abbrev fourth : ℕ
fourth = label_of 4 1

cow : ℕ → ℕ → ℕ → List ℕ
unfolding row
cow next l flag = row next 1 l flag (l ∷ []) (l ∷ [])

treatment : ℕ → ℕ → ℕ → List ℕ → List ℕ
unfolding row
treatment next l flag values = row next 2 l flag values (replicate 12 l)

barn : ℕ → ℕ → List ℕ → List ℕ → List ℕ
unfolding header cow treatment
barn f g x y =
    header 4 4 (1 ∷ 3 ∷ []) ++ (cow 2 first f ++ (cow 0 second g ++ (treatment 4 third 0 x ++ (treatment 0 fourth 0 y ++ replicate record_words 0))))

-- Eight values, three more, and a cow.
given : ℕ → ℕ → ℕ → List ℕ
given n m l = n ∷ 2 ∷ 3 ∷ 4 ∷ 5 ∷ 6 ∷ 7 ∷ 8 ∷ 9 ∷ 10 ∷ m ∷ l ∷ []

buffer : List ℕ
buffer = replicate delta_words 0

-- A table that shows these labels.
unfoldable pub shows : List ℕ → List ℕ → List ℕ → Bool
shows s t labels = eqb (table_number s t) 0 && same_words (map (λ (e : Entry). e.label) (shown_list s t)) labels

-- A field behind the eighth is a field as any other.
unfoldable pub last_fields : Bool
unfolding schema_with by_last aborts propagates cow treatment barn given buffer shows
last_fields =
    let apart = barn 0 0 (given 1 11 first) (given 1 12 first) in
    let alike = barn 0 0 (given 1 11 first) (given 2 11 first) in
    -- the key of fields 9 to 12
    shows aborts apart (first ∷ second ∷ third ∷ fourth ∷ []) && shows aborts alike (first ∷ second ∷ third ∷ [])
    && eqb (insertion_number aborts apart buffer 2 (given 5 12 first)) 9 && eqb (update_number aborts apart buffer 4 11 11) 9
    && eqb (insertion_number aborts apart buffer 2 (given 5 12 second)) 0
    -- a cow in field 12, by abort and by propagation
    && eqb (deletion_number aborts apart buffer 1) 10 && shows aborts (barn 1 0 (given 1 11 first) (given 1 12 first)) (first ∷ second ∷ third ∷ fourth ∷ [])
    && shows propagates (barn 1 0 (given 1 11 first) (given 1 12 second)) (second ∷ fourth ∷ [])
    && eqb (insertion_number propagates (barn 1 0 (given 1 11 second) (given 1 12 second)) buffer 2 (given 5 13 first)) 8
    -- an update of field 12 redoes the new target
    && eqb (update_number aborts (barn 1 0 (given 1 11 first) (given 1 12 second)) buffer 4 12 first) 0
    && eqb (flag_at (update_table aborts (barn 1 0 (given 1 11 first) (given 1 12 second)) buffer 4 12 first) 1) 2
    && eqb (used_at (update_delta aborts (barn 1 0 (given 1 11 first) (given 1 12 second)) buffer 4 12 first)) 2
    -- a field 13 there is not
    && eqb (update_number aborts apart buffer 4 12 second) 0 && eqb (update_number aborts apart buffer 4 13 second) 7

-- "records become 28 words (four, twelve values, twelve stamps)": where they stand, that they are joined, and that those of no field are zero.
unfoldable pub wide_words : Bool
unfolding schema_with by_last aborts cow treatment barn given
wide_words =
    let t = barn 0 0 (given 1 11 first) (given 1 12 first) in
    let p = header_words + 28 * 3 in
    same_words (values_part t 4) (given 1 12 first) && eqb (values_first t 4) (p + 4) && eqb (word t (p + 15)) first && eqb (word t (p + 16)) fourth
    && eqb (value_at t 4 12) first && eqb (stamp_at t 4 1) fourth && eqb (stamp_at t 4 12) fourth && eqb (word t (p + 27)) fourth && eqb (word t (p + 28)) 0
    -- a newer register in field 12 alone
    && same_words (merge_table aborts t (set (set t (p + 15) second) (p + 27) (fourth + 1))) (set (set t (p + 15) second) (p + 27) (fourth + 1))
    && eqb (merge_changed aborts t (set (set t (p + 15) second) (p + 27) (fourth + 1))) 1
    -- a cow has one field: values and stamps behind it are zero
    && eqb (table_number aborts (set t (header_words + 15) 1)) 3 && eqb (table_number aborts (set t (header_words + 27) first)) 3

-- "deltas have N = 13": twelve cows, struck off and held by a treatment that names each of them, are redone by another that does.
cows : List ℕ
cows = listed 12 (λ n. label_of n 1)

struck : ℕ → List ℕ
unfolding cow
struck zero = []
struck (suc n) = struck n ++ cow (cond (eqb n 11) 0 (n + 2)) (label_of (suc n) 1) 1

stable : List ℕ
unfolding header treatment cows struck
stable = header 13 13 (1 ∷ 13 ∷ []) ++ (struck 12 ++ (treatment 0 (label_of 13 1) 0 cows ++ replicate record_words 0))

unfoldable pub twelve_redone : Bool
unfolding schema_with every_field cows struck stable buffer shows
twelve_redone =
    let d = insertion_delta every_field stable buffer 2 cows in
    eqb (table_number every_field stable) 0 && eqb (insertion_number every_field stable buffer 2 cows) 0
    && eqb (length d) 380 && eqb (used_at d) 13 && eqb (table_number every_field d) 0
    && same_words (listed 13 (flag_at d)) (replicate 12 2 ++ (0 ∷ []))
    && shows every_field (insertion_table every_field stable buffer 2 cows) (cows ++ (label_of 13 1 ∷ label_of 14 1 ∷ []))

-- Words of the old figures: schemas of 97 and deltas of 196 words, tables of 16 + 20N. An old table has the length of a new one exactly if N is a
-- multiple of 7; then its words tell, and one without records is well-formed.
unfoldable pub old_words : Bool
unfolding header
old_words =
    eqb (schema_number (take 97 herd)) 1
    && eqb (insertion_number herd (header 0 0 [] ++ replicate record_words 0) (replicate 196 0) 1 (12 ∷ [])) 1
    && eqb (table_number herd (header 0 0 [] ++ replicate (20 * 8) 0)) 1 && eqb (table_number herd (header 0 0 [] ++ replicate (20 * 7) 0)) 0
    && eqb (table_number herd (header 1 1 (1 ∷ []) ++ (0 ∷ 1 ∷ first ∷ 0 ∷ 12 ∷ 0 ∷ 0 ∷ 0 ∷ 0 ∷ 0 ∷ 0 ∷ 0 ∷ first ∷ replicate (7 + 20 * 6) 0))) 3
