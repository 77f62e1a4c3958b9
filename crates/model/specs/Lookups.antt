-- Examples of a record looked up by relation and label (document 02, F-6), as data.
-- Assumes nothing.
use Rattle.std.specs.Prelude.{ℕ, ◌+◌, ◌-◌, Bool, ◌&&◌, not, List, [], ◌∷◌, ◌++◌, eqb, set, replicate}
use Rattle.crdt.specs.Labels.{label_of, largest_counter}
use Rattle.crdt.specs.Flags.{largest_flag}
use Rattle.model.specs.Layout.{header_words, most_relations, first_words, zero_word, replica_word, clock_word, used_word, record_words, base}
use Rattle.model.specs.Records.{label_span, place}
use Rattle.model.specs.Calls.{table_number}
use Rattle.model.specs.Lookup.{lookup_number, lookup_known, lookup_index}
use Rattle.model.specs.Cases.{herd, header, row}

-- The group 1.1 and the cows 2.1, 4.1 and 6.1, under the schema of the cases.
abbrev group : ℕ
group = label_of 1 1

abbrev oldest : ℕ
oldest = label_of 2 1

abbrev middle : ℕ
middle = label_of 4 1

abbrev youngest : ℕ
youngest = label_of 6 1

-- A cow, whole or with no stamps.
cow : ℕ → ℕ → ℕ → List ℕ
unfolding row
cow next l flag = row next 2 l flag (40 ∷ group ∷ []) (l ∷ l ∷ [])

bare : ℕ → ℕ → List ℕ
unfolding row
bare next l = row next 2 l 0 [] []

-- The herd: the chain of the cows goes from record 2 to record 4 and on to record 3; record 5 is free. The group, the three cows, and the
-- header, as they are told.
barn : List ℕ → List ℕ → List ℕ → List ℕ → List ℕ → List ℕ
barn h a b c d = h ++ (a ++ (b ++ (c ++ (d ++ replicate record_words 0))))

heads : List ℕ
unfolding header
heads = header 9 4 (1 ∷ 2 ∷ [])

groups : List ℕ
unfolding row
groups = row 0 1 group 0 (12 ∷ []) (group ∷ [])

-- The table whose middle cow has these words, and the one whose youngest cow has.
with_middle : List ℕ → List ℕ
unfolding barn heads groups cow
with_middle x = barn heads groups (cow 4 oldest 0) (cow 0 youngest 0) x

with_youngest : List ℕ → List ℕ
unfolding barn heads groups cow
with_youngest x = barn heads groups (cow 4 oldest 0) x (cow 3 middle 0)

good : List ℕ
unfolding with_middle cow
good = with_middle (cow 3 middle 0)

-- The youngest cow leads back to the oldest.
unfoldable pub back : List ℕ
unfolding with_youngest cow
back = with_youngest (cow 2 youngest 0)

-- Known at an index, not known, and refused.
at : List ℕ → ℕ → ℕ → ℕ → Bool
at t r l i = eqb (lookup_number herd t r l) 0 && lookup_known herd t r l && eqb (lookup_index herd t r l) i

none : List ℕ → ℕ → ℕ → Bool
none t r l = eqb (lookup_number herd t r l) 0 && not (lookup_known herd t r l) && eqb (lookup_index herd t r l) 0

refuses : List ℕ → List ℕ → ℕ → ℕ → ℕ → Bool
refuses s t r l n = eqb (lookup_number s t r l) n && not (lookup_known s t r l) && eqb (lookup_index s t r l) 0

-- A table whose middle cow is damaged: looked for, passed, and just above it she is read; below her she is too, as the larger one; up to the cow
-- before her she is not.
damages : List ℕ → Bool
unfolding with_middle at refuses
damages x =
    let t = with_middle x in
    refuses herd t 2 middle 3 && refuses herd t 2 youngest 3 && refuses herd t 2 (label_of 3 1) 3 && at t 2 oldest 2 && refuses herd t 2 (middle + 1) 3

-- Yes and no.
unfoldable pub lookups : Bool
unfolding barn heads groups cow bare with_middle with_youngest good at none refuses damages
lookups =
    -- each record, by its relation
    eqb (table_number herd good) 0 && at good 1 group 1 && at good 2 oldest 2 && at good 2 middle 4 && at good 2 youngest 3
    -- below the first, between two, above all; an empty chain; a label of another relation
    && none good 2 (label_of 1 9) && none good 2 (label_of 5 1) && none good 2 (label_of 9 9) && none good 3 oldest && none good 1 oldest
    -- what is no label: 0, no replica, no counter, and a number that is the key of a cow when it is taken for one of the groups
    && none good 2 0 && none good 2 (oldest - 1) && none good 2 5 && none good 1 (label_span + oldest)
    && eqb (place 1 (label_span + oldest)) (place 2 oldest)
    -- stored, shown or not: struck off, and with no stamps
    && at (with_middle (cow 3 middle 1)) 2 middle 4 && at (with_middle (bare 3 middle)) 2 middle 4
    -- no records at all
    && none (header 0 0 []) 1 group

-- "3 exactly if": what is read, and what is not.
unfoldable pub damages_seen : Bool
unfolding barn heads groups cow bare with_middle with_youngest good back at none refuses damages
damages_seen =
    -- "a rule of its own words": a flag, a stamp that is no label, a value under stamp none; "of another relation"; "doesn't raise the label": equal
    -- and smaller; "a counter above the clock": of the label, of a stamp, of a reference; "a next above used"
    damages (cow 3 middle (largest_flag + 1)) && damages (row 3 2 middle 0 (40 ∷ []) (7 ∷ [])) && damages (row 3 2 middle 0 (40 ∷ []) [])
    && damages (row 3 1 middle 0 (40 ∷ []) (middle ∷ []))
    && damages (cow 3 oldest 0) && damages (cow 3 (label_of 1 1) 0)
    && damages (row 3 2 (label_of 10 1) 0 [] []) && damages (row 3 2 middle 0 (40 ∷ []) (label_of 10 1 ∷ [])) && damages (row 3 2 middle 0 (0 ∷ label_of 10 1 ∷ []) (middle ∷ middle ∷ []))
    && damages (cow 5 middle 0)
    -- behind the last record read it is not seen: at the label, or at a larger one
    && at (with_youngest (cow 0 youngest (largest_flag + 1))) 2 middle 4 && none (with_youngest (cow 0 youngest (largest_flag + 1))) 2 (label_of 3 1)
    && refuses herd (with_youngest (cow 0 youngest (largest_flag + 1))) 2 (label_of 5 1) 3
    -- nor on another chain, nor above the used records
    && at (set good (base 1) 9) 2 youngest 3 && at (set good (base 5) 9) 2 youngest 3
    -- a chain that comes back to a record
    && at back 2 youngest 3 && refuses herd back 2 (label_of 7 1) 3
    -- label 0: the first record is read
    && refuses herd (barn heads groups (cow 4 oldest (largest_flag + 1)) (cow 0 youngest 0) (cow 3 middle 0)) 2 0 3

-- The order of the checks, and each part of the header.
unfoldable pub refusals_ordered : Bool
unfolding barn heads groups cow with_middle good at refuses
refusals_ordered =
    -- "a header word breaks its rule": replica, clock, used, word 3, the last word; "a first index passes used", of another relation; "a chain above R"
    refuses herd (set good replica_word 0) 2 oldest 3 && refuses herd (set good clock_word (largest_counter + 1)) 2 oldest 3 && refuses herd (set good used_word 6) 2 oldest 3
    && refuses herd (set good zero_word 1) 2 oldest 3 && refuses herd (set good (header_words - 1) 1) 2 oldest 3
    && refuses herd (set good first_words 5) 2 oldest 3 && refuses herd (set good (first_words + most_relations - 1) 1) 2 oldest 3
    -- the header comes before the relation; no record is read for a relation that is not 1 to R
    && refuses herd (set good replica_word 0) 0 oldest 3 && refuses herd (set good replica_word 0) 4 oldest 3
    && refuses herd good 0 oldest 5 && refuses herd good 4 oldest 5 && refuses herd (with_middle (cow 5 middle 9)) 4 youngest 5
    -- the schema before the table, and lengths before both
    && refuses (set herd 0 0) (set good replica_word 0) 0 oldest 2 && refuses (set herd 0 0) [] 0 oldest 1 && refuses [] (set good replica_word 0) 0 oldest 1
