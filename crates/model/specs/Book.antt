-- The herd book (document 02, F-2): one fixed schema, and calls above the library, "each as the library's call does and with its answers". A call that
-- enters a record is the library's insertion under this schema, and needs no definition of its own.
-- Assumes nothing.
use Rattle.std.specs.Prelude.{ℕ, ◌+◌, ◌*◌, ◌-◌, Bool, cond, ◌&&◌, not, List, [], ◌∷◌, ◌++◌, eqb, length, replicate}
use Rattle.crdt.specs.Labels.{is_label}
use Rattle.model.specs.Layout.{fields, most_relations, block_words, relation_at}
use Rattle.model.specs.Lists.{check, lowest}
use Rattle.model.specs.Schemas.{plain, abort_kinds, propagation_kinds, schema_of}
use Rattle.model.specs.Records.{place, has, in_order, position}
use Rattle.model.specs.Tables.{decode}
use Rattle.model.specs.WellFormed.{well_formed}
use Rattle.model.specs.Shown.{shown}
use Rattle.model.specs.Edits.{Edit}
use Rattle.model.specs.Calls.{table_length, bad_index, done, edit_number, edit_table, edit_delta, update_of, deletion_of}
use Rattle.model.specs.Cases.{pad}

-- "groups, cows, robots, milkings, cleanings and treatments under one fixed schema, relations 1 to 6 in that order"
abbrev pub groups : ℕ
groups = 1

abbrev pub cows : ℕ
cows = 2

abbrev pub robots : ℕ
robots = 3

abbrev pub milkings : ℕ
milkings = 4

abbrev pub cleanings : ℕ
cleanings = 5

abbrev pub treatments : ℕ
treatments = 6

-- References.
abbrev by_abort : ℕ → ℕ
by_abort r = abort_kinds + r

abbrev by_propagation : ℕ → ℕ
by_propagation r = propagation_kinds + r

-- A block of the schema: the kinds of the fields and the two key masks; bit 0 is field 1.
unfoldable pub book_block : List ℕ → ℕ → ℕ → List ℕ
unfolding pad
book_block kinds key1 key2 = length kinds ∷ (pad fields kinds ++ (key1 ∷ key2 ∷ 0 ∷ []))

-- "A group and a robot have one field, a number, which is their key."
numbered : List ℕ
unfolding book_block
numbered = book_block (plain ∷ []) 1 0

-- "A cow has ear tag and transponder, each a key, and may name her group by abort."
cow_block : List ℕ
unfolding book_block
cow_block = book_block (plain ∷ plain ∷ by_abort groups ∷ []) 1 2

-- "A milking names cow by propagation and robot by abort, with grams, tenths of a degree and minute."
milking_block : List ℕ
unfolding book_block
milking_block = book_block (by_propagation cows ∷ by_abort robots ∷ plain ∷ plain ∷ plain ∷ []) 0 0

-- "A cleaning names its robot by abort with start and end minute."
cleaning_block : List ℕ
unfolding book_block
cleaning_block = book_block (by_abort robots ∷ plain ∷ plain ∷ []) 0 0

-- "A treatment names its cow by propagation, with first and last withheld minute."
treatment_block : List ℕ
unfolding book_block
treatment_block = book_block (by_propagation cows ∷ plain ∷ plain ∷ []) 0 0

unfoldable pub book : List ℕ
unfolding numbered cow_block milking_block cleaning_block treatment_block
book =
    treatments
    ∷ (numbered ++ (cow_block ++ (numbered ++ (milking_block ++ (cleaning_block ++ (treatment_block ++ replicate ((most_relations - treatments) * block_words) 0))))))

-- "with 6 also for a record of another kind": an edit of record i, which is to be of the relation r.
unfoldable pub of_kind : ℕ → List ℕ → ℕ → Edit → Edit
of_kind r own i e =
    record { checks = check 6 (not (eqb (relation_at own i) r)) ∷ e.checks; changed = e.changed; clock = e.clock; label = e.label }

-- "one changes a field"
unfoldable pub change_of : ℕ → List ℕ → ℕ → ℕ → ℕ → Edit
change_of r own i f new = of_kind r own i (update_of book own i f new)

unfoldable pub change_number : ℕ → List ℕ → List ℕ → ℕ → ℕ → ℕ → ℕ
change_number r own delta i f new = edit_number (bad_index own i) book own delta (change_of r own i f new)

unfoldable pub change_table : ℕ → List ℕ → List ℕ → ℕ → ℕ → ℕ → List ℕ
change_table r own delta i f new = edit_table (change_number r own delta i f new) own (change_of r own i f new)

unfoldable pub change_delta : ℕ → List ℕ → List ℕ → ℕ → ℕ → ℕ → List ℕ
change_delta r own delta i f new = edit_delta (change_number r own delta i f new) own delta (change_of r own i f new)

-- "and one strikes off"
unfoldable pub strike_of : ℕ → List ℕ → ℕ → Edit
strike_of r own i = of_kind r own i (deletion_of book own i)

unfoldable pub strike_number : ℕ → List ℕ → List ℕ → ℕ → ℕ
strike_number r own delta i = edit_number (bad_index own i) book own delta (strike_of r own i)

unfoldable pub strike_table : ℕ → List ℕ → List ℕ → ℕ → List ℕ
strike_table r own delta i = edit_table (strike_number r own delta i) own (strike_of r own i)

unfoldable pub strike_delta : ℕ → List ℕ → List ℕ → ℕ → List ℕ
strike_delta r own delta i = edit_delta (strike_number r own delta i) own delta (strike_of r own i)

-- "One more gives, of a table and a label, the index of the shown milking with that label, or 0 if the library shows none and in a refusal, with
-- answers 1 and 3." A number that is no label is the label of no milking; without the test a number past the labels would be another relation's key.
unfoldable pub find_number : List ℕ → ℕ
find_number t = lowest (check 1 (not (table_length t)) ∷ check 3 (not (well_formed book t)) ∷ [])

unfoldable pub is_shown : List ℕ → ℕ → ℕ → Bool
is_shown t r l = is_label l && has (shown (schema_of book) (in_order (decode t).records)) (place r l)

unfoldable pub find_index : List ℕ → ℕ → ℕ
find_index t l = done (find_number t) (cond (is_shown t milkings l) (position (place milkings l) (decode t).records) 0) 0
