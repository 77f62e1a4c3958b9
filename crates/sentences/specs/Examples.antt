-- Examples of sentences of document 01, each a test that fails were the sentence not so. Tables are words under the schema of the table of
-- cases, or under one of a single relation that references itself.
-- Assumes nothing.
use Rattle.std.specs.Prelude.{ℕ, ◌+◌, ◌*◌, ◌-◌, Bool, true, false, ◌&&◌, not, List, [], ◌∷◌, ◌++◌, eqb, length, replicate}
use Rattle.crdt.specs.Labels.{largest_counter, label_of}
use Rattle.crdt.specs.Flags.{largest_flag}
use Rattle.model.specs.Layout.{schema_words, header_words, record_words, delta_records, delta_words, clock_at, used_at, flag_at}
use Rattle.model.specs.Calls.{schema_number, table_number, start_number, start_table, merge_number, merge_table, marks_number, marks_count, marks_marks, walk_number, walk_given, walk_ended, walk_place, insertion_number, insertion_label, insertion_table, insertion_delta, update_number, update_table, update_delta, deletion_number, deletion_table, deletion_delta, Entry, shown_list}
use Rattle.model.specs.Cases.{herd, header, row, same_words, same_entries}

-- The groups 1.1 and 2.1, a record 3.1, an unknown label.
abbrev pub early : ℕ
early = label_of 1 1

abbrev pub late : ℕ
late = label_of 2 1

abbrev pub third : ℕ
third = label_of 3 1

abbrev pub unknown : ℕ
unknown = label_of 9 9

-- A delta buffer "all zero when a program first makes it", and one with old contents.
unfoldable pub buffer : List ℕ
buffer = replicate delta_words 0

unfoldable pub old_buffer : List ℕ
old_buffer = replicate delta_words 7

-- A table of capacity n as a start of replica r leaves it, on words that were not zero.
unfoldable pub fresh : ℕ → ℕ → List ℕ
fresh n r = start_table (replicate (header_words + record_words * n) 7) r

-- An entry of a group in the list.
abbrev pub group_entry : ℕ → ℕ → Entry
group_entry l name = record { relation = 1; label = l; values = name ∷ [] }

-- Groups with a name, each register stamped with its record's label.
unfoldable pub group_row : ℕ → ℕ → ℕ → ℕ → List ℕ
group_row next l flag name = row next 1 l flag (name ∷ []) (l ∷ [])

-- "A refusal changes no lent word, mark or place; label and shown count come back 0.": each call refuses here, and would write other words.
unfoldable pub refusals : Bool
refusals =
    let t = header 1 1 (1 ∷ []) ++ group_row 0 early 0 12 in
    let u = header 2 1 (1 ∷ []) ++ group_row 0 late 0 13 in
    let gone = header 1 1 (1 ∷ []) ++ group_row 0 early 1 12 in
    eqb (start_number t 0) 5 && same_words (start_table t 0) t
    && eqb (merge_number herd t u) 11 && same_words (merge_table herd t u) t
    && eqb (marks_number herd t (7 ∷ 7 ∷ [])) 1 && same_words (marks_marks herd t (7 ∷ 7 ∷ [])) (7 ∷ 7 ∷ []) && eqb (marks_count herd t (7 ∷ 7 ∷ [])) 0
    && eqb (walk_number herd t (1 ∷ []) 2) 1 && eqb (walk_place herd t (1 ∷ []) 2) 2 && eqb (walk_given herd t (1 ∷ []) 2) 0
    && eqb (insertion_number herd t old_buffer 1 (13 ∷ [])) 11 && eqb (insertion_label herd t old_buffer 1 (13 ∷ [])) 0
    && same_words (insertion_table herd t old_buffer 1 (13 ∷ [])) t && same_words (insertion_delta herd t old_buffer 1 (13 ∷ [])) old_buffer
    && eqb (update_number herd t old_buffer 1 2 13) 7 && same_words (update_table herd t old_buffer 1 2 13) t
    && same_words (update_delta herd t old_buffer 1 2 13) old_buffer
    && eqb (deletion_number herd gone old_buffer 1) 6 && same_words (deletion_table herd gone old_buffer 1) gone
    && same_words (deletion_delta herd gone old_buffer 1) old_buffer

-- "old contents are ignored": an insertion, an update and a deletion write the same delta into either buffer, and it is neither of them.
unfoldable pub buffers : Bool
buffers =
    let t = header 1 1 (1 ∷ []) ++ (group_row 0 early 0 12 ++ replicate record_words 0) in
    eqb (insertion_number herd t old_buffer 1 (13 ∷ [])) 0 && eqb (update_number herd t old_buffer 1 1 13) 0 && eqb (deletion_number herd t old_buffer 1) 0
    && same_words (insertion_delta herd t old_buffer 1 (13 ∷ [])) (header 2 1 (1 ∷ []) ++ (group_row 0 late 0 13 ++ replicate ((delta_records - 1) * record_words) 0))
    && same_words (insertion_delta herd t buffer 1 (13 ∷ [])) (insertion_delta herd t old_buffer 1 (13 ∷ []))
    && same_words (update_delta herd t buffer 1 1 13) (update_delta herd t old_buffer 1 1 13)
    && same_words (deletion_delta herd t buffer 1) (deletion_delta herd t old_buffer 1)

-- "Incomplete records are stored and merged, never shown. They arise when an update or deletion arrives before its insertion." Replica 1 inserts
-- a cow of tag 40 and then gives it tag 41. Another table takes the delta of the update: it holds one record, shows none, and a third table takes
-- that record from it. With the delta of the insertion the record is complete, and has the new tag.
unfoldable pub before_insertion : Bool
before_insertion =
    let made = insertion_table herd (fresh 1 1) buffer 2 (40 ∷ 0 ∷ []) in
    let insertion = insertion_delta herd (fresh 1 1) buffer 2 (40 ∷ 0 ∷ []) in
    let change = update_delta herd made buffer 1 1 41 in
    let holds = merge_table herd (fresh 2 2) change in
    let passed = merge_table herd (fresh 3 3) holds in
    let whole = merge_table herd passed insertion in
    let cow : List Entry = record { relation = 2; label = early; values = 41 ∷ 0 ∷ [] } ∷ [] in
    eqb (merge_number herd (fresh 2 2) change) 0 && eqb (table_number herd holds) 0 && eqb (used_at holds) 1 && same_entries (shown_list herd holds) []
    && eqb (merge_number herd (fresh 3 3) holds) 0 && eqb (used_at passed) 1 && same_entries (shown_list herd passed) []
    && eqb (merge_number herd passed insertion) 0 && eqb (used_at whole) 1 && same_entries (shown_list herd whole) cow

-- The same with a deletion: its flag is stored before the record is, and hides the record when it comes.
unfoldable pub deleted_before : Bool
deleted_before =
    let made = insertion_table herd (fresh 1 1) buffer 1 (12 ∷ []) in
    let insertion = insertion_delta herd (fresh 1 1) buffer 1 (12 ∷ []) in
    let gone = deletion_delta herd made buffer 1 in
    let holds = merge_table herd (fresh 2 2) gone in
    let whole = merge_table herd holds insertion in
    eqb (merge_number herd (fresh 2 2) gone) 0 && eqb (used_at holds) 1 && eqb (flag_at holds 1) 1 && same_entries (shown_list herd holds) []
    && eqb (merge_number herd holds insertion) 0 && eqb (used_at whole) 1 && eqb (flag_at whole 1) 1 && same_entries (shown_list herd whole) []
    && same_entries (shown_list herd (merge_table herd (fresh 2 2) insertion)) (group_entry early 12 ∷ [])

-- A schema of one relation, whose only field has kind k: 17 references the relation by abort, 33 by propagation.
unfoldable pub self_schema : ℕ → List ℕ
self_schema k = 1 ∷ 1 ∷ k ∷ replicate (schema_words - 3) 0

-- Two records of it, 1.1 that references 2.1, and 2.1 that references l.
unfoldable pub pair : ℕ → List ℕ
pair l = header 9 2 (1 ∷ []) ++ (row 2 1 early 0 (late ∷ []) (early ∷ []) ++ row 0 1 late 0 (l ∷ []) (late ∷ []))

-- "Two records that reference each other may thus stay.": both are shown, under either kind; with an unknown target of the second neither is.
unfoldable pub each_other : Bool
each_other =
    eqb (table_number (self_schema 17) (pair early)) 0 && eqb (length (shown_list (self_schema 17) (pair early))) 2
    && eqb (table_number (self_schema 33) (pair early)) 0 && eqb (length (shown_list (self_schema 33) (pair early))) 2
    && eqb (length (shown_list (self_schema 33) (pair unknown))) 0

-- "A step 3 winner lost in step 4 does not bring its loser back.": the cow 1.1 in an unknown group, and the cow 2.1 of the same tag in none.
-- Neither is shown. Without the winner, or with another tag, the loser is.
unfoldable pub loser : ℕ → List ℕ
loser tag = header 9 2 (0 ∷ 1 ∷ []) ++ (row 2 2 early 0 (40 ∷ unknown ∷ []) (early ∷ early ∷ []) ++ row 0 2 late 0 (tag ∷ 0 ∷ []) (late ∷ late ∷ []))

unfoldable pub winner_lost : Bool
winner_lost =
    let cow : List Entry = record { relation = 2; label = late; values = 41 ∷ 0 ∷ [] } ∷ [] in
    let alone : List Entry = record { relation = 2; label = late; values = 40 ∷ 0 ∷ [] } ∷ [] in
    eqb (table_number herd (loser 40)) 0 && same_entries (shown_list herd (loser 40)) [] && same_entries (shown_list herd (loser 41)) cow
    && same_entries (shown_list herd (header 9 1 (0 ∷ 1 ∷ []) ++ row 0 2 late 0 (40 ∷ 0 ∷ []) (late ∷ late ∷ []))) alone

-- "Capacities may differ.": a table of one record into one of three and back again; a third record is too many for the first and not for the second.
unfoldable pub capacities : Bool
capacities =
    let small = header 1 1 (1 ∷ []) ++ group_row 0 early 0 12 in
    let large = header 2 0 [] ++ replicate (3 * record_words) 0 in
    let other = header 2 1 (1 ∷ []) ++ (group_row 0 late 0 13 ++ replicate (2 * record_words) 0) in
    eqb (merge_number herd large small) 0 && same_entries (shown_list herd (merge_table herd large small)) (group_entry early 12 ∷ [])
    && eqb (length (merge_table herd large small)) (length large)
    && eqb (merge_number herd small large) 0 && same_entries (shown_list herd (merge_table herd small large)) (group_entry early 12 ∷ [])
    && eqb (length (merge_table herd small large)) (length small) && eqb (clock_at (merge_table herd small large)) 2
    && eqb (merge_number herd small other) 11 && eqb (merge_number herd other small) 0
    && same_entries (shown_list herd (merge_table herd other small)) (group_entry early 12 ∷ group_entry late 13 ∷ [])

-- "used = N − 1 inserts, N gives 11": N = 2, with one record and then with two.
unfoldable pub last_room : Bool
last_room =
    let t = header 1 1 (1 ∷ []) ++ (group_row 0 early 0 12 ++ replicate record_words 0) in
    let full = insertion_table herd t buffer 1 (13 ∷ []) in
    eqb (table_number herd t) 0 && eqb (insertion_number herd t buffer 1 (13 ∷ [])) 0 && eqb (table_number herd full) 0 && eqb (used_at full) 2
    && same_entries (shown_list herd full) (group_entry early 12 ∷ group_entry late 13 ∷ []) && eqb (insertion_number herd full buffer 1 (14 ∷ [])) 11

-- "N = 0 starts and shows nothing": 16 words, which the table check then accepts, and no mark.
unfoldable pub no_room : Bool
no_room =
    let t : List ℕ = replicate header_words 7 in
    eqb (start_number t 5) 0 && same_words (start_table t 5) (5 ∷ replicate (header_words - 1) 0) && eqb (table_number herd (start_table t 5)) 0
    && eqb (marks_number herd (start_table t 5) []) 0 && eqb (marks_count herd (start_table t 5) []) 0 && same_words (marks_marks herd (start_table t 5) []) []
    && eqb (walk_number herd (start_table t 5) [] 0) 0 && walk_ended herd (start_table t 5) [] 0 && same_entries (shown_list herd (start_table t 5)) []

-- "clock 2^40 − 2 inserts": the new label has the largest counter, and the next insertion gives 12.
unfoldable pub last_label : Bool
last_label =
    let t = header (largest_counter - 1) 0 [] ++ replicate (2 * record_words) 0 in
    let after = insertion_table herd t buffer 1 (12 ∷ []) in
    eqb (table_number herd t) 0 && eqb (insertion_number herd t buffer 1 (12 ∷ [])) 0
    && eqb (insertion_label herd t buffer 1 (12 ∷ [])) (label_of largest_counter 1) && eqb (clock_at after) largest_counter && eqb (table_number herd after) 0
    && same_entries (shown_list herd after) (group_entry (label_of largest_counter 1) 12 ∷ []) && eqb (insertion_number herd after buffer 1 (13 ∷ [])) 12

-- "flag 65,534 may be deleted": the flag becomes the largest, in the table and in the delta, and the record is hidden.
unfoldable pub last_flag : Bool
last_flag =
    let t = header 1 1 (1 ∷ []) ++ group_row 0 early (largest_flag - 1) 12 in
    let after = deletion_table herd t buffer 1 in
    eqb (table_number herd t) 0 && same_entries (shown_list herd t) (group_entry early 12 ∷ []) && eqb (deletion_number herd t buffer 1) 0
    && eqb (flag_at after 1) largest_flag && eqb (flag_at (deletion_delta herd t buffer 1) 1) largest_flag && eqb (table_number herd after) 0
    && same_entries (shown_list herd after) []

-- "merging a copy of itself changes no word": positions that are not in list order, an odd flag, an incomplete record, and room left.
unfoldable pub copy_of_itself : Bool
copy_of_itself =
    let t = header 3 3 (2 ∷ []) ++ (group_row 3 late 1 12 ++ (group_row 1 early 0 13 ++ (row 0 1 third 2 [] [] ++ replicate record_words 0))) in
    eqb (table_number herd t) 0 && eqb (merge_number herd t t) 0 && same_words (merge_table herd t t) t

-- "an end of the list walk is answered only past the last shown record": of records at positions 2, 1, 3 in list order the first and the third are
-- shown. The walk gives 2 from place 0, 3 from place 2 and from the hidden record at place 1, and ends at place 3 alone.
unfoldable pub walk_end : Bool
walk_end =
    let t = header 3 3 (2 ∷ []) ++ (group_row 3 late 1 12 ++ (group_row 1 early 0 13 ++ group_row 0 third 0 14)) in
    let m = marks_marks herd t (7 ∷ 7 ∷ 7 ∷ []) in
    eqb (marks_number herd t (7 ∷ 7 ∷ 7 ∷ [])) 0 && same_words m (0 ∷ 1 ∷ 1 ∷ [])
    && eqb (walk_number herd t m 0) 0 && eqb (walk_given herd t m 0) 2 && eqb (walk_given herd t m 2) 3 && eqb (walk_given herd t m 1) 3
    && not (walk_ended herd t m 0) && not (walk_ended herd t m 2) && not (walk_ended herd t m 1)
    && eqb (walk_number herd t m 3) 0 && eqb (walk_given herd t m 3) 0 && walk_ended herd t m 3
