-- Every call over the words lent to it: the answer's number, the values handed back, and every lent word afterwards (document 01, "What a call
-- hands back"). s is the schema, t and own a table. "Checks run in number order; the lowest that applies is the answer."
-- "A refusal changes no lent word, mark or place; label and shown count come back 0."
-- Assumes nothing.
use Rattle.std.specs.Prelude.{ℕ, zero, suc, ◌+◌, ◌-◌, ◌%◌, Bool, false, cond, ◌||◌, ◌&&◌, not, List, [], ◌∷◌, ◌++◌, map, eqb, ltb, leb, length, set, take, drop, replicate}
use Rattle.crdt.specs.Labels.{is_replica}
use Rattle.model.specs.Layout.{fields, schema_words, header_words, head_words, record_words, most_records, delta_words, replica_word, base, capacity_of, used_at, field_count, relation_at, label_at, value_at}
use Rattle.model.specs.Lists.{listed, Check, check, lowest}
use Rattle.model.specs.Schemas.{broken, schema_of}
use Rattle.model.specs.Records.{Rec, has, in_order, least_above, position}
use Rattle.model.specs.Tables.{Table, decode, encode}
use Rattle.model.specs.WellFormed.{well_formed}
use Rattle.model.specs.Shown.{shown}
use Rattle.model.specs.Merge.{merged, too_many, changes}
use Rattle.model.specs.Edits.{Edit, delta_of, edited_by, insertion, update, deletion, record_at}

-- Lengths (F-7): 129 words, 16 + 28N words with "N from 0 to 4,096", 380 words; and marks "one byte per record, N bytes".
unfoldable pub schema_length : List ℕ → Bool
schema_length s = eqb (length s) schema_words

unfoldable pub table_length : List ℕ → Bool
table_length t = leb header_words (length t) && eqb ((length t - header_words) % record_words) 0 && leb (capacity_of t) most_records

unfoldable pub delta_length : List ℕ → Bool
delta_length d = eqb (length d) delta_words

unfoldable pub marks_length : List ℕ → List ℕ → Bool
marks_length t m = eqb (length m) (capacity_of t)

-- "a record index is 0, above used or above N"
unfoldable pub bad_index : List ℕ → ℕ → Bool
bad_index t i = eqb i 0 || ltb (used_at t) i || ltb (capacity_of t) i

-- An accepted call, by its number.
abbrev pub done : {A : Type 0} → ℕ → A → A → A
done n a b = cond (eqb n 0) a b

-- Schema check.
unfoldable pub schema_number : List ℕ → ℕ
schema_number s = lowest (check 1 (not (schema_length s)) ∷ check 2 (broken s) ∷ [])

-- Table check.
unfoldable pub table_number : List ℕ → List ℕ → ℕ
table_number s t =
    lowest (check 1 (not (schema_length s && table_length t)) ∷ check 2 (broken s) ∷ check 3 (not (well_formed s t)) ∷ [])

-- "Starting a table zeroes it and writes the replica number."
unfoldable pub start_number : List ℕ → ℕ → ℕ
start_number t r = lowest (check 1 (not (table_length t)) ∷ check 5 (not (is_replica r)) ∷ [])

unfoldable pub start_table : List ℕ → ℕ → List ℕ
start_table t r = done (start_number t r) (set (replicate (length t) 0) replica_word r) t

-- "Asked for a record's values by index, the library gives back that part of the lent table. This call tests only what answer 1 names;
-- where that applies it gives an empty part."
unfoldable pub values_number : List ℕ → ℕ → ℕ
values_number t i = lowest (check 1 (not (table_length t) || bad_index t i) ∷ [])

unfoldable pub values_part : List ℕ → ℕ → List ℕ
values_part t i = done (values_number t i) (take fields (drop (base i + head_words) t)) []

-- The word of the table at which that part begins; 0 in a refusal.
unfoldable pub values_first : List ℕ → ℕ → ℕ
values_first t i = done (values_number t i) (base i + head_words) 0

-- Merge of another table into the own.
unfoldable pub merge_number : List ℕ → List ℕ → List ℕ → ℕ
merge_number s own other =
    lowest
    (check 1 (not (schema_length s && table_length own && table_length other)) ∷ check 2 (broken s)
    ∷ check 3 (not (well_formed s own)) ∷ check 4 (not (well_formed s other))
    ∷ check 11 (too_many (decode own) (decode other)) ∷ [])

unfoldable pub merge_table : List ℕ → List ℕ → List ℕ → List ℕ
merge_table s own other = done (merge_number s own other) (encode (merged (decode own) (decode other))) own

-- "counted from the table before and after, and is 0 in a refused merge" (document 02, F-1)
unfoldable pub merge_changed : List ℕ → List ℕ → List ℕ → ℕ
merge_changed s own other = done (merge_number s own other) (changes (decode own).records (decode (merge_table s own other)).records) 0

-- "Marks are one byte per record, N bytes, 1 shown and 0 not."
unfoldable pub marks_of : List ℕ → List ℕ → List ℕ
marks_of s t =
    let v = decode t in
    let l = shown (schema_of s) (in_order v.records) in
    map (λ (x : Rec). cond (has l x.key) 1 0) v.records ++ replicate (v.capacity - length v.records) 0

unfoldable pub marks_number : List ℕ → List ℕ → List ℕ → ℕ
marks_number s t m =
    lowest
    (check 1 (not (schema_length s && table_length t && marks_length t m)) ∷ check 2 (broken s)
    ∷ check 3 (not (well_formed s t)) ∷ [])

unfoldable pub marks_count : List ℕ → List ℕ → List ℕ → ℕ
marks_count s t m = done (marks_number s t m) (length (shown (schema_of s) (in_order (decode t).records))) 0

unfoldable pub marks_marks : List ℕ → List ℕ → List ℕ → List ℕ
marks_marks s t m = done (marks_number s t m) (marks_of s t) m

-- "gives the next record in list order whose mark is 1, and takes any other mark for 0": of the records, those so marked.
unfoldable pub marked : List ℕ → List Rec → List Rec
marked [] xs = []
marked (m ∷ ms) [] = []
marked (m ∷ ms) (x ∷ xs) = let r = marked ms xs in cond (eqb m 1) (x ∷ r) r

-- The key of the record last given, 0 before the first.
unfoldable pub place_key : Table → ℕ → ℕ
place_key v p = cond (eqb p 0) 0 (record_at v p).key

-- "here 0 is good and only an index above used or above N gives 1"
unfoldable pub walk_number : List ℕ → List ℕ → List ℕ → ℕ → ℕ
walk_number s t m p =
    lowest
    (check 1 (not (schema_length s && table_length t && marks_length t m) || ltb (used_at t) p || ltb (capacity_of t) p)
    ∷ check 2 (broken s) ∷ check 3 (not (well_formed s t)) ∷ [])

-- The index of the record that the walk gives; 0 at the end and in a refusal.
unfoldable pub walk_given : List ℕ → List ℕ → List ℕ → ℕ → ℕ
walk_given s t m p =
    let v = decode t in
    done (walk_number s t m p) (position (least_above (place_key v p) (marked m v.records)) v.records) 0

-- "an end of the list walk is answered only past the last shown record": whether it is the end that is answered.
unfoldable pub walk_ended : List ℕ → List ℕ → List ℕ → ℕ → Bool
walk_ended s t m p = done (walk_number s t m p) (eqb (walk_given s t m p) 0) false

-- "At the end the place doesn't move."
unfoldable pub walk_place : List ℕ → List ℕ → List ℕ → ℕ → ℕ
walk_place s t m p = cond (eqb (walk_given s t m p) 0) p (walk_given s t m p)

-- The three edits: checks 1 to 3, then the edit's own; the own table and the delta afterwards.
unfoldable pub edit_number : Bool → List ℕ → List ℕ → List ℕ → Edit → ℕ
edit_number index s own delta e =
    lowest
    (check 1 (not (schema_length s && table_length own && delta_length delta) || index) ∷ check 2 (broken s)
    ∷ check 3 (not (well_formed s own)) ∷ e.checks)

unfoldable pub edit_table : ℕ → List ℕ → Edit → List ℕ
edit_table n own e = done n (encode (edited_by fields (decode own) e)) own

unfoldable pub edit_delta : ℕ → List ℕ → List ℕ → Edit → List ℕ
edit_delta n own delta e = done n (encode (delta_of fields (decode own) e)) delta

unfoldable pub insertion_of : List ℕ → List ℕ → ℕ → List ℕ → Edit
insertion_of s own r vs = insertion fields (schema_of s) (decode own) r vs

unfoldable pub insertion_number : List ℕ → List ℕ → List ℕ → ℕ → List ℕ → ℕ
insertion_number s own delta r vs = edit_number false s own delta (insertion_of s own r vs)

unfoldable pub insertion_label : List ℕ → List ℕ → List ℕ → ℕ → List ℕ → ℕ
insertion_label s own delta r vs = done (insertion_number s own delta r vs) (insertion_of s own r vs).label 0

unfoldable pub insertion_table : List ℕ → List ℕ → List ℕ → ℕ → List ℕ → List ℕ
insertion_table s own delta r vs = edit_table (insertion_number s own delta r vs) own (insertion_of s own r vs)

unfoldable pub insertion_delta : List ℕ → List ℕ → List ℕ → ℕ → List ℕ → List ℕ
insertion_delta s own delta r vs = edit_delta (insertion_number s own delta r vs) own delta (insertion_of s own r vs)

unfoldable pub update_of : List ℕ → List ℕ → ℕ → ℕ → ℕ → Edit
update_of s own i f new = update fields (schema_of s) (decode own) i f new

unfoldable pub update_number : List ℕ → List ℕ → List ℕ → ℕ → ℕ → ℕ → ℕ
update_number s own delta i f new = edit_number (bad_index own i) s own delta (update_of s own i f new)

unfoldable pub update_table : List ℕ → List ℕ → List ℕ → ℕ → ℕ → ℕ → List ℕ
update_table s own delta i f new = edit_table (update_number s own delta i f new) own (update_of s own i f new)

unfoldable pub update_delta : List ℕ → List ℕ → List ℕ → ℕ → ℕ → ℕ → List ℕ
update_delta s own delta i f new = edit_delta (update_number s own delta i f new) own delta (update_of s own i f new)

unfoldable pub deletion_of : List ℕ → List ℕ → ℕ → Edit
deletion_of s own i = deletion fields (schema_of s) (decode own) i

unfoldable pub deletion_number : List ℕ → List ℕ → List ℕ → ℕ → ℕ
deletion_number s own delta i = edit_number (bad_index own i) s own delta (deletion_of s own i)

unfoldable pub deletion_table : List ℕ → List ℕ → List ℕ → ℕ → List ℕ
deletion_table s own delta i = edit_table (deletion_number s own delta i) own (deletion_of s own i)

unfoldable pub deletion_delta : List ℕ → List ℕ → List ℕ → ℕ → List ℕ
deletion_delta s own delta i = edit_delta (deletion_number s own delta i) own delta (deletion_of s own i)

-- An entry of the list: "relation, label and F values of each record".
pub record Entry : Type 0 where
  pub relation : ℕ
  pub label : ℕ
  pub values : List ℕ

unfoldable pub entry_at : List ℕ → List ℕ → ℕ → Entry
entry_at s t i =
    record { relation = relation_at t i; label = label_at t i; values = listed (field_count s (relation_at t i)) (value_at t i) }

-- The indices that the walk gives from a place on, at most n of them, and the place where it stopped.
pub record Walked : Type 0 where
  pub given : List ℕ
  pub stop : ℕ

unfoldable pub walked : ℕ → List ℕ → List ℕ → List ℕ → ℕ → Walked
walked zero s t m p = record { given = []; stop = p }
walked (suc n) s t m p =
    let i = walk_given s t m p in
    let r = walked n s t m i in
    cond (eqb i 0) (record { given = []; stop = p }) (record { given = i ∷ r.given; stop = r.stop })

-- "The list that a table shows is what the walk gives from place 0 to the end over the marks made of that table". A table with used records
-- gives no more than used of them.
unfoldable pub table_walked : List ℕ → List ℕ → Walked
table_walked s t = walked (used_at t + 1) s t (marks_marks s t (replicate (capacity_of t) 0)) 0

unfoldable pub shown_list : List ℕ → List ℕ → List Entry
shown_list s t = map (entry_at s t) (table_walked s t).given
