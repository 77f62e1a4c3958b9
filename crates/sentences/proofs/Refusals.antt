-- "A refusal changes no lent word, mark or place; label and shown count come back 0.": of every call that writes or hands back. An answer other
-- than 0 is a refusal. And "old contents are ignored": an edit takes nothing of the delta buffer but its length.
-- Assumes nothing.
use Prim.Native.Nat.{ℕ}
use mathlib.Core.Path.{◌≡◌, refl}
use mathlib.Core.Bool.{Bool, false}
use mathlib.Core.List.{List, []}
use mathlib.Core.Logic.{◌≢◌}
use lib.ListN.{length}
use borrow.Author.Tests.{ne_eqb}
use Rattle.model.specs.Layout.{capacity_of}
use Rattle.model.specs.Edits.{Edit}
use Rattle.model.specs.Calls.{table_length, delta_length, start_number, start_table, values_number, values_part, merge_number, merge_table, marks_number, marks_count, marks_marks, walk_number, walk_given, walk_ended, walk_place, edit_number, edit_table, edit_delta, insertion_number, insertion_label, insertion_table, insertion_delta, update_number, update_table, update_delta, deletion_number, deletion_table, deletion_delta}

pub start_refused : (t : List ℕ) (r : ℕ) → start_number t r ≢ 0 → start_table t r ≡ t
unfolding start_table
start_refused t r n = rw (ne_eqb _ 0 n)

pub values_refused : (t : List ℕ) (i : ℕ) → values_number t i ≢ 0 → values_part t i ≡ []
unfolding values_part
values_refused t i n = rw (ne_eqb _ 0 n)

pub merge_refused : (s own other : List ℕ) → merge_number s own other ≢ 0 → merge_table s own other ≡ own
unfolding merge_table
merge_refused s own other n = rw (ne_eqb _ 0 n)

pub marks_refused : (s t m : List ℕ) → marks_number s t m ≢ 0 → (marks_marks s t m ≡ m) × (marks_count s t m ≡ 0)
unfolding marks_marks marks_count
marks_refused s t m n = (rw (ne_eqb _ 0 n), rw (ne_eqb _ 0 n))

pub walk_refused : (s t m : List ℕ) (p : ℕ) → walk_number s t m p ≢ 0 → (walk_place s t m p ≡ p) × (walk_given s t m p ≡ 0) × (walk_ended s t m p ≡ false)
unfolding walk_place walk_given walk_ended
walk_refused s t m p n = (rw (ne_eqb _ 0 n), rw (ne_eqb _ 0 n), rw (ne_eqb _ 0 n))

edit_kept : (k : ℕ) (own delta : List ℕ) (e : Edit) → k ≢ 0 → (edit_table k own e ≡ own) × (edit_delta k own delta e ≡ delta)
unfolding edit_table edit_delta
edit_kept k own delta e n = (rw (ne_eqb k 0 n), rw (ne_eqb k 0 n))

pub insertion_refused : (s own delta : List ℕ) (r : ℕ) (vs : List ℕ) → insertion_number s own delta r vs ≢ 0
    → (insertion_table s own delta r vs ≡ own) × (insertion_delta s own delta r vs ≡ delta) × (insertion_label s own delta r vs ≡ 0)
unfolding insertion_table insertion_delta insertion_label
insertion_refused s own delta r vs n = let e = edit_kept _ own delta _ n in (e.0, e.1, rw (ne_eqb _ 0 n))

pub update_refused : (s own delta : List ℕ) (i f new : ℕ) → update_number s own delta i f new ≢ 0
    → (update_table s own delta i f new ≡ own) × (update_delta s own delta i f new ≡ delta)
unfolding update_table update_delta
update_refused s own delta i f new n = edit_kept _ own delta _ n

pub deletion_refused : (s own delta : List ℕ) (i : ℕ) → deletion_number s own delta i ≢ 0
    → (deletion_table s own delta i ≡ own) × (deletion_delta s own delta i ≡ delta)
unfolding deletion_table deletion_delta
deletion_refused s own delta i n = edit_kept _ own delta _ n

-- the number and the delta of an edit by the length of the buffer
number_same : (index : Bool) (s own d d' : List ℕ) (e : Edit) → length d ≡ length d' → edit_number index s own d e ≡ edit_number index s own d' e
unfolding edit_number delta_length
number_same index s own d d' e l = rw l

delta_same : (k k' : ℕ) (own d d' : List ℕ) (e : Edit) → k ≡ k' → k ≡ 0 → edit_delta k own d e ≡ edit_delta k' own d' e
unfolding edit_delta
delta_same k k' own d d' e q z = rw (← q, z)

table_same : (k k' : ℕ) (own : List ℕ) (e : Edit) → k ≡ k' → edit_table k own e ≡ edit_table k' own e
table_same k k' own e q = rw q

-- The answer, the label, the own table afterwards, and of an accepted edit the delta are the same for any two buffers of one length.
pub insertion_ignores : (s own d d' : List ℕ) (r : ℕ) (vs : List ℕ) → length d ≡ length d'
    → (insertion_number s own d r vs ≡ insertion_number s own d' r vs) × (insertion_label s own d r vs ≡ insertion_label s own d' r vs)
    × (insertion_table s own d r vs ≡ insertion_table s own d' r vs)
    × (insertion_number s own d r vs ≡ 0 → insertion_delta s own d r vs ≡ insertion_delta s own d' r vs)
unfolding insertion_number insertion_label insertion_table insertion_delta
insertion_ignores s own d d' r vs l =
    let q = number_same _ s own d d' _ l in
    (q, rw q, table_same _ _ own _ q, λ z. delta_same _ _ own d d' _ q z)

pub update_ignores : (s own d d' : List ℕ) (i f new : ℕ) → length d ≡ length d'
    → (update_number s own d i f new ≡ update_number s own d' i f new) × (update_table s own d i f new ≡ update_table s own d' i f new)
    × (update_number s own d i f new ≡ 0 → update_delta s own d i f new ≡ update_delta s own d' i f new)
unfolding update_number update_table update_delta
update_ignores s own d d' i f new l =
    let q = number_same _ s own d d' _ l in
    (q, table_same _ _ own _ q, λ z. delta_same _ _ own d d' _ q z)

pub deletion_ignores : (s own d d' : List ℕ) (i : ℕ) → length d ≡ length d'
    → (deletion_number s own d i ≡ deletion_number s own d' i) × (deletion_table s own d i ≡ deletion_table s own d' i)
    × (deletion_number s own d i ≡ 0 → deletion_delta s own d i ≡ deletion_delta s own d' i)
unfolding deletion_number deletion_table deletion_delta
deletion_ignores s own d d' i l =
    let q = number_same _ s own d d' _ l in
    (q, table_same _ _ own _ q, λ z. delta_same _ _ own d d' _ q z)

-- "Starting a table zeroes it": of the words that it found an accepted start takes the length alone.
length_same : (t t' : List ℕ) → length t ≡ length t' → table_length t ≡ table_length t'
unfolding table_length capacity_of
length_same t t' l = rw l

pub start_ignores : (t t' : List ℕ) (r : ℕ) → length t ≡ length t'
    → (start_number t r ≡ start_number t' r) × (start_number t r ≡ 0 → start_table t r ≡ start_table t' r)
unfolding start_number start_table
start_ignores t t' r l = let q = length_same t t' l in (rw q, λ z. rw (← q, z, l))
