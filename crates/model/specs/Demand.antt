-- Demand 3 as a type (document 01, "Runs").
-- Assumes nothing.
use Rattle.std.specs.Prelude.{ℕ, ◌-◌, ◌≤◌, ◌<◌, ◌≡◌, true, ◌⊎◌, length, get_or, replicate}
use mathlib.Core.List.{List, [], ◌∷◌, Memᴰ}
use Rattle.model.specs.Layout.{capacity_of, field_count, kind_at, mask_at}
use Rattle.model.specs.Schemas.{is_reference, leads_to, names}
use Rattle.model.specs.Tables.{Contents, contents}
use Rattle.model.specs.Calls.{schema_number, table_number, start_number, merge_number, merge_table, marks_number, marks_count, marks_marks, walk_number, walk_given, table_walked, Walked, Entry, shown_list}
use Rattle.model.specs.Runs.{Moment, Call, Run, ago, history, begun}

-- "For tables as demand 3 names them, under a schema that isn't broken": well-formed tables of one schema and equal capacity. Table check
-- answers 0 exactly then.
-- "Commutative: merging b into a and merging a into b both answer 0, with equal contents, or both answer 11."
abbrev pub Commutative : List ℕ → List ℕ → List ℕ → Type 0
Commutative s a b =
    ((merge_number s a b ≡ 0) × (merge_number s b a ≡ 0) × (contents (merge_table s a b) ≡ contents (merge_table s b a)))
    ⊎ ((merge_number s a b ≡ 11) × (merge_number s b a ≡ 11))

-- "Associative: b into a and then c into that, against c into b and then that into a. Either all four merges answer 0 and the two contents are
-- equal, or on each side at least one merge answers 11 (a refused one leaves its table as it was for the next)."
abbrev pub Associative : List ℕ → List ℕ → List ℕ → List ℕ → Type 0
Associative s a b c =
    ((merge_number s a b ≡ 0) × (merge_number s (merge_table s a b) c ≡ 0) × (merge_number s b c ≡ 0) × (merge_number s a (merge_table s b c) ≡ 0)
    × (contents (merge_table s (merge_table s a b) c) ≡ contents (merge_table s a (merge_table s b c))))
    ⊎ (((merge_number s a b ≡ 11) ⊎ (merge_number s (merge_table s a b) c ≡ 11)) × ((merge_number s b c ≡ 11) ⊎ (merge_number s a (merge_table s b c) ≡ 11)))

-- "Idempotent: merging a copy of itself answers 0 and changes no word."
abbrev pub Idempotent : List ℕ → List ℕ → Type 0
Idempotent s a = (merge_number s a a ≡ 0) × (merge_table s a a ≡ a)

-- "the same edits": the same set, in any order and any number of times
abbrev pub SameEdits : List ℕ → List ℕ → Type 0
SameEdits l m = ((n : ℕ) → Memᴰ n l → Memᴰ n m) × ((n : ℕ) → Memᴰ n m → Memᴰ n l)

-- "The same records, registers and flags means equal contents but for the clock."
abbrev pub SameRecords : List ℕ → List ℕ → Type 0
SameRecords t u = (contents t).records ≡ (contents u).records

-- The entry at a position of a list, and its value in field f, counted from 1.
abbrev pub entry : List Entry → ℕ → Entry
entry l p = get_or l p (record { relation = 0; label = 0; values = [] })

abbrev pub value_in : Entry → ℕ → ℕ
value_in x f = get_or x.values (f - 1) 0

-- A field of the mask in which two entries of relation r differ, or in which a reference is empty.
abbrev pub Apart : List ℕ → ℕ → ℕ → Entry → Entry → Type 0
Apart s r mask x y =
    (f : ℕ) × (1 ≤ f) × (f ≤ field_count s r) × (names mask f ≡ true)
    × ((value_in x f ≡ value_in y f → ⊥) ⊎ ((is_reference (kind_at s r f) ≡ true) × (value_in x f ≡ 0)))

-- "in each list no key free of empty references occurs twice"
abbrev pub KeysOnce : List ℕ → List Entry → Type 0
KeysOnce s l =
    (p q : ℕ) → p < length l → q < length l → (p ≡ q → ⊥) → (entry l p).relation ≡ (entry l q).relation
    → (m : ℕ) → (m ≡ 1) ⊎ (m ≡ 2) → (mask_at s (entry l p).relation m ≡ 0 → ⊥)
    → Apart s (entry l p).relation (mask_at s (entry l p).relation m) (entry l p) (entry l q)

-- "each nonempty reference finds a shown record"
abbrev pub ReferencesFound : List ℕ → List Entry → Type 0
ReferencesFound s l =
    (p : ℕ) → p < length l → (f : ℕ) → 1 ≤ f → f ≤ field_count s (entry l p).relation
    → is_reference (kind_at s (entry l p).relation f) ≡ true → (value_in (entry l p) f ≡ 0 → ⊥)
    → (q : ℕ) × (q < length l) × ((entry l q).relation ≡ leads_to (kind_at s (entry l p).relation f)) × ((entry l q).label ≡ value_in (entry l p) f)

-- The list of a table is whole: marks of it answer 0 with the list's length as count, and the walk was ended by its answer.
pub record Listed (s t : List ℕ) : Type 0 where
  pub formed : table_number s t ≡ 0
  pub marked : (m : List ℕ) → length m ≡ capacity_of t → (marks_number s t m ≡ 0) × (marks_count s t m ≡ length (shown_list s t))
  pub ended :
      (walk_number s t (marks_marks s t (replicate (capacity_of t) 0)) (table_walked s t).stop ≡ 0)
      × (walk_given s t (marks_marks s t (replicate (capacity_of t) 0)) (table_walked s t).stop ≡ 0)
  pub keys : KeysOnce s (shown_list s t)
  pub references : ReferencesFound s (shown_list s t)

-- "any two tables that took in the same edits have the same records, registers and flags and show the same list"
pub record Converged (s : List ℕ) (m : Moment) : Type 0 where
  pub listed : (i : ℕ) → Listed s (m.fleet i)
  pub agree : (i j : ℕ) → SameEdits (m.took i) (m.took j) → SameRecords (m.fleet i) (m.fleet j) × (shown_list s (m.fleet i) ≡ shown_list s (m.fleet j))

-- "after every list of calls on a fleet": a single claim about the whole list of calls
abbrev pub RunsConverge : Type 0
RunsConverge =
    (s : List ℕ) → schema_number s ≡ 0
    → (w : ℕ → List ℕ) (r : ℕ → ℕ) → ((i : ℕ) → start_number (w i) (r i) ≡ 0)
    → (cs : List Call) → Run s (begun w r) cs
    → Converged s (ago (begun w r) (history (begun w r) cs) 0)

-- Demand 3.
pub record Demand3 : Type 0 where
  pub commutative :
      (s a b : List ℕ) → table_number s a ≡ 0 → table_number s b ≡ 0 → length a ≡ length b → Commutative s a b
  pub associative :
      (s a b c : List ℕ) → table_number s a ≡ 0 → table_number s b ≡ 0 → table_number s c ≡ 0 → length a ≡ length b → length b ≡ length c
      → Associative s a b c
  pub idempotent : (s a : List ℕ) → table_number s a ≡ 0 → Idempotent s a
  pub runs : RunsConverge
