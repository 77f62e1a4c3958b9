-- Runs: a fleet of tables, a list of calls on it, and which edits each table took in (document 01, "Runs").
-- Assumes nothing.
use Rattle.std.specs.Prelude.{ℕ, suc, ◌≡◌, cond, List, [], ◌∷◌, ◌++◌, eqb, length, get_or, drop}
use Rattle.std.proofs.Math.Option.{Option, none, some}
use Rattle.model.specs.Calls.{done, start_number, start_table, merge_number, merge_table, insertion_number, insertion_table, insertion_delta, update_number, update_table, update_delta, deletion_number, deletion_table, deletion_delta}

-- "The other table of a merge is, as the call names it,"
pub data Source : Type 0 where
  -- "a copy of a fleet table as it stood at any point of the run so far": how many calls ago (0: as it stands), and which table
  copy : ℕ → ℕ → Source
  -- "or of a delta as an accepted edit of the run wrote it": how many calls ago that edit was (0: the last call)
  delta : ℕ → Source
  -- "or words that the merge refuses"
  words : List ℕ → Source

-- "The calls are starts, merges, insertions, updates and deletions". The number of the table that a call works on stands first, then
-- the schema lent, and of an edit the delta buffer lent; "All other arguments are free."
pub data Call : Type 0 where
  start : ℕ → ℕ → Call
  merge : ℕ → List ℕ → Source → Call
  insertion : ℕ → List ℕ → List ℕ → ℕ → List ℕ → Call
  update : ℕ → List ℕ → List ℕ → ℕ → ℕ → ℕ → Call
  deletion : ℕ → List ℕ → List ℕ → ℕ → Call

-- A moment of a run: the words of each table of the fleet, the edits that each took in, and the delta that the call before it wrote. A fleet
-- of n tables is the first n. "two edits are the same only if they are the same call of the list": an edit is known by its place in the list.
pub record Moment : Type 0 where
  pub fleet : ℕ → List ℕ
  pub took : ℕ → List ℕ
  pub wrote : Option (List ℕ)

abbrev pub put {ℓ} : {X : Type ℓ} → ℕ → X → (ℕ → X) → ℕ → X
put i x f j = cond (eqb j i) x (f j)

-- After a call on table i: its answer, its exit words, what the table then took in if the call was accepted, and the delta written. "A refused
-- call adds nothing."
unfoldable pub after_call : Moment → ℕ → ℕ → List ℕ → List ℕ → Option (List ℕ) → Moment
after_call m i n w taken d =
    record { fleet = put i w m.fleet; took = put i (done n taken (m.took i)) m.took; wrote = done n d none }

-- The place in the list of the call made k calls ago: how many moments came before it.
abbrev pub edit_ago : List Moment → ℕ → ℕ
edit_ago h k = length (drop (suc k) h)

-- Where no delta was written there are no words, which a merge refuses.
abbrev pub wrote_words : Option (List ℕ) → List ℕ
wrote_words none = []
wrote_words (some d) = d

-- The moments so far, the last one first, and after all of them the beginning.
module _ (first : Moment) where
  abbrev pub ago : List Moment → ℕ → Moment
  ago h k = get_or h k first

  abbrev pub other_words : List Moment → Source → List ℕ
  other_words h (copy k j) = (ago h k).fleet j
  other_words h (delta k) = wrote_words (ago h k).wrote
  other_words h (words o) = o

  -- "An accepted merge adds the one edit of the delta, or all that the copied table had taken in when it was copied."
  abbrev pub other_took : List Moment → Source → List ℕ
  other_took h (copy k j) = (ago h k).took j
  other_took h (delta k) = edit_ago h k ∷ []
  other_took h (words o) = []

  -- "Each works on one table of the fleet as the calls before left it": it writes the exit words of the call, accepted or refused. "At the
  -- beginning, and after an accepted start, it has none. An accepted insertion, update or deletion adds itself to its table".
  unfoldable pub next : List Moment → Call → Moment
  next h (start i r) =
      let m = ago h 0 in
      let t = m.fleet i in
      after_call m i (start_number t r) (start_table t r) [] none
  next h (merge i s o) =
      let m = ago h 0 in
      let t = m.fleet i in
      after_call m i (merge_number s t (other_words h o)) (merge_table s t (other_words h o)) (m.took i ++ other_took h o) none
  next h (insertion i s d r vs) =
      let m = ago h 0 in
      let t = m.fleet i in
      after_call m i (insertion_number s t d r vs) (insertion_table s t d r vs) (m.took i ++ (length h ∷ [])) (some (insertion_delta s t d r vs))
  next h (update i s d j f new) =
      let m = ago h 0 in
      let t = m.fleet i in
      after_call m i (update_number s t d j f new) (update_table s t d j f new) (m.took i ++ (length h ∷ [])) (some (update_delta s t d j f new))
  next h (deletion i s d j) =
      let m = ago h 0 in
      let t = m.fleet i in
      after_call m i (deletion_number s t d j) (deletion_table s t d j) (m.took i ++ (length h ∷ [])) (some (deletion_delta s t d j))

  -- The moments of a list of calls; of both lists the last one stands first.
  unfoldable pub history : List Call → List Moment
  history [] = first ∷ []
  history (c ∷ cs) = let h = history cs in next h c ∷ h

-- "All accepted calls that take a schema are lent the same one"
abbrev pub Lent : List ℕ → ℕ → List ℕ → Type 0
Lent σ n s = n ≡ 0 → s ≡ σ

-- What "Runs" says of a call, under the schema σ of the run.
module _ (σ : List ℕ) (first : Moment) where
  abbrev pub AllowedMerge : List Moment → List ℕ → List ℕ → Source → Type 0
  AllowedMerge h t s (copy k j) = Lent σ (merge_number s t (other_words first h (copy k j))) s
  AllowedMerge h t s (delta k) = Lent σ (merge_number s t (other_words first h (delta k))) s
  AllowedMerge h t s (words o) = merge_number s t o ≡ 0 → ⊥

  abbrev pub Allowed : List Moment → Call → Type 0
  Allowed h (start i r) = Unit {0}
  Allowed h (merge i s o) = AllowedMerge h ((ago first h 0).fleet i) s o
  Allowed h (insertion i s d r vs) = Lent σ (insertion_number s ((ago first h 0).fleet i) d r vs) s
  Allowed h (update i s d j f new) = Lent σ (update_number s ((ago first h 0).fleet i) d j f new) s
  Allowed h (deletion i s d j) = Lent σ (deletion_number s ((ago first h 0).fleet i) d j) s

  abbrev pub Run : List Call → Type 0
  Run [] = Unit {0}
  Run (c ∷ cs) = Allowed (history first cs) c × Run cs

-- "Each table has its own N and begins as an accepted start leaves it; replica numbers may coincide." The words before the start are free.
unfoldable pub begun : (ℕ → List ℕ) → (ℕ → ℕ) → Moment
begun w r = record { fleet = λ i. start_table (w i) (r i); took = λ i. []; wrote = none }
