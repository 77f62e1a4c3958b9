-- Runs of the herd book (document 02, F-2) on a fleet: starts, merges under its schema, and its own edits, "each as the library's call does".
-- Moments and sources are those of document 01, "Runs".
-- Assumes nothing.
use Rattle.std.specs.Prelude.{ℕ, List, [], ◌∷◌, ◌++◌, length}
use Rattle.std.proofs.Math.Option.{some}
use Rattle.model.specs.Runs.{Source, start, merge, insertion, Moment, after_call, ago, next, AllowedMerge}
use Rattle.model.specs.Book.{book, change_number, change_table, change_delta, strike_number, strike_table, strike_delta}

-- The number of the table that a call works on stands first; then, of an edit, the delta buffer lent and the kind of record.
pub data BookCall : Type 0 where
  begin : ℕ → ℕ → BookCall
  take_in : ℕ → Source → BookCall
  enter : ℕ → List ℕ → ℕ → List ℕ → BookCall
  change : ℕ → List ℕ → ℕ → ℕ → ℕ → ℕ → BookCall
  strike : ℕ → List ℕ → ℕ → ℕ → BookCall

module _ (first : Moment) where
  -- A start, a merge and an entry are the library's; a change and a strike write their own exit words.
  unfoldable pub book_next : List Moment → BookCall → Moment
  book_next h (begin i r) = next first h (start i r)
  book_next h (take_in i o) = next first h (merge i book o)
  book_next h (enter i d r vs) = next first h (insertion i book d r vs)
  book_next h (change i d r j f new) =
      let m = ago first h 0 in
      let t = m.fleet i in
      after_call m i (change_number r t d j f new) (change_table r t d j f new) (m.took i ++ (length h ∷ [])) (some (change_delta r t d j f new))
  book_next h (strike i d r j) =
      let m = ago first h 0 in
      let t = m.fleet i in
      after_call m i (strike_number r t d j) (strike_table r t d j) (m.took i ++ (length h ∷ [])) (some (strike_delta r t d j))

  -- The moments of a list of calls; of both lists the last one stands first.
  unfoldable pub book_history : List BookCall → List Moment
  book_history [] = first ∷ []
  book_history (c ∷ cs) = let h = book_history cs in book_next h c ∷ h

  -- What "Runs" says of the other table of a merge; all else is free.
  abbrev pub AllowedCall : List Moment → BookCall → Type 0
  AllowedCall h (begin i r) = Unit {0}
  AllowedCall h (take_in i o) = AllowedMerge book first h ((ago first h 0).fleet i) book o
  AllowedCall h (enter i d r vs) = Unit {0}
  AllowedCall h (change i d r j f new) = Unit {0}
  AllowedCall h (strike i d r j) = Unit {0}

  abbrev pub BookRun : List BookCall → Type 0
  BookRun [] = Unit {0}
  BookRun (c ∷ cs) = AllowedCall (book_history cs) c × BookRun cs
