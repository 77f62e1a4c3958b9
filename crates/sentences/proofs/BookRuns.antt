-- Runs of the herd book are runs of document 01: "each as the library's call does".
-- Assumes nothing.
use Prim.Native.Nat.{ℕ}
use mathlib.Core.Path.{◌≡◌, refl, sym, ◌∙◌, ap, subst}
use mathlib.Core.Logic.{◌⊎◌, inl, inr, ◌≢◌}
use mathlib.Core.Bool.{Bool, true, false, ◌&&◌, ◌||◌, not}
use mathlib.Core.List.{List, [], ◌∷◌, ◌++◌}
use mathlib.Core.Option.{some}
use native.Mathlib.Omega.{arith}
use lib.Dec.{eqb}
use lib.ListN.{length}
use borrow.Author.Tests.{eqb-true, eqb-false, ne_eqb}
use Rattle.crdt.proofs.Tests.{test}
use Rattle.model.specs.Layout.{relation_at}
use Rattle.model.specs.Lists.{check, lowest}
use Rattle.model.specs.Schemas.{broken}
use Rattle.model.specs.WellFormed.{well_formed}
use Rattle.model.specs.Edits.{Edit}
use Rattle.model.specs.Calls.{done, schema_length, table_length, delta_length, bad_index, start_number, edit_number, edit_table, update_of, update_number, update_table, update_delta, deletion_of, deletion_number, deletion_table, deletion_delta}
use Rattle.model.specs.Calls.{shown_list}
use Rattle.model.specs.Runs.{words, Call, start, merge, insertion, update, deletion, Moment, after_call, ago, next, history, Allowed, Run, begun}
use Rattle.model.specs.Demand.{SameRecords, Converged}
use Rattle.model.specs.Book.{book, of_kind, change_of, change_number, change_table, change_delta, strike_of, strike_number, strike_table, strike_delta}
use Rattle.model.specs.BookRuns.{BookCall, begin, take_in, enter, change, strike, book_next, book_history, AllowedCall, BookRun}
use Rattle.model.specs.Examples.{replicas}
use Rattle.model.specs.BookExample.{book_blanks, book_calls, book_end}
use Rattle.model.proofs.Book.{book_number}
use Rattle.model.proofs.BookRuns.{book_example_run, book_example_starts, book_example_same}
use Rattle.laws.proofs.OfKind.{other_refused}
use Rattle.convergence.proofs.Demand.{demand3}
use Rattle.sentences.proofs.Book.{change_library, strike_library}

-- The library's edits with index 0 are refused.
or_true : (a : Bool) → (a || true) ≡ true
or_true true = refl
or_true false = refl

zero_bad : (t : List ℕ) → bad_index t 0 ≡ true
unfolding bad_index
zero_bad t = refl

zero_number : (s t d : List ℕ) (e : Edit) → edit_number (bad_index t 0) s t d e ≢ 0
unfolding edit_number lowest
zero_number s t d e z = go (not (schema_length s && table_length t && delta_length d)) z
  where
    go : (a : Bool) → lowest (check 1 (a || bad_index t 0) ∷ check 2 (broken s) ∷ check 3 (not (well_formed s t)) ∷ e.checks) ≡ 0 → ⊥
    go a q = let r : ◌≡◌ {A = ℕ} 1 0 = rw (zero_bad t, or_true a) at q in omega (arith, r)

kept : (n : ℕ) (t : List ℕ) (e : Edit) → n ≢ 0 → edit_table n t e ≡ t
unfolding edit_table
kept n t e h = rw (ne_eqb n 0 h)

-- An accepted edit is of a record of the kind.
accepted_kind : (index : Bool) (t d : List ℕ) (r j : ℕ) (e : Edit) → edit_number index book t d (of_kind r t j e) ≡ 0 → relation_at t j ≡ r
accepted_kind index t d r j e h = go (test (eqb (relation_at t j) r))
  where
    go : (eqb (relation_at t j) r ≡ true) ⊎ (eqb (relation_at t j) r ≡ false) → relation_at t j ≡ r
    go (inl y) = eqb-true _ _ y
    go (inr n) = absurd (other_refused index t d r j e (eqb-false _ _ n) h)

-- The moment after an edit, of equal numbers, words and deltas.
same_moment : (m : Moment) (i : ℕ) (taken : List ℕ) (n n' : ℕ) (w w' x x' : List ℕ) → n ≡ n' → w ≡ w' → x ≡ x' → after_call m i n w taken (some x) ≡ after_call m i n' w' taken (some x')
same_moment m i taken n n' w w' x x' a b c =
    ap (λ (z : ℕ). after_call m i z w taken (some x)) a ∙ ap (λ (z : List ℕ). after_call m i n' z taken (some x)) b ∙ ap (λ (z : List ℕ). after_call m i n' w' taken (some z)) c

-- Refused ones, of two numbers.
same_refusal : (m : Moment) (i : ℕ) (taken : List ℕ) (n n' : ℕ) (w w' x x' : List ℕ) → n ≢ 0 → n' ≢ 0 → w ≡ m.fleet i → w' ≡ m.fleet i
    → after_call m i n w taken (some x) ≡ after_call m i n' w' taken (some x')
unfolding after_call
same_refusal m i taken n n' w w' x x' h h' b b' = rw (ne_eqb n 0 h, ne_eqb n' 0 h', b, b')

-- A change or a strike is the library's call: with the same words where it is accepted, and otherwise with index 0, which is refused too.
module _ (m : Moment) (i : ℕ) (taken d : List ℕ) (r j : ℕ) where
  change_moment : (f new k : ℕ) → k ≡ done (change_number r (m.fleet i) d j f new) j 0
      → after_call m i (change_number r (m.fleet i) d j f new) (change_table r (m.fleet i) d j f new) taken (some (change_delta r (m.fleet i) d j f new))
      ≡ after_call m i (update_number book (m.fleet i) d k f new) (update_table book (m.fleet i) d k f new) taken (some (update_delta book (m.fleet i) d k f new))
  unfolding change_number change_of change_table update_number update_table
  change_moment f new k e = go (test (eqb (change_number r (m.fleet i) d j f new) 0))
    where
      go : (eqb (change_number r (m.fleet i) d j f new) 0 ≡ true) ⊎ (eqb (change_number r (m.fleet i) d j f new) 0 ≡ false)
          → after_call m i (change_number r (m.fleet i) d j f new) (change_table r (m.fleet i) d j f new) taken (some (change_delta r (m.fleet i) d j f new))
          ≡ after_call m i (update_number book (m.fleet i) d k f new) (update_table book (m.fleet i) d k f new) taken (some (update_delta book (m.fleet i) d k f new))
      go (inl y) =
          let a : j ≡ k = sym (e ∙ rw y) in
          let q = change_library (m.fleet i) d r j (accepted_kind (bad_index (m.fleet i) j) (m.fleet i) d r j (update_of book (m.fleet i) j f new) (eqb-true _ 0 y)) f new in
          same_moment m i taken _ _ _ _ _ _ (q.0 ∙ ap (λ (z : ℕ). update_number book (m.fleet i) d z f new) a) (q.1 ∙ ap (λ (z : ℕ). update_table book (m.fleet i) d z f new) a) (q.2 ∙ ap (λ (z : ℕ). update_delta book (m.fleet i) d z f new) a)
      go (inr n) =
          let a : k ≡ 0 = e ∙ rw n in
          let g : update_number book (m.fleet i) d k f new ≢ 0 = λ z. zero_number book (m.fleet i) d (update_of book (m.fleet i) 0 f new) (ap (λ (x : ℕ). update_number book (m.fleet i) d x f new) (sym a) ∙ z) in
          same_refusal m i taken _ _ _ _ _ _ (eqb-false _ 0 n) g (kept _ (m.fleet i) (change_of r (m.fleet i) j f new) (eqb-false _ 0 n)) (kept _ (m.fleet i) (update_of book (m.fleet i) k f new) g)

  strike_moment : (k : ℕ) → k ≡ done (strike_number r (m.fleet i) d j) j 0
      → after_call m i (strike_number r (m.fleet i) d j) (strike_table r (m.fleet i) d j) taken (some (strike_delta r (m.fleet i) d j))
      ≡ after_call m i (deletion_number book (m.fleet i) d k) (deletion_table book (m.fleet i) d k) taken (some (deletion_delta book (m.fleet i) d k))
  unfolding strike_number strike_of strike_table deletion_number deletion_table
  strike_moment k e = go (test (eqb (strike_number r (m.fleet i) d j) 0))
    where
      go : (eqb (strike_number r (m.fleet i) d j) 0 ≡ true) ⊎ (eqb (strike_number r (m.fleet i) d j) 0 ≡ false)
          → after_call m i (strike_number r (m.fleet i) d j) (strike_table r (m.fleet i) d j) taken (some (strike_delta r (m.fleet i) d j))
          ≡ after_call m i (deletion_number book (m.fleet i) d k) (deletion_table book (m.fleet i) d k) taken (some (deletion_delta book (m.fleet i) d k))
      go (inl y) =
          let a : j ≡ k = sym (e ∙ rw y) in
          let q = strike_library (m.fleet i) d r j (accepted_kind (bad_index (m.fleet i) j) (m.fleet i) d r j (deletion_of book (m.fleet i) j) (eqb-true _ 0 y)) in
          same_moment m i taken _ _ _ _ _ _ (q.0 ∙ ap (λ (z : ℕ). deletion_number book (m.fleet i) d z) a) (q.1 ∙ ap (λ (z : ℕ). deletion_table book (m.fleet i) d z) a) (q.2 ∙ ap (λ (z : ℕ). deletion_delta book (m.fleet i) d z) a)
      go (inr n) =
          let a : k ≡ 0 = e ∙ rw n in
          let g : deletion_number book (m.fleet i) d k ≢ 0 = λ z. zero_number book (m.fleet i) d (deletion_of book (m.fleet i) 0) (ap (λ (x : ℕ). deletion_number book (m.fleet i) d x) (sym a) ∙ z) in
          same_refusal m i taken _ _ _ _ _ _ (eqb-false _ 0 n) g (kept _ (m.fleet i) (strike_of r (m.fleet i) j) (eqb-false _ 0 n)) (kept _ (m.fleet i) (deletion_of book (m.fleet i) k) g)

module _ (first : Moment) where
  unfoldable pub as_call : List Moment → BookCall → Call
  as_call h (begin i r) = start i r
  as_call h (take_in i o) = merge i book o
  as_call h (enter i d r vs) = insertion i book d r vs
  as_call h (change i d r j f new) = update i book d (done (change_number r ((ago first h 0).fleet i) d j f new) j 0) f new
  as_call h (strike i d r j) = deletion i book d (done (strike_number r ((ago first h 0).fleet i) d j) j 0)

  unfoldable pub as_calls : List BookCall → List Call
  as_calls [] = []
  as_calls (c ∷ cs) = as_call (book_history first cs) c ∷ as_calls cs

  pub same_next : (h : List Moment) (c : BookCall) → book_next first h c ≡ next first h (as_call h c)
  unfolding book_next next as_call
  same_next h (begin i r) = refl
  same_next h (take_in i o) = refl
  same_next h (enter i d r vs) = refl
  same_next h (change i d r j f new) = change_moment (ago first h 0) i ((ago first h 0).took i ++ (length h ∷ [])) d r j f new _ refl
  same_next h (strike i d r j) = strike_moment (ago first h 0) i ((ago first h 0).took i ++ (length h ∷ [])) d r j _ refl

  -- The moments of the herd book's calls are those of the library's.
  pub same_history : (cs : List BookCall) → book_history first cs ≡ history first (as_calls cs)
  unfolding book_history history as_calls
  same_history [] = refl
  same_history (c ∷ cs) =
      ap (λ (x : Moment). x ∷ book_history first cs) (same_next (book_history first cs) c)
      ∙ ap (λ (h : List Moment). next first h (as_call (book_history first cs) c) ∷ h) (same_history cs)

  -- and they are a run of document 01.
  allowed : (h : List Moment) (c : BookCall) → AllowedCall first h c → Allowed book first h (as_call h c)
  unfolding as_call
  allowed h (begin i r) a = tt
  allowed h (take_in i o) a = a
  allowed h (enter i d r vs) a = λ z. refl
  allowed h (change i d r j f new) a = λ z. refl
  allowed h (strike i d r j) a = λ z. refl

  pub as_run : (cs : List BookCall) → BookRun first cs → Run book first (as_calls cs)
  unfolding as_calls
  as_run [] r = tt
  as_run (c ∷ cs) r =
      (subst (λ (h : List Moment). Allowed book first h (as_call (book_history first cs) c)) (same_history cs) (allowed (book_history first cs) c r.0), as_run cs r.1)

-- So what demand 3 says of runs holds of the herd book's: after every list of its calls on a fleet.
pub book_converges : (w : ℕ → List ℕ) (r : ℕ → ℕ) → ((i : ℕ) → start_number (w i) (r i) ≡ 0) → (cs : List BookCall) → BookRun (begun w r) cs
    → Converged book (ago (begun w r) (book_history (begun w r) cs) 0)
book_converges w r s cs h =
    subst (λ (x : List Moment). Converged book (ago (begun w r) x 0)) (sym (same_history (begun w r) cs)) (demand3.runs book book_number w r s (as_calls (begun w r) cs) (as_run (begun w r) cs h))

-- Applied to the example run: its two tables, which took in the same edits, have the same records and show the same list.
pub book_example_agrees : SameRecords (book_end.fleet 0) (book_end.fleet 1) × (shown_list book (book_end.fleet 0) ≡ shown_list book (book_end.fleet 1))
book_example_agrees = (book_converges book_blanks replicas book_example_starts book_calls book_example_run).agree 0 1 book_example_same
