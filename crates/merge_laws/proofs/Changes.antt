-- How many records a merge changes or adds, when the records of the other table are taken in one by one.
-- Assumes nothing.
use Prim.Native.Nat.{ℕ, zero, suc, ◌+◌, ◌-◌, ◌≤◌, ◌<◌}
use mathlib.Core.Path.{◌≡◌, refl, sym, ◌∙◌, ap}
use mathlib.Core.Bool.{Bool, true, false, cond}
use mathlib.Core.List.{List, [], ◌∷◌, ◌++◌, map}
use mathlib.Core.Logic.{◌⊎◌, inl, inr, ◌≢◌}
use native.Mathlib.Omega.{arith}
use lib.Dec.{eqb}
use lib.ListN.{length, get_or, set}
use borrow.Author.Tests.{eqb-true, eqb-false}
use Rattle.crdt.specs.Cells.{join_cell, cell_changed}
use Rattle.crdt.proofs.Tests.{test}
use Rattle.model.specs.Layout.{fields}
use Rattle.model.specs.Lists.{only}
use Rattle.model.specs.Records.{Rec, has, in_order, Rising, position}
use Rattle.model.specs.Merge.{joined_with, merged_records, changes}
use Rattle.laws.proofs.Merge.{new}
use Rattle.laws.proofs.Changes.{cell_kept, changes_self}
use Rattle.wellformed.proofs.Follow.{position_some}
use Rattle.merge_laws.specs.Absorb.{no_rec, nth, spaced, celled, joined_at, absorb}
use Rattle.merge_laws.proofs.Step.{taken, taken_here, taken_there, taken_new, joined_none, absorb_taken}

-- one record replaced
changes_set : (s : List Rec) (i : ℕ) (z : Rec) → i < length s → changes s (set s i z) ≡ cond {A = ℕ} (cell_changed (get_or s i no_rec).cell z.cell) 1 0
unfolding changes
changes_set [] i z h = absurd (omega arith)
changes_set (x ∷ xs) zero z h = omega (arith, changes_self xs)
changes_set (x ∷ xs) (suc i) z h =
    let e : changes xs (set xs i z) ≡ cond {A = ℕ} (cell_changed (get_or (x ∷ xs) (suc i) no_rec).cell z.cell) 1 0 = changes_set xs i z (omega arith) in
    rw (cell_kept x.cell) (omega (arith, e))

-- records added behind
changes_behind : (s e : List Rec) → changes s (s ++ e) ≡ length e
unfolding changes
changes_behind [] e = refl
changes_behind (x ∷ xs) e = rw (cell_kept x.cell) (omega (arith, changes_behind xs e))

-- Record y taken in changes the record of its key or adds one.
pub absorb_changes : (s : List Rec) (y : Rec) → length y.cell.regs ≡ fields
    → changes s (absorb s y) ≡ cond {A = ℕ} (has s y.key) (cond {A = ℕ} (cell_changed (nth s (position y.key s)).cell (join_cell (nth s (position y.key s)).cell y.cell)) 1 0) 1
absorb_changes s y e = go (test (has s y.key))
  where
    go : (has s y.key ≡ true) ⊎ (has s y.key ≡ false)
        → changes s (absorb s y) ≡ cond {A = ℕ} (has s y.key) (cond {A = ℕ} (cell_changed (nth s (position y.key s)).cell (join_cell (nth s (position y.key s)).cell y.cell)) 1 0) 1
    go (inl h) =
        let p = position_some y.key s h in
        unfold absorb spaced joined_at celled in rw h (changes_set s (position y.key s - 1) _ (omega (arith, p.from_one, p.within)))
    go (inr h) = rw (h, absorb_taken s y e, taken_new y s h) (changes_behind s (y ∷ []))

-- a record that will not change again; one that does not change now
changes_now : (x z z' : Rec) (xs m : List Rec) → z' ≡ z → changes (x ∷ xs) (z' ∷ m) ≡ changes (x ∷ xs) (z ∷ xs) + changes (z ∷ xs) (z' ∷ m)
unfolding changes
changes_now x z z' xs m e = rw (e, cell_kept z.cell, changes_self xs) (omega arith)

changes_later : (x x' : Rec) (xs w m : List Rec) → changes xs m ≡ changes xs w + changes w m → changes (x ∷ xs) (x' ∷ m) ≡ changes (x ∷ xs) (x ∷ w) + changes (x ∷ w) (x' ∷ m)
unfolding changes
changes_later x x' xs w m h = rw (cell_kept x.cell) (omega (arith, h))

-- Record y taken in, and what is still to come: ys have larger keys, so that y's record does not change again.
changes_taken : (y : Rec) (ys e s : List Rec) → Rising (suc y.key) ys
    → changes s (map (joined_with ys) (taken y s) ++ e) ≡ changes s (taken y s) + changes (taken y s) (map (joined_with ys) (taken y s) ++ e)
changes_taken y ys e [] r = unfold taken changes in rw (joined_none ys y (suc y.key) r (omega arith), cell_kept y.cell) (omega arith)
changes_taken y ys e (x ∷ xs) r = go (test (eqb y.key x.key)) (changes_taken y ys e xs r)
  where
    go : (eqb y.key x.key ≡ true) ⊎ (eqb y.key x.key ≡ false)
        → changes xs (map (joined_with ys) (taken y xs) ++ e) ≡ changes xs (taken y xs) + changes (taken y xs) (map (joined_with ys) (taken y xs) ++ e)
        → changes (x ∷ xs) (map (joined_with ys) (taken y (x ∷ xs)) ++ e) ≡ changes (x ∷ xs) (taken y (x ∷ xs)) + changes (taken y (x ∷ xs)) (map (joined_with ys) (taken y (x ∷ xs)) ++ e)
    go (inl q) ih =
        let k : y.key ≡ x.key = eqb-true y.key x.key q in
        let z : Rec = record { key = x.key; cell = join_cell x.cell y.cell } in
        rw (taken_here y x xs k) (changes_now x z (joined_with ys z) xs (map (joined_with ys) xs ++ e) (joined_none ys z (suc y.key) r (omega (arith, k))))
    go (inr q) ih =
        let n : y.key ≢ x.key = eqb-false y.key x.key q in
        rw (taken_there y x xs n) (changes_later x (joined_with ys x) xs (taken y xs) (map (joined_with ys) (taken y xs) ++ e) ih)

-- The law of absorbing one record: what it changes or adds, and what is still to come, are all.
pub changes_step : (s : List Rec) (y : Rec) (ys : List Rec) → length y.cell.regs ≡ fields → Rising (suc y.key) ys
    → changes s (merged_records (absorb s y) ys) ≡ changes s (absorb s y) + changes (absorb s y) (merged_records (absorb s y) ys)
unfolding merged_records
changes_step s y ys e r = rw (absorb_taken s y e) (changes_taken y ys (only (new (taken y s)) (in_order ys)) s r)
