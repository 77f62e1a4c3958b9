-- What differs from before: nothing from itself, and where nothing differs the records are the same.
-- Assumes nothing.
use Prim.Native.Nat.{ℕ, zero, suc, ◌+◌, ◌≤◌}
use mathlib.Core.Path.{◌≡◌, refl, sym, ◌∙◌, ap, ap₂}
use mathlib.Core.Bool.{Bool, true, false, cond, ◌||◌, not}
use mathlib.Core.List.{List, [], ◌∷◌, ◌++◌, map}
use mathlib.Core.Logic.{◌⊎◌, inl, inr}
use native.Mathlib.Omega.{arith}
use lib.Dec.{eqb}
use lib.ListN.{length}
use borrow.Author.Tests.{eqb-true, eq-eqb, not-false}
use Rattle.crdt.specs.Cells.{Reg, reg_changed, regs_changed, Cell, cell_changed}
use Rattle.crdt.proofs.Tests.{test, clash, or_false}
use Rattle.model.specs.Records.{Rec}
use Rattle.model.specs.Merge.{changes}

pub reg_kept : (a : Reg) → reg_changed a a ≡ false
unfolding reg_changed
reg_kept a = rw (eq-eqb a.value a.value refl, eq-eqb a.stamp a.stamp refl)

regs_kept : (xs : List Reg) → regs_changed xs xs ≡ false
unfolding regs_changed
regs_kept [] = refl
regs_kept (x ∷ xs) = rw (reg_kept x, regs_kept xs)

pub cell_kept : (c : Cell) → cell_changed c c ≡ false
unfolding cell_changed
cell_kept c = rw (eq-eqb c.flag c.flag refl, regs_kept c.regs)

pub reg_same : (a b : Reg) → reg_changed a b ≡ false → a ≡ b
unfolding reg_changed
reg_same a b h =
    let o = or_false (not (eqb a.value b.value)) (not (eqb a.stamp b.stamp)) h in
    let v : a.value ≡ b.value = eqb-true a.value b.value (not-false _ o.0) in
    let s : a.stamp ≡ b.stamp = eqb-true a.stamp b.stamp (not-false _ o.1) in
    λ i. record { value = v i; stamp = s i }

regs_same : (xs ys : List Reg) → regs_changed xs ys ≡ false → xs ≡ ys
unfolding regs_changed
regs_same [] [] h = refl
regs_same [] (y ∷ ys) h = clash refl h
regs_same (x ∷ xs) [] h = clash refl h
regs_same (x ∷ xs) (y ∷ ys) h =
    let o = or_false (reg_changed x y) (regs_changed xs ys) h in
    ap₂ (λ (a : Reg) (l : List Reg). a ∷ l) (reg_same x y o.0) (regs_same xs ys o.1)

-- A cell is the same exactly if neither its flag nor a register differs.
pub cell_same : (c d : Cell) → cell_changed c d ≡ false → c ≡ d
unfolding cell_changed
cell_same c d h =
    let o = or_false (not (eqb c.flag d.flag)) (regs_changed c.regs d.regs) h in
    let f : c.flag ≡ d.flag = eqb-true c.flag d.flag (not-false _ o.0) in
    let r = regs_same c.regs d.regs o.1 in
    λ i. record { flag = f i; regs = r i }

pub changes_self : (s : List Rec) → changes s s ≡ 0
unfolding changes
changes_self [] = refl
changes_self (x ∷ xs) = rw (cell_kept x.cell, changes_self xs)

one : (b : Bool) → cond {A = ℕ} b 1 0 ≤ 1
one true = omega arith
one false = omega arith

-- Of m records afterwards no more than m were changed or added.
pub changes_within : (s m : List Rec) → changes s m ≤ length m
unfolding changes
changes_within [] m = omega arith
changes_within (x ∷ xs) [] = omega arith
changes_within (x ∷ xs) (y ∷ ys) = omega (arith, one (cell_changed x.cell y.cell), changes_within xs ys)

no_more : (e : List Rec) → length e ≡ 0 → e ≡ []
no_more [] h = refl
no_more (x ∷ xs) h = absurd (omega arith)

-- Old records that keep their keys, and others behind them: where nothing was changed or added they are the old records.
pub changes_none : (f : Rec → Rec) → ((x : Rec) → (f x).key ≡ x.key) → (s e : List Rec) → changes s (map f s ++ e) ≡ 0 → map f s ++ e ≡ s
unfolding changes
changes_none f k [] e h = no_more e h
changes_none f k (x ∷ xs) e h = go (test (cell_changed x.cell (f x).cell)) (changes_none f k xs e)
  where
    go : (cell_changed x.cell (f x).cell ≡ true) ⊎ (cell_changed x.cell (f x).cell ≡ false) → (changes xs (map f xs ++ e) ≡ 0 → map f xs ++ e ≡ xs) → f x ∷ (map f xs ++ e) ≡ x ∷ xs
    go (inl t) ih = let n : cond {A = ℕ} (cell_changed x.cell (f x).cell) 1 0 ≡ 1 = rw t in absurd (omega (arith, h))
    go (inr t) ih =
        let n : cond {A = ℕ} (cell_changed x.cell (f x).cell) 1 0 ≡ 0 = rw t in
        let c : x.cell ≡ (f x).cell = cell_same x.cell (f x).cell t in
        let e₁ : f x ≡ x = λ i. record { key = k x i; cell = sym c i } in
        ap₂ (λ (a : Rec) (l : List Rec). a ∷ l) e₁ (ih (omega (arith, h)))
