-- A cell is up to another exactly if their join is the other.
-- Assumes nothing.
use Prim.Native.Nat.{ℕ, max, ◌≤◌}
use mathlib.Core.Path.{◌≡◌, refl, sym, ◌∙◌, ap, ap₂}
use mathlib.Core.Logic.{◌⊎◌, inl, inr}
use mathlib.Core.Bool.{true, false}
use mathlib.Core.List.{List, [], ◌∷◌}
use mathlib.Core.Option.{Option, none, some}
use native.Mathlib.Omega.{arith}
use lib.Dec.{leb, ltb}
use borrow.Author.Tests.{le-leb, leb-true, eq-eqb}
use Rattle.crdt.specs.Cells.{Reg, up_to, join_reg, join_regs, Cell, join_cell, join_opt}
use Rattle.crdt.proofs.Tests.{test, clash, and_left, and_right, and_both, or_right}
use Rattle.laws.proofs.Join.{nothing}
use Rattle.compare_laws.specs.UpTo.{regs_up_to, cell_up_to, opt_up_to}

-- registers
up_self : (a : Reg) → up_to a a ≡ true
unfolding up_to
up_self a = or_right (ltb a.stamp a.stamp) _ (and_both _ _ (eq-eqb a.stamp a.stamp refl) (le-leb a.value a.value (omega arith)))

up_join : (a b : Reg) → up_to a b ≡ true → join_reg a b ≡ b
unfolding join_reg
up_join a b h = rw h

kept_join : (a b : Reg) → up_to a b ≡ false → join_reg a b ≡ a
unfolding join_reg
kept_join a b h = rw h

join_up : (a b : Reg) → join_reg a b ≡ b → up_to a b ≡ true
join_up a b h = go (test (up_to a b))
  where
    go : (up_to a b ≡ true) ⊎ (up_to a b ≡ false) → up_to a b ≡ true
    go (inl p) = p
    go (inr p) = let e : a ≡ b = sym (kept_join a b p) ∙ h in rw e (up_self b)

regs_up : (xs ys : List Reg) → regs_up_to xs ys ≡ true → join_regs xs ys ≡ ys
unfolding regs_up_to join_regs
regs_up [] ys h = refl
regs_up (x ∷ xs) [] h = clash h refl
regs_up (x ∷ xs) (y ∷ ys) h = ap₂ (λ (a : Reg) (l : List Reg). a ∷ l) (up_join x y (and_left (up_to x y) (regs_up_to xs ys) h)) (regs_up xs ys (and_right (up_to x y) (regs_up_to xs ys) h))

regs_join : (xs ys : List Reg) → join_regs xs ys ≡ ys → regs_up_to xs ys ≡ true
unfolding regs_up_to join_regs
regs_join [] ys h = refl
regs_join (x ∷ xs) [] h = let z : ◌≡◌ {A = ℕ} 0 1 = cc in absurd (omega arith)
regs_join (x ∷ xs) (y ∷ ys) h =
    let a : join_reg x y ≡ y = cc in
    let l : join_regs xs ys ≡ ys = cc in
    and_both _ _ (join_up x y a) (regs_join xs ys l)

-- cells
cell_up : (c d : Cell) → cell_up_to c d ≡ true → join_cell c d ≡ d
unfolding cell_up_to join_cell
cell_up c d h =
    let f : max c.flag d.flag ≡ d.flag = omega (arith, leb-true c.flag d.flag (and_left (leb c.flag d.flag) (regs_up_to c.regs d.regs) h)) in
    let r = regs_up c.regs d.regs (and_right (leb c.flag d.flag) (regs_up_to c.regs d.regs) h) in
    λ i. record { flag = f i; regs = r i }

cell_join : (c d : Cell) → join_cell c d ≡ d → cell_up_to c d ≡ true
unfolding cell_up_to join_cell
cell_join c d h =
    let f : c.flag ≤ d.flag = omega (arith, ap (λ (z : Cell). z.flag) h) in
    and_both _ _ (le-leb c.flag d.flag f) (regs_join c.regs d.regs (ap (λ (z : Cell). z.regs) h))

-- where the other side may hold nothing
pub opt_up : (o : Option Cell) (c : Cell) → opt_up_to o c ≡ true → join_opt (some c) o ≡ o
unfolding opt_up_to join_opt
opt_up none c h = clash h refl
opt_up (some d) c h = ap some (cell_up c d h)

pub opt_join : (o : Option Cell) (c : Cell) → join_opt (some c) o ≡ o → opt_up_to o c ≡ true
unfolding opt_up_to join_opt
opt_join none c h = nothing c (sym h)
opt_join (some d) c h = let e : join_cell c d ≡ d = cc in cell_join c d e
