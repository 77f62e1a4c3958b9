-- Joins that are commutative, associative and idempotent: of registers, of lists of them, of cells, of what a key holds.
-- Assumes nothing.
use Prim.Native.Nat.{ℕ, max, ◌≤◌, ◌<◌}
use mathlib.Core.Path.{◌≡◌, refl, sym, ap, subst, fun_ext}
use mathlib.Core.Bool.{Bool, true, false, cond, ◌&&◌}
use mathlib.Core.List.{List, [], ◌∷◌}
use mathlib.Core.Option.{Option, none, some}
use mathlib.Core.Logic.{◌⊎◌, inl, inr}
use native.Mathlib.Omega.{arith}
use Rattle.crdt.proofs.Tests.{Tri, low, same, high, tri, test, clash, or_cases, or_left, or_right, and_left, and_right, and_both}
use lib.Dec.{ltb, leb, eqb}
use borrow.Author.Tests.{ltb-true, leb-true, leb-false, eqb-true, lt-ltb, le-leb, eq-eqb}
use Rattle.crdt.specs.Cells.{Reg, up_to, join_reg, join_regs, Cell, join_cell, join_opt, Semilattice}

-- the larger of two by a total order
module _ {A : Type 0} (le : A → A → Bool) (total : (a b : A) → le a b ≡ false → le b a ≡ true)
    (anti : (a b : A) → le a b ≡ true → le b a ≡ true → a ≡ b) (trans : (a b c : A) → le a b ≡ true → le b c ≡ true → le a c ≡ true) where
  larger : A → A → A
  larger a b = cond (le a b) b a

  larger_comm : (a b : A) → larger a b ≡ larger b a
  unfolding larger
  larger_comm a b = go (le a b) (le b a) refl refl
    where
      go : (x y : Bool) → le a b ≡ x → le b a ≡ y → cond (le a b) b a ≡ cond (le b a) a b
      go true true p q = rw (p, q) (anti b a q p)
      go true false p q = cc
      go false true p q = cc
      go false false p q = cc (total a b p)

  larger_assoc : (a b c : A) → larger (larger a b) c ≡ larger a (larger b c)
  unfolding larger
  larger_assoc a b c = go (le a b) (le b c) (le a c) refl refl refl
    where
      go : (x y z : Bool) → le a b ≡ x → le b c ≡ y → le a c ≡ z → cond (le (cond (le a b) b a) c) c (cond (le a b) b a) ≡ cond (le a (cond (le b c) c b)) (cond (le b c) c b) a
      go true true z p q r = cc (trans a b c p q)
      go true false z p q r = cc
      go false true z p q r = cc
      go false false true p q r = cc (trans a c b r (total b c q))
      go false false false p q r = cc

  pub larger_lattice : Semilattice (λ (a b : A). cond (le a b) b a)
  unfolding larger
  larger_lattice = record { comm = larger_comm; assoc = larger_assoc; idem = λ a. go (le a a) a }
    where
      go : (x : Bool) (a : A) → cond x a a ≡ a
      go true a = refl
      go false a = refl

-- what the order of registers says
Below : Reg → Reg → Type 0
Below a b = (a.stamp < b.stamp) ⊎ ((a.stamp ≡ b.stamp) × (a.value ≤ b.value))

up_below : (a b : Reg) → up_to a b ≡ true → Below a b
unfolding up_to Below
up_below a b h = go (or_cases _ _ h)
  where
    go : (ltb a.stamp b.stamp ≡ true) ⊎ ((eqb a.stamp b.stamp && leb a.value b.value) ≡ true) → (a.stamp < b.stamp) ⊎ ((a.stamp ≡ b.stamp) × (a.value ≤ b.value))
    go (inl p) = inl (ltb-true _ _ p)
    go (inr p) = inr (eqb-true _ _ (and_left _ _ p), leb-true _ _ (and_right (eqb a.stamp b.stamp) _ p))

below_up : (a b : Reg) → Below a b → up_to a b ≡ true
unfolding up_to Below
below_up a b (inl p) = or_left _ _ (lt-ltb _ _ p)
below_up a b (inr p) = or_right (ltb a.stamp b.stamp) _ (and_both _ _ (eq-eqb _ _ p.0) (le-leb _ _ p.1))

up_total : (a b : Reg) → up_to a b ≡ false → up_to b a ≡ true
unfolding Below
up_total a b h = go (tri a.stamp b.stamp) (tri a.value b.value)
  where
    go : Tri a.stamp b.stamp → Tri a.value b.value → up_to b a ≡ true
    go (low p) q = clash (below_up a b (inl p)) h
    go (same p) (low q) = clash (below_up a b (inr (p, omega arith))) h
    go (same p) (same q) = clash (below_up a b (inr (p, omega arith))) h
    go (same p) (high q) = below_up b a (inr (sym p, omega arith))
    go (high p) q = below_up b a (inl p)

up_anti : (a b : Reg) → up_to a b ≡ true → up_to b a ≡ true → a ≡ b
unfolding Below
up_anti a b h k = go (up_below a b h) (up_below b a k)
  where
    go : Below a b → Below b a → a ≡ b
    go (inl p) (inl q) = absurd (omega arith)
    go (inl p) (inr q) = absurd (omega arith)
    go (inr p) (inl q) = absurd (omega arith)
    go (inr p) (inr q) = let v : a.value ≡ b.value = omega arith in λ i. record { value = v i; stamp = p.0 i }

up_trans : (a b c : Reg) → up_to a b ≡ true → up_to b c ≡ true → up_to a c ≡ true
unfolding Below
up_trans a b c h k = below_up a c (go (up_below a b h) (up_below b c k))
  where
    go : Below a b → Below b c → Below a c
    go (inl p) (inl q) = inl (omega arith)
    go (inl p) (inr q) = inl (omega arith)
    go (inr p) (inl q) = inl (omega arith)
    go (inr p) (inr q) = inr (omega arith)

pub reg_lattice : Semilattice join_reg
unfolding join_reg
reg_lattice = larger_lattice up_to up_total up_anti up_trans

-- lists, entry by entry
regs_comm : (xs ys : List Reg) → join_regs xs ys ≡ join_regs ys xs
unfolding join_regs
regs_comm [] [] = refl
regs_comm [] (y ∷ ys) = refl
regs_comm (x ∷ xs) [] = refl
regs_comm (x ∷ xs) (y ∷ ys) = cc (reg_lattice.comm x y, regs_comm xs ys)

regs_assoc : (xs ys zs : List Reg) → join_regs (join_regs xs ys) zs ≡ join_regs xs (join_regs ys zs)
unfolding join_regs
regs_assoc [] ys zs = refl
regs_assoc (x ∷ xs) [] zs = refl
regs_assoc (x ∷ xs) (y ∷ ys) [] = refl
regs_assoc (x ∷ xs) (y ∷ ys) (z ∷ zs) = cc (reg_lattice.assoc x y z, regs_assoc xs ys zs)

regs_idem : (xs : List Reg) → join_regs xs xs ≡ xs
unfolding join_regs
regs_idem [] = refl
regs_idem (x ∷ xs) = cc (reg_lattice.idem x, regs_idem xs)

-- of flags "Merge takes the larger"
max_larger : (a b : ℕ) → cond (leb a b) b a ≡ max a b
max_larger a b = go (test (leb a b))
  where
    go : (leb a b ≡ true) ⊎ (leb a b ≡ false) → cond (leb a b) b a ≡ max a b
    go (inl p) = let h : a ≤ b = leb-true a b p in rw p (omega arith)
    go (inr p) = let h : b < a = leb-false a b p in rw p (omega arith)

pub flag_lattice : Semilattice max
flag_lattice =
    let less = larger_lattice leb (λ a b h. le-leb b a (omega (arith, leb-false a b h))) (λ a b h k. omega (arith, leb-true a b h, leb-true b a k)) (λ a b c h k. le-leb a c (omega (arith, leb-true a b h, leb-true b c k))) in
    subst Semilattice (fun_ext λ a. fun_ext λ b. max_larger a b) less

pub cell_lattice : Semilattice join_cell
unfolding join_cell
cell_lattice =
    record {
      comm = λ a b. λ i. record { flag = flag_lattice.comm a.flag b.flag i; regs = regs_comm a.regs b.regs i };
      assoc = λ a b c. λ i. record { flag = flag_lattice.assoc a.flag b.flag c.flag i; regs = regs_assoc a.regs b.regs c.regs i };
      idem = λ a. λ i. record { flag = flag_lattice.idem a.flag i; regs = regs_idem a.regs i };
    }

pub opt_lattice : Semilattice join_opt
unfolding join_opt
opt_lattice = record { comm = comm; assoc = assoc; idem = idem }
  where
    comm : (a b : Option Cell) → join_opt a b ≡ join_opt b a
    comm none none = refl
    comm none (some b) = refl
    comm (some a) none = refl
    comm (some a) (some b) = ap some (cell_lattice.comm a b)

    assoc : (a b c : Option Cell) → join_opt (join_opt a b) c ≡ join_opt a (join_opt b c)
    assoc none b c = refl
    assoc (some a) none c = refl
    assoc (some a) (some b) none = refl
    assoc (some a) (some b) (some c) = ap some (cell_lattice.assoc a b c)

    idem : (a : Option Cell) → join_opt a a ≡ a
    idem none = refl
    idem (some a) = ap some (cell_lattice.idem a)
