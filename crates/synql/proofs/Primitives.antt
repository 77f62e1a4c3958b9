-- Figures 14 and 15: registers and flags are the paper's.
-- Assumes nothing.
use Prim.Native.Nat.{ℕ, ◌+◌, ◌%◌, max, ◌≤◌, ◌<◌}
use mathlib.Core.Path.{◌≡◌, refl, sym, ◌∙◌, ap}
use mathlib.Core.Logic.{◌⊎◌, inl, inr}
use mathlib.Core.Bool.{Bool, true, false, cond, ◌&&◌, ◌||◌}
use native.Mathlib.Omega.{arith}
use lib.Dec.{eqb, ltb, leb}
use borrow.Author.Tests.{eqb-true, eqb-false, lt-ltb, le-ltb, le-leb, lt-leb, eq-eqb, ne_eqb}
use Rattle.crdt.specs.Flags.{largest_flag, is_odd, is_even, deleted, redone}
use Rattle.crdt.specs.Cells.{Reg, reg, up_to, join_reg}
use Rattle.crdt.proofs.Tests.{Tri, low, same, high, tri, test}
use Rattle.synql.specs.Synql.{join_lWW, enabled, enable, disable}

-- the register join is (4) where stamps differ
pub join_is_4 : (a b : Reg) → (a.stamp ≡ b.stamp → ⊥) → join_reg a b ≡ join_lWW a b
unfolding join_reg join_lWW up_to
join_is_4 a b n = go (tri a.stamp b.stamp)
  where
    go : Tri a.stamp b.stamp → cond (ltb a.stamp b.stamp || (eqb a.stamp b.stamp && leb a.value b.value)) b a ≡ cond (ltb b.stamp a.stamp) a b
    go (low p) = let l : a.stamp ≤ b.stamp = omega arith in rw (lt-ltb a.stamp b.stamp p, le-ltb b.stamp a.stamp l)
    go (same p) = absurd (n p)
    go (high p) = let l : b.stamp ≤ a.stamp = omega arith in rw (le-ltb a.stamp b.stamp l, ne_eqb a.stamp b.stamp n, lt-ltb b.stamp a.stamp p)

-- departure: "With equal stamps the larger value is kept (the paper keeps its right side there)."
pub equal_stamps : (a b : Reg) → a.stamp ≡ b.stamp → (join_reg a b).value ≡ max a.value b.value
unfolding join_reg up_to
equal_stamps a b e = go (tri a.value b.value)
  where
    l : b.stamp ≤ a.stamp
    l = omega arith

    go : Tri a.value b.value → (cond (ltb a.stamp b.stamp || (eqb a.stamp b.stamp && leb a.value b.value)) b a).value ≡ max a.value b.value
    go (low p) = let m : a.value ≤ b.value = omega arith in rw (le-ltb a.stamp b.stamp l, eq-eqb a.stamp b.stamp e, le-leb a.value b.value m) (omega arith)
    go (same p) = let m : a.value ≤ b.value = omega arith in rw (le-ltb a.stamp b.stamp l, eq-eqb a.stamp b.stamp e, le-leb a.value b.value m) (omega arith)
    go (high p) = rw (le-ltb a.stamp b.stamp l, eq-eqb a.stamp b.stamp e, lt-leb a.value b.value p) (omega arith)

-- delete is (7), and redo is (8) for flags below the largest. An enabled flag, odd in the paper's parity, marks a deletion.
pub delete_is_7 : (f : ℕ) → f ≤ largest_flag → deleted f ≡ enable f
unfolding deleted enable
delete_is_7 f l = go (test (eqb (f % 2) 1))
  where
    go : (eqb (f % 2) 1 ≡ true) ⊎ (eqb (f % 2) 1 ≡ false) → cond (eqb (f % 2) 0 && ltb f largest_flag) (f + 1) f ≡ cond (eqb (f % 2) 1) f (f + 1)
    go (inl p) = let e : f % 2 ≡ 1 = eqb-true (f % 2) 1 p in let n : f % 2 ≡ 0 → ⊥ = omega arith in rw (p, ne_eqb (f % 2) 0 n)
    go (inr p) = let n : f % 2 ≡ 1 → ⊥ = eqb-false (f % 2) 1 p in let e : f % 2 ≡ 0 = omega arith in let m : f < largest_flag = omega arith in rw (p, eq-eqb (f % 2) 0 e, lt-ltb f largest_flag m)

pub redo_is_8 : (f : ℕ) → f < largest_flag → redone f ≡ disable f
unfolding redone disable
redo_is_8 f l = go (test (eqb (f % 2) 1))
  where
    go : (eqb (f % 2) 1 ≡ true) ⊎ (eqb (f % 2) 1 ≡ false) → cond (eqb (f % 2) 1 && ltb f largest_flag) (f + 1) f ≡ cond (eqb (f % 2) 1) (f + 1) f
    go (inl p) = rw (p, lt-ltb f largest_flag l)
    go (inr p) = rw p
