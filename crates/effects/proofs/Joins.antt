-- What a delta of one changed record and of redone ones holds under a key, and what joining it makes of a cell.
-- Assumes nothing.
use Prim.Native.Nat.{ℕ, zero, suc, max, ◌<◌}
use mathlib.Core.Path.{◌≡◌, refl, sym, ◌∙◌, ap}
use mathlib.Core.Logic.{◌⊎◌, inl, inr}
use mathlib.Core.Bool.{Bool, true, false, cond, ◌||◌, ◌&&◌}
use mathlib.Core.List.{List, [], ◌∷◌}
use mathlib.Core.Option.{Option, none, some}
use native.Mathlib.Omega.{arith}
use lib.Dec.{eqb, leb, ltb}
use lib.ListN.{get_or, replicate}
use borrow.Author.Tests.{eqb-true, ne_eqb, lt-ltb, le-ltb, le-leb, lt-leb}
use Rattle.crdt.specs.Cells.{Reg, reg, no_reg, up_to, join_reg, join_regs, Cell, join_cell, join_opt}
use Rattle.crdt.specs.Flags.{redone}
use Rattle.crdt.proofs.Tests.{test}
use Rattle.crdt.proofs.Lattice.{opt_lattice}
use Rattle.model.specs.Lists.{some_of}
use Rattle.model.specs.Records.{Rec, own, at, in_order}
use Rattle.model.specs.Merge.{join_held, joined_with}
use Rattle.model.specs.Edits.{flag_in, flag_of, flag_only, redoing}
use Rattle.laws.proofs.Join.{opt_none}
use Rattle.laws.proofs.Order.{at_order}

-- "Merge keeps the larger stamp": none is the least register
module _ (g : Reg) where
  pub none_reg : join_reg no_reg g ≡ g
  unfolding join_reg up_to
  none_reg = go g.stamp g.value g
    where
      go : (s v : ℕ) (h : Reg) → cond (ltb 0 s || (eqb 0 s && leb 0 v)) h no_reg ≡ h
      go zero v h = rw (le-leb 0 v (omega arith))
      go (suc s) v h = rw (lt-ltb 0 (suc s) (omega arith))

  pub reg_none : join_reg g no_reg ≡ g
  unfolding join_reg up_to
  reg_none = go g.stamp g.value
    where
      go : (s v : ℕ) → cond (ltb s 0 || (eqb s 0 && leb v 0)) no_reg (reg v s) ≡ reg v s
      go zero zero = refl
      go zero (suc v) = rw (lt-leb (suc v) 0 (omega arith))
      go (suc s) v = rw (le-ltb (suc s) 0 (omega arith), ne_eqb (suc s) 0 (omega arith))

-- a register with a larger stamp is kept
pub newer : (g h : Reg) → g.stamp < h.stamp → join_reg g h ≡ h
unfolding join_reg up_to
newer g h l = rw (lt-ltb g.stamp h.stamp l)

pub regs_at : (a b : List Reg) (j : ℕ) → get_or (join_regs a b) j no_reg ≡ join_reg (get_or a j no_reg) (get_or b j no_reg)
unfolding join_regs
regs_at [] b j = sym (none_reg (get_or b j no_reg))
regs_at (x ∷ a) [] j = sym (reg_none (get_or (x ∷ a) j no_reg))
regs_at (x ∷ a) (y ∷ b) zero = refl
regs_at (x ∷ a) (y ∷ b) (suc j) = regs_at a b j

pub none_at : (n j : ℕ) → get_or (replicate n no_reg) j no_reg ≡ no_reg
none_at zero j = refl
none_at (suc n) zero = refl
none_at (suc n) (suc j) = none_at n j

-- the registers held under a key
abbrev pub regs_in : Option Cell → List Reg
regs_in none = []
regs_in (some c) = c.regs

flag_joined_lem : (a b : Option Cell) → flag_in (join_opt a b) ≡ max (flag_in a) (flag_in b)
unfolding join_opt join_cell
flag_joined_lem none b = omega arith
flag_joined_lem (some a) none = omega arith
flag_joined_lem (some a) (some b) = refl

regs_joined : (a b : Option Cell) (j : ℕ) → get_or (regs_in (join_opt a b)) j no_reg ≡ join_reg (get_or (regs_in a) j no_reg) (get_or (regs_in b) j no_reg)
unfolding join_opt join_cell
regs_joined none b j = sym (none_reg _)
regs_joined (some a) none j = sym (reg_none _)
regs_joined (some a) (some b) j = regs_at a.regs b.regs j

held_flag : (a : Cell) (b : Option Cell) → (join_held a b).flag ≡ max a.flag (flag_in b)
unfolding join_cell
held_flag a none = omega arith
held_flag a (some b) = refl

held_regs : (a : Cell) (b : Option Cell) (j : ℕ) → get_or (join_held a b).regs j no_reg ≡ join_reg (get_or a.regs j no_reg) (get_or (regs_in b) j no_reg)
unfolding join_cell
held_regs a none j = sym (reg_none _)
held_regs a (some b) j = regs_at a.regs b.regs j

-- a key among keys
abbrev pub among : ℕ → List ℕ → Bool
among k ks = some_of (λ j. eqb k j) ks

-- what the redone records hold
abbrev raised : ℕ → List Rec → ℕ → Cell
raised w c k = record { flag = redone (flag_of c k); regs = replicate w no_reg }

at_redoing : (w : ℕ) (c : List Rec) (k : ℕ) (ks : List ℕ) → at k (redoing w c ks) ≡ cond (among k ks) (some (raised w c k)) none
unfolding at redoing some_of
at_redoing w c k [] = refl
at_redoing w c k (j ∷ ks) = go (test (eqb k j)) (at_redoing w c k ks)
  where
    both : (b : Bool) → join_opt (some (raised w c k)) (cond b (some (raised w c k)) none) ≡ some (raised w c k)
    both true = opt_lattice.idem (some (raised w c k))
    both false = opt_none (some (raised w c k))

    go : (eqb k j ≡ true) ⊎ (eqb k j ≡ false) → at k (redoing w c ks) ≡ cond (among k ks) (some (raised w c k)) none
        → join_opt (own k (flag_only w j (redone (flag_of c j)))) (at k (redoing w c ks)) ≡ cond (eqb k j || among k ks) (some (raised w c k)) none
    go (inl p) h = unfold own flag_only in rw (h, p) (rw (← (eqb-true k j p)) (both (among k ks)))
    go (inr p) h = unfold own flag_only join_opt in rw (h, p) refl

redoing_flag : (w : ℕ) (c : List Rec) (k : ℕ) (ks : List ℕ) → flag_in (at k (redoing w c ks)) ≡ cond (among k ks) (redone (flag_of c k)) 0
redoing_flag w c k ks = rw (at_redoing w c k ks) (go (among k ks))
  where
    go : (b : Bool) → flag_in (cond b (some (raised w c k)) none) ≡ cond b (redone (flag_of c k)) 0
    go true = refl
    go false = refl

redoing_regs : (w : ℕ) (c : List Rec) (k : ℕ) (ks : List ℕ) (j : ℕ) → get_or (regs_in (at k (redoing w c ks))) j no_reg ≡ no_reg
redoing_regs w c k ks j = rw (at_redoing w c k ks) (go (among k ks))
  where
    go : (b : Bool) → get_or (regs_in (cond b (some (raised w c k)) none)) j no_reg ≡ no_reg
    go true = none_at w j
    go false = refl

-- a record joined with one changed record and redone ones
module _ (w : ℕ) (c : List Rec) (x : Rec) (ks : List ℕ) (y : Rec) where
  pub changed_flag : (joined_with (in_order (x ∷ redoing w c ks)) y).cell.flag ≡ max y.cell.flag (max (flag_in (own y.key x)) (cond (among y.key ks) (redone (flag_of c y.key)) 0))
  unfolding joined_with at
  changed_flag =
      held_flag y.cell (at y.key (in_order (x ∷ redoing w c ks)))
      ∙ ap (λ (o : Option Cell). max y.cell.flag (flag_in o)) (at_order y.key (x ∷ redoing w c ks))
      ∙ ap (max y.cell.flag) (flag_joined_lem (own y.key x) (at y.key (redoing w c ks)) ∙ ap (max (flag_in (own y.key x))) (redoing_flag w c y.key ks))

  pub changed_regs : (j : ℕ) → get_or (joined_with (in_order (x ∷ redoing w c ks)) y).cell.regs j no_reg ≡ join_reg (get_or y.cell.regs j no_reg) (get_or (regs_in (own y.key x)) j no_reg)
  unfolding joined_with at
  changed_regs j =
      held_regs y.cell (at y.key (in_order (x ∷ redoing w c ks))) j
      ∙ ap (λ (o : Option Cell). join_reg (get_or y.cell.regs j no_reg) (get_or (regs_in o) j no_reg)) (at_order y.key (x ∷ redoing w c ks))
      ∙ ap (join_reg (get_or y.cell.regs j no_reg)) (regs_joined (own y.key x) (at y.key (redoing w c ks)) j ∙ ap (join_reg (get_or (regs_in (own y.key x)) j no_reg)) (redoing_regs w c y.key ks j) ∙ reg_none _)
