-- Registers, and what a table holds under a relation and a label (document 01, "Labels, registers, flags" and "Merge and edits").
-- Assumes nothing.
use Rattle.std.specs.Prelude.{ℕ, max, Bool, true, false, cond, ◌&&◌, ◌||◌, not, List, [], ◌∷◌, ◌≡◌, ltb, leb, eqb}
use Rattle.std.proofs.Math.Option.{Option, none, some}

-- "A register is a 64-bit value and a stamp, which is a label or none": stamp 0 is none.
pub record Reg : Type 0 where
  pub value : ℕ
  pub stamp : ℕ

abbrev pub reg : ℕ → ℕ → Reg
reg v s = record { value = v; stamp = s }

-- "stamp none has value 0"
abbrev pub no_reg : Reg
no_reg = reg 0 0

-- The order of registers: by stamp, with equal stamps by value.
unfoldable pub up_to : Reg → Reg → Bool
up_to a b = ltb a.stamp b.stamp || (eqb a.stamp b.stamp && leb a.value b.value)

-- "Merge keeps the larger stamp. With equal stamps the larger value is kept"
unfoldable pub join_reg : Reg → Reg → Reg
join_reg a b = cond (up_to a b) b a

-- "register by register"; where one list ends, the other's registers stay.
unfoldable pub join_regs : List Reg → List Reg → List Reg
join_regs [] ys = ys
join_regs (x ∷ xs) [] = x ∷ xs
join_regs (x ∷ xs) (y ∷ ys) = join_reg x y ∷ join_regs xs ys

-- A flag and registers: what a table holds under a relation and a label.
pub record Cell : Type 0 where
  pub flag : ℕ
  pub regs : List Reg

-- "join register by register and flag by flag"; of flags "Merge takes the larger".
unfoldable pub join_cell : Cell → Cell → Cell
join_cell a b = record { flag = max a.flag b.flag; regs = join_regs a.regs b.regs }

-- The same where either side may hold nothing.
unfoldable pub join_opt : Option Cell → Option Cell → Option Cell
join_opt none y = y
join_opt (some a) none = some a
join_opt (some a) (some b) = some (join_cell a b)

-- "whether the value or stamp differs from before" (document 02, F-1)
unfoldable pub reg_changed : Reg → Reg → Bool
reg_changed a b = not (eqb a.value b.value) || not (eqb a.stamp b.stamp)

-- Whether a register differs, or there are more or fewer.
unfoldable pub regs_changed : List Reg → List Reg → Bool
regs_changed [] [] = false
regs_changed [] (y ∷ ys) = true
regs_changed (x ∷ xs) [] = true
regs_changed (x ∷ xs) (y ∷ ys) = reg_changed x y || regs_changed xs ys

-- "such a change": of the flag, or of a register
unfoldable pub cell_changed : Cell → Cell → Bool
cell_changed a b = not (eqb a.flag b.flag) || regs_changed a.regs b.regs

-- Commutative, associative, idempotent.
pub record Semilattice {A : Type 0} (f : A → A → A) : Type 0 where
  pub comm : (a b : A) → f a b ≡ f b a
  pub assoc : (a b c : A) → f (f a b) c ≡ f a (f b c)
  pub idem : (a : A) → f a a ≡ a
