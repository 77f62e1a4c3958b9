-- The order of registers carried on to cells and records (document 02, F-3): what the steps of a comparison promise.
-- Assumes nothing.
use Rattle.std.specs.Prelude.{ℕ, zero, suc, ◌+◌, ◌-◌, Bool, true, false, ◌&&◌, List, [], ◌∷◌, eqb, leb}
use Rattle.std.proofs.Math.Option.{Option, none, some}
use Rattle.crdt.specs.Cells.{Reg, reg, up_to, Cell}
use Rattle.model.specs.Layout.{fields, head_words, word, base, flag_at}
use Rattle.model.specs.Lists.{only, all_of}
use Rattle.model.specs.Records.{Rec, relation, at, in_order}

-- Each register up to the one of its field.
unfoldable pub regs_up_to : List Reg → List Reg → Bool
regs_up_to [] ys = true
regs_up_to (x ∷ xs) [] = false
regs_up_to (x ∷ xs) (y ∷ ys) = up_to x y && regs_up_to xs ys

-- The flag at most the other's, each register up to the other's.
unfoldable pub cell_up_to : Cell → Cell → Bool
cell_up_to c d = leb c.flag d.flag && regs_up_to c.regs d.regs

-- The same where the other side may hold nothing.
unfoldable pub opt_up_to : Option Cell → Cell → Bool
opt_up_to none c = false
opt_up_to (some d) c = cell_up_to c d

-- Record y up to what records s hold under its key.
unfoldable pub up_to_in : List Rec → Rec → Bool
up_to_in s y = opt_up_to (at y.key s) y.cell

-- Each record of relation r of o up to records s.
unfoldable pub chain_up_to : List Rec → ℕ → List Rec → Bool
chain_up_to s r o = all_of (up_to_in s) (only (λ (x : Rec). eqb (relation x) r) (in_order o))

-- Each record of o up to records s.
unfoldable pub records_up_to : List Rec → List Rec → Bool
records_up_to s o = all_of (up_to_in s) (in_order o)

-- By the words: field f behind word p of table t up to that behind word q of table b; fields 1 to n; record i up to record j, whose fields lie
-- behind the last word of their heads.
unfoldable pub field_up_to : List ℕ → ℕ → List ℕ → ℕ → ℕ → Bool
field_up_to t p b q f = up_to (reg (word t (p + f)) (word t (p + fields + f))) (reg (word b (q + f)) (word b (q + fields + f)))

unfoldable pub fields_up_to : ℕ → List ℕ → ℕ → List ℕ → ℕ → Bool
fields_up_to zero t p b q = true
fields_up_to (suc n) t p b q = fields_up_to n t p b q && field_up_to t p b q (suc n)

unfoldable pub record_up_to : List ℕ → ℕ → List ℕ → ℕ → Bool
record_up_to t i b j =
    leb (flag_at t i) (flag_at b j) && fields_up_to fields t (base i + (head_words - 1)) b (base j + (head_words - 1))
