-- A record is up to another by its words exactly as its cell is.
-- Assumes nothing.
use Prim.Native.Nat.{ℕ, zero, suc, ◌+◌, ◌-◌, ◌≤◌, ◌<◌}
use mathlib.Core.Path.{◌≡◌, refl, sym, ◌∙◌, ap}
use mathlib.Core.Bool.{Bool, true, false, ◌&&◌}
use mathlib.Core.List.{List}
use native.Mathlib.Omega.{arith}
use native.Mathlib.Numerals.{add-one}
use lib.Dec.{leb}
use Rattle.crdt.specs.Cells.{Reg, reg, up_to}
use Rattle.crdt.proofs.Tests.{and_none, and_all}
use Rattle.model.specs.Layout.{fields, head_words, word, base, flag_at, value_at, stamp_at}
use Rattle.model.specs.Lists.{from, listed}
use Rattle.model.specs.Tables.{record_of}
use Rattle.compare_laws.specs.UpTo.{regs_up_to, cell_up_to, field_up_to, fields_up_to, record_up_to}

and_assoc : (x y z : Bool) → (x && (y && z)) ≡ ((x && y) && z)
and_assoc true y z = refl
and_assoc false y z = refl

-- one register more at the end
regs_more : (i n : ℕ) (f g : ℕ → Reg) → regs_up_to (from i (suc n) f) (from i (suc n) g) ≡ (regs_up_to (from i n f) (from i n g) && up_to (f (i + n)) (g (i + n)))
unfolding from regs_up_to
regs_more i zero f g = let e : i + 0 ≡ i = omega arith in rw e (sym (and_all (up_to (f i) (g i))))
regs_more i (suc n) f g =
    let e : suc i + n ≡ i + suc n = omega arith in
    let h = rw e at (regs_more (suc i) n f g) in
    ap (λ (x : Bool). up_to (f i) (g i) && x) h ∙ and_assoc (up_to (f i) (g i)) (regs_up_to (from (suc i) n f) (from (suc i) n g)) (up_to (f (i + suc n)) (g (i + suc n)))

-- the register f words behind word p
behind : List ℕ → ℕ → ℕ → Reg
behind t p f = reg (word t (p + f)) (word t (p + fields + f))

fields_regs : (t b : List ℕ) (p q n : ℕ) → fields_up_to n t p b q ≡ regs_up_to (listed n (behind t p)) (listed n (behind b q))
unfolding fields_up_to field_up_to listed from regs_up_to behind
fields_regs t b p q zero = refl
fields_regs t b p q (suc n) =
    let e : 1 + n ≡ suc n = omega arith in
    let h = rw e at (regs_more 1 n (behind t p) (behind b q)) in
    ap (λ (x : Bool). x && up_to (behind t p (suc n)) (behind b q (suc n))) (fields_regs t b p q n) ∙ sym h

pub record_cells : (t b : List ℕ) (i j : ℕ) → record_up_to t i b j ≡ cell_up_to (record_of t i).cell (record_of b j).cell
unfolding record_up_to cell_up_to record_of value_at stamp_at behind
record_cells t b i j = ap (λ (x : Bool). leb (flag_at t i) (flag_at b j) && x) (fields_regs t b (base i + (head_words - 1)) (base j + (head_words - 1)) fields)

module _ (t b : List ℕ) (p q : ℕ) where
  -- fields 1 to n, one after the other
  pub fields_none : true ≡ fields_up_to 0 t p b q
  unfolding fields_up_to
  fields_none = refl

  pub fields_more : (n : ℕ) → true ≡ fields_up_to n t p b q → field_up_to t p b q (n + 1) ≡ true → true ≡ fields_up_to (n + 1) t p b q
  fields_more n e h = rw (add-one n) (unfold fields_up_to in rw (← e, ← add-one n, h) refl)

  fails_more : (n : ℕ) → fields_up_to n t p b q ≡ false → fields_up_to (suc n) t p b q ≡ false
  unfolding fields_up_to
  fails_more n e = rw e refl

  fails_on : (n m : ℕ) → fields_up_to n t p b q ≡ false → fields_up_to (m + n) t p b q ≡ false
  fails_on n zero e = let q : 0 + n ≡ n = omega arith in rw q e
  fails_on n (suc m) e = let q : suc m + n ≡ suc (m + n) = omega arith in rw q (fails_more (m + n) (fails_on n m e))

  -- fields that fail are none of more
  pub fails_within : (n m : ℕ) → n ≤ m → false ≡ fields_up_to n t p b q → false ≡ fields_up_to m t p b q
  fails_within n m l e = let k : (m - n) + n ≡ m = omega arith in sym (rw k at (fails_on n (m - n) (sym e)))

  pub fields_fail : (n m : ℕ) → n < m → field_up_to t p b q (n + 1) ≡ false → false ≡ fields_up_to m t p b q
  fields_fail n m l h =
      let e : fields_up_to (suc n) t p b q ≡ false = unfold fields_up_to in rw (← add-one n, h) (sym (and_none (fields_up_to n t p b q))) in
      fails_within (suc n) m (omega arith) (sym e)
