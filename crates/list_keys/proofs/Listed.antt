-- Marks that stand for a list of records of a table.
-- Assumes nothing.
use Prim.Native.Nat.{ℕ, ◌≤◌}
use mathlib.Core.Path.{◌≡◌, refl, sym, ◌∙◌, ap}
use mathlib.Core.Bool.{Bool, true, false, cond}
use mathlib.Core.List.{List}
use native.Mathlib.Omega.{arith}
use Rattle.model.specs.Layout.{used_at}
use Rattle.model.specs.Schemas.{broken}
use Rattle.model.specs.Records.{Rec, has}
use Rattle.model.specs.Tables.{record_of}
use Rattle.model.specs.WellFormed.{well_formed}
use Rattle.marks.specs.Marks.{is_marked}
use Rattle.marks.proofs.Marks.{marked_true, true_marked}
use Rattle.references.specs.Resolved.{Marked}

cond_one : (x : Bool) → cond {A = ℕ} x 1 0 ≡ 1 → x ≡ true
cond_one true e = refl
cond_one false e = absurd (omega arith)

module _ (s t : List ℕ) (b : broken s ≡ false) (w : well_formed s t ≡ true) (l : List Rec) (m : List ℕ) (mk : Marked t l m) where
  pub marked_has : (i : ℕ) → 1 ≤ i → i ≤ used_at t → is_marked m i ≡ true → has l (record_of t i).key ≡ true
  marked_has i a g h = cond_one _ (sym (mk.at i a g) ∙ (marked_true m i h).1)

  pub has_marked : (i : ℕ) → 1 ≤ i → i ≤ used_at t → has l (record_of t i).key ≡ true → is_marked m i ≡ true
  has_marked i a g h = true_marked m i a (mk.at i a g ∙ ap (λ (x : Bool). cond x 1 0) h)

abbrev pub mark : Bool → ℕ
mark x = cond x 1 0
