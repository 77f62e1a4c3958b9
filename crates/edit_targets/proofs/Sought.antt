-- The mark of a record that was sought: none where there is no such record.
-- Assumes nothing.
use Prim.Native.Nat.{ℕ, ◌≤◌}
use mathlib.Core.Path.{◌≡◌, ◌∙◌, ap}
use mathlib.Core.Bool.{Bool, false}
use mathlib.Core.List.{List}
use native.Mathlib.Omega.{arith}
use Rattle.std.specs.Prelude.{Option, Some, None, IfSome, IfNone}
use Rattle.std.specs.Option.{MatchOption}
use Rattle.marks.specs.Marks.{is_marked}
use Rattle.marks.proofs.Marks.{marked_none}

pub mark_sought : (o : Option ℕ) (b : Bool) (m : List ℕ) (n : ℕ) {Gave : ℕ → Type 0} → IfSome o (λ i. (1 ≤ i) × (i ≡ n)) → IfNone o (0 ≡ n)
    → MatchOption o (b ≡ false) Gave → ((i : ℕ) → Gave i → b ≡ is_marked m i) → b ≡ is_marked m n
mark_sought None b m n f z h g = h ∙ marked_none m 0 (omega arith) ∙ ap (is_marked m) z
mark_sought (Some i) b m n f z h g = g i h ∙ ap (is_marked m) f.1
