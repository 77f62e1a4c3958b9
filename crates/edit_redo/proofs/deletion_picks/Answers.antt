-- `edit_redo::deletion_picks` meets its contract.
-- Assumes nothing.
use Prim.Native.Nat.{ℕ, ◌%◌}
use mathlib.Core.Path.{◌≡◌}
use native.Mathlib.Omega.{arith}
use Rattle.edit_basics.proofs.Turns.{not_left}
use Rattle.edit_laws.proofs.Picks.{deletion_even, deletion_self, deletion_no, deletion_yes}
use Rattle.std.proofs.lemmas.Bool.{not_from_true}
use Rattle.edit_redo.proofs.deletion_picks.Goals as goal

-- a flag that is not odd, and one that is
even : (f : ℕ) → (f % 2 ≡ 1 → ⊥) → f % 2 ≡ 0
even f n = omega arith

odd : (f : ℕ) → f % 2 ≡ 1 → f % 2 ≡ 0 → ⊥
odd f e z = omega arith

pub returns-then-flag_at-ne1 : goal.returns-then-flag_at-ne1
returns-then-flag_at-ne1 c = deletion_even _ _ _ _ _ c.requires.0 c.requires.1 c.flag_at.ensures (even _ c.if-flag_at-ne1.true)

pub returns-then-p-i : goal.returns-then-p-i
returns-then-p-i c = deletion_self _ _ _ _ _ c.requires.0 c.requires.1 c.flag_at.ensures (odd _ c.if-flag_at-ne1.false) c.if-p-i.true

pub returns-then-not-aborts : goal.returns-then-not-aborts
returns-then-not-aborts c = deletion_no _ _ _ _ _ c.requires.0 c.requires.1 c.flag_at.ensures _ (odd _ c.if-flag_at-ne1.false) c.aborts.ensures (c.if-not-aborts.true)

pub returns : goal.returns
returns c =
    deletion_yes _ _ _ _ _ c.requires.0 c.requires.1 c.flag_at.ensures _ _ (odd _ c.if-flag_at-ne1.false) c.if-p-i.false c.aborts.ensures
    (not_left _ (not_from_true _ c.if-not-aborts.false)) c.is_supported.ensures
