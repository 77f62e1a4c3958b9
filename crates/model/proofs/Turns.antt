-- The definitions compute the barn in both forms.
-- Assumes nothing.
use mathlib.Core.Path.{◌≡◌, refl}
use mathlib.Core.Bool.{true}
use Rattle.model.specs.Turns.{turns}
use Rattle.model.proofs.Unfolded.{turn_parts}

pub turns_hold : turns ≡ true
unfolding turn_parts turns
turns_hold = refl
