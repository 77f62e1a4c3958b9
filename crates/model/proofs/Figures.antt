-- The definitions compute the figures of twelve fields.
-- Assumes nothing.
use mathlib.Core.Path.{◌≡◌, refl}
use mathlib.Core.Bool.{true}
use Rattle.model.specs.Figures.{twelve_fields}

pub twelve_fields_hold : twelve_fields ≡ true
unfolding twelve_fields
twelve_fields_hold = refl
