-- The definitions compute the examples of how many fields a key may name.
-- Assumes nothing.
use mathlib.Core.Path.{◌≡◌, refl}
use mathlib.Core.Bool.{true}
use Rattle.sentences.specs.Keys.{key_fields}
use Rattle.model.proofs.Unfolded.{schema_parts}

pub key_fields_hold : key_fields ≡ true
unfolding schema_parts key_fields
key_fields_hold = refl
