-- The definitions compute the examples of old and new tables.
-- Assumes nothing.
use mathlib.Core.Path.{◌≡◌, refl}
use mathlib.Core.Bool.{true}
use Rattle.model.specs.Calls.{schema_number, table_number}
use Rattle.model.specs.Turns.{old_block, old_schema_of, old_herd, old_row, old_barn, new_barn, stale}
use Rattle.model.proofs.Unfolded.{turn_parts}
use Rattle.sentences.specs.Shapes.{turns_refused, turns_ordered, empty_turned, full_turned, seven_turned}

pub turns_refused_hold : turns_refused ≡ true
unfolding turn_parts old_block old_schema_of old_herd old_row old_barn new_barn stale turns_refused
turns_refused_hold = refl

pub turns_ordered_hold : turns_ordered ≡ true
unfolding turn_parts old_block old_schema_of old_herd old_row old_barn new_barn stale turns_ordered
turns_ordered_hold = refl

pub empty_turned_holds : empty_turned ≡ true
unfolding turn_parts old_block old_schema_of old_herd stale empty_turned
empty_turned_holds = refl

pub full_turned_holds : full_turned ≡ true
unfolding turn_parts old_block old_schema_of old_row stale full_turned
full_turned_holds = refl

pub seven_turned_holds : seven_turned ≡ true
unfolding turn_parts old_block old_schema_of old_herd old_row old_barn new_barn stale seven_turned
seven_turned_holds = refl
