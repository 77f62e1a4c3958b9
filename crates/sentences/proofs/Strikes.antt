-- The definitions compute the strikes in the herd book, each decided by one field.
-- Assumes nothing.
use mathlib.Core.Path.{◌≡◌, refl}
use mathlib.Core.Bool.{true}
use Rattle.sentences.specs.Strikes.{robot_of_milking, cow_of_milking, robot_of_cleaning, cow_of_treatment}
use Rattle.model.proofs.Unfolded.{strike_parts}

pub robot_of_milking_holds : robot_of_milking ≡ true
unfolding strike_parts robot_of_milking
robot_of_milking_holds = refl

pub cow_of_milking_holds : cow_of_milking ≡ true
unfolding strike_parts cow_of_milking
cow_of_milking_holds = refl

pub robot_of_cleaning_holds : robot_of_cleaning ≡ true
unfolding strike_parts robot_of_cleaning
robot_of_cleaning_holds = refl

pub cow_of_treatment_holds : cow_of_treatment ≡ true
unfolding strike_parts cow_of_treatment
cow_of_treatment_holds = refl
