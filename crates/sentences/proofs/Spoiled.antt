-- The definitions compute the refusals of spoiled header words.
-- Assumes nothing.
use mathlib.Core.Path.{◌≡◌, refl}
use mathlib.Core.Bool.{true}
use Rattle.sentences.specs.Spoiled.{header_spoiled, firsts_spoiled, chains_above}
use Rattle.model.proofs.Unfolded.{lookup_parts}

pub header_spoiled_holds : header_spoiled ≡ true
unfolding lookup_parts header_spoiled
header_spoiled_holds = refl

pub firsts_spoiled_holds : firsts_spoiled ≡ true
unfolding lookup_parts firsts_spoiled
firsts_spoiled_holds = refl

pub chains_above_holds : chains_above ≡ true
unfolding lookup_parts chains_above
chains_above_holds = refl
