-- The definitions compute the barn of the herd book.
-- Assumes nothing.
use mathlib.Core.Path.{◌≡◌, refl}
use mathlib.Core.Bool.{true}
use Rattle.model.specs.Barn.{entered, of_its_kind, found_milkings}
use Rattle.model.proofs.Unfolded.{book_parts}

pub entered_holds : entered ≡ true
unfolding book_parts entered
entered_holds = refl

pub of_its_kind_holds : of_its_kind ≡ true
unfolding book_parts of_its_kind
of_its_kind_holds = refl

pub found_milkings_hold : found_milkings ≡ true
unfolding book_parts found_milkings
found_milkings_hold = refl
