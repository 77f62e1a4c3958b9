-- The definitions compute answers 9 and 10 for a loser that stands.
-- Assumes nothing.
use mathlib.Core.Path.{◌≡◌, refl}
use mathlib.Core.Bool.{true}
use Rattle.model.specs.Book.{book_block, book}
use Rattle.sentences.specs.Standing.{nine_over_standing, ten_over_standing}
use Rattle.model.proofs.Unfolded.{edit_parts}

pub nine_over_standing_holds : nine_over_standing ≡ true
unfolding edit_parts book_block book nine_over_standing
nine_over_standing_holds = refl

pub ten_over_standing_holds : ten_over_standing ≡ true
unfolding edit_parts book_block book ten_over_standing
ten_over_standing_holds = refl
