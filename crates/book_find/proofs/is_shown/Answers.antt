-- `book_find::is_shown` meets its contract. The mark of the record is read.
-- Assumes nothing.
use native.Mathlib.Omega.{arith}
use Rattle.references.proofs.Places.{used_most}
use Rattle.book_find.proofs.Found.{mark_is}
use Rattle.book_find.proofs.is_shown.Goals as goal

pub mark_shown-requires : goal.mark_shown-requires
mark_shown-requires c = used_most _ _ c.args.t.checked

pub bounds-marks-i : goal.bounds-marks-i
bounds-marks-i c = omega (arith, used_most _ _ c.args.t.checked, c.requires.0, c.requires.1)

pub returns : goal.returns
returns c = mark_is _ _ (c.mark_shown.ensures.at c.args.i c.requires.0 c.requires.1)
