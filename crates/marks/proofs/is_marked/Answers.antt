-- `marks::is_marked` meets its contract.
-- Assumes nothing.
use native.Mathlib.Omega.{arith}
use Rattle.marks.proofs.Marks.{marked_none, marked_past, marked_here}
use Rattle.marks.proofs.is_marked.Goals as goal

pub returns-then-i-lt1 : goal.returns-then-i-lt1
returns-then-i-lt1 c = marked_none _ _ (omega arith)

pub returns-then-marks-i : goal.returns-then-marks-i
returns-then-marks-i c = marked_past _ _ (omega arith) (omega arith)

pub returns : goal.returns
returns c = marked_here _ _ (omega arith)
