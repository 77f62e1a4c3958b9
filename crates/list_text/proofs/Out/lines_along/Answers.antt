-- `list_text::Out::lines_along` meets its contract.
-- Assumes nothing.
use native.Mathlib.Omega.{arith}
use Rattle.list_text.proofs.Turns.{lines_start, lines_on, lines_out, lines_end}
use Rattle.list_text.proofs.Out.lines_along.Goals as goal

pub loop-turn-init : goal.loop-turn-init
loop-turn-init c = lines_start _ _ _ _ _ _ (omega arith) c.given_after-next.ensures

pub loop-turn-preserved : goal.loop-turn-preserved
loop-turn-preserved c =
    lines_on _ _ _ _ _ _ _ _ (omega (arith, c.used-turn-end.ensures)) c.in-Some.is c.given_after-next-in-loop-turn.ensures c.loop-turn.invariant c.line.ensures

pub returns-after-loop-turn : goal.returns-after-loop-turn
returns-after-loop-turn c = lines_out _ _ _ _ _ (omega (arith, c.used-turn-end.ensures)) c.loop-turn.invariant

pub returns-in_default : goal.returns-in_default
returns-in_default c = lines_end _ _ _ _ _ c.in_default.is c.loop-turn.invariant
