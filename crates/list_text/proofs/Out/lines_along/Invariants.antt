use Prim.Native.Nat.{◌+◌, ◌-◌}
use Rattle.model.specs.Layout.{used_at}
use Rattle.list_text.proofs.Laying.{Leads}
use Rattle.list_text.proofs.Turns.{lines_from, all_lines}
use Rattle.list_text.proofs.Out.lines_along.Given as goal

abbrev pub invariant-loop-turn : goal.invariant-loop-turn
invariant-loop-turn l =
    Leads l.initial.self (all_lines l.t.schema.now l.t.table.now l.marks) l.self (lines_from l.t.schema.now l.t.table.now l.marks (used_at l.t.table.now + 1 - l.turn) l.next)
