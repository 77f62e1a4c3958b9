use Rattle.edit_basics.specs.Targets.{meets}
use Rattle.edit_basics.proofs.Turns.{NoneTo}
use Rattle.edit_targets.proofs.refers_by.Given as goal

abbrev pub invariant-loop-j : goal.invariant-loop-j
invariant-loop-j g l = NoneTo (meets g.q l.s.t.schema.now l.s.t.table.now l.s.refs.now l.i l.p) l.j
