use mathlib.Core.Bool.{cond}
use lib.Dec.{eqb}
use Rattle.model.specs.Layout.{value_at}
use Rattle.edit_laws.proofs.Picks.{Filled}
use Rattle.edit_update.proofs.renew.Given as goal

abbrev pub invariant-loop-j : goal.invariant-loop-j
invariant-loop-j l = Filled (λ q. cond (eqb q l.f) l.new (value_at l.table l.i q)) l.value-items l.j
