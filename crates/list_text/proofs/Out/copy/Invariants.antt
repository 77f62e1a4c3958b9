use lib.ListN.{drop}
use Rattle.list_text.proofs.Laying.{Leads}
use Rattle.list_text.proofs.Out.copy.Given as goal

abbrev pub invariant-loop-x : goal.invariant-loop-x
invariant-loop-x l = Leads l.initial.self l.text l.self (drop l.x-index l.text)
