use Prim.Native.Nat.{◌-◌, ◌+◌}
use mathlib.Core.Path.{◌≡◌}
use lib.Dec.{eqb}
use Rattle.model.specs.Layout.{most_relations, first_words, word}
use Rattle.model.specs.Lists.{each}
use Rattle.table_rules.proofs.zero_words.Given as goal

abbrev pub invariant-loop-j : goal.invariant-loop-j
invariant-loop-j l = (l.good ≡ each l.j (λ k. eqb (word l.t (first_words + most_relations + (k - 1))) 0))
