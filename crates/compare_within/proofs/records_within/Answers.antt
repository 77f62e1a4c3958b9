-- `compare_within::records_within` meets its contract. The loop's invariant: the records of the relations before are up to the second's.
-- Assumes nothing.
use native.Mathlib.Omega.{arith}
use mathlib.Core.Path.{sym, ◌∙◌}
use Rattle.compare_laws.proofs.Chains.{chain_fails}
use Rattle.compare_within.proofs.Forms.{below_first, below_next, below_all}
use Rattle.compare_within.proofs.records_within.Goals as goal

pub loop-relation-init : goal.loop-relation-init
loop-relation-init c = below_first _ _

pub returns-then-not-chain_within : goal.returns-then-not-chain_within
returns-then-not-chain_within c = chain_fails _ _ c.args.first.whole _ (sym c.chain_within.ensures ∙ c.if-not-chain_within.true)

pub loop-relation-preserved : goal.loop-relation-preserved
loop-relation-preserved c = below_next _ _ _ _ c.loop-relation.invariant c.chain_within.ensures c.if-not-chain_within.false

pub returns : goal.returns
returns c = below_all _ _ c.args.first.whole _ (omega arith) c.loop-relation.invariant
