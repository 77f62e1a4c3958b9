-- `merge_act::take_chains` meets its contract. The loop's invariant: what is left to take in, from the relation on, gives the same records as all did, and the count is short by what it changes.
-- Assumes nothing.
use Prim.Native.Nat.{◌-◌}
use mathlib.Core.Path.{refl, ◌∙◌}
use native.Mathlib.Omega.{arith}
use Rattle.merge_laws.proofs.Chain.{taken_none, taken_more, taken_within, chained}
use Rattle.merge_act.proofs.Forms.{chains_all, chains_count}
use Rattle.merge_act.proofs.take_chains.Goals as goal

pub loop-relation-init : goal.loop-relation-init
loop-relation-init c = (refl, taken_none _ _ _ c.requires.own)

pub take_chain-count-requires : goal.take_chain-count-requires
take_chain-count-requires c = let v = c.loop-relation.invariant in chained _ _ c.requires _ _ _ (omega arith) (omega arith) v.1

pub overflow_add-count : goal.overflow_add-count
overflow_add-count c = let v = c.loop-relation.invariant in omega (arith, taken_within _ _ c.requires _ _ _ (taken_more _ _ _ _ _ _ _ _ _ v.1 c.take_chain-count.ensures))

pub loop-relation-preserved : goal.loop-relation-preserved
loop-relation-preserved c = let v = c.loop-relation.invariant in (c.take_chain-count.auto.own ∙ v.0, taken_more _ _ _ _ _ _ _ _ _ v.1 c.take_chain-count.ensures)

pub returns : goal.returns
returns c =
    let v = c.loop-relation.invariant in
    record { words = chains_all _ _ _ _ _ c.requires (omega arith) (omega arith) v.1; count = chains_count _ _ _ _ _ c.requires (omega arith) (omega arith) v.1 }
