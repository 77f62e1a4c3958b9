-- `merge_act::take_chain` meets its contract. The loop's invariant: what is left to take in gives the same records as all did, and the count is short by what it changes. The measure is what is left of the other chain.
-- Assumes nothing.
use mathlib.Core.Path.{refl, ◌∙◌}
use native.Mathlib.Omega.{arith}
use Rattle.merge_laws.proofs.Chain.{along_start, along_less, along_within}
use Rattle.merge_act.proofs.Forms.{chain_seeks, chain_takes, chain_turn, chain_done}
use Rattle.merge_act.proofs.take_chain.Goals as goal

pub overflow_sub-link : goal.overflow_sub-link
overflow_sub-link c = omega arith

pub overflow_add-link : goal.overflow_add-link
overflow_add-link c = omega arith

pub loop-j-init : goal.loop-j-init
loop-j-init c = (refl, along_start _ _ _ c.requires _ _ c.first_at-j.ensures refl)

pub seek-link-requires : goal.seek-link-requires
seek-link-requires c = chain_seeks _ _ _ _ c.requires _ _ _ c.loop-j.invariant.1 _ c.loop-j-test.true c.label_at.ensures

pub take-count-requires : goal.take-count-requires
take-count-requires c = chain_takes _ _ _ _ c.requires _ _ _ c.loop-j.invariant.1 _ _ c.loop-j-test.true c.label_at.ensures c.seek-link.ensures

pub overflow_add-count : goal.overflow_add-count
overflow_add-count c = omega (arith, along_within _ _ _ c.requires _ _ _ _ (chain_turn _ _ _ _ c.requires _ _ _ c.loop-j.invariant.1 _ _ _ _ _ c.loop-j-test.true c.label_at.ensures c.seek-link.ensures c.take-count.ensures.words c.take-count.ensures.count refl))

pub loop-j-smaller : goal.loop-j-smaller
loop-j-smaller c = along_less _ _ _ c.requires _ _ _ _ c.loop-j.invariant.1 c.loop-j-test.true _ c.next_at-j.ensures

pub loop-j-preserved : goal.loop-j-preserved
loop-j-preserved c = (c.take-count.auto.own ∙ c.loop-j.invariant.0, chain_turn _ _ _ _ c.requires _ _ _ c.loop-j.invariant.1 _ _ _ _ _ c.loop-j-test.true c.label_at.ensures c.seek-link.ensures c.take-count.ensures.words c.take-count.ensures.count c.next_at-j.ensures)

pub returns : goal.returns
returns c = chain_done _ _ _ _ c.requires _ _ _ c.loop-j.invariant.1 c.loop-j-test.false
