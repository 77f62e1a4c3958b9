-- `edit_delta::Draft::write_chain` meets its contract.
-- Assumes nothing.
use native.Mathlib.Omega.{arith}
use Rattle.edit_delta.proofs.Turns.{chain_starts, chain_steppable, chain_turns, chain_less, chain_ends}
use Rattle.edit_delta.proofs.Draft.write_chain.Goals as goal

pub loop-i-init : goal.loop-i-init
loop-i-init c = chain_starts _ _ c.args.self.source _ _ c.args.self.edited _ c.requires.1 c.requires.2 _ _ c.requires.0 c.first_at-i.ensures

pub draft_record-requires : goal.draft_record-requires
draft_record-requires c = chain_steppable _ _ c.args.self.source _ _ c.args.self.edited _ c.requires.1 c.requires.2 _ _ c.loop-i-test.true c.loop-i.invariant.0 c.loop-i.invariant.1

pub loop-i-smaller : goal.loop-i-smaller
loop-i-smaller c = chain_less _ _ c.args.self.source _ _ c.args.self.edited _ c.requires.1 c.requires.2 _ _ c.loop-i-test.true c.loop-i.invariant.0 c.loop-i.invariant.1 _ c.next_at-i.ensures

pub loop-i-preserved : goal.loop-i-preserved
loop-i-preserved c =
    chain_turns _ _ c.args.self.source _ _ c.args.self.edited _ c.requires.1 c.requires.2 _ _ c.loop-i-test.true c.loop-i.invariant.0 c.loop-i.invariant.1 _ _ c.draft_record.ensures c.next_at-i.ensures

pub returns : goal.returns
returns c = chain_ends _ _ c.args.self.source _ _ c.args.self.edited _ c.requires.1 c.requires.2 _ _ (omega arith) c.loop-i.invariant.1
