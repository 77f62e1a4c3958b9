-- `compare_within::chain_within` meets its contract. The loop's invariant: the records of the chain met so far are up to the second's.
-- Assumes nothing.
use mathlib.Core.Path.{refl}
use Rattle.compare_within.proofs.Forms.{chain_seek, chain_small, chain_turn, chain_stop, chain_done}
use Rattle.compare_laws.proofs.Steps.{compare_start, compare_less}
use Rattle.compare_within.proofs.chain_within.Goals as goal

pub loop-j-init : goal.loop-j-init
loop-j-init c = compare_start _ _ c.args.second.whole c.args.first.whole _ c.requires.0 c.requires.1 _ _ c.first_at-j.ensures refl

pub seek-link-requires : goal.seek-link-requires
seek-link-requires c = chain_seek _ _ c.args.second.whole c.args.first.whole _ c.requires.0 c.requires.1 _ _ c.loop-j.invariant _ c.loop-j-test.true c.label_at.ensures

pub link_within-requires : goal.link_within-requires
link_within-requires c = chain_small _ _ c.args.second.whole c.args.first.whole _ c.requires.0 c.requires.1 _ _ c.loop-j.invariant c.loop-j-test.true _ _ c.label_at.ensures c.seek-link.ensures

pub returns-then-not-link_within : goal.returns-then-not-link_within
returns-then-not-link_within c = chain_stop _ _ c.args.second.whole c.args.first.whole _ c.requires.0 c.requires.1 _ _ c.loop-j.invariant c.loop-j-test.true _ _ _ c.label_at.ensures c.seek-link.ensures c.link_within.ensures c.if-not-link_within.true

pub loop-j-smaller : goal.loop-j-smaller
loop-j-smaller c = compare_less _ _ c.args.second.whole c.args.first.whole _ c.requires.0 c.requires.1 _ _ c.loop-j.invariant c.loop-j-test.true _ c.next_at-j.ensures

pub loop-j-preserved : goal.loop-j-preserved
loop-j-preserved c = chain_turn _ _ c.args.second.whole c.args.first.whole _ c.requires.0 c.requires.1 _ _ c.loop-j.invariant c.loop-j-test.true _ _ _ _ c.label_at.ensures c.seek-link.ensures c.link_within.ensures c.if-not-link_within.false c.next_at-j.ensures

pub returns : goal.returns
returns c = chain_done _ _ c.args.second.whole c.args.first.whole _ c.requires.0 c.requires.1 _ _ c.loop-j.invariant c.loop-j-test.false
