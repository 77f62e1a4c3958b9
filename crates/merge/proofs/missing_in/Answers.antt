-- `merge::missing_in` meets its contract. The loop's invariant: the count, and what is missing above the last record met, make what is missing of the relation on.
-- Assumes nothing.
use mathlib.Core.Path.{refl}
use native.Mathlib.Omega.{arith}
use Rattle.merge.proofs.Counts.{count_seeks, count_turn, count_done, absent_small}
use Rattle.merge_laws.proofs.Chain.{count_start, count_within, count_less}
use Rattle.merge.proofs.missing_in.Goals as goal

pub loop-j-init : goal.loop-j-init
loop-j-init c = count_start _ _ c.args.own.whole c.args.other.whole _ c.requires.0 c.requires.1 _ _ c.first_at-j.ensures refl

pub seek-link-requires : goal.seek-link-requires
seek-link-requires c = count_seeks _ _ c.args.own.whole c.args.other.whole _ c.requires.0 c.requires.1 _ _ _ c.loop-j.invariant _ c.loop-j-test.true c.label_at.ensures

pub overflow_add-count : goal.overflow_add-count
overflow_add-count c = omega (arith, absent_small _ _ _ _ c.absent-count.ensures, count_within _ _ c.args.own.whole c.args.other.whole _ c.requires.0 c.requires.1 _ _ _ c.loop-j.invariant, c.args.other.whole.value.room, c.args.other.whole.value.most)

pub loop-j-smaller : goal.loop-j-smaller
loop-j-smaller c = count_less _ _ c.args.own.whole c.args.other.whole _ c.requires.0 c.requires.1 _ _ _ c.loop-j.invariant c.loop-j-test.true _ c.next_at-j.ensures

pub loop-j-preserved : goal.loop-j-preserved
loop-j-preserved c = count_turn _ _ c.args.own.whole c.args.other.whole _ c.requires.0 c.requires.1 _ _ _ c.loop-j.invariant c.loop-j-test.true _ _ _ _ _ c.label_at.ensures c.seek-link.ensures c.label_at-in-loop-j.ensures c.absent-count.ensures c.next_at-j.ensures

pub returns : goal.returns
returns c = count_done _ _ c.args.own.whole c.args.other.whole _ c.requires.0 c.requires.1 _ _ _ c.loop-j.invariant c.loop-j-test.false
