-- `merge::missing` meets its contract. The loop's invariant: the count, and what is missing from the relation on, make what is missing in all.
-- Assumes nothing.
use native.Mathlib.Omega.{arith}
use Rattle.model.specs.Records.{place}
use Rattle.merge_laws.specs.Absorb.{records_in}
use Rattle.merge_laws.proofs.Chain.{missing_within}
use Rattle.merge.proofs.Counts.{count_all}
use Rattle.merge.proofs.missing.Goals as goal

pub overflow_add-count : goal.overflow_add-count
overflow_add-count c = let w = c.args.other.whole in omega (arith, c.missing_in-count.ensures, c.loop-relation.invariant, missing_within (records_in c.args.own.words.now) (records_in c.args.other.words.now) (place 1 0) w.value.single, w.value.room, w.value.most)

pub returns : goal.returns
returns c = count_all _ _ c.args.own.whole c.args.other.whole _ _ (omega arith) (omega arith) c.loop-relation.invariant
