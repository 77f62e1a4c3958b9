-- `references::Listed::part` meets its contract.
-- Assumes nothing.
use Rattle.references.proofs.Parts.{parted, part_holds}
use Rattle.references.proofs.Listed.part.Goals as goal

pub slice_bounds-result-count : goal.slice_bounds-result-count
slice_bounds-result-count c = parted _ _ c.args.self.t.checked _ _ c.args.self.lists _ _ _ c.lower-from.ensures c.lower-to.ensures

pub slice_bounds-result-start : goal.slice_bounds-result-start
slice_bounds-result-start c = parted _ _ c.args.self.t.checked _ _ c.args.self.lists _ _ _ c.lower-from.ensures c.lower-to.ensures

pub slice_bounds-result-count-2 : goal.slice_bounds-result-count-2
slice_bounds-result-count-2 c = parted _ _ c.args.self.t.checked _ _ c.args.self.lists _ _ _ c.lower-from.ensures c.lower-to.ensures

pub slice_bounds-result-start-2 : goal.slice_bounds-result-start-2
slice_bounds-result-start-2 c = parted _ _ c.args.self.t.checked _ _ c.args.self.lists _ _ _ c.lower-from.ensures c.lower-to.ensures

pub invariant_of-result-clause-holds : goal.invariant_of-result-clause-holds
invariant_of-result-clause-holds c = part_holds _ _ c.args.self.t.checked _ _ c.args.self.lists _ _ _ c.lower-from.ensures c.lower-to.ensures
