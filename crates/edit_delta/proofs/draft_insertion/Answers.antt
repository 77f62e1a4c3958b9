-- `edit_delta::draft_insertion` meets its contract.
-- Assumes nothing.
use Rattle.edit_delta.proofs.Given.{source}
use Rattle.edit_delta.proofs.Turns.{found_small, insertion_edited, insertion_findable, insertion_done}
use Rattle.edit_delta.proofs.draft_insertion.Goals as goal

pub invariant_of-draft : goal.invariant_of-draft
invariant_of-draft c = record { source = source _ _ _ _ c.requires.ready; edited = insertion_edited _ _ _ _ _ _ c.requires }

pub find-at-requires : goal.find-at-requires
find-at-requires c = insertion_findable _ _ _ _ _ _ c.requires _ _ c.write.ensures c.new_label-label.ensures

pub write_values-requires : goal.write_values-requires
write_values-requires c = (found_small _ _ (source _ _ _ _ c.requires.ready) _ _ (insertion_edited _ _ _ _ _ _ c.requires) _ _ _ _ c.write.ensures c.find-at.ensures, c.requires.count)

pub returns : goal.returns
returns c = insertion_done _ _ _ _ _ _ c.requires _ _ _ _ _ _ c.write.ensures c.new_label-label.ensures c.find-at.ensures c.write_values.ensures c.clock.ensures c.store.ensures
