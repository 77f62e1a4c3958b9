-- `edit_delta::draft_update` meets its contract.
-- Assumes nothing.
use native.Mathlib.Omega.{arith}
use Rattle.edit_delta.proofs.Given.{source}
use Rattle.edit_delta.proofs.Turns.{found_small, held_edited, held_findable, update_done}
use Rattle.edit_delta.proofs.draft_update.Goals as goal

pub invariant_of-draft : goal.invariant_of-draft
invariant_of-draft c = record { source = source _ _ _ _ c.requires.ready; edited = held_edited _ _ c.requires.least c.requires.most }

pub find-at-requires : goal.find-at-requires
find-at-requires c = held_findable _ _ _ _ c.requires.ready _ c.requires.least c.requires.most _ _ _ c.write.ensures c.relation_at.ensures c.label_at.ensures

pub write_register-requires : goal.write_register-requires
write_register-requires c = (
  found_small _ _ (source _ _ _ _ c.requires.ready) _ _ (held_edited _ _ c.requires.least c.requires.most) _ _ _ _ c.write.ensures c.find-at.ensures,
  omega (arith, c.requires.first, c.requires.last),
)

pub returns : goal.returns
returns c =
    update_done _ _ _ _ c.requires.ready _ c.requires.least c.requires.most _ _ _ _ c.write.ensures c.relation_at.ensures c.label_at.ensures c.find-at.ensures _ _ c.requires.first c.requires.last c.requires.clock
    _ _ _ _ c.new_label.ensures c.write_register.ensures c.clock.ensures c.store.ensures
