-- `edit_delta::draft_deletion` meets its contract.
-- Assumes nothing.
use mathlib.Core.Path.{◌∙◌, ap}
use Rattle.crdt.specs.Flags.{deleted}
use native.Mathlib.Omega.{arith}
use Rattle.model.specs.Layout.{base}
use Rattle.edit_delta.proofs.Given.{source}
use Rattle.edit_delta.proofs.Turns.{found_small, held_edited, held_findable, deletion_done}
use Rattle.edit_delta.proofs.draft_deletion.Goals as goal

pub invariant_of-draft : goal.invariant_of-draft
invariant_of-draft c = record { source = source _ _ _ _ c.requires.ready; edited = held_edited _ _ c.requires.least c.requires.most }

pub find-at-requires : goal.find-at-requires
find-at-requires c = held_findable _ _ _ _ c.requires.ready _ c.requires.least c.requires.most _ _ _ c.write.ensures c.relation_at.ensures c.label_at.ensures

pub base-requires : goal.base-requires
base-requires c = omega (arith, found_small _ _ (source _ _ _ _ c.requires.ready) _ _ (held_edited _ _ c.requires.least c.requires.most) _ _ _ _ c.write.ensures c.find-at.ensures)

pub overflow_add-base : goal.overflow_add-base
unfolding base
overflow_add-base c = omega (arith, c.base.ensures, found_small _ _ (source _ _ _ _ c.requires.ready) _ _ (held_edited _ _ c.requires.least c.requires.most) _ _ _ _ c.write.ensures c.find-at.ensures)

pub returns : goal.returns
returns c =
    deletion_done _ _ _ _ c.requires.ready _ c.requires.least c.requires.most _ _ _ _ c.write.ensures c.relation_at.ensures c.label_at.ensures c.find-at.ensures c.requires.unmarked
    _ _ _ c.base.ensures (c.delete.ensures ∙ ap deleted c.flag_at.ensures) c.store.ensures
