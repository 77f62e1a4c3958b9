-- `merge_act::take` meets its contract. The record is spaced, then joined; it counts where it changed or is past the old ones.
-- Assumes nothing.
use mathlib.Core.Path.{◌∙◌}
use Rattle.merge_act.proofs.Forms.{take_space, take_join, take_is, take_counts, bit}
use Rattle.merge_act.proofs.take.Goals as goal

pub space-i-requires : goal.space-i-requires
space-i-requires c = take_space _ _ _ _ _ _ c.requires c.relation_at-relation.ensures c.label_at-label.ensures

pub join-changed-requires : goal.join-changed-requires
join-changed-requires c = take_join _ _ _ _ _ _ c.requires c.relation_at-relation.ensures c.label_at-label.ensures _ _ c.space-i.ensures.words c.space-i.ensures.index

pub returns : goal.returns
returns c =
    let r = c.relation_at-relation.ensures in
    let l = c.label_at-label.ensures in
    let p = c.space-i.ensures in
    record {
      words = take_is _ _ _ _ _ _ c.requires r l _ _ p.words p.index _ c.join-changed.ensures.words;
      count = c.from.ensures ∙ bit _ ∙ take_counts _ _ _ _ _ _ c.requires r l _ _ p.words p.index _ _ c.used-used.ensures c.join-changed.ensures.changed;
    }
