-- `edit_redo::update_picks` meets its contract.
-- Assumes nothing.
use native.Mathlib.Omega.{arith}
use Rattle.edit_laws.proofs.Picks.{update_even, update_new, update_propagation, update_same, update_old, update_not_old}
use Rattle.edit_redo.proofs.update_picks.Goals as goal

pub returns-then-flag_at-eq0 : goal.returns-then-flag_at-eq0
returns-then-flag_at-eq0 c = update_even _ _ _ _ _ c.requires.1 c.flag_at.ensures _ _ _ c.if-flag_at-eq0.true

pub returns-then-leads_to : goal.returns-then-leads_to
returns-then-leads_to c = update_new _ _ _ _ _ c.requires.1 c.flag_at.ensures _ _ _ _ c.if-flag_at-eq0.false c.leads_to.ensures c.if-leads_to.true

pub returns-then-kind-ge-PROPAGATION : goal.returns-then-kind-ge-PROPAGATION
returns-then-kind-ge-PROPAGATION c = update_propagation _ _ _ _ _ c.requires.1 c.flag_at.ensures _ _ _ _ c.if-flag_at-eq0.false c.leads_to.ensures c.if-leads_to.false c.if-kind-ge-PROPAGATION.true

pub returns-then-old-new : goal.returns-then-old-new
returns-then-old-new c = update_same _ _ _ _ _ c.requires.1 c.flag_at.ensures _ _ _ _ c.if-flag_at-eq0.false c.leads_to.ensures c.if-leads_to.false c.if-old-new.true

pub returns-then-leads_to-2 : goal.returns-then-leads_to-2
returns-then-leads_to-2 c =
    update_old _ _ _ _ _ c.requires.1 c.flag_at.ensures _ _ _ _ c.if-flag_at-eq0.false c.leads_to.ensures c.if-leads_to.false
    _ (omega arith) c.if-old-new.false c.leads_to-2.ensures _ c.if-leads_to-2.true c.is_supported.ensures

pub returns : goal.returns
returns c =
    update_not_old _ _ _ _ _ c.requires.1 c.flag_at.ensures _ _ _ _ c.if-flag_at-eq0.false c.leads_to.ensures c.if-leads_to.false
    _ (omega arith) c.if-old-new.false c.leads_to-2.ensures c.if-leads_to-2.false
