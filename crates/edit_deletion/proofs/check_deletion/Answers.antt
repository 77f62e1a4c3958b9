-- `edit_deletion::check_deletion` meets its contract.
-- Assumes nothing.
use Rattle.edit_basics.proofs.Turns.{not_left}
use Rattle.edit_laws.proofs.DeletionNumber.{deletion_hidden, deletion_referenced, deletion_spent, deletion_done}
use Rattle.std.proofs.lemmas.Bool.{not_from_true}
use Rattle.edit_deletion.proofs.check_deletion.Goals as goal

pub returns-then-not-is_marked-clause-number : goal.returns-then-not-is_marked-clause-number
returns-then-not-is_marked-clause-number c = deletion_hidden _ _ _ c.requires.0 _ c.args.s.shown_marks _ c.is_marked.ensures c.if-not-is_marked.true

pub returns-then-is_held-clause-number : goal.returns-then-is_held-clause-number
returns-then-is_held-clause-number c = deletion_referenced _ _ _ c.requires.0 _ c.args.s.shown_marks _ c.is_marked.ensures (not_left _ (not_from_true _ c.if-not-is_marked.false)) _ c.is_held.ensures c.if-is_held.true

pub returns-then-is_spent-clause-number : goal.returns-then-is_spent-clause-number
returns-then-is_spent-clause-number c = deletion_spent _ _ _ c.requires.0 _ c.args.s.shown_marks _ c.is_marked.ensures (not_left _ (not_from_true _ c.if-not-is_marked.false)) _ c.is_held.ensures c.if-is_held.false _ (c.is_spent.ensures _ c.mark_deletion.ensures) c.if-is_spent.true

pub returns-clause-number : goal.returns-clause-number
returns-clause-number c = deletion_done _ _ _ c.requires.0 _ c.args.s.shown_marks _ c.is_marked.ensures (not_left _ (not_from_true _ c.if-not-is_marked.false)) _ c.is_held.ensures c.if-is_held.false _ (c.is_spent.ensures _ c.mark_deletion.ensures) c.if-is_spent.false
