-- `edit_conflicts::is_held` meets its contract.
-- Assumes nothing.
use mathlib.Core.Path.{refl, sym, ◌∙◌}
use mathlib.Core.Bool.{◌&&◌}
use Rattle.std.proofs.Common.{rules}
use Rattle.model.specs.Tables.{record_of}
use Rattle.marks.specs.Marks.{is_marked}
use Rattle.edit_basics.proofs.Places.{placed}
use Rattle.edit_basics.proofs.Upto.{any_upto, asked_upto}
use Rattle.edit_laws.proofs.Clash.{stand_found, stand_none}
use Rattle.edit_laws.proofs.DeletionNumber.{aborting}
use Rattle.edit_conflicts.proofs.is_held.Goals as goal

pub any-requires-clause-callable : goal.any-requires-clause-callable
any-requires-clause-callable c =
    asked_upto _ c.new.ensures.start (c.new.ensures.end ∙ c.used.ensures) c.new.ensures.exhausted (λ x p q h. search rules)
    (λ x l m. let o = placed c.args.s.t.checked l m in search rules)

pub returns : goal.returns
returns c =
    let a = c.args in
    any_upto (λ z. is_marked a.stands.now z && aborting a.s.t.schema.now a.s.t.table.now a.i (record_of a.s.t.table.now z)) _ _ _ _ _
    c.new.ensures.start (c.new.ensures.end ∙ c.used.ensures) c.new.ensures.exhausted c.any.ensures.ran (λ x b q h. search rules) _
    (λ y l m h. sym (stand_found _ _ _ a.s.t.checked c.requires.1 _ (aborting a.s.t.schema.now a.s.t.table.now a.i) (λ z k n. refl) y l m h))
    (λ h. sym (stand_none _ _ _ a.s.t.checked c.requires.1 _ (aborting a.s.t.schema.now a.s.t.table.now a.i) (λ z k n. refl) h))
