-- `edit_conflicts::is_taken` meets its contract.
-- Assumes nothing.
use mathlib.Core.Path.{sym, ◌∙◌}
use mathlib.Core.Bool.{◌&&◌}
use Rattle.std.proofs.Common.{rules}
use Rattle.marks.specs.Marks.{is_marked}
use Rattle.edit_basics.proofs.Places.{placed}
use Rattle.edit_basics.proofs.Upto.{any_upto, asked_upto}
use Rattle.edit_laws.specs.Clash.{clashes}
use Rattle.edit_laws.proofs.Clash.{stand_found, stand_none}
use Rattle.edit_conflicts.proofs.is_taken.Goals as goal

pub any-requires-clause-callable : goal.any-requires-clause-callable
any-requires-clause-callable c =
    asked_upto _ c.new.ensures.start (c.new.ensures.end ∙ c.used.ensures) c.new.ensures.exhausted (λ x p q h. search rules)
    (λ x l m. let o = placed c.args.t.checked l m in search rules)

pub returns : goal.returns
returns c = λ p same.
    let a = c.args in
    any_upto (λ z. is_marked a.stands.now z && clashes a.t.schema.now a.t.table.now a.r a.first a.second a.but a.values.now z) _ _ _ _ _
    c.new.ensures.start (c.new.ensures.end ∙ c.used.ensures) c.new.ensures.exhausted c.any.ensures.ran (λ x b q h. search rules) _
    (λ y l m h. sym (stand_found _ _ _ a.t.checked c.requires.0 _ p same y l m h)) (λ h. sym (stand_none _ _ _ a.t.checked c.requires.0 _ p same h))
