-- `edit_redo::is_supported` meets its contract.
-- Assumes nothing.
use mathlib.Core.Path.{◌∙◌, sym}
use Rattle.std.proofs.Common.{rules}
use Rattle.model.specs.Schemas.{schema_of}
use Rattle.model.specs.Tables.{record_of}
use Rattle.edit_basics.proofs.Places.{placed}
use Rattle.edit_basics.proofs.Upto.{any_upto, asked_upto}
use Rattle.edit_laws.proofs.Picks.{backs, backed, unbacked}
use Rattle.edit_redo.proofs.is_supported.Goals as goal

pub any-requires-clause-callable : goal.any-requires-clause-callable
any-requires-clause-callable c =
    asked_upto _ c.new.ensures.start (c.new.ensures.end ∙ c.used.ensures) c.new.ensures.exhausted (λ x p q h. search rules)
    (λ x l m. let o = placed c.args.s.t.checked l m in search rules)

pub returns : goal.returns
returns c =
    let a = c.args in
    let t = a.s.t.table.now in
    any_upto (λ y. backs (schema_of a.s.t.schema.now) (record_of t a.but).key (record_of t a.p).key (record_of t y)) _ _ _ _ _
    c.new.ensures.start (c.new.ensures.end ∙ c.used.ensures) c.new.ensures.exhausted c.any.ensures.ran (λ x b q h. search rules) _
    (λ y l m h. sym (backed _ _ a.s.t.checked _ _ y l m h)) (λ h. sym (unbacked _ _ a.s.t.checked _ _ h))
