-- `references::Part::resolve_one` meets its contract.
-- Assumes nothing.
use mathlib.Core.Path.{◌∙◌}
use Rattle.references.proofs.Refs.{value_below, resolved_empty, resolved_or}
use Rattle.references.proofs.Part.resolve_one.Goals as goal

pub returns-then-label-eq0 : goal.returns-then-label-eq0
returns-then-label-eq0 c = resolved_empty _ _ _ _ _ _ c.requires.4 c.value_at-label.ensures c.if-label-eq0.true

pub find-requires : goal.find-requires
find-requires c =
    let p = c.requires in
    value_below _ _ _ _ _ _ p.4 c.value_at-label.ensures c.args.self.t.checked p.0 p.1 p.2 p.3

pub returns : goal.returns
returns c = c.unwrap_or.ensures ∙ resolved_or _ _ _ _ _ _ c.requires.4 c.value_at-label.ensures _ c.find.ensures c.if-label-eq0.false
