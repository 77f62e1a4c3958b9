-- `table::well_formed_in` meets its contract.
-- Assumes nothing.
use mathlib.Core.Path.{sym, ◌∙◌}
use Rattle.table_rules.proofs.Rules.{ready, formed_header, formed_tested}
use Rattle.table.proofs.well_formed_in.Goals as goal

pub returns-then-not-header_rules_in : goal.returns-then-not-header_rules_in
returns-then-not-header_rules_in g c = formed_header _ _ _ _ c.header_rules_in.ensures c.if-not-header_rules_in.true

pub invariant_of-of : goal.invariant_of-of
invariant_of-of g c =
    let p = c.requires in
    let k = ready g.row.F c.args.schema.now c.args.t.now p.1 p.2 p.3 (sym c.header_rules_in.ensures ∙ c.if-not-header_rules_in.false) in
    record { form = p.0; long = k.long; related = k.related; clocked = k.clocked; stored = k.stored; few = k.few }

pub returns : goal.returns
returns g c =
    formed_tested _ _ _ _ _ _ _ _ c.header_rules_in.ensures c.if-not-header_rules_in.false c.firsts_rule.ensures c.empty_above.ensures
    c.chains.ensures c.rest_zero.ensures
