-- `lookup::lookup` meets its contract. Each answer is the lowest check that applies, or what the walk tells.
-- Assumes nothing.
use mathlib.Core.Path.{sym, ◌∙◌}
use native.Mathlib.Omega.{arith}
use Rattle.lookup.proofs.Answers.{lengths_are, heads_are, relation_is, told_1, told_2, told_3, told_5, may_seek, told_sought}
use Rattle.lookup.proofs.lookup.Goals as goal

pub returns-then-not-lengths : goal.returns-then-not-lengths
returns-then-not-lengths c = told_1 _ _ _ _ (sym (lengths_are _ _ _ _ c.schema_length.ensures c.table_length.ensures) ∙ c.if-not-lengths.true)

pub returns-then-is_broken : goal.returns-then-is_broken
returns-then-is_broken c =
    let long = sym (lengths_are _ _ _ _ c.schema_length.ensures c.table_length.ensures) ∙ c.if-not-lengths.false in
    told_2 _ _ _ _ long (sym c.is_broken.ensures ∙ c.if-is_broken.true)

pub returns-then-not-header : goal.returns-then-not-header
returns-then-not-header c =
    let long = sym (lengths_are _ _ _ _ c.schema_length.ensures c.table_length.ensures) ∙ c.if-not-lengths.false in
    let sound = sym c.is_broken.ensures ∙ c.if-is_broken.false in
    told_3 _ _ _ _ long sound (sym (heads_are _ _ _ _ _ c.header_rules.ensures c.firsts_rule.ensures c.empty_above.ensures) ∙ c.if-not-header.true)

pub returns-then-not-inside : goal.returns-then-not-inside
returns-then-not-inside c =
    let long = sym (lengths_are _ _ _ _ c.schema_length.ensures c.table_length.ensures) ∙ c.if-not-lengths.false in
    let sound = sym c.is_broken.ensures ∙ c.if-is_broken.false in
    let heads = sym (heads_are _ _ _ _ _ c.header_rules.ensures c.firsts_rule.ensures c.empty_above.ensures) ∙ c.if-not-header.false in
    told_5 _ _ _ _ long sound heads (sym (relation_is _ c.args.relation _ c.relations.ensures) ∙ c.if-not-inside.true)

pub invariant_of-seek : goal.invariant_of-seek
invariant_of-seek c =
    let long = sym (lengths_are _ _ _ _ c.schema_length.ensures c.table_length.ensures) ∙ c.if-not-lengths.false in
    let sound = sym c.is_broken.ensures ∙ c.if-is_broken.false in
    let heads = sym (heads_are _ _ _ _ _ c.header_rules.ensures c.firsts_rule.ensures c.empty_above.ensures) ∙ c.if-not-header.false in
    let k = may_seek _ _ c.args.relation c.args.label long sound heads in
    record { form = omega arith; long = k.long; related = k.related; clocked = k.clocked; stored = k.stored; few = k.few }

pub returns : goal.returns
returns c =
    let long = sym (lengths_are _ _ _ _ c.schema_length.ensures c.table_length.ensures) ∙ c.if-not-lengths.false in
    let sound = sym c.is_broken.ensures ∙ c.if-is_broken.false in
    let heads = sym (heads_are _ _ _ _ _ c.header_rules.ensures c.firsts_rule.ensures c.empty_above.ensures) ∙ c.if-not-header.false in
    c.seek.ensures ∙ told_sought _ _ _ _ long sound heads (sym (relation_is _ c.args.relation _ c.relations.ensures) ∙ c.if-not-inside.false)
