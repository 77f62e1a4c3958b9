-- `compare::compare` meets its contract. Each answer is the lowest check that applies, or the verdict.
-- Assumes nothing.
use Prim.Native.Nat.{ℕ}
use mathlib.Core.Path.{sym, ap, ◌∙◌}
use Rattle.answers.specs.Told.{told}
use Rattle.merge_laws.proofs.Wholes.{lengths_are, first_asked, second_asked, both_whole}
use Rattle.compare.proofs.Answers.{told_1, told_2, told_3, told_4, told_0}
use Rattle.compare.proofs.compare.Goals as goal

pub returns-then-not-lengths : goal.returns-then-not-lengths
returns-then-not-lengths c = told_1 _ _ _ (sym (lengths_are _ _ _ _ _ _ c.schema_length.ensures c.table_length.ensures c.table_length-2.ensures) ∙ c.if-not-lengths.true)

pub returns-then-is_broken : goal.returns-then-is_broken
returns-then-is_broken c = let l = sym (lengths_are _ _ _ _ _ _ c.schema_length.ensures c.table_length.ensures c.table_length-2.ensures) ∙ c.if-not-lengths.false in told_2 _ _ _ l (sym c.is_broken.ensures ∙ c.if-is_broken.true)

pub well_formed-requires : goal.well_formed-requires
well_formed-requires c = let l = sym (lengths_are _ _ _ _ _ _ c.schema_length.ensures c.table_length.ensures c.table_length-2.ensures) ∙ c.if-not-lengths.false in let nb = sym c.is_broken.ensures ∙ c.if-is_broken.false in first_asked _ _ _ l nb

pub returns-then-not-well_formed : goal.returns-then-not-well_formed
returns-then-not-well_formed c = let l = sym (lengths_are _ _ _ _ _ _ c.schema_length.ensures c.table_length.ensures c.table_length-2.ensures) ∙ c.if-not-lengths.false in let nb = sym c.is_broken.ensures ∙ c.if-is_broken.false in told_3 _ _ _ l nb (sym c.well_formed-2.ensures ∙ c.if-not-well_formed.true)

pub well_formed-requires-2 : goal.well_formed-requires-2
well_formed-requires-2 c = let l = sym (lengths_are _ _ _ _ _ _ c.schema_length.ensures c.table_length.ensures c.table_length-2.ensures) ∙ c.if-not-lengths.false in let nb = sym c.is_broken.ensures ∙ c.if-is_broken.false in second_asked _ _ _ l nb

pub returns-then-not-well_formed-2 : goal.returns-then-not-well_formed-2
returns-then-not-well_formed-2 c = let l = sym (lengths_are _ _ _ _ _ _ c.schema_length.ensures c.table_length.ensures c.table_length-2.ensures) ∙ c.if-not-lengths.false in let nb = sym c.is_broken.ensures ∙ c.if-is_broken.false in let wa = sym c.well_formed-2.ensures ∙ c.if-not-well_formed.false in told_4 _ _ _ l nb wa (sym c.well_formed-3.ensures ∙ c.if-not-well_formed-2.true)

pub invariant_of-judge : goal.invariant_of-judge
invariant_of-judge c = let l = sym (lengths_are _ _ _ _ _ _ c.schema_length.ensures c.table_length.ensures c.table_length-2.ensures) ∙ c.if-not-lengths.false in let nb = sym c.is_broken.ensures ∙ c.if-is_broken.false in let wa = sym c.well_formed-2.ensures ∙ c.if-not-well_formed.false in let wb = sym c.well_formed-3.ensures ∙ c.if-not-well_formed-2.false in record { whole = (both_whole _ _ _ l nb wa wb).0 }

pub invariant_of-judge-2 : goal.invariant_of-judge-2
invariant_of-judge-2 c = let l = sym (lengths_are _ _ _ _ _ _ c.schema_length.ensures c.table_length.ensures c.table_length-2.ensures) ∙ c.if-not-lengths.false in let nb = sym c.is_broken.ensures ∙ c.if-is_broken.false in let wa = sym c.well_formed-2.ensures ∙ c.if-not-well_formed.false in let wb = sym c.well_formed-3.ensures ∙ c.if-not-well_formed-2.false in record { whole = (both_whole _ _ _ l nb wa wb).1 }

pub returns : goal.returns
returns c = let l = sym (lengths_are _ _ _ _ _ _ c.schema_length.ensures c.table_length.ensures c.table_length-2.ensures) ∙ c.if-not-lengths.false in let nb = sym c.is_broken.ensures ∙ c.if-is_broken.false in let wa = sym c.well_formed-2.ensures ∙ c.if-not-well_formed.false in let wb = sym c.well_formed-3.ensures ∙ c.if-not-well_formed-2.false in ap (λ (n : ℕ). told 0 n) c.judge.ensures ∙ told_0 _ _ _ l nb wa wb
