-- `shapes::judge` meets its contract.
-- Assumes nothing.
use Prim.Native.Nat.{ℕ}
use mathlib.Core.Path.{ap, sym, ◌∙◌}
use Rattle.answers.specs.Told.{told}
use Rattle.table_rules.proofs.Rules.{sound_in}
use Rattle.shapes.proofs.Turns.{lengths_fit, turn_0, turn_1, turn_2, turn_3, turn_14}
use Rattle.shapes.proofs.judge.Goals as goal

pub returns-then-not-lengths : goal.returns-then-not-lengths
returns-then-not-lengths g c = ap (λ (n : ℕ). told n 0) (turn_1 _ _ _ _ _ _ (sym c.lengths.ensures ∙ c.if-not-lengths.true))

pub returns-then-is_broken_in : goal.returns-then-is_broken_in
returns-then-is_broken_in g c =
    let long = sym c.lengths.ensures ∙ c.if-not-lengths.false in
    ap (λ (n : ℕ). told n 0) (turn_2 _ _ _ _ _ _ long (sym c.is_broken_in.ensures ∙ c.if-is_broken_in.true))

pub well_formed_in-requires : goal.well_formed_in-requires
well_formed_in-requires g c =
    let z = lengths_fit _ _ _ _ _ _ (sym c.lengths.ensures ∙ c.if-not-lengths.false) in
    (c.requires.0, z.schema, z.table, sym c.is_broken_in.ensures ∙ c.if-is_broken_in.false)

pub returns-then-not-well_formed_in : goal.returns-then-not-well_formed_in
returns-then-not-well_formed_in g c =
    let long = sym c.lengths.ensures ∙ c.if-not-lengths.false in
    let sound = sym c.is_broken_in.ensures ∙ c.if-is_broken_in.false in
    ap (λ (n : ℕ). told n 0) (turn_3 _ _ _ _ _ _ long sound (sym c.well_formed_in.ensures ∙ c.if-not-well_formed_in.true))

pub wider-requires : goal.wider-requires
wider-requires g c = (c.requires.0, sound_in _ _ (sym c.is_broken_in.ensures ∙ c.if-is_broken_in.false))

pub returns-then-wider : goal.returns-then-wider
returns-then-wider g c =
    let long = sym c.lengths.ensures ∙ c.if-not-lengths.false in
    let sound = sym c.is_broken_in.ensures ∙ c.if-is_broken_in.false in
    let whole = sym c.well_formed_in.ensures ∙ c.if-not-well_formed_in.false in
    ap (λ (n : ℕ). told n 0) (turn_14 _ _ _ _ _ _ long sound whole (sym c.wider.ensures ∙ c.if-wider.true))

pub returns : goal.returns
returns g c =
    let long = sym c.lengths.ensures ∙ c.if-not-lengths.false in
    let sound = sym c.is_broken_in.ensures ∙ c.if-is_broken_in.false in
    let whole = sym c.well_formed_in.ensures ∙ c.if-not-well_formed_in.false in
    ap (λ (n : ℕ). told n 0) (turn_0 _ _ _ _ _ _ long sound whole (sym c.wider.ensures ∙ c.if-wider.false))
