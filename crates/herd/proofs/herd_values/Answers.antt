-- `herd::herd_values` meets its contract.
-- Assumes nothing.
use Prim.Native.Nat.{◌+◌}
use mathlib.Core.Path.{◌≡◌, sym, ◌∙◌, ap}
use native.Mathlib.Omega.{arith}
use lib.ListN.{length}
use Rattle.model.specs.Layout.{base, head_words}
use Rattle.herd.proofs.First.{Given, empty_part, whole_part}
use Rattle.herd.proofs.herd_values.Goals as goal

pub returns-then-values-eq0 : goal.returns-then-values-eq0
returns-then-values-eq0 c =
    let r = empty_part _ _ (ap length (sym c.values.ensures.words) ∙ c.if-values-eq0.true) in
    record { answer = r.number; word = r.first }

pub base-requires : goal.base-requires
base-requires c = omega (arith, (let k : Given c.args.table.now c.args.index = whole_part _ _ (λ h. c.if-values-eq0.false (ap length c.values.ensures.words ∙ h)) in k).inside)

pub overflow_add-first : goal.overflow_add-first
overflow_add-first c = omega (arith, (let k : Given c.args.table.now c.args.index = whole_part _ _ (λ h. c.if-values-eq0.false (ap length c.values.ensures.words ∙ h)) in k).inside, c.base.ensures)

pub returns : goal.returns
returns c =
    let e : c.base.result + head_words ≡ base c.args.index + head_words = omega (arith, c.base.ensures) in
    record { answer = (let k : Given c.args.table.now c.args.index = whole_part _ _ (λ h. c.if-values-eq0.false (ap length c.values.ensures.words ∙ h)) in k).number; word = e ∙ (let k : Given c.args.table.now c.args.index = whole_part _ _ (λ h. c.if-values-eq0.false (ap length c.values.ensures.words ∙ h)) in k).first }
