-- A byte below 128 ends the number, any other adds its bits to it.
use Rattle.std.proofs.Common.{◌≡◌, ◌*◌, ◌<◌, ◌≤◌, ℕ, ◌+◌, ◌%◌, List, ◌∷◌, arith, length, sym, ap, ◌∙◌}
use Rattle.std.proofs.lemmas.Bool.{lt-ltb, le-ltb, cond-true, cond-false}
use Rattle.std.proofs.lemmas.List.{nil_from_length}
use Rattle.vector_stream.specs.Stream.{with_bits, number_from, behind}
use Rattle.vector_stream.proofs.stream.Stream.number.Goals as goal

none_left : (v : ℕ) (t : List ℕ) → length t ≡ 0 → number_from v t ≡ v
unfolding number_from
none_left v t empty = ap (number_from v) (nil_from_length t empty)

none_behind : (t : List ℕ) → length t ≡ 0 → behind t ≡ t
unfolding behind
none_behind t empty = ap behind (nil_from_length t empty) ∙ sym (nil_from_length t empty)

ended : (v x : ℕ) (xs t : List ℕ) → t ≡ x ∷ xs → x < 128 → number_from v t ≡ with_bits v x
unfolding number_from
ended v x xs t is small = ap (number_from v) is ∙ cond-true _ _ _ (lt-ltb x 128 small)

ended_behind : (x : ℕ) (xs t : List ℕ) → t ≡ x ∷ xs → x < 128 → behind t ≡ xs
unfolding behind
ended_behind x xs t is small = ap behind is ∙ cond-true _ _ _ (lt-ltb x 128 small)

goes_on : (v x : ℕ) (xs t : List ℕ) → t ≡ x ∷ xs → 128 ≤ x → number_from v t ≡ number_from (with_bits v x) xs
unfolding number_from
goes_on v x xs t is large = ap (number_from v) is ∙ cond-false _ _ _ (le-ltb x 128 large)

goes_on_behind : (x : ℕ) (xs t : List ℕ) → t ≡ x ∷ xs → 128 ≤ x → behind t ≡ behind xs
unfolding behind
goes_on_behind x xs t is large = ap behind is ∙ cond-false _ _ _ (le-ltb x 128 large)

pub loop-first-preserved : goal.loop-first-preserved
loop-first-preserved c =
    let is = c.in-Some.ensures.cases.0 in
    let kept = c.loop-first.invariant in
    let bits = ap (λ b. number_from (c.loop-first.value % 144115188075855872 * 128 + b) c.in-Some.rest.now) c.from.ensures in (
      bits ∙ sym (goes_on c.loop-first.value _ _ _ is (omega arith)) ∙ kept.0,
      (sym (goes_on_behind _ _ _ is (omega arith)) ∙ kept.1.0, omega (arith, c.in-Some.ensures.cases.1, kept.1.1)),
    )

pub returns-then-first-lt128-clause-value : goal.returns-then-first-lt128-clause-value
returns-then-first-lt128-clause-value c =
    let bits = ap (λ b. c.loop-first.value % 144115188075855872 * 128 + b) c.from.ensures in
    bits ∙ sym (ended c.loop-first.value _ _ _ c.in-Some.ensures.cases.0 c.if-first-lt128.true) ∙ c.loop-first.invariant.0

pub returns-then-first-lt128-clause-behind : goal.returns-then-first-lt128-clause-behind
returns-then-first-lt128-clause-behind c =
    sym (ended_behind _ _ _ c.in-Some.ensures.cases.0 c.if-first-lt128.true) ∙ c.loop-first.invariant.1.0

pub returns-in_default-clause-value : goal.returns-in_default-clause-value
returns-in_default-clause-value c = sym (none_left _ _ c.in_default.ensures.cases) ∙ c.loop-first.invariant.0

pub returns-in_default-clause-behind : goal.returns-in_default-clause-behind
returns-in_default-clause-behind c = sym (none_behind _ c.in_default.ensures.cases) ∙ c.loop-first.invariant.1.0
