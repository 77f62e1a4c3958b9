-- `herd::herd_compare` meets its contract.
-- Assumes nothing.
use Prim.Native.Nat.{ℕ}
use mathlib.Core.Path.{◌≡◌, ◌∙◌}
use Rattle.std.specs.Prelude.{Result, Ok, Err}
use Rattle.std.specs.Result.{MatchResult}
use Rattle.answers.specs.declared.Refusal.{Refusal}
use Rattle.answers.specs.declared.Verdict.{Verdict}
use Rattle.answers.specs.Told.{Told}
use Rattle.answers.specs.Refused.{verdict_number, verdict_told}
use Rattle.answers.proofs.Told.{told_value, verdict_number_told}
use Rattle.herd.proofs.herd_compare.Goals as goal

verdict_handed : (r : Result Verdict Refusal) {q : Told} (n : ℕ) → verdict_told r ≡ q → MatchResult r (λ x. n ≡ verdict_number x) (λ _. n ≡ 0) → n ≡ q.value
verdict_handed (Ok v) n e h = told_value e h
verdict_handed (Err x) n e h = told_value e h

pub returns : goal.returns
returns c =
    let e = c.compare-answer.ensures in
    record { answer = c.number.ensures ∙ verdict_number_told _ e; verdict = verdict_handed _ _ e c.map_or.ensures }
