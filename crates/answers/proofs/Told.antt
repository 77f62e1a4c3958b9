-- What an answer tells, by its parts.
-- Assumes nothing.
use Prim.Native.Nat.{ℕ}
use mathlib.Core.Path.{◌≡◌, refl, sym, ◌∙◌, ap}
use Rattle.std.specs.Prelude.{Option, Some, None, Result, Ok, Err}
use Rattle.answers.specs.declared.Refusal.{Refusal}
use Rattle.answers.specs.declared.Refusal.TheVariants as refusal
use Rattle.answers.specs.declared.Verdict.{Verdict}
use Rattle.answers.specs.Told.{Told, told}
use Rattle.answers.specs.Refused.{refusal_number, number_of, index_of, answer_told, done_told, value_told, given_told, known_told, verdict_told}
use Rattle.std.specs.Result.{result_unwrap_or, IsErrAnd}

pub told_number : {r q : Told} {x : ℕ} → r ≡ q → x ≡ r.number → x ≡ q.number
told_number e h = h ∙ ap (λ (y : Told). y.number) e

pub told_value : {r q : Told} {x : ℕ} → r ≡ q → x ≡ r.value → x ≡ q.value
told_value e h = h ∙ ap (λ (y : Told). y.value) e

-- the number that is told is the answer's
answer_number : {A : Type 0} (f : A → Told) → ((v : A) → (f v).number ≡ 0) → (r : Result A Refusal) → number_of r ≡ (answer_told f r).number
answer_number f h (Ok v) = sym (h v)
answer_number f h (Err e) = refl

pub done_number : (r : Result (Unit {0}) Refusal) {q : Told} → done_told r ≡ q → number_of r ≡ q.number
done_number r e = told_number e (answer_number _ (λ _. refl) r)

pub value_number : (r : Result ℕ Refusal) {q : Told} → value_told r ≡ q → number_of r ≡ q.number
value_number r e = told_number e (answer_number _ (λ _. refl) r)

pub given_number : (r : Result (Option ℕ) Refusal) {q : Told} → given_told r ≡ q → number_of r ≡ q.number
given_number r e = told_number e (answer_number _ (elim [ None ↦ refl | Some _ ↦ refl ]) r)

pub known_number : (r : Result (Option ℕ) Refusal) {q : Told} → known_told r ≡ q → number_of r ≡ q.number
known_number r e = told_number e (answer_number _ (elim [ None ↦ refl | Some _ ↦ refl ]) r)

pub verdict_number_told : (r : Result Verdict Refusal) {q : Told} → verdict_told r ≡ q → number_of r ≡ q.number
verdict_number_told r e = told_number e (answer_number _ (λ _. refl) r)

-- the value that is told, 0 in a refusal
pub value_told_is : (r : Result ℕ Refusal) {q : Told} → value_told r ≡ q → result_unwrap_or r 0 ≡ q.value
value_told_is (Ok v) e = told_value e refl
value_told_is (Err x) e = told_value e refl

pub given_index : (r : Result (Option ℕ) Refusal) {q : Told} → given_told r ≡ q → index_of r ≡ q.value
given_index (Ok None) e = told_value e refl
given_index (Ok (Some v)) e = told_value e refl
given_index (Err x) e = told_value e refl

pub known_index : (r : Result (Option ℕ) Refusal) {q : Told} → known_told r ≡ q → index_of r ≡ q.value
known_index (Ok None) e = told_value e refl
known_index (Ok (Some v)) e = told_value e refl
known_index (Err x) e = told_value e refl

-- what `?` hands on of a refusal
pub handed_on : {A : Type 0} (f : A → Told) (r : Result A Refusal) (e : Refusal) → IsErrAnd r (λ x. x ≡ e) → answer_told f r ≡ told (refusal_number e) 0
handed_on f (Ok v) e h = absurd h
handed_on f (Err x) e h = ap (λ y. told (refusal_number y) 0) h

pub refused_above : (e : Refusal) → refusal_number e ≡ 0 → ⊥
refused_above refusal.WrongLength h = cc
refused_above refusal.SchemaBroken h = cc
refused_above refusal.TableBroken h = cc
refused_above refusal.OtherBroken h = cc
refused_above refusal.RelationOrReplica h = cc
refused_above refusal.NotShown h = cc
refused_above refusal.BadValue h = cc
refused_above refusal.TargetHidden h = cc
refused_above refusal.KeyTaken h = cc
refused_above refusal.Referenced h = cc
refused_above refusal.Full h = cc
refused_above refusal.ClockSpent h = cc
refused_above refusal.FlagSpent h = cc
refused_above refusal.TooManyFields h = cc
