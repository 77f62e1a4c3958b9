-- What an answer tells.
-- Assumes nothing.
use Rattle.std.specs.Prelude.{ℕ, true, Option, Some, None, Result, Ok, Err}
use Rattle.answers.specs.declared.Refusal.{Refusal}
use Rattle.answers.specs.declared.Refusal.TheVariants as refusal
use Rattle.answers.specs.declared.Verdict.{Verdict}
use Rattle.answers.specs.declared.Verdict.TheVariants as verdict
use Rattle.answers.specs.Told.{Told, told, told_ended, told_known}

-- the numbers of document 01, and 14 of document 02
abbrev pub refusal_number : Refusal → ℕ
refusal_number refusal.WrongLength = 1
refusal_number refusal.SchemaBroken = 2
refusal_number refusal.TableBroken = 3
refusal_number refusal.OtherBroken = 4
refusal_number refusal.RelationOrReplica = 5
refusal_number refusal.NotShown = 6
refusal_number refusal.BadValue = 7
refusal_number refusal.TargetHidden = 8
refusal_number refusal.KeyTaken = 9
refusal_number refusal.Referenced = 10
refusal_number refusal.Full = 11
refusal_number refusal.ClockSpent = 12
refusal_number refusal.FlagSpent = 13
refusal_number refusal.TooManyFields = 14

abbrev pub verdict_number : Verdict → ℕ
verdict_number verdict.Alike = 1
verdict_number verdict.FirstBehind = 2
verdict_number verdict.SecondBehind = 3
verdict_number verdict.Neither = 4

-- 0 for a call that is done
abbrev pub number_of : {A : Type 0} → Result A Refusal → ℕ
number_of (Ok _) = 0
number_of (Err e) = refusal_number e

-- the index given or known, 0 for none and in a refusal
abbrev pub index_of : Result (Option ℕ) Refusal → ℕ
index_of (Ok (Some v)) = v
index_of (Ok None) = 0
index_of (Err _) = 0

-- by what is told of the value of a call that is done
abbrev pub answer_told : {A : Type 0} → (A → Told) → Result A Refusal → Told
answer_told f (Ok v) = f v
answer_told f (Err e) = told (refusal_number e) 0

abbrev pub done_told : Result (Unit {0}) Refusal → Told
done_told = answer_told (λ _. told 0 0)

abbrev pub value_told : Result ℕ Refusal → Told
value_told = answer_told (told 0)

-- of a walk, where none is the end of the list
abbrev pub told_given : Option ℕ → Told
told_given None = told_ended 0 0 true
told_given (Some v) = told 0 v

abbrev pub given_told : Result (Option ℕ) Refusal → Told
given_told = answer_told told_given

-- of a lookup and a search, where none is a record that is not known
abbrev pub told_maybe : Option ℕ → Told
told_maybe None = told 0 0
told_maybe (Some v) = told_known 0 v true

abbrev pub known_told : Result (Option ℕ) Refusal → Told
known_told = answer_told told_maybe

abbrev pub verdict_told : Result Verdict Refusal → Told
verdict_told = answer_told (λ v. told 0 (verdict_number v))
