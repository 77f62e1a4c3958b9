-- What is told of an answer determines the answer: it can be read back from its number, its value, the end of a list and whether a record is known.
-- Assumes nothing.
use Prim.Native.Nat.{ℕ, ◌≤◌, ◌<◌}
use mathlib.Core.Path.{◌≡◌, refl, sym, ◌∙◌, ap}
use mathlib.Core.Bool.{Bool, true, false, cond}
use lib.Dec.{eqb}
use Rattle.std.specs.Prelude.{Option, Some, None, Result, Ok, Err}
use Rattle.answers.specs.declared.Refusal.{Refusal}
use Rattle.answers.specs.declared.Refusal.TheVariants as refusal
use Rattle.answers.specs.declared.Verdict.{Verdict}
use Rattle.answers.specs.declared.Verdict.TheVariants as verdict
use Rattle.answers.specs.Told.{Told, Determined, told}
use Rattle.answers.specs.Refused.{refusal_number, verdict_number, answer_told, done_told, value_told, given_told, known_told, verdict_told}

-- An answer that can be read back from what is told of it is determined.
read_back : {A : Type 0} (f : A → Told) (g : Told → A) → ((a : A) → g (f a) ≡ a) → Determined f
read_back f g e a b same = sym (e a) ∙ ap g same ∙ e b

-- the refusal of a number
abbrev refusal_of : ℕ → Refusal
refusal_of n =
    cond (eqb n 1) refusal.WrongLength (cond (eqb n 2) refusal.SchemaBroken (cond (eqb n 3) refusal.TableBroken (cond (eqb n 4) refusal.OtherBroken
    (cond (eqb n 5) refusal.RelationOrReplica (cond (eqb n 6) refusal.NotShown (cond (eqb n 7) refusal.BadValue (cond (eqb n 8) refusal.TargetHidden
    (cond (eqb n 9) refusal.KeyTaken (cond (eqb n 10) refusal.Referenced (cond (eqb n 11) refusal.Full (cond (eqb n 12) refusal.ClockSpent (cond (eqb n 13) refusal.FlagSpent refusal.TooManyFields))))))))))))

-- an answer read back, by what reads back the value of a call that is done
abbrev answer_of : {A : Type 0} → (Told → A) → Told → Result A Refusal
answer_of g x = cond (eqb x.number 0) (Ok (g x)) (Err (refusal_of x.number))

answer_back : {A : Type 0} (f : A → Told) (g : Told → A) → ((v : A) → (f v).number ≡ 0) → ((v : A) → g (f v) ≡ v) → (r : Result A Refusal) → answer_of g (answer_told f r) ≡ r
answer_back f g z e (Ok v) = ap (λ n. cond (eqb n 0) (Ok (g (f v))) (Err (refusal_of n))) (z v) ∙ ap Ok (e v)
answer_back f g z e (Err refusal.WrongLength) = refl
answer_back f g z e (Err refusal.SchemaBroken) = refl
answer_back f g z e (Err refusal.TableBroken) = refl
answer_back f g z e (Err refusal.OtherBroken) = refl
answer_back f g z e (Err refusal.RelationOrReplica) = refl
answer_back f g z e (Err refusal.NotShown) = refl
answer_back f g z e (Err refusal.BadValue) = refl
answer_back f g z e (Err refusal.TargetHidden) = refl
answer_back f g z e (Err refusal.KeyTaken) = refl
answer_back f g z e (Err refusal.Referenced) = refl
answer_back f g z e (Err refusal.Full) = refl
answer_back f g z e (Err refusal.ClockSpent) = refl
answer_back f g z e (Err refusal.FlagSpent) = refl
answer_back f g z e (Err refusal.TooManyFields) = refl

answer_determined : {A : Type 0} (f : A → Told) (g : Told → A) → ((v : A) → (f v).number ≡ 0) → ((v : A) → g (f v) ≡ v) → Determined (answer_told f)
answer_determined f g z e = read_back (answer_told f) (answer_of g) (answer_back f g z e)

pub done_determined : Determined done_told
done_determined = answer_determined _ (λ _. tt) (λ _. refl) (λ _. refl)

pub value_determined : Determined value_told
value_determined = answer_determined _ (λ x. x.value) (λ _. refl) (λ _. refl)

pub given_determined : Determined given_told
given_determined = answer_determined _ (λ x. cond x.ended None (Some x.value)) (elim [ None ↦ refl | Some _ ↦ refl ]) (elim [ None ↦ refl | Some _ ↦ refl ])

pub known_determined : Determined known_told
known_determined = answer_determined _ (λ x. cond x.known (Some x.value) None) (elim [ None ↦ refl | Some _ ↦ refl ]) (elim [ None ↦ refl | Some _ ↦ refl ])

abbrev verdict_of : Told → Verdict
verdict_of x = cond (eqb x.value 1) verdict.Alike (cond (eqb x.value 2) verdict.FirstBehind (cond (eqb x.value 3) verdict.SecondBehind verdict.Neither))

pub verdict_determined : Determined verdict_told
verdict_determined = answer_determined _ verdict_of (λ _. refl) (elim [ verdict.Alike ↦ refl | verdict.FirstBehind ↦ refl | verdict.SecondBehind ↦ refl | verdict.Neither ↦ refl ])
