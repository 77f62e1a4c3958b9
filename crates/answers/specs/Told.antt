-- What an answer tells: the number of document 01, "What a call hands back", and the value handed back beside it, which is the new label of an
-- insertion, the shown count of marks, the index given by a walk and how many records a merge changed or added (document 02, F-1), the index of a
-- milking found (F-2), the verdict of a comparison (F-3), the index of a record looked up (F-6), and 0 elsewhere; of a walk also whether the list
-- ended, and of a lookup and a search whether the record is known. What is told determines the answer (proofs/Refused.antt).
-- Assumes nothing.
use Rattle.std.specs.Prelude.{ℕ, Bool, true, false, ◌≡◌}

pub record Told : Type 0 where
  pub number : ℕ
  pub value : ℕ
  pub ended : Bool
  pub known : Bool

abbrev pub told_ended : ℕ → ℕ → Bool → Told
told_ended n v e = record { number = n; value = v; ended = e; known = false }

abbrev pub told_known : ℕ → ℕ → Bool → Told
told_known n v k = record { number = n; value = v; ended = false; known = k }

abbrev pub told : ℕ → ℕ → Told
told n v = told_ended n v false

-- Equal told means equal answer.
abbrev pub Determined : {A : Type 0} → (A → Told) → Type 0
Determined {A} f = (a b : A) → f a ≡ f b → a ≡ b
