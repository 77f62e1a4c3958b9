-- What a step gives.
-- Assumes nothing.
use Rattle.std.specs.Prelude.{ℕ, cond, Option, Some, None, Result, Ok, Err, eqb}
use Rattle.answers.specs.declared.Refusal.{Refusal}

-- The record at a position, none at 0.
abbrev pub given : ℕ → Option ℕ
given i = cond (eqb i 0) None (Some i)

-- The record that an answer gives, and place p at the end and in a refusal.
abbrev pub index_or : ℕ → Result (Option ℕ) Refusal → ℕ
index_or p (Ok (Some v)) = v
index_or p (Ok None) = p
index_or p (Err _) = p
