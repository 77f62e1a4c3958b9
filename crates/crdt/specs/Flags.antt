-- Flags (document 01, "Labels, registers, flags").
-- Assumes nothing.
use Rattle.std.specs.Prelude.{ℕ, ◌+◌, ◌%◌, Bool, cond, ◌&&◌, eqb, ltb}

-- "A flag is 0 to 65,535"
abbrev pub largest_flag : ℕ
largest_flag = 65535

-- "odd means deleted"
abbrev pub is_odd : ℕ → Bool
is_odd f = eqb (f % 2) 1

abbrev pub is_even : ℕ → Bool
is_even f = eqb (f % 2) 0

-- "Deleting adds 1 to an even flag", "otherwise neither alters it". There is no flag above 65,535: numbers above it are not altered.
unfoldable pub deleted : ℕ → ℕ
deleted f = cond (is_even f && ltb f largest_flag) (f + 1) f

-- "redoing adds 1 to an odd flag", "otherwise neither alters it". At 65,535 nothing is left to add: a call that would redo it answers 13.
unfoldable pub redone : ℕ → ℕ
redone f = cond (is_odd f && ltb f largest_flag) (f + 1) f
