-- The length of an array that began with zeros.
-- Assumes nothing.
use Prim.Native.Nat.{ℕ}
use mathlib.Core.Path.{◌≡◌, sym, ◌∙◌}
use lib.ListN.{length, replicate, length-replicate}

pub zeros_long : (m : ℕ) → m ≡ length (replicate {A = ℕ} m 0)
zeros_long m = sym (length-replicate {A = ℕ} m 0)

pub array_long : (m n : ℕ) → n ≡ length (replicate {A = ℕ} m 0) → m ≡ n
array_long m n e = sym (e ∙ length-replicate {A = ℕ} m 0)
