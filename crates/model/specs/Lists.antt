-- Lists and ranges by tests, a step taken n times, and numbered checks.
-- Assumes nothing.
use Rattle.std.specs.Prelude.{ℕ, zero, suc, Bool, true, false, cond, ◌||◌, ◌&&◌, List, [], ◌∷◌}

-- each of 1 to n passes
unfoldable pub each : ℕ → (ℕ → Bool) → Bool
each zero p = true
each (suc n) p = each n p && p (suc n)

-- one of 1 to n passes
unfoldable pub any : ℕ → (ℕ → Bool) → Bool
any zero p = false
any (suc n) p = any n p || p (suc n)

module _ {A : Type 0} where
  -- f i, f (i + 1) and on, n in all
  unfoldable pub from : ℕ → ℕ → (ℕ → A) → List A
  from i zero f = []
  from i (suc n) f = f i ∷ from (suc i) n f

  -- f 1 to f n
  unfoldable pub listed : ℕ → (ℕ → A) → List A
  listed n f = from 1 n f

  -- the entries that pass
  unfoldable pub only : (A → Bool) → List A → List A
  only p [] = []
  only p (x ∷ xs) = let r = only p xs in cond (p x) (x ∷ r) r

  unfoldable pub some_of : (A → Bool) → List A → Bool
  some_of p [] = false
  some_of p (x ∷ xs) = p x || some_of p xs

  unfoldable pub all_of : (A → Bool) → List A → Bool
  all_of p [] = true
  all_of p (x ∷ xs) = p x && all_of p xs

  -- a step taken n times
  unfoldable pub times : ℕ → (A → A) → A → A
  times zero f a = a
  times (suc n) f a = times n f (f a)

-- A numbered check, and whether it applies.
pub record Check : Type 0 where
  pub number : ℕ
  pub applies : Bool

abbrev pub check : ℕ → Bool → Check
check n b = record { number = n; applies = b }

-- "Checks run in number order; the lowest that applies is the answer." The list is in number order; 0 where none applies.
unfoldable pub lowest : List Check → ℕ
lowest [] = 0
lowest (x ∷ xs) = cond x.applies x.number (lowest xs)
