-- What the vector programs read.
-- Assumes nothing.
use Rattle.std.specs.Prelude.{ℕ, ◌+◌, ◌*◌, ◌%◌, List, [], ◌∷◌, get_or, cond, ltb}

-- Byte k of what is still to be read; 0 past its end.
unfoldable pub nth : List ℕ → ℕ → ℕ
nth t k = get_or t k 0

-- A number to which these seven bits of a byte are added.
abbrev pub with_bits : ℕ → ℕ → ℕ
with_bits v x = v % 144115188075855872 * 128 + x % 128

-- The number that goes on in these bytes, where the bytes before them came to v. The first byte below 128 ends it.
unfoldable pub number_from : ℕ → List ℕ → ℕ
number_from v [] = v
number_from v (x ∷ xs) = cond (ltb x 128) (with_bits v x) (number_from (with_bits v x) xs)

-- The number with which these bytes begin.
abbrev pub number_of : List ℕ → ℕ
number_of t = number_from 0 t

-- What stands behind the number with which these bytes begin.
unfoldable pub behind : List ℕ → List ℕ
behind [] = []
behind (x ∷ xs) = cond (ltb x 128) xs (behind xs)

-- The digest after one more word, mod 2^40 - 87.
abbrev pub digested : ℕ → ℕ → ℕ
digested d w = (d % 1099511627689 * 1000003 + w % 1099511627689) % 1099511627689
