-- The records of a table in list order, their keys, and the records of one relation among them.
-- Assumes nothing.
use Rattle.std.specs.Prelude.{ℕ, ◌≤◌, ◌<◌, ◌≡◌, List, length, get_or}
use Rattle.model.specs.Layout.{used_at, relation_at}
use Rattle.references.specs.Order.{key_at}

-- Half of the numbers of a word.
abbrev pub half_word : ℕ
half_word = 9223372036854775808

-- The entries rise, and are below half a word.
pub record Sorted (a : List ℕ) : Type 0 where
  pub small : (j : ℕ) → j < length a → get_or a j 0 < half_word
  pub rising : (i j : ℕ) → i < j → j < length a → get_or a i 0 < get_or a j 0

-- The place of x among the entries: those before it are smaller, and the others are not.
pub record Lower (a : List ℕ) (x r : ℕ) : Type 0 where
  pub most : r ≤ length a
  pub below : (j : ℕ) → j < r → get_or a j 0 < x
  pub above : (j : ℕ) → r ≤ j → j < length a → x ≤ get_or a j 0

-- An array of positions of records, and one of their keys.
pub record Keyed (t o a : List ℕ) : Type 0 where
  pub long : length a ≡ length o
  pub least : (j : ℕ) → j < length o → 1 ≤ get_or o j 0
  pub within : (j : ℕ) → j < length o → get_or o j 0 ≤ used_at t
  pub at : (j : ℕ) → j < length o → get_or a j 0 ≡ key_at t (get_or o j 0)

-- All records in list order, and their keys: none is missing.
pub record Lists (t o a : List ℕ) : Type 0 where
  pub keyed : Keyed t o a
  pub sorted : Sorted a
  pub all : (i : ℕ) → 1 ≤ i → i ≤ used_at t → ((j : ℕ) → j < length o → get_or o j 0 ≡ i → ⊥) → ⊥

-- The records of relation r in list order, and their keys: none is missing.
pub record Holds (t o a : List ℕ) (r : ℕ) : Type 0 where
  pub keyed : Keyed t o a
  pub sorted : Sorted a
  pub related : (j : ℕ) → j < length o → relation_at t (get_or o j 0) ≡ r
  pub all : (i : ℕ) → 1 ≤ i → i ≤ used_at t → relation_at t i ≡ r → ((j : ℕ) → j < length o → get_or o j 0 ≡ i → ⊥) → ⊥
