-- What the array of positions in list order holds.
-- Assumes nothing.
use Rattle.std.specs.Prelude.{ℕ, ◌≤◌, ◌<◌, ◌≡◌, List, get_or}
use Rattle.model.specs.Layout.{used_at}
use Rattle.model.specs.Tables.{record_of}

-- The key of record i.
abbrev pub key_at : List ℕ → ℕ → ℕ
key_at t i = (record_of t i).key

-- The first n entries of an array are the positions of the records with keys up to k, in list order.
pub record Ordered (t : List ℕ) (k : ℕ) (o : List ℕ) (n : ℕ) : Type 0 where
  pub least : (j : ℕ) → j < n → 1 ≤ get_or o j 0
  pub within : (j : ℕ) → j < n → get_or o j 0 ≤ used_at t
  pub upto : (j : ℕ) → j < n → key_at t (get_or o j 0) ≤ k
  pub rising : (i j : ℕ) → i < j → j < n → key_at t (get_or o i 0) < key_at t (get_or o j 0)
  pub all : (i : ℕ) → 1 ≤ i → i ≤ used_at t → key_at t i ≤ k → (j : ℕ) × (j < n) × (get_or o j 0 ≡ i)
