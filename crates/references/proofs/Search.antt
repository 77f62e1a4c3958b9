-- Halving without a branch.
-- Assumes nothing.
use Prim.Native.Nat.{ℕ, ◌+◌, ◌*◌, ◌-◌, ◌/◌, ◌≤◌, ◌<◌}
use mathlib.Core.Path.{◌≡◌}
use mathlib.Core.List.{List}
use native.Mathlib.Omega.{arith}
use lib.ListN.{length, get_or}
use Rattle.crdt.proofs.Tests.{Tri, low, same, high, tri}
use Rattle.references.specs.Search.{Sorted}

-- the place of x lies in the `rest` entries before `hi`, or at `hi`
pub record Between (a : List ℕ) (x hi rest : ℕ) : Type 0 where
  pub part : rest ≤ hi
  pub most : hi ≤ length a
  pub below : (j : ℕ) → j + rest < hi → get_or a j 0 < x
  pub above : (j : ℕ) → hi ≤ j → j < length a → x ≤ get_or a j 0

-- a number that is 1 or 0, multiplied
abbrev pub Least : ℕ → ℕ → ℕ → Type 0
Least y x r = (x ≤ y → r ≡ 1) × (y < x → r ≡ 0)

data Cut (y x h m : ℕ) : Type 0 where
  lower : x ≤ y → m ≡ h → Cut y x h m
  upper : y < x → m ≡ 0 → Cut y x h m

module _ (y x r h : ℕ) (e : Least y x r) where
  cut : Cut y x h (h * r)
  cut = go (tri y x)
    where
      go : Tri y x → Cut y x h (h * r)
      go (low l) = upper l (rw (e.1 l) (omega arith))
      go (same l) = lower (omega arith) (rw (e.0 (omega arith)) (omega arith))
      go (high l) = lower (omega arith) (rw (e.0 (omega arith)) (omega arith))

  pub cut_most : h * r ≤ h
  cut_most = go cut
    where
      go : Cut y x h (h * r) → h * r ≤ h
      go (lower p q) = omega arith
      go (upper p q) = omega arith

module _ (a : List ℕ) (x hi rest y r : ℕ) (s : Sorted a) (b : Between a x hi rest) (some : 0 < rest)
    (at : y ≡ get_or a (hi - (rest - rest / 2)) 0) (e : Least y x r) where
  abbrev mid : ℕ
  mid = hi - (rest - rest / 2)

  step : (m : ℕ) → Cut y x (rest - rest / 2) m → Between a x (hi - m) (rest / 2)
  step m (lower p q) =
      record {
        part = omega (arith, b.part);
        most = omega (arith, b.most);
        below = λ j l. b.below j (omega (arith, b.part));
        above = λ j l n. go j l n (tri mid j);
      }
    where
      go : (j : ℕ) → hi - m ≤ j → j < length a → Tri mid j → x ≤ get_or a j 0
      go j l n (low k) = omega (arith, s.rising mid j k n)
      go j l n (same k) = rw (← k) (omega arith)
      go j l n (high k) = absurd (omega arith)
  step m (upper p q) =
      record {
        part = omega (arith, b.part);
        most = omega (arith, b.most);
        below = λ j l. go j l (tri j mid);
        above = λ j l n. b.above j (omega arith) n;
      }
    where
      go : (j : ℕ) → j + rest / 2 < hi - m → Tri j mid → get_or a j 0 < x
      go j l (low k) = omega (arith, s.rising j mid k (omega (arith, b.part, b.most)))
      go j l (same k) = rw k (omega arith)
      go j l (high k) = absurd (omega (arith, b.part))

  pub between_step : Between a x (hi - (rest - rest / 2) * r) (rest / 2)
  between_step = step ((rest - rest / 2) * r) (cut y x r (rest - rest / 2) e)
