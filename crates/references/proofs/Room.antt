-- Different positions of 1 to u, as the first entries of an array: at most u many.
-- Assumes nothing.
use Prim.Native.Nat.{ℕ, zero, suc, ◌≤◌, ◌<◌}
use mathlib.Core.Path.{◌≡◌, refl, sym, ap}
use mathlib.Core.List.{List, [], ◌∷◌}
use native.Mathlib.Omega.{arith}
use lib.ListN.{length, get_or, replicate, length-replicate}
use Rattle.wellformed.proofs.Pigeon.{Out, NoDup, Under, pigeon}

-- the first n entries, the last of them first
firsts : List ℕ → ℕ → List ℕ
firsts o zero = []
firsts o (suc n) = get_or o n 0 ∷ firsts o n

firsts_length : (o : List ℕ) (n : ℕ) → length (firsts o n) ≡ n
unfolding firsts
firsts_length o zero = refl
firsts_length o (suc n) = ap suc (firsts_length o n)

firsts_out : (o : List ℕ) (n x : ℕ) → ((j : ℕ) → j < n → get_or o j 0 ≡ x → ⊥) → Out x (firsts o n)
unfolding firsts
firsts_out o zero x h = tt
firsts_out o (suc n) x h = (λ e. h n (omega arith) (sym e), firsts_out o n x (λ j l. h j (omega arith)))

module _ (o : List ℕ) (u : ℕ) where
  firsts_under : (n : ℕ) → ((j : ℕ) → j < n → get_or o j 0 ≤ u) → Under (suc u) (firsts o n)
  unfolding firsts
  firsts_under zero h = tt
  firsts_under (suc n) h = (omega (arith, h n (omega arith)), firsts_under n (λ j l. h j (omega arith)))

  firsts_once : (n : ℕ) → ((i j : ℕ) → i < j → j < n → get_or o i 0 ≡ get_or o j 0 → ⊥) → NoDup (firsts o n)
  unfolding firsts
  firsts_once zero h = tt
  firsts_once (suc n) h = (firsts_out o n (get_or o n 0) (λ j l e. h j n l (omega arith) e), firsts_once n (λ i j l k. h i j l (omega arith)))

  module _ (n : ℕ) (least : (j : ℕ) → j < n → 1 ≤ get_or o j 0) (within : (j : ℕ) → j < n → get_or o j 0 ≤ u)
      (once : (i j : ℕ) → i < j → j < n → get_or o i 0 ≡ get_or o j 0 → ⊥) where
    zero_out : Out 0 (firsts o n)
    zero_out = firsts_out o n 0 (λ j l e. omega (arith, least j l))

    -- no more than u
    pub room : n ≤ u
    room =
        omega (arith, firsts_length o n, pigeon (suc u) (0 ∷ firsts o n) (zero_out, firsts_once n once) (omega arith, firsts_under n within))

    -- and room for one that is not among them
    pub room_more : (x : ℕ) → 1 ≤ x → x ≤ u → ((j : ℕ) → j < n → get_or o j 0 ≡ x → ⊥) → n < u
    room_more x a b new =
        omega (
          arith,
          firsts_length o n,
          pigeon (suc u) (0 ∷ x ∷ firsts o n) ((λ e. omega arith, zero_out), (firsts_out o n x new, firsts_once n once))
              (omega arith, (omega arith, firsts_under n within)),
        )

-- an array that began with m zeros has room for what is at most m
pub array_room : (m n u : ℕ) (a : List ℕ) → length a ≡ length (replicate {A = ℕ} m 0) → n ≤ u → u ≤ m → n ≤ length a
array_room m n u a e h l = omega (arith, length-replicate {A = ℕ} m 0)
