-- Rows of one size, one behind the other, and tests of more fields.
-- Assumes nothing.
use Prim.Native.Nat.{ℕ, zero, suc, ◌+◌, ◌*◌, ◌-◌, ◌≤◌, ◌<◌}
use mathlib.Core.Path.{◌≡◌, refl, sym, ◌∙◌, ap}
use mathlib.Core.Bool.{Bool, true}
use mathlib.Core.List.{List, ◌++◌}
use native.Mathlib.Omega.{arith}
use native.Mathlib.Nat.{mul-suc, mul-zero}
use lib.ListN.{length, get_or, take, drop, length-append, length-drop, take-append-drop, get_or-append}
use lib.Seq.{ext_get_or, get_or-append-add, get_or-take, get_or-drop, drop-append-add, drop-drop, drop-length, length-take-le}
use Rattle.crdt.proofs.Tests.{and_both, and_all, same_test}
use Rattle.model.specs.Lists.{each, any, all_of, from, listed}
use Rattle.model.specs.Shapes.{rows_from}
use Rattle.layout.proofs.Each.{each_at, each_all, each_ext}
use Rattle.wellformed.proofs.Ranges.{listed_length, listed_at, all_at, all_append}

module _ (size : ℕ) (f : ℕ → List ℕ) (sized : (i : ℕ) → length (f i) ≡ size) where
  pub rows_length : (i n : ℕ) → length (rows_from i n f) ≡ size * n
  unfolding rows_from
  rows_length i zero = sym (mul-zero size)
  rows_length i (suc n) = length-append (f i) (rows_from (suc i) n f) ∙ rw (sized i, rows_length (suc i) n, mul-suc size n) (omega arith)

  pub rows_at : (i n m k : ℕ) → m < n → k < size → get_or (rows_from i n f) (size * m + k) 0 ≡ get_or (f (i + m)) k 0
  unfolding rows_from
  rows_at i zero m k h g = absurd (omega arith)
  rows_at i (suc n) zero k h g =
      let z : i + 0 ≡ i = omega arith in
      let l : k < length (f i) = rw (sized i) g in
      rw (mul-zero size, z) (ap (λ (a : ℕ). get_or (f i ++ rows_from (suc i) n f) a 0) (omega arith) ∙ get_or-append (f i) (rows_from (suc i) n f) 0 k l)
  rows_at i (suc n) (suc m) k h g =
      let z : i + suc m ≡ suc i + m = omega arith in
      let e : size * suc m + k ≡ length (f i) + (size * m + k) = rw (sized i, mul-suc size m) (omega arith) in
      rw (z, e) (get_or-append-add (f i) (rows_from (suc i) n f) (size * m + k) 0 ∙ rows_at (suc i) n m k (omega arith) g)

pub rows_ext : (f g : ℕ → List ℕ) (i n : ℕ) → ((j : ℕ) → i ≤ j → j < i + n → f j ≡ g j) → rows_from i n f ≡ rows_from i n g
unfolding rows_from
rows_ext f g i zero h = refl
rows_ext f g i (suc n) h = rw (h i (omega arith) (omega arith), rows_ext f g (suc i) n (λ j a b. h j (omega arith) (omega arith)))

-- rows from a later one on
pub rows_drop : (size : ℕ) (f : ℕ → List ℕ) → ((i : ℕ) → length (f i) ≡ size) → (m i n : ℕ) → m ≤ n → drop (size * m) (rows_from i n f) ≡ rows_from (i + m) (n - m) f
unfolding rows_from
rows_drop size f g zero i n h =
    let z : i + 0 ≡ i = omega arith in
    let y : n - 0 ≡ n = omega arith in
    rw (mul-zero size, z, y)
rows_drop size f g (suc m) i zero h = absurd (omega arith)
rows_drop size f g (suc m) i (suc n) h =
    let z : i + suc m ≡ suc i + m = omega arith in
    let y : suc n - suc m ≡ n - m = omega arith in
    let e : size * suc m ≡ length (f i) + size * m = rw (g i, mul-suc size m) (omega arith) in
    rw (z, y, e) (drop-append-add (f i) (rows_from (suc i) n f) (size * m) ∙ rows_drop size f g m (suc i) n (omega arith))

-- rows that spell a list from word a on
pub rows_spell : (size : ℕ) (f : ℕ → List ℕ) (l : List ℕ) (a : ℕ) → ((i : ℕ) → length (f i) ≡ size)
    → ((m k : ℕ) → k < size → get_or (f (1 + m)) k 0 ≡ get_or l (a + size * m + k) 0)
    → (n m : ℕ) → length l ≡ a + size * m + size * n → rows_from (1 + m) n f ≡ drop (a + size * m) l
unfolding rows_from
rows_spell size f l a g h zero m e = let z : a + size * m ≡ length l = omega (arith, e, mul-zero size) in sym (rw z (drop-length l))
rows_spell size f l a g h (suc n) m e =
    let q = mul-suc size n in
    let p = mul-suc size m in
    let z : suc (1 + m) ≡ 1 + suc m = omega arith in
    let y : a + size * suc m ≡ a + size * m + size = omega (arith, p) in
    let ih = rows_spell size f l a g h n (suc m) (omega (arith, e, p, q)) in
    let d : length (drop (a + size * m) l) ≡ length l - (a + size * m) = length-drop (a + size * m) l in
    let row : f (1 + m) ≡ take size (drop (a + size * m) l) =
    ext_get_or 0 _ _ (g (1 + m) ∙ sym (length-take-le size (drop (a + size * m) l) (omega (arith, d, e, q))))
    (λ k c.
    let b : k < size = omega (arith, c, g (1 + m)) in
    h m k b ∙ sym (get_or-take size (drop (a + size * m) l) k 0 b ∙ get_or-drop (a + size * m) l k 0)) in
    rw (row, z, ih, y, ← drop-drop size (a + size * m) l) (take-append-drop size (drop (a + size * m) l))

pub all_rows : (p : ℕ → Bool) (f g : ℕ → List ℕ) → ((i : ℕ) → all_of p (f i) ≡ all_of p (g i)) → (i n : ℕ) → all_of p (rows_from i n f) ≡ all_of p (rows_from i n g)
unfolding rows_from
all_rows p f g h i zero = refl
all_rows p f g h i (suc n) = rw (all_append p (f i) (rows_from (suc i) n f), all_append p (g i) (rows_from (suc i) n g), h i, all_rows p f g h (suc i) n)

-- a test of more fields, which those above pass
pub each_wider : (v d : ℕ) (p q : ℕ → Bool) → ((j : ℕ) → 1 ≤ j → j ≤ v → p j ≡ q j) → ((j : ℕ) → v < j → j ≤ v + d → q j ≡ true) → each v p ≡ each (v + d) q
unfolding each
each_wider v zero p q h g = let z : v + 0 ≡ v = omega arith in rw z (each_ext v p q h)
each_wider v (suc d) p q h g =
    let z : v + suc d ≡ suc (v + d) = omega arith in
    rw z (rw (g (suc (v + d)) (omega arith) (omega arith)) (each_wider v d p q h (λ j a b. g j a (omega arith)) ∙ and_all (each (v + d) q)))

pub any_ext : (n : ℕ) (p q : ℕ → Bool) → ((k : ℕ) → 1 ≤ k → k ≤ n → p k ≡ q k) → any n p ≡ any n q
unfolding any
any_ext zero p q h = refl
any_ext (suc n) p q h = rw (any_ext n p q (λ k a b. h k a (omega arith)), h (suc n) (omega arith) (omega arith))

-- a test of all that is listed is one of each
module _ (p : ℕ → Bool) (f : ℕ → ℕ) where
  all_from : (i n : ℕ) → ((j : ℕ) → i ≤ j → j < i + n → p (f j) ≡ true) → all_of p (from i n f) ≡ true
  unfolding from all_of
  all_from i zero h = refl
  all_from i (suc n) h = and_both _ _ (h i (omega arith) (omega arith)) (all_from (suc i) n (λ j a b. h j (omega arith) (omega arith)))

  pub all_listed : (n : ℕ) → all_of p (listed n f) ≡ each n (λ j. p (f j))
  all_listed n =
      same_test _ _
      (λ h. each_all n _ (λ j a b. rw (listed_at n f j 0 a b) at (all_at p (listed n f) (j - 1) 0 h (omega (arith, listed_length n f)))))
      (λ h. unfold listed in all_from 1 n (λ j a b. each_at n (λ j. p (f j)) j h a (omega arith)))
