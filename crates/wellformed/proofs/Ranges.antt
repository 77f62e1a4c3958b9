-- Tests of each and any of 1 to n, of all of a list, and lists written by index.
-- Assumes nothing.
use Prim.Native.Nat.{ℕ, zero, suc, ◌+◌, ◌-◌, ◌≤◌, ◌<◌}
use mathlib.Core.Path.{◌≡◌, refl, sym, ◌∙◌, ap}
use mathlib.Core.Bool.{Bool, true, false, ◌&&◌, ◌||◌}
use mathlib.Core.List.{List, [], ◌∷◌, ◌++◌}
use mathlib.Core.Logic.{◌⊎◌, inl, inr, ◌≢◌}
use native.Mathlib.Omega.{arith}
use lib.Dec.{eqb}
use lib.ListN.{length, get_or, replicate}
use lib.Seq.{ext_get_or}
use borrow.Author.Tests.{eqb-true, eqb-false}
use Rattle.crdt.proofs.Tests.{test, and_left, and_right, and_both, or_left, or_right}
use Rattle.model.specs.Lists.{each, any, from, listed, all_of}

-- A conjunction of tests, and its parts.
abbrev pub ands : Bool → List Bool → Bool
ands a [] = a
ands a (b ∷ bs) = ands (a && b) bs

abbrev pub Trues : List Bool → Type 0
Trues [] = Unit {0}
Trues (b ∷ bs) = (b ≡ true) × Trues bs

pub parts : (a : Bool) (bs : List Bool) → ands a bs ≡ true → Trues (a ∷ bs)
parts a [] h = (h, tt)
parts a (b ∷ bs) h = let r = parts (a && b) bs h in (and_left a b r.0, (and_right a b r.0, r.1))

pub whole : (a : Bool) (bs : List Bool) → Trues (a ∷ bs) → ands a bs ≡ true
whole a [] t = t.0
whole a (b ∷ bs) t = whole (a && b) bs (and_both a b t.0 t.1.0, t.1.1)

pub each_at : (n : ℕ) (p : ℕ → Bool) (i : ℕ) → each n p ≡ true → 1 ≤ i → i ≤ n → p i ≡ true
unfolding each
each_at zero p i h a b = absurd (omega arith)
each_at (suc n) p i h a b = go (test (eqb i (suc n))) (λ l. each_at n p i (and_left (each n p) _ h) a l)
  where
    go : (eqb i (suc n) ≡ true) ⊎ (eqb i (suc n) ≡ false) → (i ≤ n → p i ≡ true) → p i ≡ true
    go (inl q) ih = rw (eqb-true i (suc n) q) (and_right (each n p) _ h)
    go (inr q) ih = let ne : i ≢ suc n = eqb-false _ _ q in ih (omega arith)

pub each_all : (n : ℕ) (p : ℕ → Bool) → ((i : ℕ) → 1 ≤ i → i ≤ n → p i ≡ true) → each n p ≡ true
unfolding each
each_all zero p h = refl
each_all (suc n) p h = and_both (each n p) _ (each_all n p (λ i a b. h i a (omega arith))) (h (suc n) (omega arith) (omega arith))

pub any_at : (n : ℕ) (p : ℕ → Bool) (i : ℕ) → 1 ≤ i → i ≤ n → p i ≡ true → any n p ≡ true
unfolding any
any_at zero p i a b h = absurd (omega arith)
any_at (suc n) p i a b h = go (test (eqb i (suc n))) (λ l. any_at n p i a l h)
  where
    go : (eqb i (suc n) ≡ true) ⊎ (eqb i (suc n) ≡ false) → (i ≤ n → any n p ≡ true) → (any n p || p (suc n)) ≡ true
    go (inl q) ih = or_right (any n p) _ (rw (eqb-true i (suc n) q) at h)
    go (inr q) ih = let ne : i ≢ suc n = eqb-false _ _ q in or_left (any n p) _ (ih (omega arith))

module _ {A : Type 0} where
  from_length : (i n : ℕ) (f : ℕ → A) → length (from i n f) ≡ n
  unfolding from
  from_length i zero f = refl
  from_length i (suc n) f = ap suc (from_length (suc i) n f)

  from_at : (i n : ℕ) (f : ℕ → A) (k : ℕ) (d : A) → k < n → get_or (from i n f) k d ≡ f (i + k)
  unfolding from
  from_at i zero f k d h = absurd (omega arith)
  from_at i (suc n) f zero d h = let e : i ≡ i + 0 = omega arith in ap f e
  from_at i (suc n) f (suc k) d h = let e : suc i + k ≡ i + suc k = omega arith in from_at (suc i) n f k d (omega arith) ∙ ap f e

  pub listed_length : (n : ℕ) (f : ℕ → A) → length (listed n f) ≡ n
  unfolding listed
  listed_length n f = from_length 1 n f

  pub listed_at : (n : ℕ) (f : ℕ → A) (i : ℕ) (d : A) → 1 ≤ i → i ≤ n → get_or (listed n f) (i - 1) d ≡ f i
  unfolding listed
  listed_at n f i d a b = let e : 1 + (i - 1) ≡ i = omega arith in from_at 1 n f (i - 1) d (omega arith) ∙ ap f e

  -- a list is the list of its entries
  pub listed_is : (n : ℕ) (f : ℕ → A) (l : List A) (d : A) → length l ≡ n → ((i : ℕ) → 1 ≤ i → i ≤ n → f i ≡ get_or l (i - 1) d) → listed n f ≡ l
  listed_is n f l d e h =
      ext_get_or d (listed n f) l (listed_length n f ∙ sym e)
      (λ k b. let q : suc k - 1 ≡ k = omega arith in
      let c : suc k ≤ n = omega (arith, listed_length n f) in
      rw q at (listed_at n f (suc k) d (omega arith) c ∙ h (suc k) (omega arith) c))

  pub all_at : (p : A → Bool) (l : List A) (k : ℕ) (d : A) → all_of p l ≡ true → k < length l → p (get_or l k d) ≡ true
  unfolding all_of
  all_at p [] k d h b = absurd (omega arith)
  all_at p (x ∷ xs) zero d h b = and_left (p x) _ h
  all_at p (x ∷ xs) (suc k) d h b = all_at p xs k d (and_right (p x) _ h) (omega arith)

  pub all_same : (p : A → Bool) (a : A) (n : ℕ) → p a ≡ true → all_of p (replicate n a) ≡ true
  unfolding all_of
  all_same p a zero h = refl
  all_same p a (suc n) h = and_both (p a) _ h (all_same p a n h)

  pub all_append : (q : A → Bool) (l m : List A) → all_of q (l ++ m) ≡ (all_of q l && all_of q m)
  unfolding all_of
  all_append q [] m = refl
  all_append q (x ∷ xs) m = go (q x) (all_append q xs m)
    where
      go : (b : Bool) → all_of q (xs ++ m) ≡ (all_of q xs && all_of q m) → (b && all_of q (xs ++ m)) ≡ ((b && all_of q xs) && all_of q m)
      go true e = e
      go false e = refl
