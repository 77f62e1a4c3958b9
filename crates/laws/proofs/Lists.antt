-- Membership of what a test keeps, lengths, and steps that come to rest.
-- Assumes nothing.
use Prim.Native.Nat.{ℕ, zero, suc, ◌≤◌, ◌<◌}
use mathlib.Core.Path.{◌≡◌, refl, ap}
use mathlib.Core.Bool.{Bool, true, false, cond}
use mathlib.Core.List.{List, [], ◌∷◌, Memᴰ}
use mathlib.Core.Logic.{◌⊎◌, inl, inr}
use native.Mathlib.Omega.{arith}
use lib.ListN.{length}
use Rattle.model.specs.Lists.{only, some_of, all_of, times}
use Rattle.crdt.proofs.Tests.{test, clash, or_cases, or_left, or_right, and_left, and_right, and_both}

module _ {A : Type 0} where
  abbrev pub ◌∈◌ : A → List A → Type 0
  x ∈ l = Memᴰ x l

  infix 50 ◌∈◌
  pub only_in : (p : A → Bool) (x : A) (l : List A) → x ∈ only p l → (x ∈ l) × (p x ≡ true)
  unfolding only
  only_in p x [] h = elim h [ ]
  only_in p x (y ∷ ys) h = go (test (p y)) (λ (k : x ∈ only p ys). only_in p x ys k)
    where
      down : (x ∈ ys) × (p x ≡ true) → (x ∈ y ∷ ys) × (p x ≡ true)
      down r = (Memᴰ.tail r.0, r.1)

      met : p y ≡ true → x ∈ y ∷ only p ys → (x ∈ only p ys → (x ∈ ys) × (p x ≡ true)) → (x ∈ y ∷ ys) × (p x ≡ true)
      met e (Memᴰ.head q) ih = (Memᴰ.head q, rw q e)
      met e (Memᴰ.tail k) ih = down (ih k)

      go : (p y ≡ true) ⊎ (p y ≡ false) → (x ∈ only p ys → (x ∈ ys) × (p x ≡ true)) → (x ∈ y ∷ ys) × (p x ≡ true)
      go (inl e) ih = met e (rw e at h) ih
      go (inr e) ih = down (ih (rw e at h))

  pub in_only : (p : A → Bool) (x : A) (l : List A) → x ∈ l → p x ≡ true → x ∈ only p l
  unfolding only
  in_only p x [] x3 e = elim x3 [ ]
  in_only p x (y ∷ ys) (Memᴰ.head q) e = let e' : p y ≡ true = rw q at e in rw e' (Memᴰ.head q)
  in_only p x (y ∷ ys) (Memᴰ.tail h) e = go (p y) (in_only p x ys h e)
    where
      go : (b : Bool) → x ∈ only p ys → x ∈ cond b (y ∷ only p ys) (only p ys)
      go true k = Memᴰ.tail k
      go false k = k

  pub some_in : (p : A → Bool) (l : List A) → some_of p l ≡ true → (x : A) × (x ∈ l) × (p x ≡ true)
  unfolding some_of
  some_in p [] h = clash h refl
  some_in p (y ∷ ys) h = go (or_cases (p y) _ h) (λ k. some_in p ys k)
    where
      go : (p y ≡ true) ⊎ (some_of p ys ≡ true) → (some_of p ys ≡ true → (x : A) × (x ∈ ys) × (p x ≡ true)) → (x : A) × (x ∈ y ∷ ys) × (p x ≡ true)
      go (inl e) ih = (y, Memᴰ.head refl, e)
      go (inr e) ih = let r = ih e in (r.0, Memᴰ.tail r.1, r.2)

  pub in_some : (p : A → Bool) (x : A) (l : List A) → x ∈ l → p x ≡ true → some_of p l ≡ true
  unfolding some_of
  in_some p x [] x3 e = elim x3 [ ]
  in_some p x (y ∷ ys) (Memᴰ.head q) e = or_left (p y) _ (rw q at e)
  in_some p x (y ∷ ys) (Memᴰ.tail h) e = or_right (p y) _ (in_some p x ys h e)

  pub all_in : (p : A → Bool) (x : A) (l : List A) → all_of p l ≡ true → x ∈ l → p x ≡ true
  unfolding all_of
  all_in p x [] h x3 = elim x3 [ ]
  all_in p x (y ∷ ys) h (Memᴰ.head q) = rw q (and_left (p y) _ h)
  all_in p x (y ∷ ys) h (Memᴰ.tail k) = all_in p x ys (and_right (p y) _ h) k

  pub in_all : (p : A → Bool) (l : List A) → ((x : A) → x ∈ l → p x ≡ true) → all_of p l ≡ true
  unfolding all_of
  in_all p [] h = refl
  in_all p (y ∷ ys) h = and_both (p y) _ (h y (Memᴰ.head refl)) (in_all p ys (λ x k. h x (Memᴰ.tail k)))

  -- a weaker test keeps the same, or more
  pub only_more : (p q : A → Bool) (l : List A) → ((x : A) → x ∈ l → p x ≡ true → q x ≡ true) → (only p l ≡ only q l) ⊎ (length (only p l) < length (only q l))
  unfolding only
  only_more p q [] h = inl refl
  only_more p q (y ∷ ys) h = go (test (p y)) (test (q y)) (only_more p q ys (λ x k. h x (Memᴰ.tail k)))
    where
      R : Type 0
      R = (only p (y ∷ ys) ≡ only q (y ∷ ys)) ⊎ (length (only p (y ∷ ys)) < length (only q (y ∷ ys)))

      go : (p y ≡ true) ⊎ (p y ≡ false) → (q y ≡ true) ⊎ (q y ≡ false) → (only p ys ≡ only q ys) ⊎ (length (only p ys) < length (only q ys)) → R
      go (inl e) (inl f) (inl r) = rw (e, f) (inl (cc))
      go (inl e) (inl f) (inr r) = rw (e, f) (inr (omega arith))
      go (inl e) (inr f) r = clash (h y (Memᴰ.head refl) e) f
      go (inr e) (inl f) (inl r) = rw (e, f) (inr (omega (arith, ap length r)))
      go (inr e) (inl f) (inr r) = rw (e, f) (inr (omega arith))
      go (inr e) (inr f) r = rw (e, f) r

  pub only_length : (p : A → Bool) (l : List A) → length (only p l) ≤ length l
  unfolding only
  only_length p [] = omega arith
  only_length p (y ∷ ys) = go (p y) (only_length p ys)
    where
      go : (b : Bool) → length (only p ys) ≤ length ys → length (cond b (y ∷ only p ys) (only p ys)) ≤ suc (length ys)
      go true k = omega arith
      go false k = omega arith

  pub only_true : (l : List A) → only (λ (x : A). true) l ≡ l
  unfolding only
  only_true [] = refl
  only_true (y ∷ ys) = ap (λ (t : List A). y ∷ t) (only_true ys)

  pub only_less : (p : A → Bool) (l : List A) → (only p l ≡ l) ⊎ (length (only p l) < length l)
  only_less p l = rw (only_true l) at (only_more p (λ (x : A). true) l (λ x h e. refl))

  -- a step that lessens a number unless it changes nothing has come to rest after that many times
  module _ (f : A → A) (μ : A → ℕ) (I : A → Type 0) (keeps : (a : A) → I a → I (f a)) (less : (a : A) → I a → (f a ≡ a) ⊎ (μ (f a) < μ a)) where
    stays : (n : ℕ) (a : A) → f a ≡ a → times n f a ≡ a
    unfolding times
    stays zero a e = refl
    stays (suc n) a e = cc (e, stays n a e)

    pub rests : (n : ℕ) (a : A) → I a → μ a ≤ n → f (times n f a) ≡ times n f a
    unfolding times
    rests zero a i h = go (less a i)
      where
        go : (f a ≡ a) ⊎ (μ (f a) < μ a) → f a ≡ a
        go (inl e) = e
        go (inr l) = absurd (omega arith)
    rests (suc n) a i h = go (less a i) (λ l. rests n (f a) (keeps a i) l)
      where
        go : (f a ≡ a) ⊎ (μ (f a) < μ a) → (μ (f a) ≤ n → f (times n f (f a)) ≡ times n f (f a)) → f (times n f (f a)) ≡ times n f (f a)
        go (inl e) ih = cc (e, stays n a e)
        go (inr l) ih = ih (omega arith)

    pub times_keeps : (n : ℕ) (a : A) → I a → I (times n f a)
    unfolding times
    times_keeps zero a i = i
    times_keeps (suc n) a i = times_keeps n (f a) (keeps a i)
