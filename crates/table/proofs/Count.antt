-- Where every chain rises, the chains hold all used records just if their lengths add up to the used count: a record has one relation, so it
-- lies on one chain only, and there once, since labels rise.
-- Assumes nothing.
use Prim.Native.Nat.{ℕ, zero, suc, ◌+◌, ◌≤◌, ◌<◌}
use mathlib.Core.Path.{◌≡◌, refl, ap, sym, ◌∙◌}
use mathlib.Core.Bool.{Bool, true, false, ◌&&◌, ◌||◌, and-false}
use mathlib.Core.List.{List, [], ◌∷◌}
use mathlib.Core.Logic.{◌⊎◌, inl, inr, ◌≢◌}
use native.Mathlib.Omega.{arith}
use lib.Dec.{leb, ltb, eqb}
use lib.ListN.{length}
use borrow.Author.Tests.{ltb-true, leb-true, leb-false, le-leb, lt-leb, eqb-true, eqb-false, eq-eqb, ne_eqb}
use Rattle.crdt.proofs.Tests.{test, clash, or_cases, and_left, and_right, and_both}
use Rattle.model.specs.Layout.{most_relations, used_at, first_at}
use Rattle.model.specs.Shapes.{next_in, relation_in, label_in, chain_from_in, chain_in, chain_step_in, rises_in, chains_rise_in, on_chain_in}
use Rattle.model.specs.Lists.{each, any, some_of, all_of}
use Rattle.layout.proofs.Each.{each_at, each_all, each_both, each_fail}

bit : Bool → ℕ
bit true = 1
bit false = 0

-- f 1 to f n added up
pub sum_to : ℕ → (ℕ → ℕ) → ℕ
sum_to zero f = 0
sum_to (suc n) f = sum_to n f + f (suc n)

pub sum_none : (f : ℕ → ℕ) → 0 ≡ sum_to 0 f
unfolding sum_to
sum_none f = refl

pub sum_more : (n : ℕ) (f : ℕ → ℕ) → sum_to (n + 1) f ≡ sum_to n f + f (n + 1)
unfolding sum_to
sum_more n f = let z : n + 1 ≡ suc n = omega arith in rw z

-- how often k stands in a list
occ : ℕ → List ℕ → ℕ
occ k [] = 0
occ k (i ∷ l) = bit (eqb k i) + occ k l

elem : ℕ → List ℕ → Bool
elem k l = some_of (λ j. eqb k j) l

sum_zero : (n : ℕ) → sum_to n (λ k. 0) ≡ 0
unfolding sum_to
sum_zero zero = refl
sum_zero (suc n) = rw (sum_zero n)

sum_add : (n : ℕ) (f g : ℕ → ℕ) → sum_to n (λ k. f k + g k) ≡ sum_to n f + sum_to n g
unfolding sum_to
sum_add zero f g = refl
sum_add (suc n) f g = rw (sum_add n f g) (omega arith)

sum_ext : (n : ℕ) (f g : ℕ → ℕ) → ((k : ℕ) → 1 ≤ k → k ≤ n → f k ≡ g k) → sum_to n f ≡ sum_to n g
unfolding sum_to
sum_ext zero f g h = refl
sum_ext (suc n) f g h = rw (sum_ext n f g (λ k a b. h k a (omega arith)), h (suc n) (omega arith) (omega arith))

sum_swap : (n m : ℕ) (g : ℕ → ℕ → ℕ) → sum_to n (λ k. sum_to m (λ q. g k q)) ≡ sum_to m (λ q. sum_to n (λ k. g k q))
unfolding sum_to
sum_swap n zero g = sum_zero n
sum_swap n (suc m) g = sum_add n (λ k. sum_to m (λ q. g k q)) (λ k. g k (suc m)) ∙ rw (sum_swap n m g)

sum_delta : (n i : ℕ) → 1 ≤ i → sum_to n (λ k. bit (eqb k i)) ≡ bit (leb i n)
unfolding sum_to bit
sum_delta zero i h = rw (lt-leb i 0 h)
sum_delta (suc n) i h = rw (sum_delta n i h) (go (leb i n) refl (eqb (suc n) i) refl)
  where
    go : (a : Bool) → leb i n ≡ a → (b : Bool) → eqb (suc n) i ≡ b → bit a + bit b ≡ bit (leb i (suc n))
    go true p true q = absurd (let x = leb-true i n p in let y = eqb-true (suc n) i q in omega arith)
    go true p false q = rw (le-leb i (suc n) (let x = leb-true i n p in omega arith))
    go false p true q = rw (le-leb i (suc n) (let y = eqb-true (suc n) i q in omega arith))
    go false p false q = rw (lt-leb i (suc n) (let x = leb-false i n p in let y : suc n ≢ i = eqb-false (suc n) i q in omega arith))

-- a list of numbers from 1 to n
abbrev Within : ℕ → List ℕ → Type 0
Within n [] = Unit {0}
Within n (i ∷ l) = (1 ≤ i) × (i ≤ n) × Within n l

sum_occ : (l : List ℕ) (n : ℕ) → Within n l → sum_to n (λ k. occ k l) ≡ length l
unfolding occ bit
sum_occ [] n w = sum_zero n
sum_occ (i ∷ l) n w =
    sum_add n (λ k. bit (eqb k i)) (λ k. occ k l) ∙ rw (sum_delta n i w.0, sum_occ l n w.2, le-leb i n w.1) (omega arith)

-- a rising list, taken apart
module _ (w : ℕ) (t : List ℕ) (r : ℕ) where
  pub step_says : (low i : ℕ) → chain_step_in w t r low i ≡ true → (i ≤ used_at t) × (relation_in w t i ≡ r) × (low < label_in w t i)
  unfolding chain_step_in
  step_says low i e =
      let a = and_left (leb i (used_at t) && eqb (relation_in w t i) r && ltb low (label_in w t i)) (leb (next_in w t i) (used_at t)) e in
      let b = and_left (leb i (used_at t) && eqb (relation_in w t i) r) (ltb low (label_in w t i)) a in (
        leb-true i (used_at t) (and_left (leb i (used_at t)) (eqb (relation_in w t i) r) b),
        eqb-true (relation_in w t i) r (and_right (leb i (used_at t)) (eqb (relation_in w t i) r) b),
        ltb-true low (label_in w t i) (and_right (leb i (used_at t) && eqb (relation_in w t i) r) (ltb low (label_in w t i)) a),
      )

  rises_head : (low i : ℕ) (l : List ℕ) → rises_in w t r low (i ∷ l) ≡ true → (i ≤ used_at t) × (relation_in w t i ≡ r) × (low < label_in w t i)
  unfolding rises_in
  rises_head low i l e = step_says low i (and_left (chain_step_in w t r low i) (rises_in w t r (label_in w t i) l) e)

  rises_tail : (low i : ℕ) (l : List ℕ) → rises_in w t r low (i ∷ l) ≡ true → rises_in w t r (label_in w t i) l ≡ true
  unfolding rises_in
  rises_tail low i l e = and_right (chain_step_in w t r low i) (rises_in w t r (label_in w t i) l) e

  -- the records of a rising chain are used ones
  rises_within : (f low i : ℕ) → rises_in w t r low (chain_from_in w f t i) ≡ true → Within (used_at t) (chain_from_in w f t i)
  unfolding chain_from_in
  rises_within zero low i e = tt
  rises_within (suc f) low zero e = tt
  rises_within (suc f) low (suc i) e =
      let rest = chain_from_in w f t (next_in w t (suc i)) in
      (omega arith, (rises_head low (suc i) rest e).0, rises_within f (label_in w t (suc i)) (next_in w t (suc i)) (rises_tail low (suc i) rest e))

  -- a member of a rising list: its relation, and its label above the start
  rises_member : (l : List ℕ) (low k : ℕ) → rises_in w t r low l ≡ true → elem k l ≡ true → (relation_in w t k ≡ r) × (low < label_in w t k)
  unfolding elem some_of
  rises_member [] low k e h = clash h refl
  rises_member (i ∷ l) low k e h = go (or_cases (eqb k i) (some_of (λ j. eqb k j) l) h) (rises_member l (label_in w t i) k (rises_tail low i l e))
    where
      go : (eqb k i ≡ true) ⊎ (some_of (λ j. eqb k j) l ≡ true) → (some_of (λ j. eqb k j) l ≡ true → (relation_in w t k ≡ r) × (label_in w t i < label_in w t k))
          → (relation_in w t k ≡ r) × (low < label_in w t k)
      go (inl q) f = let d = rises_head low i l e in let z = eqb-true k i q in (rw z d.1, rw z d.2)
      go (inr q) f = let d = rises_head low i l e in let m = f q in (m.0, omega arith)

  -- it stands there once
  occ_none : (l : List ℕ) (k : ℕ) → elem k l ≡ false → occ k l ≡ 0
  unfolding occ elem some_of bit
  occ_none [] k e = refl
  occ_none (i ∷ l) k e = go (eqb k i) e (occ_none l k)
    where
      go : (b : Bool) → (b || some_of (λ j. eqb k j) l) ≡ false → (some_of (λ j. eqb k j) l ≡ false → occ k l ≡ 0) → bit b + occ k l ≡ 0
      go true h f = clash refl h
      go false h f = rw (f h)

  occ_once : (l : List ℕ) (low k : ℕ) → rises_in w t r low l ≡ true → occ k l ≡ bit (elem k l)
  unfolding occ elem some_of bit
  occ_once [] low k e = refl
  occ_once (i ∷ l) low k e = go (eqb k i) refl (some_of (λ j. eqb k j) l) refl (occ_once l (label_in w t i) k (rises_tail low i l e))
    where
      go : (b : Bool) → eqb k i ≡ b → (d : Bool) → some_of (λ j. eqb k j) l ≡ d → occ k l ≡ bit (some_of (λ j. eqb k j) l)
          → bit b + occ k l ≡ bit (b || some_of (λ j. eqb k j) l)
      go true p true q h =
          let m = rises_member l (label_in w t i) k (rises_tail low i l e) q in
          let z = ap (label_in w t) (eqb-true k i p) in absurd (omega arith)
      go true p false q h = rw (occ_none l k q)
      go false p d q h = rw h (omega arith)

-- at most one chain has it
any_at : (n : ℕ) (p : ℕ → Bool) → any n p ≡ true → (k : ℕ) × (1 ≤ k) × (k ≤ n) × (p k ≡ true)
unfolding any
any_at zero p e = clash e refl
any_at (suc n) p e = go (or_cases (any n p) (p (suc n)) e) (any_at n p)
  where
    go : (any n p ≡ true) ⊎ (p (suc n) ≡ true) → (any n p ≡ true → (k : ℕ) × (1 ≤ k) × (k ≤ n) × (p k ≡ true)) → (k : ℕ) × (1 ≤ k) × (k ≤ suc n) × (p k ≡ true)
    go (inl q) f = let g = f q in (g.0, g.1, omega arith, g.3)
    go (inr q) f = (suc n, omega arith, omega arith, q)

sum_any : (m : ℕ) (p : ℕ → Bool) → ((q q' : ℕ) → q ≤ m → q' ≤ m → 1 ≤ q → 1 ≤ q' → p q ≡ true → p q' ≡ true → q ≡ q') → sum_to m (λ q. bit (p q)) ≡ bit (any m p)
unfolding sum_to any bit
sum_any zero p u = refl
sum_any (suc m) p u = rw (sum_any m p (λ q q' a b. u q q' (omega arith) (omega arith))) (go (any m p) refl (p (suc m)) refl)
  where
    go : (a : Bool) → any m p ≡ a → (b : Bool) → p (suc m) ≡ b → bit a + bit b ≡ bit (a || b)
    go true x true y = let k = any_at m p x in absurd (let z = u k.0 (suc m) (omega (arith, k.2)) (omega arith) k.1 (omega arith) k.3 y in omega (arith, k.2))
    go true x false y = refl
    go false x true y = refl
    go false x false y = refl

sum_bits : (n : ℕ) (p : ℕ → Bool) → sum_to n (λ k. bit (p k)) ≤ n
unfolding sum_to bit
sum_bits zero p = omega arith
sum_bits (suc n) p = go (p (suc n)) (sum_bits n p)
  where
    go : (b : Bool) → sum_to n (λ k. bit (p k)) ≤ n → sum_to n (λ k. bit (p k)) + bit b ≤ suc n
    go true h = omega arith
    go false h = omega arith

sum_all : (n : ℕ) (p : ℕ → Bool) → eqb (sum_to n (λ k. bit (p k))) n ≡ each n p
unfolding sum_to each bit
sum_all zero p = refl
sum_all (suc n) p = go (p (suc n)) (each n p) (sum_all n p) (sum_bits n p)
  where
    s : ℕ
    s = sum_to n (λ k. bit (p k))

    go : (b a : Bool) → eqb s n ≡ a → s ≤ n → eqb (s + bit b) (suc n) ≡ (a && b)
    go true true e h = let z = eqb-true s n e in eq-eqb (s + 1) (suc n) (omega arith)
    go true false e h = let z : s ≢ n = eqb-false s n e in ne_eqb (s + 1) (suc n) (λ x. z (omega arith))
    go false true e h = ne_eqb (s + 0) (suc n) (omega arith)
    go false false e h = ne_eqb (s + 0) (suc n) (omega arith)

module _ (w : ℕ) (t : List ℕ) (up : chains_rise_in w t ≡ true) where
  rise : (r : ℕ) → 1 ≤ r → r ≤ most_relations → rises_in w t r 0 (chain_in w t r) ≡ true
  unfolding chains_rise_in
  rise r h g = each_at most_relations (λ q. rises_in w t q 0 (chain_in w t q)) r up h g

  in_one : (k q q' : ℕ) → q ≤ most_relations → q' ≤ most_relations → 1 ≤ q → 1 ≤ q' → elem k (chain_in w t q) ≡ true → elem k (chain_in w t q') ≡ true → q ≡ q'
  in_one k q q' a b c d x y =
      sym (rises_member w t q (chain_in w t q) 0 k (rise q c a) x).0 ∙ (rises_member w t q' (chain_in w t q') 0 k (rise q' d b) y).0

  length_is : (r : ℕ) → 1 ≤ r → r ≤ most_relations → length (chain_in w t r) ≡ sum_to (used_at t) (λ k. occ k (chain_in w t r))
  unfolding chain_in
  length_is r h g = sym (sum_occ (chain_from_in w (used_at t + 1) t (first_at t r)) (used_at t) (rises_within w t r (used_at t + 1) 0 (first_at t r) (rise r h g)))

  on_one : (k : ℕ) → sum_to most_relations (λ r. occ k (chain_in w t r)) ≡ bit (on_chain_in w t k)
  unfolding on_chain_in elem
  on_one k =
      sum_ext most_relations (λ r. occ k (chain_in w t r)) (λ r. bit (elem k (chain_in w t r))) (λ r a b. occ_once w t r (chain_in w t r) 0 k (rise r a b))
      ∙ sum_any most_relations (λ r. elem k (chain_in w t r)) (in_one k)

  pub counted : eqb (sum_to most_relations (λ r. length (chain_in w t r))) (used_at t) ≡ each (used_at t) (on_chain_in w t)
  counted =
      ap (λ (x : ℕ). eqb x (used_at t))
      (sum_ext most_relations (λ r. length (chain_in w t r)) (λ r. sum_to (used_at t) (λ k. occ k (chain_in w t r))) length_is
      ∙ sym (sum_swap (used_at t) most_relations (λ k r. occ k (chain_in w t r)))
      ∙ sum_ext (used_at t) (λ k. sum_to most_relations (λ r. occ k (chain_in w t r))) (λ k. bit (on_chain_in w t k)) (λ k a b. on_one k))
      ∙ sum_all (used_at t) (on_chain_in w t)

risen : (w : ℕ) (t : List ℕ) → each most_relations (λ q. rises_in w t q 0 (chain_in w t q)) ≡ true → chains_rise_in w t ≡ true
unfolding chains_rise_in
risen w t e = e

-- the members of a list that all pass
all_member : (p : ℕ → Bool) (l : List ℕ) (k : ℕ) → all_of p l ≡ true → elem k l ≡ true → p k ≡ true
unfolding all_of elem some_of
all_member p [] k e h = clash h refl
all_member p (i ∷ l) k e h = go (or_cases (eqb k i) (some_of (λ j. eqb k j) l) h) (all_member p l k (and_right (p i) (all_of p l) e))
  where
    go : (eqb k i ≡ true) ⊎ (some_of (λ j. eqb k j) l ≡ true) → (some_of (λ j. eqb k j) l ≡ true → p k ≡ true) → p k ≡ true
    go (inl q) f = ap p (eqb-true k i q) ∙ and_left (p i) (all_of p l) e
    go (inr q) f = f q

-- a list of numbers from 1 to n, where each of these passes
all_within : (p : ℕ → Bool) (n : ℕ) (l : List ℕ) → each n p ≡ true → Within n l → all_of p l ≡ true
unfolding all_of
all_within p n [] e w = refl
all_within p n (i ∷ l) e w = and_both (p i) (all_of p l) (each_at n p i e w.0 w.1) (all_within p n l e w.2)

-- a test of records, asked of those that the chains hold
module _ (w : ℕ) (t : List ℕ) (p : ℕ → Bool) where
  rising_all : (r : ℕ) → each (used_at t) p ≡ true → rises_in w t r 0 (chain_in w t r) ≡ true → all_of p (chain_in w t r) ≡ true
  unfolding chain_in
  rising_all r e h =
      all_within p (used_at t) (chain_from_in w (used_at t + 1) t (first_at t r)) e (rises_within w t r (used_at t + 1) 0 (first_at t r) h)

  on_passes : (k : ℕ) → each most_relations (λ q. all_of p (chain_in w t q)) ≡ true → on_chain_in w t k ≡ true → p k ≡ true
  unfolding on_chain_in elem
  on_passes k e h =
      let m = any_at most_relations (λ r. elem k (chain_in w t r)) h in
      all_member p (chain_in w t m.0) k (each_at most_relations (λ q. all_of p (chain_in w t q)) m.0 e m.1 m.2) m.3

  all_pass : each most_relations (λ q. all_of p (chain_in w t q)) ≡ true → each (used_at t) (on_chain_in w t) ≡ true → each (used_at t) p ≡ true
  all_pass e h = each_all (used_at t) p (λ k a b. on_passes k e (each_at (used_at t) (on_chain_in w t) k h a b))

  -- the ways out of chains, and a turn
  pub chains_broken : (r : ℕ) → 1 ≤ r → r ≤ most_relations → (rises_in w t r 0 (chain_in w t r) && all_of p (chain_in w t r)) ≡ false
      → false ≡ (each (used_at t) p && chains_rise_in w t && each (used_at t) (on_chain_in w t))
  unfolding chains_rise_in
  chains_broken r h g e = go (test (each (used_at t) p)) (test (rises_in w t r 0 (chain_in w t r)))
    where
      go : (each (used_at t) p ≡ true) ⊎ (each (used_at t) p ≡ false) → (rises_in w t r 0 (chain_in w t r) ≡ true) ⊎ (rises_in w t r 0 (chain_in w t r) ≡ false)
          → false ≡ (each (used_at t) p && each most_relations (λ q. rises_in w t q 0 (chain_in w t q)) && each (used_at t) (on_chain_in w t))
      go (inl x) (inl y) = clash (and_both (rises_in w t r 0 (chain_in w t r)) (all_of p (chain_in w t r)) y (rising_all r x y)) e
      go (inl x) (inr y) = rw (x, ← each_fail most_relations (λ q. rises_in w t q 0 (chain_in w t q)) r h g y)
      go (inr x) y = rw x

  pub chains_counted : (count used : ℕ) → each most_relations (λ q. rises_in w t q 0 (chain_in w t q) && all_of p (chain_in w t q)) ≡ true
      → count ≡ sum_to most_relations (λ q. length (chain_in w t q)) → used ≡ used_at t
      → eqb count used ≡ (each (used_at t) p && chains_rise_in w t && each (used_at t) (on_chain_in w t))
  chains_counted count used e f g = rw (f, g, up) (counted w t up ∙ go (test (each (used_at t) (on_chain_in w t))))
    where
      both : (each most_relations (λ q. rises_in w t q 0 (chain_in w t q)) && each most_relations (λ q. all_of p (chain_in w t q))) ≡ true
      both = sym (each_both most_relations (λ q. rises_in w t q 0 (chain_in w t q)) (λ q. all_of p (chain_in w t q))) ∙ e

      up : chains_rise_in w t ≡ true
      up = risen w t (and_left (each most_relations (λ q. rises_in w t q 0 (chain_in w t q))) (each most_relations (λ q. all_of p (chain_in w t q))) both)

      go : (each (used_at t) (on_chain_in w t) ≡ true) ⊎ (each (used_at t) (on_chain_in w t) ≡ false)
          → each (used_at t) (on_chain_in w t) ≡ (each (used_at t) p && true && each (used_at t) (on_chain_in w t))
      go (inl x) = rw (x, all_pass (and_right (each most_relations (λ q. rises_in w t q 0 (chain_in w t q))) (each most_relations (λ q. all_of p (chain_in w t q))) both) x)
      go (inr x) = rw (x, and-false)

pub chains_more : (w : ℕ) (t : List ℕ) (r count n : ℕ) → n ≡ length (chain_in w t (r + 1)) → count ≡ sum_to r (λ q. length (chain_in w t q))
    → count + n ≡ sum_to (r + 1) (λ q. length (chain_in w t q))
chains_more w t r count n e f = rw (sum_more r (λ q. length (chain_in w t q)), e, f)
