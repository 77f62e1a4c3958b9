-- The chains of a well-formed table: what lies on them, that they end, and what follows each of their records.
-- Assumes nothing.
use Prim.Native.Nat.{ℕ, zero, suc, ◌+◌, ◌≤◌, ◌<◌}
use mathlib.Core.Path.{◌≡◌, refl, sym, ◌∙◌, ap}
use mathlib.Core.Logic.{◌⊎◌, inl, inr, ⊎_elim}
use mathlib.Core.Bool.{Bool, true}
use mathlib.Core.List.{List, [], ◌∷◌}
use native.Mathlib.Omega.{arith}
use lib.Dec.{eqb, ltb, leb}
use lib.ListN.{length}
use borrow.Author.Tests.{leb-true, eqb-true, ltb-true, eq-eqb}
use Rattle.crdt.proofs.Tests.{clash, and_left, and_right, or_cases, or_left, or_right}
use Rattle.model.specs.Layout.{most_relations, used_at, first_at, next_at, relation_at, label_at}
use Rattle.model.specs.Lists.{some_of}
use Rattle.model.specs.WellFormed.{chain_from, chain_of, chain_step, rises, on_chain}
use Rattle.wellformed.proofs.Ranges.{parts}
use Rattle.wellformed.proofs.ListRanges.{any_some}
use Rattle.wellformed.proofs.Pigeon.{Out, NoDup, Under, pigeon}

-- i lies on a list
abbrev pub lies : ℕ → List ℕ → Bool
lies i l = some_of (λ j. eqb i j) l

pub lies_cases : (k i : ℕ) (l : List ℕ) → lies k (i ∷ l) ≡ true → (k ≡ i) ⊎ (lies k l ≡ true)
unfolding some_of
lies_cases k i l h = ⊎_elim (λ p. inl (eqb-true k i p)) (λ p. inr p) (or_cases (eqb k i) (lies k l) h)

pub lies_nil : {X : Type 0} (k : ℕ) → lies k [] ≡ true → X
unfolding some_of
lies_nil k h = clash h refl

pub lies_here : (i : ℕ) (l : List ℕ) → lies i (i ∷ l) ≡ true
unfolding some_of
lies_here i l = or_left (eqb i i) (lies i l) (eq-eqb i i refl)

pub lies_there : (k i : ℕ) (l : List ℕ) → lies k l ≡ true → lies k (i ∷ l) ≡ true
unfolding some_of
lies_there k i l h = or_right (eqb k i) (lies k l) h

-- one step of a chain
step_facts : (t : List ℕ) (r low i : ℕ) → chain_step t r low i ≡ true → (i ≤ used_at t) × (relation_at t i ≡ r) × (low < label_at t i)
unfolding chain_step
step_facts t r low i h =
    let g = parts (leb i (used_at t)) (eqb (relation_at t i) r ∷ ltb low (label_at t i) ∷ leb (next_at t i) (used_at t) ∷ []) h in
    (leb-true i (used_at t) g.0, eqb-true (relation_at t i) r g.1.0, ltb-true low (label_at t i) g.1.1.0)

pub rises_head : (t : List ℕ) (r low i : ℕ) (l : List ℕ) → rises t r low (i ∷ l) ≡ true → (i ≤ used_at t) × (relation_at t i ≡ r) × (low < label_at t i)
unfolding rises
rises_head t r low i l h = step_facts t r low i (and_left (chain_step t r low i) (rises t r (label_at t i) l) h)

pub rises_tail : (t : List ℕ) (r low i : ℕ) (l : List ℕ) → rises t r low (i ∷ l) ≡ true → rises t r (label_at t i) l ≡ true
unfolding rises
rises_tail t r low i l h = and_right (chain_step t r low i) (rises t r (label_at t i) l) h

-- a record on a rising list: its index, its relation, its label above the start
pub rises_member : (t : List ℕ) (r low : ℕ) (l : List ℕ) (k : ℕ) → rises t r low l ≡ true → lies k l ≡ true
    → (k ≤ used_at t) × (relation_at t k ≡ r) × (low < label_at t k)
rises_member t r low [] k h e = lies_nil k e
rises_member t r low (i ∷ l) k h e =
    let g = rises_head t r low i l h in
    ⊎_elim (λ p. rw p g) (λ p. let m = rises_member t r (label_at t i) l k (rises_tail t r low i l h) p in (m.0, m.1, omega arith)) (lies_cases k i l e)

-- records of one label on a rising list are one record
pub rises_one : (t : List ℕ) (r low : ℕ) (l : List ℕ) (i j : ℕ) → rises t r low l ≡ true → lies i l ≡ true → lies j l ≡ true
    → label_at t i ≡ label_at t j → i ≡ j
rises_one t r low [] i j h a b e = lies_nil i a
rises_one t r low (k ∷ l) i j h a b e =
    go (lies_cases i k l a) (lies_cases j k l b) (λ p q. rises_one t r (label_at t k) l i j (rises_tail t r low k l h) p q e)
  where
    above : (m : ℕ) → lies m l ≡ true → label_at t k < label_at t m
    above m p = (rises_member t r (label_at t k) l m (rises_tail t r low k l h) p).2

    go : (i ≡ k) ⊎ (lies i l ≡ true) → (j ≡ k) ⊎ (lies j l ≡ true) → (lies i l ≡ true → lies j l ≡ true → i ≡ j) → i ≡ j
    go (inl p) (inl q) ih = p ∙ sym q
    go (inl p) (inr q) ih = absurd (omega (arith, above j q, ap (label_at t) p))
    go (inr p) (inl q) ih = absurd (omega (arith, above i p, ap (label_at t) q))
    go (inr p) (inr q) ih = ih p q

-- no record twice, none above used, and none is 0: at most used of them
rises_out : (t : List ℕ) (r low : ℕ) (l : List ℕ) (k : ℕ) → rises t r low l ≡ true → label_at t k ≤ low → Out k l
rises_out t r low [] k h e = tt
rises_out t r low (i ∷ l) k h e =
    let g = rises_head t r low i l h in
    (λ p. omega (arith, ap (label_at t) p), rises_out t r (label_at t i) l k (rises_tail t r low i l h) (omega arith))

rises_nodup : (t : List ℕ) (r low : ℕ) (l : List ℕ) → rises t r low l ≡ true → NoDup l
rises_nodup t r low [] h = tt
rises_nodup t r low (i ∷ l) h = (rises_out t r (label_at t i) l i (rises_tail t r low i l h) (omega arith), rises_nodup t r (label_at t i) l (rises_tail t r low i l h))

rises_under : (t : List ℕ) (r low : ℕ) (l : List ℕ) → rises t r low l ≡ true → Under (suc (used_at t)) l
rises_under t r low [] h = tt
rises_under t r low (i ∷ l) h = let g = rises_head t r low i l h in (omega arith, rises_under t r (label_at t i) l (rises_tail t r low i l h))

chain_out : (n : ℕ) (t : List ℕ) (i : ℕ) → Out 0 (chain_from n t i)
unfolding chain_from
chain_out zero t i = tt
chain_out (suc n) t zero = tt
chain_out (suc n) t (suc i) = (λ p. omega arith, chain_out n t (next_at t (suc i)))

pub chain_positive : (n : ℕ) (t : List ℕ) (i k : ℕ) → lies k (chain_from n t i) ≡ true → 1 ≤ k
unfolding chain_from
chain_positive zero t i k h = lies_nil k h
chain_positive (suc n) t zero k h = lies_nil k h
chain_positive (suc n) t (suc i) k h =
    ⊎_elim (λ p. omega arith) (λ p. chain_positive n t (next_at t (suc i)) k p) (lies_cases k (suc i) (chain_from n t (next_at t (suc i))) h)

-- at most used indices of a chain rise
pub chain_within : (n : ℕ) (t : List ℕ) (r low i : ℕ) → rises t r low (chain_from n t i) ≡ true → length (chain_from n t i) ≤ used_at t
chain_within n t r low i h =
    let c = chain_from n t i in
    omega (arith, pigeon (suc (used_at t)) (0 ∷ c) (chain_out n t i, rises_nodup t r low c h) (omega arith, rises_under t r low c h))

-- a chain ends before its bound
pub chain_short : (t : List ℕ) (r : ℕ) → rises t r 0 (chain_of t r) ≡ true → length (chain_of t r) < used_at t + 1
unfolding chain_of
chain_short t r h = omega (arith, chain_within (used_at t + 1) t r 0 (first_at t r) h)

-- the record of a list that has the least label above low; 0 where there is none
pub data Least (t l : List ℕ) (low : ℕ) : ℕ → Type 0 where
  none : ((j : ℕ) → lies j l ≡ true → label_at t j ≤ low) → Least t l low 0
  least : {m : ℕ} → lies m l ≡ true → low < label_at t m → ((j : ℕ) → lies j l ≡ true → low < label_at t j → label_at t m ≤ label_at t j) → Least t l low m

least_cons : (t l : List ℕ) (low i m : ℕ) → label_at t i ≤ low → Least t l low m → Least t (i ∷ l) low m
least_cons t l low i m h (none f) = none (λ j e. ⊎_elim (λ p. omega (arith, ap (label_at t) p)) (λ p. f j p) (lies_cases j i l e))
least_cons t l low i m h (least a b f) =
    least (lies_there m i l a) b (λ j e g. ⊎_elim (λ p. absurd (omega (arith, ap (label_at t) p))) (λ p. f j p g) (lies_cases j i l e))

-- the first of a chain has the least label, and each has the next
chain_first : (n : ℕ) (t : List ℕ) (r low i : ℕ) → rises t r low (chain_from n t i) ≡ true → length (chain_from n t i) < n → Least t (chain_from n t i) low i
unfolding chain_from
chain_first zero t r low i h l = absurd (omega arith)
chain_first (suc n) t r low zero h l = none (λ j e. lies_nil j e)
chain_first (suc n) t r low (suc i) h l =
    let c = chain_from n t (next_at t (suc i)) in
    let g = rises_head t r low (suc i) c h in
    least (lies_here (suc i) c) g.2
    (λ j e a. ⊎_elim (λ p. omega (arith, ap (label_at t) p)) (λ p. omega (arith, (rises_member t r (label_at t (suc i)) c j (rises_tail t r low (suc i) c h) p).2)) (lies_cases j (suc i) c e))

chain_next : (n : ℕ) (t : List ℕ) (r low i k : ℕ) → rises t r low (chain_from n t i) ≡ true → length (chain_from n t i) < n
    → lies k (chain_from n t i) ≡ true → Least t (chain_from n t i) (label_at t k) (next_at t k)
unfolding chain_from
chain_next zero t r low i k h l e = absurd (omega arith)
chain_next (suc n) t r low zero k h l e = lies_nil k e
chain_next (suc n) t r low (suc i) k h l e =
    let c = chain_from n t (next_at t (suc i)) in
    let u = rises_tail t r low (suc i) c h in
    ⊎_elim (λ p. rw p (least_cons t c (label_at t (suc i)) (suc i) (next_at t (suc i)) (omega arith) (chain_first n t r (label_at t (suc i)) (next_at t (suc i)) u (omega arith))))
    (λ p. least_cons t c (label_at t k) (suc i) (next_at t k) (omega (arith, (rises_member t r (label_at t (suc i)) c k u p).2)) (chain_next n t r (label_at t (suc i)) (next_at t (suc i)) k u (omega arith) p))
    (lies_cases k (suc i) c e)

module _ (t : List ℕ) (r : ℕ) (up : rises t r 0 (chain_of t r) ≡ true) where
  pub first_least : Least t (chain_of t r) 0 (first_at t r)
  unfolding chain_of
  first_least = chain_first (used_at t + 1) t r 0 (first_at t r) up (chain_short t r up)

  pub next_least : (k : ℕ) → lies k (chain_of t r) ≡ true → Least t (chain_of t r) (label_at t k) (next_at t k)
  unfolding chain_of
  next_least k e = chain_next (used_at t + 1) t r 0 (first_at t r) k up (chain_short t r up) e

  pub chain_in_lem : (k : ℕ) → lies k (chain_of t r) ≡ true → (1 ≤ k) × (k ≤ used_at t) × (relation_at t k ≡ r)
  unfolding chain_of
  chain_in_lem k e =
      let m = rises_member t r 0 (chain_from (used_at t + 1) t (first_at t r)) k up e in
      (chain_positive (used_at t + 1) t (first_at t r) k e, m.0, m.1)

-- a record that lies on a chain lies on the chain of its relation
pub on_own : (t : List ℕ) → ((r : ℕ) → 1 ≤ r → r ≤ most_relations → rises t r 0 (chain_of t r) ≡ true) → (i : ℕ) → on_chain t i ≡ true
    → (1 ≤ relation_at t i) × (relation_at t i ≤ most_relations) × (lies i (chain_of t (relation_at t i)) ≡ true)
unfolding on_chain
on_own t up i h =
    let a = any_some most_relations (λ r. lies i (chain_of t r)) h in
    let m = rises_member t a.0 0 (chain_of t a.0) i (up a.0 a.1 a.2) a.3 in
    (rw m.1 a.1, rw m.1 a.2, rw m.1 a.3)
