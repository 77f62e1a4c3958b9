-- A walk along a chain to a label (document 02, F-6), step by step.
-- Assumes nothing.
use Prim.Native.Nat.{ℕ, zero, suc, ◌≤◌, ◌<◌}
use mathlib.Core.Path.{◌≡◌, refl}
use mathlib.Core.Logic.{◌⊎◌, inl, inr}
use mathlib.Core.Bool.{true, false}
use mathlib.Core.List.{List, [], ◌∷◌}
use native.Mathlib.Omega.{arith}
use lib.Dec.{eqb, ltb, leb}
use borrow.Author.Tests.{leb-true, leb-false, eqb-true, eqb-false, ltb-true, ltb-false, lt-ltb, le-ltb, eq-eqb, ne_eqb}
use Rattle.crdt.proofs.Tests.{test, clash}
use Rattle.model.specs.Layout.{used_at, next_at, relation_at, label_at}
use Rattle.model.specs.WellFormed.{record_rules, counters_rule, chain_step}
use Rattle.model.specs.Lookup.{read_rule, damaged, known, unknown, seek_from, Breaks, own_words, other_relation, label_not_raised, counter_above, next_above}
use Rattle.wellformed.proofs.Ranges.{parts}

-- what a record that is read and good says
pub record Read (s t : List ℕ) (r low i : ℕ) : Type 0 where
  pub ruled : record_rules s t i ≡ true
  pub counted : counters_rule s t i ≡ true
  pub stepped : chain_step t r low i ≡ true
  pub used : i ≤ used_at t
  pub related : relation_at t i ≡ r
  pub raised : low < label_at t i
  pub next : next_at t i ≤ used_at t

module _ (s t : List ℕ) (r low i : ℕ) where
  pub read_says : read_rule s t r low i ≡ true → Read s t r low i
  unfolding read_rule chain_step
  read_says h =
      let g = parts (record_rules s t i) (counters_rule s t i ∷ chain_step t r low i ∷ []) h in
      let k = parts (leb i (used_at t)) (eqb (relation_at t i) r ∷ ltb low (label_at t i) ∷ leb (next_at t i) (used_at t) ∷ []) g.1.1.0 in
      record {
        ruled = g.0;
        counted = g.1.0;
        stepped = g.1.1.0;
        used = leb-true i (used_at t) k.0;
        related = eqb-true (relation_at t i) r k.1.0;
        raised = ltb-true low (label_at t i) k.1.1.0;
        next = leb-true (next_at t i) (used_at t) k.1.1.1.0;
      }

  -- one that is not good, at an index none above used, breaks one of the five rules, and the other way round
  pub bad_breaks : i ≤ used_at t → read_rule s t r low i ≡ false → Breaks s t r low i
  unfolding read_rule chain_step
  bad_breaks u h =
      go (test (record_rules s t i)) (test (counters_rule s t i)) (test (leb i (used_at t))) (test (eqb (relation_at t i) r)) (test (ltb low (label_at t i))) (test (leb (next_at t i) (used_at t)))
    where
      go : (record_rules s t i ≡ true) ⊎ (record_rules s t i ≡ false) → (counters_rule s t i ≡ true) ⊎ (counters_rule s t i ≡ false)
          → (leb i (used_at t) ≡ true) ⊎ (leb i (used_at t) ≡ false) → (eqb (relation_at t i) r ≡ true) ⊎ (eqb (relation_at t i) r ≡ false)
          → (ltb low (label_at t i) ≡ true) ⊎ (ltb low (label_at t i) ≡ false) → (leb (next_at t i) (used_at t) ≡ true) ⊎ (leb (next_at t i) (used_at t) ≡ false)
          → Breaks s t r low i
      go (inr a) b c d e f = own_words a
      go (inl a) (inr b) c d e f = counter_above b
      go (inl a) (inl b) (inr c) d e f = let z = leb-false i (used_at t) c in absurd (omega arith)
      go (inl a) (inl b) (inl c) (inr d) e f = other_relation (eqb-false (relation_at t i) r d)
      go (inl a) (inl b) (inl c) (inl d) (inr e) f = label_not_raised (ltb-false low (label_at t i) e)
      go (inl a) (inl b) (inl c) (inl d) (inl e) (inr f) = next_above (leb-false (next_at t i) (used_at t) f)
      go (inl a) (inl b) (inl c) (inl d) (inl e) (inl f) = clash refl (rw (a, b, c, d, e, f) at h)

  pub breaks_bad : Breaks s t r low i → read_rule s t r low i ≡ false
  breaks_bad x = go (test (read_rule s t r low i)) x
    where
      go : (read_rule s t r low i ≡ true) ⊎ (read_rule s t r low i ≡ false) → Breaks s t r low i → read_rule s t r low i ≡ false
      go (inr e) x = e
      go (inl e) (own_words h) = clash (read_says e).ruled h
      go (inl e) (other_relation h) = absurd (h (read_says e).related)
      go (inl e) (label_not_raised h) = absurd (omega (arith, (read_says e).raised))
      go (inl e) (counter_above h) = clash (read_says e).counted h
      go (inl e) (next_above h) = absurd (omega (arith, (read_says e).next))

-- the end of the chain, a record that is not good, the label, a larger one, and a smaller one
module _ (s t : List ℕ) (r l low : ℕ) where
  pub seek_end : (n : ℕ) → seek_from n s t r l low 0 ≡ unknown
  unfolding seek_from
  seek_end zero = refl
  seek_end (suc n) = refl

  pub seek_damaged : (n i : ℕ) → 1 ≤ i → read_rule s t r low i ≡ false → seek_from (suc n) s t r l low i ≡ damaged
  unfolding seek_from
  seek_damaged n zero p h = absurd (omega arith)
  seek_damaged n (suc i) p h = rw h

  pub seek_known : (n i : ℕ) → 1 ≤ i → read_rule s t r low i ≡ true → label_at t i ≡ l → seek_from (suc n) s t r l low i ≡ known i
  unfolding seek_from
  seek_known n zero p h e = absurd (omega arith)
  seek_known n (suc i) p h e = rw (h, eq-eqb (label_at t (suc i)) l e)

  pub seek_unknown : (n i : ℕ) → 1 ≤ i → read_rule s t r low i ≡ true → l < label_at t i → seek_from (suc n) s t r l low i ≡ unknown
  unfolding seek_from
  seek_unknown n zero p h e = absurd (omega arith)
  seek_unknown n (suc i) p h e = rw (h, ne_eqb (label_at t (suc i)) l (omega arith), lt-ltb l (label_at t (suc i)) e)

  pub seek_on : (n i : ℕ) → 1 ≤ i → read_rule s t r low i ≡ true → label_at t i < l → seek_from (suc n) s t r l low i ≡ seek_from n s t r l (label_at t i) (next_at t i)
  unfolding seek_from
  seek_on n zero p h e = absurd (omega arith)
  seek_on n (suc i) p h e = rw (h, ne_eqb (label_at t (suc i)) l (omega arith), le-ltb l (label_at t (suc i)) (omega arith))
