-- Seeking a label along the chain of a relation.
-- Assumes nothing.
use Prim.Native.Nat.{ℕ, ◌+◌, ◌*◌, ◌-◌, ◌/◌, ◌%◌, ◌≤◌, ◌<◌}
use mathlib.Core.Path.{◌≡◌, refl, sym, ◌∙◌, ap}
use mathlib.Core.Logic.{◌⊎◌, inl, inr}
use mathlib.Core.Bool.{Bool, true, false, ◌||◌, ◌&&◌}
use mathlib.Core.List.{List}
use native.Mathlib.Omega.{arith}
use lib.Dec.{eqb, ltb}
use borrow.Author.Tests.{ltb-true, ltb-false, lt-ltb, le-ltb}
use Rattle.crdt.proofs.Tests.{Tri, low, same, high, tri, test, and_left, and_right, and_both}
use Rattle.model.specs.Layout.{most_relations, used_at, first_at, next_at, relation_at, label_at}
use Rattle.model.specs.Records.{label_span, place, position}
use Rattle.model.specs.Tables.{decode, record_of}
use Rattle.judged.specs.Checked.{Checked}
use Rattle.references.specs.Order.{key_at}
use Rattle.references.proofs.Places.{label_bounds, relation_least, relation_most, key_is, key_relation, position_is, position_nowhere}
use Rattle.marks.proofs.Chain.{On, Before, left, first_on, first_before, next_on, next_before, next_less}

-- the walk stands at index i, and all records of the relation before it have smaller labels
pub record Seeking (t : List ℕ) (r label i : ℕ) : Type 0 where
  pub here : (i ≡ 0) ⊎ On t r i
  pub passed : (j : ℕ) → On t r j → Before t i j → label_at t j < label

module _ (s t : List ℕ) (c : Checked s t) (r label : ℕ) where
  pub seek_start : 1 ≤ r → r ≤ most_relations → (i : ℕ) → i ≡ first_at t r → Seeking t r label i
  seek_start a l i e =
      rw e
      (record { here = first_on s t c.schema c.formed r a l; passed = λ j o b. absurd (first_before s t c.schema c.formed r j o b) })

  pub seek_on : (i : ℕ) → Seeking t r label i → (ltb 0 i && ltb (label_at t i) label) ≡ true → On t r i
  seek_on i k h = go k.here
    where
      go : (i ≡ 0) ⊎ On t r i → On t r i
      go (inl e) = absurd (omega (arith, ltb-true 0 i (and_left (ltb 0 i) _ h)))
      go (inr o) = o

  pub seek_step : (i n : ℕ) → Seeking t r label i → (ltb 0 i && ltb (label_at t i) label) ≡ true → n ≡ next_at t i → Seeking t r label n
  seek_step i n k h e = rw e (record { here = here (next_on s t c.schema c.formed r i o); passed = passed })
    where
      o : On t r i
      o = seek_on i k h

      here : (next_at t i ≡ 0) ⊎ (On t r (next_at t i) × (label_at t i < label_at t (next_at t i))) → (next_at t i ≡ 0) ⊎ On t r (next_at t i)
      here (inl z) = inl z
      here (inr p) = inr p.0

      passed : (j : ℕ) → On t r j → Before t (next_at t i) j → label_at t j < label
      passed j p b = go (next_before s t c.schema c.formed r i j o p b)
        where
          go : (j ≡ i) ⊎ (label_at t j < label_at t i) → label_at t j < label
          go (inl q) = rw q (ltb-true _ _ (and_right (ltb 0 i) _ h))
          go (inr l) = k.passed j p (inr l)

  pub seek_less : (i n : ℕ) → Seeking t r label i → (ltb 0 i && ltb (label_at t i) label) ≡ true → n ≡ next_at t i → left t n < left t i
  seek_less i n k h e = rw e (next_less s t c.schema c.formed r i (seek_on i k h))

  key_place_lem : (i : ℕ) → On t r i → label_at t i ≡ label → key_at t i ≡ place r label
  key_place_lem i o e =
      key_is s t c i o.from_one o.within ∙ rw (o.related, e)

  module _ (b : label < label_span) where
    pub found : (i : ℕ) → Seeking t r label i → (i ≡ 0 → ⊥) → label_at t i ≡ label → i ≡ position (place r label) (decode t).records
    found i k n e = go k.here
      where
        go : (i ≡ 0) ⊎ On t r i → i ≡ position (place r label) (decode t).records
        go (inl z) = absurd (n z)
        go (inr o) = sym (ap (λ (x : ℕ). position x (decode t).records) (sym (key_place_lem i o e)) ∙ position_is s t c i o.from_one o.within)

    -- a record of that key has the relation and the label
    keyed : (j : ℕ) → 1 ≤ j → j ≤ used_at t → key_at t j ≡ place r label → On t r j × (label_at t j ≡ label)
    keyed j a l e =
        let q = key_is s t c j a l in
        let m = label_bounds s t c j a l in
        (record { from_one = a; within = l; related = omega (arith, q, m.1) }, omega (arith, q, m.1))

    pub not_there : (1 ≤ r → r ≤ most_relations → ⊥) → 0 ≡ position (place r label) (decode t).records
    not_there n =
        sym (position_nowhere s t c (place r label) (λ j a l e. let o = (keyed j a l e).0 in
        n (omega (arith, relation_least s t c j a l, o.related)) (omega (arith, relation_most s t c j a l, o.related))))

    pub missed : (i : ℕ) → Seeking t r label i → (ltb 0 i && ltb (label_at t i) label) ≡ false → (i ≡ 0) ⊎ (label_at t i ≡ label → ⊥) → 0 ≡ position (place r label) (decode t).records
    missed i k h d = sym (position_nowhere s t c (place r label) (λ j a l e. no j (keyed j a l e)))
      where
        above : (label_at t i ≡ label → ⊥) → 1 ≤ i → label < label_at t i
        above f a = go (tri label (label_at t i))
          where
            go : Tri label (label_at t i) → label < label_at t i
            go (low l) = l
            go (same e) = absurd (f (sym e))
            go (high l) = let z : ◌≡◌ {A = Bool} true false = sym (and_both _ _ (lt-ltb 0 i a) (lt-ltb _ _ l)) ∙ h in absurd (clash z)
              where
                clash : ◌≡◌ {A = Bool} true false → ⊥
                clash z = let y : ◌≡◌ {A = ℕ} 0 1 = cc in omega arith

        no : (j : ℕ) → On t r j × (label_at t j ≡ label) → ⊥
        no j o = go d (tri i 0)
          where
            go : (i ≡ 0) ⊎ (label_at t i ≡ label → ⊥) → Tri i 0 → ⊥
            go (inl z) q = omega (arith, k.passed j o.0 (inl z), o.1)
            go (inr f) (low q) = omega arith
            go (inr f) (same z) = omega (arith, k.passed j o.0 (inl z), o.1)
            go (inr f) (high q) = omega (arith, k.passed j o.0 (inr (omega (arith, above f q, o.1))), o.1)
