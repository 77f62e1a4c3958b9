-- Walking the chain of a relation of a well-formed table: where it begins, what comes next, and what has been passed.
-- Assumes nothing.
use Prim.Native.Nat.{ℕ, ◌-◌, ◌≤◌, ◌<◌}
use mathlib.Core.Path.{◌≡◌, refl}
use mathlib.Core.Logic.{◌⊎◌, inl, inr}
use mathlib.Core.Bool.{true, false, cond}
use mathlib.Core.List.{List}
use native.Mathlib.Omega.{arith}
use lib.Dec.{eqb}
use borrow.Author.Tests.{eq-eqb, ne_eqb}
use Rattle.crdt.proofs.Tests.{Tri, low, same, high, tri}
use Rattle.model.specs.Layout.{most_relations, used_at, first_at, next_at, relation_at, label_at}
use Rattle.model.specs.Schemas.{broken}
use Rattle.model.specs.Records.{label_span}
use Rattle.model.specs.WellFormed.{chain_of, well_formed}
use Rattle.wellformed.proofs.Facts.{schema_sound, Formed, formed}
use Rattle.wellformed.proofs.Values.{label_bounds}
use Rattle.wellformed.proofs.Chains.{lies, Least, none, least, rises_one, first_least, next_least, chain_in_lem, on_own}

-- record i of relation r
pub record On (t : List ℕ) (r i : ℕ) : Type 0 where
  pub from_one : 1 ≤ i
  pub within : i ≤ used_at t
  pub related : relation_at t i ≡ r

-- record j comes before index i in a chain; 0 stands behind its end
abbrev pub Before : List ℕ → ℕ → ℕ → Type 0
Before t i j = (i ≡ 0) ⊎ (label_at t j < label_at t i)

-- falls with each step of a chain
unfoldable pub left : List ℕ → ℕ → ℕ
left t i = cond (eqb i 0) 0 (label_span - label_at t i)

left_end : (t : List ℕ) (i : ℕ) → i ≡ 0 → left t i ≡ 0
unfolding left
left_end t i e = rw (eq-eqb i 0 e)

left_in : (t : List ℕ) (i : ℕ) → 1 ≤ i → left t i ≡ label_span - label_at t i
unfolding left
left_in t i h = let n : i ≡ 0 → ⊥ = λ e. omega arith in rw (ne_eqb i 0 n)

module _ (s t : List ℕ) (b : broken s ≡ false) (w : well_formed s t ≡ true) where
  fm : Formed s t
  fm = formed s t w

  pub labels : (i : ℕ) → 1 ≤ i → i ≤ used_at t → (1 ≤ label_at t i) × (label_at t i < label_span)
  labels i a l = label_bounds s t (schema_sound s b) fm i a l

  pub own_relation : (i : ℕ) → 1 ≤ i → i ≤ used_at t → (1 ≤ relation_at t i) × (relation_at t i ≤ most_relations)
  own_relation i a l = let o = on_own t fm.up i (fm.on i a l) in (o.0, o.1)

  chained : (r i : ℕ) → On t r i → lies i (chain_of t r) ≡ true
  chained r i o = rw o.related at (on_own t fm.up i (fm.on i o.from_one o.within)).2

  bounded : (r i : ℕ) → On t r i → (1 ≤ r) × (r ≤ most_relations)
  bounded r i o = rw o.related at (own_relation i o.from_one o.within)

  chain_on : (r i : ℕ) → 1 ≤ r → r ≤ most_relations → lies i (chain_of t r) ≡ true → On t r i
  chain_on r i a l h = let c = chain_in_lem t r (fm.up r a l) i h in record { from_one = c.0; within = c.1; related = c.2 }

  -- one label in one relation is one record
  pub one_label : (r i j : ℕ) → On t r i → On t r j → label_at t i ≡ label_at t j → i ≡ j
  one_label r i j o p e =
      let k = bounded r i o in
      rises_one t r 0 (chain_of t r) i j (fm.up r k.0 k.1) (chained r i o) (chained r j p) e

  -- the least label above a bound: its record, and that nothing comes between
  least_on : (r bound i : ℕ) → 1 ≤ r → r ≤ most_relations → Least t (chain_of t r) bound i → (i ≡ 0) ⊎ (On t r i × (bound < label_at t i))
  least_on r bound i a l (none f) = inl refl
  least_on r bound i a l (least h g f) = inr (chain_on r i a l h, g)

  least_before : (r bound i j : ℕ) → Least t (chain_of t r) bound i → On t r j → Before t i j → label_at t j ≤ bound
  least_before r bound i j (none f) o p = f j (chained r j o)
  least_before r bound i j (least h g f) o (inl e) = absurd (low_end (tri bound (label_at t i)))
    where
      low_end : Tri bound (label_at t i) → ⊥
      low_end q = omega (arith, chain_one)
        where
          chain_one : 1 ≤ i
          chain_one = let k = bounded r j o in (chain_in_lem t r (fm.up r k.0 k.1) i h).0
  least_before r bound i j (least h g f) o (inr q) = go (tri bound (label_at t j))
    where
      go : Tri bound (label_at t j) → label_at t j ≤ bound
      go (low l) = absurd (omega (arith, f j (chained r j o) l))
      go (same e) = omega arith
      go (high l) = omega arith

  pub first_on : (r : ℕ) → 1 ≤ r → r ≤ most_relations → (first_at t r ≡ 0) ⊎ On t r (first_at t r)
  first_on r a l = go (least_on r 0 (first_at t r) a l (first_least t r (fm.up r a l)))
    where
      go : (first_at t r ≡ 0) ⊎ (On t r (first_at t r) × (0 < label_at t (first_at t r))) → (first_at t r ≡ 0) ⊎ On t r (first_at t r)
      go (inl e) = inl e
      go (inr p) = inr p.0

  -- nothing comes before the first
  pub first_before : (r j : ℕ) → On t r j → Before t (first_at t r) j → ⊥
  first_before r j o p =
      let k = bounded r j o in
      omega (arith, least_before r 0 (first_at t r) j (first_least t r (fm.up r k.0 k.1)) o p, labels j o.from_one o.within)

  pub next_on : (r i : ℕ) → On t r i → (next_at t i ≡ 0) ⊎ (On t r (next_at t i) × (label_at t i < label_at t (next_at t i)))
  next_on r i o =
      let k = bounded r i o in
      least_on r (label_at t i) (next_at t i) k.0 k.1 (next_least t r (fm.up r k.0 k.1) i (chained r i o))

  -- before the next comes the record itself and what comes before it
  pub next_before : (r i j : ℕ) → On t r i → On t r j → Before t (next_at t i) j → (j ≡ i) ⊎ (label_at t j < label_at t i)
  next_before r i j o p q = go (tri (label_at t j) (label_at t i))
    where
      below : label_at t j ≤ label_at t i
      below =
          let k = bounded r i o in
          least_before r (label_at t i) (next_at t i) j (next_least t r (fm.up r k.0 k.1) i (chained r i o)) p q

      go : Tri (label_at t j) (label_at t i) → (j ≡ i) ⊎ (label_at t j < label_at t i)
      go (low l) = inr l
      go (same e) = inl (one_label r j i p o e)
      go (high l) = absurd (omega (arith, below))

  pub next_less : (r i : ℕ) → On t r i → left t (next_at t i) < left t i
  next_less r i o = go (next_on r i o)
    where
      go : (next_at t i ≡ 0) ⊎ (On t r (next_at t i) × (label_at t i < label_at t (next_at t i))) → left t (next_at t i) < left t i
      go (inl e) = omega (arith, left_end t (next_at t i) e, left_in t i o.from_one, labels i o.from_one o.within)
      go (inr p) = omega (arith, left_in t (next_at t i) p.0.from_one, left_in t i o.from_one, p.1, labels (next_at t i) p.0.from_one p.0.within)
