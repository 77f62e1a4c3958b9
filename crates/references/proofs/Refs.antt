-- What a field leads to, case by case, and the array of all references.
-- Assumes nothing.
use Prim.Native.Nat.{ℕ, ◌+◌, ◌*◌, ◌-◌, ◌≤◌, ◌<◌}
use mathlib.Core.Path.{◌≡◌, sym, ◌∙◌}
use mathlib.Core.Logic.{◌⊎◌, inl, inr}
use mathlib.Core.Bool.{cond}
use mathlib.Core.List.{List}
use native.Mathlib.Omega.{arith}
use lib.Dec.{eqb}
use lib.ListN.{get_or}
use borrow.Author.Tests.{eq-eqb, ne_eqb, le-leb, lt-leb}
use Rattle.std.specs.Prelude.{Option, Some, None}
use Rattle.std.specs.Option.{MatchOption, unwrap_or}
use Rattle.crdt.proofs.Tests.{Tri, low, same, high, tri}
use Rattle.model.specs.Layout.{fields, most_relations, kind_at, used_at, relation_at, value_at}
use Rattle.model.specs.Schemas.{abort_kinds}
use Rattle.model.specs.Records.{label_span, place, position}
use Rattle.model.specs.Tables.{decode}
use Rattle.judged.specs.Checked.{Checked}
use Rattle.references.specs.Resolved.{absent, resolved_at, Resolves, Leads, Blank, Filled}
use Rattle.references.proofs.Places.{relation_least, relation_most, reference_below}

-- a plain field
plain_zero : (s t : List ℕ) (i j r : ℕ) → relation_at t i ≡ r → kind_at s r j < abort_kinds → resolved_at s t i j ≡ 0
unfolding resolved_at
plain_zero s t i j r e h = rw (e, lt-leb abort_kinds (kind_at s r j) h)

-- field j of record i, a reference to relation d with value v
module _ (s t : List ℕ) (i j d v : ℕ) (k : Leads s (relation_at t i) j d) (ev : v ≡ value_at t i j) where
  -- the value is below the span of labels
  pub value_below : Checked s t → 1 ≤ i → i ≤ used_at t → 1 ≤ j → j ≤ fields → v < label_span
  value_below c a b p q = omega (arith, reference_below s t c i a b j p q (le-leb abort_kinds (kind_at s (relation_at t i) j) k.reference))

  pub resolved_empty : v ≡ 0 → 0 ≡ resolved_at s t i j
  unfolding resolved_at
  resolved_empty z = rw (le-leb abort_kinds (kind_at s (relation_at t i) j) k.reference, ← ev, eq-eqb v 0 z)

  resolved_found : (p : ℕ) → p ≡ position (place d v) (decode t).records → (v ≡ 0 → ⊥) → resolved_at s t i j ≡ cond (eqb p 0) absent p
  unfolding resolved_at
  resolved_found p e n = rw (le-leb abort_kinds (kind_at s (relation_at t i) j) k.reference, ← ev, ne_eqb v 0 n, k.leads, ← e)

  pub resolved_or : (r : Option ℕ) → MatchOption r (position (place d v) (decode t).records ≡ 0) (λ p. (1 ≤ p) × (p ≡ position (place d v) (decode t).records))
      → (v ≡ 0 → ⊥) → unwrap_or r absent ≡ resolved_at s t i j
  resolved_or None e n = rw (resolved_found 0 (sym e) n)
  resolved_or (Some p) e n = let z : p ≡ 0 → ⊥ = λ q. omega (arith, e.0) in rw (resolved_found p e.1 n, ne_eqb p 0 z)

-- the first k entries of an array are those of a rule
abbrev pub Ruled : (ℕ → ℕ) → List ℕ → ℕ → Type 0
Ruled f a k = (q : ℕ) → q < k → get_or a q 0 ≡ f q

-- the entry of field j of record i is right
abbrev pub Right : List ℕ → List ℕ → List ℕ → ℕ → ℕ → Type 0
Right s t a i j = get_or a (fields * (i - 1) + (j - 1)) 0 ≡ resolved_at s t i j

module _ (s t a : List ℕ) where
  -- nothing filled
  pub fill_none : Checked s t → Blank (fields * used_at t) a → Filled s t a fields
  fill_none c h =
      record {
        some = λ i j p q u v. inl (h.at (fields * (i - 1) + (j - 1)) (omega arith));
        done = λ i j p q u v l. absurd (omega (arith, relation_least s t c i p q));
      }

  -- one field more, right in all records of its relation
  pub fill_more : (r j : ℕ) → 1 ≤ j → j ≤ fields → Filled s t a (fields * r + (j - 1))
      → ((i : ℕ) → 1 ≤ i → i ≤ used_at t → relation_at t i ≡ r → Right s t a i j) → Filled s t a (fields * r + j)
  fill_more r j u v h f = record { some = h.some; done = done }
    where
      done : (i l : ℕ) → 1 ≤ i → i ≤ used_at t → 1 ≤ l → l ≤ fields → fields * relation_at t i + (l - 1) < fields * r + j → Right s t a i l
      done i l p q w z m = go (tri (fields * relation_at t i + (l - 1)) (fields * r + (j - 1)))
        where
          go : Tri (fields * relation_at t i + (l - 1)) (fields * r + (j - 1)) → Right s t a i l
          go (low n) = h.done i l p q w z n
          go (same n) =
              let x : relation_at t i ≡ r = omega arith in
              let y : l ≡ j = omega arith in
              rw y (f i p q x)
          go (high n) = absurd (omega arith)

  -- a plain field
  pub fill_plain : (r j k : ℕ) → k ≡ kind_at s r j → k < abort_kinds → 1 ≤ j → j ≤ fields → Filled s t a (fields * r + (j - 1)) → Filled s t a (fields * r + j)
  fill_plain r j k ek l u v h = fill_more r j u v h (λ i p q e. go i (plain_zero s t i j r e (omega arith)) (h.some i j p q u v))
    where
      go : (i : ℕ) → resolved_at s t i j ≡ 0 → (get_or a (fields * (i - 1) + (j - 1)) 0 ≡ 0) ⊎ Right s t a i j → Right s t a i j
      go i z (inl f) = f ∙ sym z
      go i z (inr f) = f

  -- all fields of all relations
  pub fill_all : Checked s t → Filled s t a (fields * (most_relations + 1)) → Resolves s t a
  fill_all c h = record { at = λ i j p q u v. h.done i j p q u v (omega (arith, relation_most s t c i p q)) }

-- the entries of field j of the records at the first n positions are right
pub record Rights (s t o a : List ℕ) (j n : ℕ) : Type 0 where
  pub at : (q : ℕ) → q < n → Right s t a (get_or o q 0) j

pub filled_by : (s t a : List ℕ) (m k : ℕ) → k ≡ m → Filled s t a m → Filled s t a k
filled_by s t a m k e h = rw e h
