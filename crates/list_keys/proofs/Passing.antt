-- Marks in step 3: copied, and along the chain of a relation.
-- Assumes nothing.
use Prim.Native.Nat.{ℕ, zero, suc, ◌+◌, ◌-◌, ◌≤◌, ◌<◌}
use mathlib.Core.Path.{◌≡◌, refl, ◌∙◌, ap}
use mathlib.Core.Logic.{◌⊎◌, inl, inr}
use mathlib.Core.Bool.{Bool, true, false, cond}
use mathlib.Core.List.{List}
use native.Mathlib.Omega.{arith}
use lib.ListN.{length, get_or, set, replicate}
use lib.Seq.{get_or-set_same, get_or-set_other}
use Rattle.crdt.proofs.Tests.{Tri, low, same, high, tri}
use Rattle.model.specs.Layout.{most_relations, used_at, first_at, next_at, relation_at, label_at, mask_at}
use Rattle.model.specs.Schemas.{broken}
use Rattle.model.specs.Records.{label_span, place}
use Rattle.model.specs.WellFormed.{well_formed}
use Rattle.marks.proofs.Chain.{On, Before, labels, first_on, first_before, next_on, next_before, one_label}
use Rattle.judged.specs.Checked.{Checked}
use Rattle.list_keys.specs.declared.Key.{Key}
use Rattle.list_keys.specs.Keys.{Holds}
use Rattle.list_keys.specs.Buckets.{loses, Older, Buckets}
use Rattle.list_keys.specs.Passes.{stood_mark, kept_mark, Upto}
use Rattle.list_keys.proofs.Bucketed.{buckets_same}
use Rattle.list_keys.proofs.Beaten.{kept_mark_lem}

-- a mark dropped or not
drop_own : (z : Bool) (a : List ℕ) (i : ℕ) → 1 ≤ i → i ≤ length a → get_or (cond z (set a (i - 1) 0) a) (i - 1) 0 ≡ cond z 0 (get_or a (i - 1) 0)
drop_own true a i h l = get_or-set_same a (i - 1) 0 0 (omega arith)
drop_own false a i h l = refl

drop_other : (z : Bool) (a : List ℕ) (i j : ℕ) → 1 ≤ i → 1 ≤ j → (j ≡ i → ⊥) → get_or (cond z (set a (i - 1) 0) a) (j - 1) 0 ≡ get_or a (j - 1) 0
drop_other true a i j h l n = get_or-set_other a (i - 1) (j - 1) 0 0 (λ e. n (omega arith))
drop_other false a i j h l n = refl

-- empty buckets
zeros_at : (n x : ℕ) → ◌≡◌ {A = ℕ} (get_or (replicate n 0) x 0) 0
zeros_at zero x = refl
zeros_at (suc n) zero = refl
zeros_at (suc n) (suc x) = zeros_at n x

pub buckets_none : (s t k : List ℕ) (m r n : ℕ) (g : List ℕ) → Buckets s t k m r 0 (replicate n 0) g
buckets_none s t k m r n g =
    record {
      head_in = λ x e. absurd (e (zeros_at n x));
      head_all = λ j o. absurd (omega (arith, o.below));
      link_in = λ i o e. absurd (omega (arith, o.below));
      link_all = λ i j o p e f. absurd (omega (arith, o.below));
    }

-- the chain of relation r at index i: step 3 is done up to a label, and those kept before it are in the buckets of the keys p and q
pub record Going (s t : List ℕ) (r : ℕ) (p q : Key) (a : List ℕ) (i : ℕ) : Type 0 where
  pub first_mask : p.mask ≡ mask_at s r 1
  pub second_mask : q.mask ≡ mask_at s r 2
  pub bound : ℕ
  pub most : bound ≤ label_span
  pub here : (i ≡ 0) ⊎ On t r i
  pub upto : (j : ℕ) → On t r j → Before t i j → label_at t j < bound
  pub from : (j : ℕ) → On t r j → label_at t j < bound → Before t i j
  pub first : Holds s t a r bound p
  pub second : Holds s t a r bound q
  pub marks : Upto s t (place r bound) a

module _ (s t : List ℕ) (k : Checked s t) (r : ℕ) (p q : Key) (a : List ℕ) (i : ℕ) where
  b : broken s ≡ false
  b = k.schema

  w : well_formed s t ≡ true
  w = k.formed

  pub going_start : 1 ≤ r → r ≤ most_relations → i ≡ first_at t r → p.mask ≡ mask_at s r 1 → q.mask ≡ mask_at s r 2
      → Upto s t (place r 0) a → Holds s t a r 0 p → Holds s t a r 0 q → Going s t r p q a i
  going_start x y e em en z u v =
      rw e
      (record {
        first_mask = em;
        second_mask = en;
        bound = 0;
        most = omega arith;
        here = first_on s t b w r x y;
        upto = λ j o d. absurd (first_before s t b w r j o d);
        from = λ j o d. absurd (omega arith);
        first = u;
        second = v;
        marks = z;
      })

  module _ (u : Going s t r p q a i) where
    module _ (z : i ≡ 0 → ⊥) where
      pub going_on : On t r i
      going_on = go u.here
        where
          go : (i ≡ 0) ⊎ On t r i → On t r i
          go (inl e) = absurd (z e)
          go (inr o) = o

      before_own : (j : ℕ) → Before t i j → label_at t j < label_at t i
      before_own j (inl e) = absurd (z e)
      before_own j (inr l) = l

      bound_own : u.bound ≤ label_at t i
      bound_own = go (tri u.bound (label_at t i))
        where
          go : Tri u.bound (label_at t i) → u.bound ≤ label_at t i
          go (low l) = omega arith
          go (same l) = omega arith
          go (high l) = absurd (omega (arith, before_own i (u.from i going_on l)))

      on_old : (k l j : ℕ) → Older s t a k r l j → On t r j
      on_old k l j o = record { from_one = o.least; within = o.within; related = o.related }

      at_own : (x : Key) → Holds s t a r u.bound x → Holds s t a (relation_at t i) (label_at t i) x
      at_own x f =
          rw going_on.related
          (buckets_same s t a a x.mask r u.bound (label_at t i)
          (λ j o. record { least = o.least; within = o.within; related = o.related; below = before_own j (u.from j (on_old x.mask _ j o) o.below); whole = o.whole })
          (λ j o. record { least = o.least; within = o.within; related = o.related; below = u.upto j (on_old x.mask _ j o) (inr o.below); whole = o.whole })
          x.heads x.links f)

      -- as `pass` asks
      pub going_first : Holds s t a (relation_at t i) (label_at t i) p
      going_first = at_own p u.first

      pub going_second : Holds s t a (relation_at t i) (label_at t i) q
      going_second = at_own q u.second

      -- and what it gives
      module _ (p' q' : Key) (a' : List ℕ) (v : ℕ) (e : v ≡ next_at t i) (l : used_at t ≤ length a) (d : a' ≡ cond (loses s t a p.mask q.mask i) (set a (i - 1) 0) a)
          (f : (p'.mask ≡ p.mask) × Holds s t a' (relation_at t i) (label_at t i + 1) p') (g : (q'.mask ≡ q.mask) × Holds s t a' (relation_at t i) (label_at t i + 1) q') where
        next_upto : (j : ℕ) → On t r j → Before t (next_at t i) j → label_at t j < label_at t i + 1
        next_upto j o q = go (next_before s t b w r i j going_on o q)
          where
            go : (j ≡ i) ⊎ (label_at t j < label_at t i) → label_at t j < label_at t i + 1
            go (inl y) = omega (arith, ap (label_at t) y)
            go (inr y) = omega arith

        next_from : (j : ℕ) → On t r j → label_at t j < label_at t i + 1 → Before t (next_at t i) j
        next_from j o q = go (next_on s t b w r i going_on)
          where
            go : (next_at t i ≡ 0) ⊎ (On t r (next_at t i) × (label_at t i < label_at t (next_at t i))) → Before t (next_at t i) j
            go (inl y) = inl y
            go (inr y) = inr (omega (arith, y.1))

        next_here : (next_at t i ≡ 0) ⊎ On t r (next_at t i)
        next_here = go (next_on s t b w r i going_on)
          where
            go : (next_at t i ≡ 0) ⊎ (On t r (next_at t i) × (label_at t i < label_at t (next_at t i))) → (next_at t i ≡ 0) ⊎ On t r (next_at t i)
            go (inl y) = inl y
            go (inr y) = inr y.0

        older_kept : (j : ℕ) → 1 ≤ j → j ≤ used_at t → relation_at t j ≡ r → label_at t j < label_at t i → get_or a (j - 1) 0 ≡ kept_mark s t j
        older_kept j x y q c = let k = u.upto j (record { from_one = x; within = y; related = q }) (inr c) in u.marks.done j x y (omega (arith, q, k))

        itself : get_or a (i - 1) 0 ≡ stood_mark s t i
        itself = u.marks.rest i going_on.from_one going_on.within (omega (arith, going_on.related, bound_own))

        other_mark : (j : ℕ) → 1 ≤ j → (j ≡ i → ⊥) → get_or a' (j - 1) 0 ≡ get_or a (j - 1) 0
        other_mark j x k = rw d (drop_other (loses s t a p.mask q.mask i) a i j going_on.from_one x k)

        own_mark : get_or a' (i - 1) 0 ≡ kept_mark s t i
        own_mark =
            rw d
            (drop_own (loses s t a p.mask q.mask i) a i going_on.from_one (omega (arith, going_on.within))
            ∙ kept_mark_lem s t b w i going_on.from_one going_on.within a p.mask q.mask (rw going_on.related u.first_mask) (rw going_on.related u.second_mask)
            (λ j x y z l. older_kept j x y (z ∙ going_on.related) l) itself)

        next_done : (j : ℕ) → 1 ≤ j → j ≤ used_at t → place (relation_at t j) (label_at t j) < place r (label_at t i + 1) → get_or a' (j - 1) 0 ≡ kept_mark s t j
        next_done j x y k = relations (tri (relation_at t j) r)
          where
            within : relation_at t j ≡ r → Tri (label_at t j) (label_at t i) → get_or a' (j - 1) 0 ≡ kept_mark s t j
            within q (low c) = other_mark j x (λ p. omega (arith, ap (label_at t) p)) ∙ older_kept j x y q c
            within q (same c) = let p : j ≡ i = one_label s t b w r j i (record { from_one = x; within = y; related = q }) going_on c in rw p own_mark
            within q (high c) = absurd (omega (arith, q))

            relations : Tri (relation_at t j) r → get_or a' (j - 1) 0 ≡ kept_mark s t j
            relations (low q) = other_mark j x (λ p. omega (arith, ap (relation_at t) p, going_on.related)) ∙ u.marks.done j x y (omega (arith, (labels s t b w j x y).1))
            relations (same q) = within q (tri (label_at t j) (label_at t i))
            relations (high q) = absurd (omega (arith, (labels s t b w i going_on.from_one going_on.within).1))

        next_rest : (j : ℕ) → 1 ≤ j → j ≤ used_at t → place r (label_at t i + 1) ≤ place (relation_at t j) (label_at t j) → get_or a' (j - 1) 0 ≡ stood_mark s t j
        next_rest j x y k =
            other_mark j x (λ p. omega (arith, ap (relation_at t) p, ap (label_at t) p, going_on.related))
            ∙ u.marks.rest j x y (omega (arith, bound_own))

        pub going_next : Going s t r p' q' a' v
        going_next =
            rw e
            (record {
              first_mask = f.0 ∙ u.first_mask;
              second_mask = g.0 ∙ u.second_mask;
              bound = label_at t i + 1;
              most = omega (arith, (labels s t b w i going_on.from_one going_on.within).1);
              here = next_here;
              upto = next_upto;
              from = next_from;
              first = rw going_on.related at f.1;
              second = rw going_on.related at g.1;
              marks = record { done = next_done; rest = next_rest };
            })

    pub going_end : i ≡ 0 → Upto s t (place (r + 1) 0) a
    going_end e = record { done = λ j x y k. go j x y k (tri (relation_at t j) r); rest = λ j x y k. u.marks.rest j x y (omega (arith, u.most)) }
      where
        go : (j : ℕ) → 1 ≤ j → j ≤ used_at t → place (relation_at t j) (label_at t j) < place (r + 1) 0 → Tri (relation_at t j) r → get_or a (j - 1) 0 ≡ kept_mark s t j
        go j x y k (low q) = u.marks.done j x y (omega (arith, (labels s t b w j x y).1))
        go j x y k (same q) = let c = u.upto j (record { from_one = x; within = y; related = q }) (inl e) in u.marks.done j x y (omega (arith, q, c))
        go j x y k (high q) = absurd (omega arith)
