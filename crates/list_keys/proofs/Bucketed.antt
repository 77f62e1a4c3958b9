-- Buckets of older records: the walk of one bucket, and a record more in its bucket.
-- Assumes nothing.
use Prim.Native.Nat.{ℕ, suc, ◌+◌, ◌-◌, ◌≤◌, ◌<◌}
use mathlib.Core.Path.{◌≡◌, refl, sym, ◌∙◌, ap}
use mathlib.Core.Logic.{◌⊎◌, inl, inr}
use mathlib.Core.Bool.{Bool, true, false, cond, ◌&&◌, ◌||◌}
use mathlib.Core.List.{List}
use native.Mathlib.Omega.{arith}
use lib.Dec.{eqb, ltb}
use lib.ListN.{length, get_or, set}
use lib.Seq.{get_or-set_same, get_or-set_other}
use borrow.Author.Tests.{eqb-true, eqb-false, eq-eqb, ne_eqb, ltb-true, lt-ltb}
use Rattle.crdt.proofs.Tests.{Tri, low, same, high, tri, test, clash, and_left, and_right, and_both}
use Rattle.model.specs.Layout.{used_at, relation_at, label_at}
use Rattle.model.specs.Schemas.{broken, schema_of}
use Rattle.model.specs.Records.{relation}
use Rattle.model.specs.Tables.{record_of}
use Rattle.model.specs.WellFormed.{well_formed}
use Rattle.model.specs.Shown.{conflict_on}
use Rattle.wellformed.proofs.ListRanges.{any_some}
use Rattle.wellformed.proofs.Ranges.{any_at}
use Rattle.marks.specs.Marks.{is_marked}
use Rattle.marks.proofs.Marks.{marked_here}
use Rattle.marks.proofs.Chain.{On, one_label}
use Rattle.std.specs.Prelude.{Option, Some, None, MatchOption}
use Rattle.list_keys.specs.declared.Key.{Key}
use Rattle.list_keys.specs.Keys.{Holds, linked}
use Rattle.list_keys.specs.Buckets.{buckets, bucket_at, slot_at, keyed, beats, beaten_on, loses, Older, Buckets}
use Rattle.list_conflicts.proofs.Keys.{relation_own}
use Rattle.list_keys.proofs.Digests.{bucket_below, conflict_left, conflict_right, conflict_bucket}

pub zero_or : (n : ℕ) → (n ≡ 0) ⊎ (n ≡ 0 → ⊥)
zero_or n = go (test (eqb n 0))
  where
    go : (eqb n 0 ≡ true) ⊎ (eqb n 0 ≡ false) → (n ≡ 0) ⊎ (n ≡ 0 → ⊥)
    go (inl e) = inl (eqb-true n 0 e)
    go (inr e) = inr (eqb-false n 0 e)

-- falls with each step of a bucket
unfoldable pub fall : List ℕ → ℕ → ℕ
fall t i = cond (eqb i 0) 0 (suc (label_at t i))

fall_end : (t : List ℕ) (i : ℕ) → i ≡ 0 → fall t i ≡ 0
unfolding fall
fall_end t i e = rw (eq-eqb i 0 e)

fall_in : (t : List ℕ) (i : ℕ) → (i ≡ 0 → ⊥) → fall t i ≡ suc (label_at t i)
unfolding fall
fall_in t i n = rw (ne_eqb i 0 n)

-- what it is to beat a record on a key
pub record Beating (s t k : List ℕ) (m i j : ℕ) : Type 0 where
  pub marked : is_marked k j ≡ true
  pub related : relation_at t j ≡ relation_at t i
  pub older : label_at t j < label_at t i
  pub meets : conflict_on (schema_of s) m (record_of t j) (record_of t i) ≡ true

module _ (s t k : List ℕ) (m i j : ℕ) where
  pub beats_is : beats s t k m i j ≡ true → Beating s t k m i j
  unfolding beats
  beats_is h =
      let a = is_marked k j in
      let b = eqb (relation_at t j) (relation_at t i) in
      let c = ltb (label_at t j) (label_at t i) in
      let d = conflict_on (schema_of s) m (record_of t j) (record_of t i) in
      let h1 = and_left (a && b && c) d h in
      let h2 = and_left (a && b) c h1 in
      record {
        marked = and_left a b h2;
        related = eqb-true (relation_at t j) (relation_at t i) (and_right a b h2);
        older = ltb-true (label_at t j) (label_at t i) (and_right (a && b) c h1);
        meets = and_right (a && b && c) d h;
      }

  pub is_beats : Beating s t k m i j → beats s t k m i j ≡ true
  unfolding beats
  is_beats h =
      let a = is_marked k j in
      let b = eqb (relation_at t j) (relation_at t i) in
      let c = ltb (label_at t j) (label_at t i) in
      let d = conflict_on (schema_of s) m (record_of t j) (record_of t i) in
      and_both (a && b && c) d
      (and_both (a && b) c (and_both a b h.marked (eq-eqb (relation_at t j) (relation_at t i) h.related)) (lt-ltb (label_at t j) (label_at t i) h.older))
      h.meets

pub beaten_by : (s t k : List ℕ) (m i : ℕ) → beaten_on s t k m i ≡ true → (j : ℕ) × (1 ≤ j) × (j ≤ used_at t) × Beating s t k m i j
unfolding beaten_on
beaten_by s t k m i h = let r = any_some (used_at t) (beats s t k m i) h in (r.0, r.1, r.2, beats_is s t k m i r.0 r.3)

pub by_beaten : (s t k : List ℕ) (m i j : ℕ) → 1 ≤ j → j ≤ used_at t → Beating s t k m i j → beaten_on s t k m i ≡ true
unfolding beaten_on
by_beaten s t k m i j a l h = any_at (used_at t) (beats s t k m i) j a l (is_beats s t k m i j h)

-- the walk of a bucket at index p: none younger in the bucket conflicts with record i
pub record Walk (s t k : List ℕ) (m i p : ℕ) : Type 0 where
  pub here : (p ≡ 0) ⊎ (Older s t k m (relation_at t i) (label_at t i) p × (bucket_at s t m p ≡ bucket_at s t m i))
  pub passed : (j : ℕ) → Older s t k m (relation_at t i) (label_at t i) j → bucket_at s t m j ≡ bucket_at s t m i → (p ≡ 0) ⊎ (label_at t p < label_at t j)
      → conflict_on (schema_of s) m (record_of t j) (record_of t i) ≡ false

-- the arrays of buckets, of the records older than record i
abbrev pub Before-it : List ℕ → List ℕ → List ℕ → ℕ → ℕ → List ℕ → List ℕ → Type 0
Before-it s t k m i h g = Buckets s t k m (relation_at t i) (label_at t i) h g

module _ (s t k : List ℕ) (b : broken s ≡ false) (w : well_formed s t ≡ true) (m i : ℕ) where
  on : (r l j : ℕ) → Older s t k m r l j → On t r j
  on r l j o = record { from_one = o.least; within = o.within; related = o.related }

  module _ (h g : List ℕ) (u : Before-it s t k m i h g) where
    pub walk_start : (x p : ℕ) → x ≡ bucket_at s t m i → p ≡ get_or h x 0 → Walk s t k m i p
    walk_start x p e f = record { here = go (zero_or p); passed = λ j o q z. met j o q z }
      where
        go : (p ≡ 0) ⊎ (p ≡ 0 → ⊥) → (p ≡ 0) ⊎ (Older s t k m (relation_at t i) (label_at t i) p × (bucket_at s t m p ≡ bucket_at s t m i))
        go (inl z) = inl z
        go (inr n) = let r = u.head_in x (λ z. n (f ∙ z)) in inr (rw f r.0, rw f (r.1 ∙ e))

        headed : (j : ℕ) → bucket_at s t m j ≡ bucket_at s t m i → get_or h (bucket_at s t m j) 0 ≡ p
        headed j q = ap (λ (v : ℕ). get_or h v 0) (q ∙ sym e) ∙ sym f

        met : (j : ℕ) → Older s t k m (relation_at t i) (label_at t i) j → bucket_at s t m j ≡ bucket_at s t m i → (p ≡ 0) ⊎ (label_at t p < label_at t j)
            → conflict_on (schema_of s) m (record_of t j) (record_of t i) ≡ false
        met j o q (inl z) = absurd ((u.head_all j o).0 (headed j q ∙ z))
        met j o q (inr l) = absurd (omega (arith, rw (headed j q) at (u.head_all j o).1))

    module _ (p : ℕ) (v : Walk s t k m i p) (n : p ≡ 0 → ⊥) where
      pub walk_in : Older s t k m (relation_at t i) (label_at t i) p × (bucket_at s t m p ≡ bucket_at s t m i)
      walk_in = go v.here
        where
          go : (p ≡ 0) ⊎ (Older s t k m (relation_at t i) (label_at t i) p × (bucket_at s t m p ≡ bucket_at s t m i))
              → Older s t k m (relation_at t i) (label_at t i) p × (bucket_at s t m p ≡ bucket_at s t m i)
          go (inl z) = absurd (n z)
          go (inr r) = r

      pub walk_next : (q : ℕ) → q ≡ get_or g (p - 1) 0 → conflict_on (schema_of s) m (record_of t p) (record_of t i) ≡ false → Walk s t k m i q
      walk_next q e f = rw e (record { here = go (zero_or (get_or g (p - 1) 0)); passed = λ j o x z. met j o x z (tri (label_at t p) (label_at t j)) })
        where
          go : (get_or g (p - 1) 0 ≡ 0) ⊎ (get_or g (p - 1) 0 ≡ 0 → ⊥)
              → (get_or g (p - 1) 0 ≡ 0) ⊎ (Older s t k m (relation_at t i) (label_at t i) (get_or g (p - 1) 0) × (bucket_at s t m (get_or g (p - 1) 0) ≡ bucket_at s t m i))
          go (inl z) = inl z
          go (inr x) = let r = u.link_in p walk_in.0 x in inr (r.0, r.1 ∙ walk_in.1)

          late : (j : ℕ) → (get_or g (p - 1) 0 ≡ 0) ⊎ (label_at t (get_or g (p - 1) 0) < label_at t j)
              → (get_or g (p - 1) 0 ≡ 0 → ⊥) × (label_at t j ≤ label_at t (get_or g (p - 1) 0)) → ⊥
          late j (inl z) r = r.0 z
          late j (inr l) r = omega (arith, r.1)

          met : (j : ℕ) → Older s t k m (relation_at t i) (label_at t i) j → bucket_at s t m j ≡ bucket_at s t m i
              → (get_or g (p - 1) 0 ≡ 0) ⊎ (label_at t (get_or g (p - 1) 0) < label_at t j) → Tri (label_at t p) (label_at t j)
              → conflict_on (schema_of s) m (record_of t j) (record_of t i) ≡ false
          met j o x z (low l) = v.passed j o x (inr l)
          met j o x z (same y) = let d : j ≡ p = one_label s t b w (relation_at t i) j p (on _ _ j o) (on _ _ p walk_in.0) (sym y) in rw d f
          met j o x z (high l) = absurd (late j z (u.link_all p j walk_in.0 o (x ∙ sym walk_in.1) l))

      pub walk_less : (q : ℕ) → q ≡ get_or g (p - 1) 0 → fall t q < fall t p
      walk_less q e = rw e (go (zero_or (get_or g (p - 1) 0)))
        where
          go : (get_or g (p - 1) 0 ≡ 0) ⊎ (get_or g (p - 1) 0 ≡ 0 → ⊥) → fall t (get_or g (p - 1) 0) < fall t p
          go (inl z) = omega (arith, fall_end t (get_or g (p - 1) 0) z, fall_in t p n)
          go (inr x) = omega (arith, fall_in t (get_or g (p - 1) 0) x, fall_in t p n, (u.link_in p walk_in.0 x).2)

      pub walk_beaten : conflict_on (schema_of s) m (record_of t p) (record_of t i) ≡ true → true ≡ beaten_on s t k m i
      unfolding keyed
      walk_beaten f =
          let o = walk_in.0 in
          sym (by_beaten s t k m i p o.least o.within
          (record { marked = and_left (is_marked k p) (conflict_on (schema_of s) m (record_of t p) (record_of t p)) o.whole; related = o.related; older = o.below; meets = f }))

  module _ (a : 1 ≤ i) (l : i ≤ used_at t) where
    -- one that conflicts with record i is in its bucket
    beating_older : (j : ℕ) → 1 ≤ j → j ≤ used_at t → Beating s t k m i j → Older s t k m (relation_at t i) (label_at t i) j
    unfolding keyed
    beating_older j x y h =
        record {
          least = x;
          within = y;
          related = h.related;
          below = h.older;
          whole = and_both (is_marked k j) (conflict_on (schema_of s) m (record_of t j) (record_of t j)) h.marked (conflict_left (schema_of s) m (record_of t j) (record_of t i) h.meets);
        }

    pub walk_unbeaten : (p : ℕ) → Walk s t k m i p → p ≡ 0 → false ≡ beaten_on s t k m i
    walk_unbeaten p v z = sym (go (test (beaten_on s t k m i)))
      where
        go : (beaten_on s t k m i ≡ true) ⊎ (beaten_on s t k m i ≡ false) → beaten_on s t k m i ≡ false
        go (inr e) = e
        go (inl e) =
            let r = beaten_by s t k m i e in
            let j = r.0 in
            let x = conflict_bucket s t b w m j i r.1 r.2 a l r.3.related r.3.meets in
            clash r.3.meets (v.passed j (beating_older j r.1 r.2 r.3) x (inl z))

    -- one that cannot conflict is not beaten
    pub not_beaten : conflict_on (schema_of s) m (record_of t i) (record_of t i) ≡ false → false ≡ beaten_on s t k m i
    not_beaten e = sym (go (test (beaten_on s t k m i)))
      where
        go : (beaten_on s t k m i ≡ true) ⊎ (beaten_on s t k m i ≡ false) → beaten_on s t k m i ≡ false
        go (inr f) = f
        go (inl f) =
            let r = beaten_by s t k m i f in
            let q : relation (record_of t r.0) ≡ relation (record_of t i) = relation_own s t b w r.0 r.1 r.2 ∙ r.3.related ∙ sym (relation_own s t b w i a l) in
            clash (conflict_right (schema_of s) m (record_of t r.0) (record_of t i) r.3.meets q) e

-- the same records, by another bound of their labels and other marks
module _ (s t k k' : List ℕ) (m r l n : ℕ) (to : (j : ℕ) → Older s t k m r l j → Older s t k' m r n j) (back : (j : ℕ) → Older s t k' m r n j → Older s t k m r l j) where
  pub buckets_same : (h g : List ℕ) → Buckets s t k m r l h g → Buckets s t k' m r n h g
  buckets_same h g u =
      record {
        head_in = λ x e. let q = u.head_in x e in (to _ q.0, q.1);
        head_all = λ j o. u.head_all j (back j o);
        link_in = λ i o e. let q = u.link_in i (back i o) e in (to _ q.0, q.1, q.2);
        link_all = λ i j o p e f. u.link_all i j (back i o) (back j p) e f;
      }

-- record i more
module _ (s t k : List ℕ) (b : broken s ≡ false) (w : well_formed s t ≡ true) (m i : ℕ) (a : 1 ≤ i) (l : i ≤ used_at t) where
  abbrev r : ℕ
  r = relation_at t i

  abbrev Old : ℕ → Type 0
  Old j = Older s t k m r (label_at t i) j

  abbrev New : ℕ → Type 0
  New j = Older s t k m r (label_at t i + 1) j

  still : (j : ℕ) → Old j → New j
  still j o = record { least = o.least; within = o.within; related = o.related; below = omega (arith, o.below); whole = o.whole }

  split : (j : ℕ) → New j → (j ≡ i) ⊎ Old j
  split j o = go (tri (label_at t j) (label_at t i))
    where
      go : Tri (label_at t j) (label_at t i) → (j ≡ i) ⊎ Old j
      go (low q) = inr (record { least = o.least; within = o.within; related = o.related; below = q; whole = o.whole })
      go (same q) = inl (one_label s t b w r j i (record { from_one = o.least; within = o.within; related = o.related }) (record { from_one = a; within = l; related = refl }) q)
      go (high q) = absurd (omega (arith, o.below))

  buckets_skip : keyed s t k m i ≡ false → (h g : List ℕ) → Before-it s t k m i h g → Buckets s t k m r (label_at t i + 1) h g
  buckets_skip e h g u = buckets_same s t k k m r (label_at t i) (label_at t i + 1) still back h g u
    where
      back : (j : ℕ) → New j → Old j
      back j o = go (split j o)
        where
          go : (j ≡ i) ⊎ Old j → Old j
          go (inl q) = clash o.whole (ap (λ (v : ℕ). keyed s t k m v) q ∙ e)
          go (inr q) = q

  module _ (h g : List ℕ) (u : Before-it s t k m i h g) (e : keyed s t k m i ≡ true) (x : ℕ) (f : x ≡ bucket_at s t m i) (p : x < length h) (q : i ≤ length g) where
    abbrev heads : List ℕ
    heads = set h x i

    abbrev links : List ℕ
    links = set g (i - 1) (get_or h x 0)

    new : New i
    new = record { least = a; within = l; related = refl; below = omega arith; whole = e }

    head_own : get_or heads x 0 ≡ i
    head_own = get_or-set_same h x i 0 p

    head_other : (y : ℕ) → (y ≡ x → ⊥) → get_or heads y 0 ≡ get_or h y 0
    head_other y n = get_or-set_other h x y i 0 n

    link_own : get_or links (i - 1) 0 ≡ get_or h x 0
    link_own = get_or-set_same g (i - 1) (get_or h x 0) 0 (omega arith)

    link_other : (j : ℕ) → Old j → get_or links (j - 1) 0 ≡ get_or g (j - 1) 0
    link_other j o = get_or-set_other g (i - 1) (j - 1) (get_or h x 0) 0 (λ z. let d : j ≡ i = omega (arith, o.least) in omega (arith, o.below, ap (label_at t) d))

    same_or : (y : ℕ) → (y ≡ x) ⊎ (y ≡ x → ⊥)
    same_or y = go (tri y x)
      where
        go : Tri y x → (y ≡ x) ⊎ (y ≡ x → ⊥)
        go (low z) = inr (λ d. omega arith)
        go (same z) = inl z
        go (high z) = inr (λ d. omega arith)

    linked_head_in : (y : ℕ) → (get_or heads y 0 ≡ 0 → ⊥) → New (get_or heads y 0) × (bucket_at s t m (get_or heads y 0) ≡ y)
    linked_head_in y n = go (same_or y)
      where
        go : (y ≡ x) ⊎ (y ≡ x → ⊥) → New (get_or heads y 0) × (bucket_at s t m (get_or heads y 0) ≡ y)
        go (inl z) = rw (z, head_own) (new, sym f)
        go (inr z) = let v = u.head_in y (λ d. n (head_other y z ∙ d)) in rw (head_other y z) (still _ v.0, v.1)

    linked_head_all : (j : ℕ) → New j → (get_or heads (bucket_at s t m j) 0 ≡ 0 → ⊥) × (label_at t j ≤ label_at t (get_or heads (bucket_at s t m j) 0))
    linked_head_all j o = go (split j o) (same_or (bucket_at s t m j))
      where
        own : bucket_at s t m j ≡ x → label_at t j ≤ label_at t i → (get_or heads (bucket_at s t m j) 0 ≡ 0 → ⊥) × (label_at t j ≤ label_at t (get_or heads (bucket_at s t m j) 0))
        own z c = rw (z, head_own) (λ d. omega arith, c)

        go : (j ≡ i) ⊎ Old j → (bucket_at s t m j ≡ x) ⊎ (bucket_at s t m j ≡ x → ⊥)
            → (get_or heads (bucket_at s t m j) 0 ≡ 0 → ⊥) × (label_at t j ≤ label_at t (get_or heads (bucket_at s t m j) 0))
        go (inl d) z = own (ap (bucket_at s t m) d ∙ sym f) (omega (arith, ap (label_at t) d))
        go (inr d) (inl z) = own z (omega (arith, d.below))
        go (inr d) (inr z) = rw (head_other (bucket_at s t m j) z) (u.head_all j d)

    linked_link_in : (j : ℕ) → New j → (get_or links (j - 1) 0 ≡ 0 → ⊥)
        → New (get_or links (j - 1) 0) × (bucket_at s t m (get_or links (j - 1) 0) ≡ bucket_at s t m j) × (label_at t (get_or links (j - 1) 0) < label_at t j)
    linked_link_in j o n = go (split j o)
      where
        go : (j ≡ i) ⊎ Old j → New (get_or links (j - 1) 0) × (bucket_at s t m (get_or links (j - 1) 0) ≡ bucket_at s t m j) × (label_at t (get_or links (j - 1) 0) < label_at t j)
        go (inl d) =
            let v = u.head_in x (λ z. n (ap (λ (y : ℕ). get_or links (y - 1) 0) d ∙ link_own ∙ z)) in
            rw (d, link_own) (still _ v.0, v.1 ∙ f, v.0.below)
        go (inr d) = let v = u.link_in j d (λ z. n (link_other j d ∙ z)) in rw (link_other j d) (still _ v.0, v.1, v.2)

    linked_link_all : (c j : ℕ) → New c → New j → bucket_at s t m j ≡ bucket_at s t m c → label_at t j < label_at t c
        → (get_or links (c - 1) 0 ≡ 0 → ⊥) × (label_at t j ≤ label_at t (get_or links (c - 1) 0))
    linked_link_all c j o y z n = go (split c o) (split j y)
      where
        headed : c ≡ i → get_or h (bucket_at s t m j) 0 ≡ get_or links (c - 1) 0
        headed d = ap (λ (v : ℕ). get_or h v 0) (z ∙ ap (bucket_at s t m) d ∙ sym f) ∙ sym (ap (λ (v : ℕ). get_or links (v - 1) 0) d ∙ link_own)

        go : (c ≡ i) ⊎ Old c → (j ≡ i) ⊎ Old j → (get_or links (c - 1) 0 ≡ 0 → ⊥) × (label_at t j ≤ label_at t (get_or links (c - 1) 0))
        go (inl d) (inl v) = absurd (omega (arith, ap (label_at t) d, ap (label_at t) v))
        go (inl d) (inr v) = rw (headed d) at (u.head_all j v)
        go (inr d) (inl v) = absurd (omega (arith, d.below, ap (label_at t) v))
        go (inr d) (inr v) = rw (link_other c d) (u.link_all c j d v z n)

    buckets_link : (h' g' : List ℕ) → h' ≡ heads → g' ≡ links → Buckets s t k m r (label_at t i + 1) h' g'
    buckets_link h' g' y z =
        rw (y, z) (record { head_in = linked_head_in; head_all = linked_head_all; link_in = linked_link_in; link_all = linked_link_all })

-- a record that is not marked, or that is dropped, is in no bucket
pub buckets_unmarked : (s t k : List ℕ) (b : broken s ≡ false) (w : well_formed s t ≡ true) (m i : ℕ) → 1 ≤ i → i ≤ used_at t → is_marked k i ≡ false → (h g : List ℕ)
    → Before-it s t k m i h g → Buckets s t k m (relation_at t i) (label_at t i + 1) h g
unfolding keyed
buckets_unmarked s t k b w m i a l e h g u = buckets_skip s t k b w m i a l (rw e) h g u

module _ (s t k : List ℕ) (b : broken s ≡ false) (w : well_formed s t ≡ true) (m i : ℕ) (a : 1 ≤ i) (l : i ≤ used_at t) (n : i ≤ length k) where
  abbrev dropped : List ℕ
  dropped = set k (i - 1) 0

  dropped_own : is_marked dropped i ≡ false
  dropped_own = sym (marked_here dropped i a) ∙ ap (λ (v : ℕ). eqb v 1) (get_or-set_same k (i - 1) 0 0 (omega arith))

  dropped_other : (j : ℕ) → 1 ≤ j → (j ≡ i → ⊥) → is_marked dropped j ≡ is_marked k j
  dropped_other j c z = sym (marked_here dropped j c) ∙ ap (λ (v : ℕ). eqb v 1) (get_or-set_other k (i - 1) (j - 1) 0 0 (λ e. z (omega arith))) ∙ marked_here k j c

  pub buckets_drop : (k' : List ℕ) → k' ≡ dropped → (h g : List ℕ) → Before-it s t k m i h g → Buckets s t k' m (relation_at t i) (label_at t i + 1) h g
  unfolding keyed
  buckets_drop k' e h g u =
      rw e
      (buckets_unmarked s t dropped b w m i a l dropped_own h g
      (buckets_same s t k dropped m (relation_at t i) (label_at t i) (label_at t i)
      (λ j o. record { least = o.least; within = o.within; related = o.related; below = o.below; whole = rw (dropped_other j o.least (apart j o.below)) o.whole })
      (λ j o. record { least = o.least; within = o.within; related = o.related; below = o.below; whole = rw (dropped_other j o.least (apart j o.below)) at o.whole })
      h g u))
    where
      apart : (j : ℕ) → label_at t j < label_at t i → j ≡ i → ⊥
      apart j o e' = omega (arith, ap (label_at t) e')

-- slots
module _ (s t : List ℕ) (m i : ℕ) (x : Bool) (e : x ≡ conflict_on (schema_of s) m (record_of t i) (record_of t i)) where
  pub slot_empty : x ≡ false → None ≡ slot_at s t m i
  unfolding slot_at
  slot_empty f = rw (sym e ∙ f)

  pub slot_own : x ≡ true → (y : ℕ) → y ≡ bucket_at s t m i → Some y ≡ slot_at s t m i
  unfolding slot_at
  slot_own f y z = rw (sym e ∙ f, z)

module _ (s t : List ℕ) (m i : ℕ) where
  abbrev whole : Bool
  whole = conflict_on (schema_of s) m (record_of t i) (record_of t i)

  pub slot_none : None ≡ slot_at s t m i → whole ≡ false
  unfolding slot_at
  slot_none e = go (test whole)
    where
      go : (whole ≡ true) ⊎ (whole ≡ false) → whole ≡ false
      go (inl f) = let q : None ≡ Some (bucket_at s t m i) = rw f at e in absurd (cc q)
      go (inr f) = f

  pub slot_some : (x : ℕ) → Some x ≡ slot_at s t m i → (x ≡ bucket_at s t m i) × (whole ≡ true)
  unfolding slot_at
  slot_some x e = go (test whole)
    where
      go : (whole ≡ true) ⊎ (whole ≡ false) → (x ≡ bucket_at s t m i) × (whole ≡ true)
      go (inl f) = let q : Some x ≡ Some (bucket_at s t m i) = rw f at e in (cc q, f)
      go (inr f) = let q : Some x ≡ None = rw f at e in absurd (cc q)

  pub slot_room : (x : Option ℕ) → x ≡ slot_at s t m i → MatchOption x (Unit {0}) (λ b. b < buckets)
  slot_room None e = tt
  slot_room (Some x) e = omega (arith, (slot_some x e).0, bucket_below s t m i)

-- marks without record i if it loses
module _ (s t k : List ℕ) (m n i : ℕ) (c d : List ℕ) where
  pub loses_unmarked : is_marked k i ≡ false → c ≡ cond (loses s t k m n i) d c
  unfolding loses
  loses_unmarked e = rw e

  pub loses_marked : is_marked k i ≡ true → (x y : Bool) → x ≡ beaten_on s t k m i → y ≡ beaten_on s t k n i → (z : Bool) → (x || y) ≡ z → cond z d c ≡ cond (loses s t k m n i) d c
  unfolding loses
  loses_marked h x y e f z g = rw (h, ← e, ← f, g)

-- a record that is kept, put into its slot
pub holds_linked : (s t k : List ℕ) (b : broken s ≡ false) (w : well_formed s t ≡ true) (q : Key) (i : ℕ) → 1 ≤ i → i ≤ used_at t → is_marked k i ≡ true
    → Holds s t k (relation_at t i) (label_at t i) q → (x : Option ℕ) → x ≡ slot_at s t q.mask i → buckets ≤ length q.heads → i ≤ length q.links
    → (q' : Key) → q' ≡ linked q x i → (q'.mask ≡ q.mask) × Holds s t k (relation_at t i) (label_at t i + 1) q'
unfolding keyed
holds_linked s t k b w q i a l y u None e p n q' f =
    rw f (refl, buckets_skip s t k b w q.mask i a l (rw (y, slot_none s t q.mask i e)) q.heads q.links u)
holds_linked s t k b w q i a l y u (Some x) e p n q' f =
    let r = slot_some s t q.mask i x e in
    rw f (refl, buckets_link s t k b w q.mask i a l q.heads q.links u (rw (y, r.1)) x r.0 (omega (arith, bucket_below s t q.mask i, r.0)) n _ _ refl refl)
