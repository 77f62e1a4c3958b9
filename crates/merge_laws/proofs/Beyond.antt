-- The records of a table above a key, in list order: how a walk along the chains reads them.
-- Assumes nothing.
use Prim.Native.Nat.{ℕ, zero, suc, ◌+◌, ◌-◌, ◌/◌, ◌%◌, ◌≤◌, ◌<◌}
use mathlib.Core.Path.{◌≡◌, refl, sym, ◌∙◌, ap}
use mathlib.Core.Bool.{Bool, true, false, cond}
use mathlib.Core.List.Memᴰ
use mathlib.Core.List.{List, [], ◌∷◌}
use mathlib.Core.Option.{Option, none, some}
use mathlib.Core.Logic.{◌⊎◌, inl, inr, ◌≢◌}
use native.Mathlib.Omega.{arith}
use lib.Dec.{eqb, ltb}
use lib.ListN.{length, get_or}
use borrow.Author.Tests.{eqb-true, eqb-false, ltb-true, ltb-false, lt-ltb, le-ltb}
use Rattle.crdt.specs.Cells.{Cell, join_opt}
use Rattle.crdt.proofs.Tests.{test, Tri, low, same, high, tri}
use Rattle.model.specs.Layout.{most_relations}
use Rattle.model.specs.Lists.{only}
use Rattle.model.specs.Records.{Rec, place, label_span, has, own, at, in_order, Rising, position}
use Rattle.model.specs.Tables.{Table, follower}
use Rattle.laws.proofs.Lists.{◌∈◌}
use Rattle.laws.proofs.Join.{ext, at_head, at_tail, own_other, rising_weaken}
use Rattle.laws.proofs.Order.{order_rising, at_order}
use Rattle.laws.proofs.Members.{absent, at_key}
use Rattle.laws.proofs.Valid.{distinct_true}
use Rattle.wellformed.proofs.Follow.{position_some, Follows, Last, follows, follows_is, last_is}
use Rattle.merge_laws.specs.Absorb.{no_rec, nth, beyond, SoundTable}
use Rattle.merge_laws.proofs.Frames.{no_zero}

-- what a test of keys leaves
only_rising : (k b : ℕ) (s : List Rec) → Rising b s → Rising b (only (λ (x : Rec). ltb k x.key) s)
unfolding only
only_rising k b [] r = tt
only_rising k b (x ∷ xs) r = go (ltb k x.key) (only_rising k (suc x.key) xs r.1)
  where
    go : (t : Bool) → Rising (suc x.key) (only (λ (x : Rec). ltb k x.key) xs) → Rising b (cond t (x ∷ only (λ (x : Rec). ltb k x.key) xs) (only (λ (x : Rec). ltb k x.key) xs))
    go true h = (r.0, h)
    go false h = rising_weaken b (suc x.key) (only (λ (x : Rec). ltb k x.key) xs) (omega (arith, r.0)) h

only_above : (k b : ℕ) (s : List Rec) → Rising b s → Rising (suc k) (only (λ (x : Rec). ltb k x.key) s)
unfolding only
only_above k b [] r = tt
only_above k b (x ∷ xs) r = go (test (ltb k x.key)) (only_above k (suc x.key) xs r.1) (only_rising k (suc x.key) xs r.1)
  where
    go : (ltb k x.key ≡ true) ⊎ (ltb k x.key ≡ false) → Rising (suc k) (only (λ (x : Rec). ltb k x.key) xs) → Rising (suc x.key) (only (λ (x : Rec). ltb k x.key) xs)
        → Rising (suc k) (cond (ltb k x.key) (x ∷ only (λ (x : Rec). ltb k x.key) xs) (only (λ (x : Rec). ltb k x.key) xs))
    go (inl e) h g = rw e (ltb-true k x.key e, g)
    go (inr e) h g = rw e h

at_only : (m k : ℕ) (s : List Rec) → at m (only (λ (x : Rec). ltb k x.key) s) ≡ cond (ltb k m) (at m s) none
unfolding only at
at_only m k [] = go (ltb k m)
  where
    go : (t : Bool) → ◌≡◌ {A = Option Cell} none (cond t none none)
    go true = refl
    go false = refl
at_only m k (x ∷ xs) = go (test (ltb k x.key)) (test (eqb m x.key)) (at_only m k xs)
  where
    go : (ltb k x.key ≡ true) ⊎ (ltb k x.key ≡ false) → (eqb m x.key ≡ true) ⊎ (eqb m x.key ≡ false)
        → at m (only (λ (x : Rec). ltb k x.key) xs) ≡ cond (ltb k m) (at m xs) none
        → at m (cond (ltb k x.key) (x ∷ only (λ (x : Rec). ltb k x.key) xs) (only (λ (x : Rec). ltb k x.key) xs)) ≡ cond (ltb k m) (join_opt (own m x) (at m xs)) none
    go (inl e) (inl q) ih =
        let n : ltb k m ≡ true = rw (eqb-true m x.key q) e in
        rw e (rw n (ap (join_opt (own m x)) (ih ∙ rw n)))
    go (inl e) (inr q) ih = unfold join_opt in rw e (rw (own_other m x (eqb-false m x.key q)) ih)
    go (inr e) (inl q) ih =
        let n : ltb k m ≡ false = rw (eqb-true m x.key q) e in
        rw e (ih ∙ rw n)
    go (inr e) (inr q) ih = unfold join_opt in rw e (rw (own_other m x (eqb-false m x.key q)) ih)

none_both : (t : Bool) → ◌≡◌ {A = Option Cell} (cond t none none) none
none_both true = refl
none_both false = refl

pub beyond_rising : (k : ℕ) (o : List Rec) → Rising (suc k) (beyond k o)
unfolding beyond
beyond_rising k o = only_above k 0 (in_order o) (order_rising o)

at_beyond : (m k : ℕ) (o : List Rec) → at m (beyond k o) ≡ cond (ltb k m) (at m o) none
unfolding beyond
at_beyond m k o = at_only m k (in_order o) ∙ ap (λ (c : Option Cell). cond (ltb k m) c none) (at_order m o)

beyond_weak : (k : ℕ) (o : List Rec) → Rising 0 (beyond k o)
beyond_weak k o = rising_weaken 0 (suc k) (beyond k o) (omega arith) (beyond_rising k o)

-- two keys with no record's key between
pub beyond_same : (k m : ℕ) (o : List Rec) → ((j : ℕ) → has o j ≡ true → k < j → m < j) → ((j : ℕ) → has o j ≡ true → m < j → k < j) → beyond k o ≡ beyond m o
beyond_same k m o f g = ext 0 _ _ (beyond_weak k o) (beyond_weak m o) (λ j. at_beyond j k o ∙ go j (test (has o j)) (test (ltb k j)) (test (ltb m j)) ∙ sym (at_beyond j m o))
  where
    go : (j : ℕ) → (has o j ≡ true) ⊎ (has o j ≡ false) → (ltb k j ≡ true) ⊎ (ltb k j ≡ false) → (ltb m j ≡ true) ⊎ (ltb m j ≡ false) → cond (ltb k j) (at j o) none ≡ cond (ltb m j) (at j o) none
    go j (inl h) (inl p) (inl q) = rw (p, q)
    go j (inl h) (inl p) (inr q) = absurd (omega (arith, f j h (ltb-true k j p), ltb-false m j q))
    go j (inl h) (inr p) (inl q) = absurd (omega (arith, g j h (ltb-true m j q), ltb-false k j p))
    go j (inl h) (inr p) (inr q) = rw (p, q)
    go j (inr h) p q = rw (absent o j h) (both (ltb k j) (ltb m j))
      where
        both : (a b : Bool) → ◌≡◌ {A = Option Cell} (cond a none none) (cond b none none)
        both true true = refl
        both true false = refl
        both false true = refl
        both false false = refl

pub in_at : (s : List Rec) (n : ℕ) → n < length s → get_or s n no_rec ∈ s
in_at [] n h = absurd (omega arith)
in_at (x ∷ xs) zero h = Memᴰ.head refl
in_at (x ∷ xs) (suc n) h = Memᴰ.tail (in_at xs n (omega arith))

module _ (v : Table) (w : SoundTable v) where
  abbrev o : List Rec
  o = v.records

  -- what is known of a key
  pub key_sound : (j : ℕ) → has v.records j ≡ true → (1 ≤ j / label_span) × (j / label_span ≤ most_relations) × (1 ≤ j % label_span)
  key_sound j h =
      let p = position_some j v.records h in
      let x = w.sound (position j v.records) p.from_one p.within in
      (rw p.keyed at x.least, rw p.keyed at x.most, rw p.keyed at x.labelled)

  -- the first of them, where a record follows key k in the chain of its relation
  pub beyond_next : (r k i : ℕ) → k / label_span ≡ r → Follows v.records r k i → beyond k v.records ≡ nth v.records i ∷ beyond (nth v.records i).key v.records
  beyond_next r k i e f = ext 0 _ _ (beyond_weak k o) (omega arith, beyond_rising (nth o i).key o) (λ m. at_beyond m k o ∙ go m (tri m (nth o i).key) (test (ltb k m)) (test (has o m)))
    where
      first : at (nth v.records i).key v.records ≡ some (nth v.records i).cell
      first = at_key v.records (nth v.records i) (nth v.records i).key (distinct_true v.records w.single) (in_at v.records (i - 1) (omega (arith, f.here, f.within))) refl

      later : (m : ℕ) → m ≢ (nth v.records i).key → cond (ltb (nth v.records i).key m) (at m v.records) none ≡ at m (nth v.records i ∷ beyond (nth v.records i).key v.records)
      later m n = sym (at_tail m (nth v.records i) (beyond (nth v.records i).key v.records) n ∙ at_beyond m (nth v.records i).key v.records)

      go : (m : ℕ) → Tri m (nth v.records i).key → (ltb k m ≡ true) ⊎ (ltb k m ≡ false) → (has v.records m ≡ true) ⊎ (has v.records m ≡ false)
          → cond (ltb k m) (at m v.records) none ≡ at m (nth v.records i ∷ beyond (nth v.records i).key v.records)
      go m (same p) b h =
          let q : ltb k (nth v.records i).key ≡ true = lt-ltb k _ f.above in
          rw p (rw q (first ∙ sym (at_head (nth v.records i) (beyond (nth v.records i).key v.records) (beyond_rising (nth v.records i).key v.records))))
      go m (low p) (inl b) (inl h) =
          let l = ltb-true k m b in
          let g : m / label_span ≡ r = omega (arith, f.related) in
          absurd (omega (arith, f.least m h g l))
      go m (low p) (inl b) (inr h) =
          let l : cond (ltb k m) (at m v.records) none ≡ none = rw b (absent v.records m h) in
          let q : ltb (nth v.records i).key m ≡ false = le-ltb (nth v.records i).key m (omega arith) in
          let g : cond (ltb (nth v.records i).key m) (at m v.records) none ≡ none = rw q in
          l ∙ sym g ∙ later m (omega arith)
      go m (low p) (inr b) h =
          let l : cond (ltb k m) (at m v.records) none ≡ none = rw b in
          let q : ltb (nth v.records i).key m ≡ false = le-ltb (nth v.records i).key m (omega arith) in
          let g : cond (ltb (nth v.records i).key m) (at m v.records) none ≡ none = rw q in
          l ∙ sym g ∙ later m (omega arith)
      go m (high p) b h =
          let q : ltb k m ≡ true = lt-ltb k m (omega (arith, f.above)) in
          let q' : ltb (nth v.records i).key m ≡ true = lt-ltb (nth v.records i).key m p in
          let l : cond (ltb k m) (at m v.records) none ≡ at m v.records = rw q in
          let g : cond (ltb (nth v.records i).key m) (at m v.records) none ≡ at m v.records = rw q' in
          l ∙ sym g ∙ later m (omega arith)

  pub beyond_last : (r k i : ℕ) → k / label_span ≡ r → Last v.records r k i → beyond k v.records ≡ beyond (place (r + 1) 0) v.records
  beyond_last r k i e f = beyond_same k (place (r + 1) 0) v.records (λ j h b. go j h b (test (eqb (j / label_span) r))) (λ j h b. omega arith)
    where
      go : (j : ℕ) → has v.records j ≡ true → k < j → (eqb (j / label_span) r ≡ true) ⊎ (eqb (j / label_span) r ≡ false) → place (r + 1) 0 < j
      go j h b (inl q) = absurd (omega (arith, f.least j h (eqb-true (j / label_span) r q)))
      go j h b (inr q) = let n = eqb-false (j / label_span) r q in omega (arith, key_sound j h)

  -- all and none of them
  pub beyond_all : beyond (place 1 0) v.records ≡ in_order v.records
  beyond_all = ext 0 _ _ (beyond_weak (place 1 0) o) (order_rising o) (λ m. at_beyond m (place 1 0) o ∙ go m (test (has o m)) ∙ sym (at_order m o))
    where
      go : (m : ℕ) → (has v.records m ≡ true) ⊎ (has v.records m ≡ false) → cond (ltb (place 1 0) m) (at m v.records) none ≡ at m v.records
      go m (inl h) = let q : ltb (place 1 0) m ≡ true = lt-ltb (place 1 0) m (omega (arith, key_sound m h)) in rw q
      go m (inr h) = rw (absent v.records m h) (none_both (ltb (place 1 0) m))

  pub beyond_none : beyond (place (most_relations + 1) 0) v.records ≡ []
  beyond_none = ext 0 _ [] (beyond_weak (place (most_relations + 1) 0) o) tt (λ m. at_beyond m (place (most_relations + 1) 0) o ∙ go m (test (has o m)) ∙ unfold at in refl)
    where
      go : (m : ℕ) → (has v.records m ≡ true) ⊎ (has v.records m ≡ false) → cond (ltb (place (most_relations + 1) 0) m) (at m v.records) none ≡ none
      go m (inl h) = let q : ltb (place (most_relations + 1) 0) m ≡ false = le-ltb (place (most_relations + 1) 0) m (omega (arith, key_sound m h)) in rw q
      go m (inr h) = rw (absent v.records m h) (none_both (ltb (place (most_relations + 1) 0) m))

  -- the first record of a relation
  pub follower_first : (r : ℕ) → follower v.records r (place r 0) ≡ follower v.records r 0
  follower_first r = go (follows o r 0 (no_zero v w))
    where
      go : Follows v.records r 0 (follower v.records r 0) ⊎ Last v.records r 0 (follower v.records r 0) → follower v.records r (place r 0) ≡ follower v.records r 0
      go (inl f) =
          let x = w.sound (follower v.records r 0) f.here f.within in
          follows_is v.records r (place r 0) (follower v.records r 0) w.single
          (record {
            here = f.here;
            within = f.within;
            above = omega (arith, f.related, x.labelled);
            related = f.related;
            least = λ j h e b. f.least j h e (omega arith);
          })
      go (inr f) = last_is v.records r (place r 0) (follower v.records r 0) (no_zero v w) (record { none = f.none; least = λ j h e. omega (arith, f.least j h e) })
