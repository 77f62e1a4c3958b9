-- The chains of an encoding: each rises through the records of its relation, and meets each of them.
-- Assumes nothing.
use Prim.Native.Nat.{ℕ, zero, suc, ◌+◌, ◌/◌, ◌%◌, ◌≤◌, ◌<◌}
use mathlib.Core.Path.{◌≡◌, refl, sym, ◌∙◌}
use mathlib.Core.Bool.{Bool, true, false, cond, ◌&&◌, ◌||◌}
use mathlib.Core.List.{List, [], ◌∷◌}
use mathlib.Core.Logic.{◌⊎◌, inl, inr, ◌≢◌}
use native.Mathlib.Omega.{arith}
use lib.Dec.{eqb, ltb, leb}
use lib.ListN.{length}
use borrow.Author.Tests.{ltb-true, ltb-false, leb-true, eqb-false, lt-ltb, le-ltb, le-leb, eq-eqb}
use Rattle.crdt.proofs.Tests.{test, clash, and_left, and_both, or_left, or_right}
use Rattle.crdt.specs.Labels.{largest_counter, is_label, is_counter, counter_of, replica_of}
use Rattle.model.specs.Layout.{fields, most_relations, used_at, first_at, next_at, relation_at, label_at}
use Rattle.model.specs.Lists.{only, some_of}
use Rattle.model.specs.Schemas.{Relation}
use Rattle.model.specs.Records.{Rec, relation, label, label_span, has, position}
use Rattle.model.specs.Tables.{Table, follower, encode}
use Rattle.model.specs.WellFormed.{chain_from, chain_of, chain_step, rises}
use Rattle.wellformed.proofs.Ranges.{whole}
use Rattle.wellformed.proofs.Follow.{record_at, has_none, has_cases, has_record, position_some, same_position, Follows, Last, follows, follower_within}
use Rattle.wellformed.proofs.ValidParts.{ValidTable, record_valid, no_zero}
use Rattle.wellformed.proofs.Words.{Sized, enc_used, enc_first, enc_next, enc_relation, enc_label}

-- how many records have a key above k
unfoldable pub above : ℕ → List Rec → ℕ
above k s = length (only (λ (x : Rec). ltb k x.key) s)

above_within : (k : ℕ) (s : List Rec) → above k s ≤ length s
unfolding above only
above_within k [] = omega arith
above_within k (x ∷ xs) = go (ltb k x.key) (above_within k xs)
  where
    go : (b : Bool) → above k xs ≤ length xs → length (cond b (x ∷ only (λ (x : Rec). ltb k x.key) xs) (only (λ (x : Rec). ltb k x.key) xs)) ≤ suc (length xs)
    go true h = omega arith
    go false h = omega arith

above_yes : (k : ℕ) (x : Rec) (xs : List Rec) → k < x.key → above k (x ∷ xs) ≡ suc (above k xs)
unfolding above only
above_yes k x xs h = rw (lt-ltb k x.key h)

above_no : (k : ℕ) (x : Rec) (xs : List Rec) → x.key ≤ k → above k (x ∷ xs) ≡ above k xs
unfolding above only
above_no k x xs h = rw (le-ltb k x.key h)

above_down : (k m : ℕ) (s : List Rec) → k < m → above m s ≤ above k s
above_down k m [] l = unfold above only in omega arith
above_down k m (x ∷ xs) l = go (test (ltb m x.key)) (test (ltb k x.key)) (above_down k m xs l)
  where
    go : (ltb m x.key ≡ true) ⊎ (ltb m x.key ≡ false) → (ltb k x.key ≡ true) ⊎ (ltb k x.key ≡ false) → above m xs ≤ above k xs → above m (x ∷ xs) ≤ above k (x ∷ xs)
    go (inl p) q ih =
        let a = ltb-true m x.key p in
        omega (arith, above_yes m x xs a, above_yes k x xs (omega arith))
    go (inr p) (inl q) ih = omega (arith, above_no m x xs (ltb-false _ _ p), above_yes k x xs (ltb-true _ _ q))
    go (inr p) (inr q) ih = omega (arith, above_no m x xs (ltb-false _ _ p), above_no k x xs (ltb-false _ _ q))

-- they grow fewer from key to key
above_less : (k m : ℕ) (s : List Rec) → has s m ≡ true → k < m → above m s < above k s
above_less k m [] h l = clash h (has_none m)
above_less k m (x ∷ xs) h l = go (has_cases x xs m h) (test (ltb m x.key)) (test (ltb k x.key)) (λ p. above_less k m xs p l)
  where
    go : (m ≡ x.key) ⊎ (has xs m ≡ true) → (ltb m x.key ≡ true) ⊎ (ltb m x.key ≡ false) → (ltb k x.key ≡ true) ⊎ (ltb k x.key ≡ false)
        → (has xs m ≡ true → above m xs < above k xs) → above m (x ∷ xs) < above k (x ∷ xs)
    go (inl e) p q ih = omega (arith, above_no m x xs (omega arith), above_yes k x xs (omega arith), above_down k m xs l)
    go (inr g) (inl p) q ih =
        let a = ltb-true m x.key p in
        omega (arith, above_yes m x xs a, above_yes k x xs (omega arith), ih g)
    go (inr g) (inr p) (inl q) ih = omega (arith, above_no m x xs (ltb-false _ _ p), above_yes k x xs (ltb-true _ _ q), ih g)
    go (inr g) (inr p) (inr q) ih = omega (arith, above_no m x xs (ltb-false _ _ p), above_no k x xs (ltb-false _ _ q), ih g)

-- a label is not 0
pub label_above : (x : ℕ) → is_label x ≡ true → 0 < x
unfolding is_label
label_above x h =
    let c = leb-true 1 (counter_of x) (and_left (leb 1 (counter_of x)) (leb (counter_of x) largest_counter) (and_left (is_counter (counter_of x)) (leb 1 (replica_of x)) h)) in
    omega arith

module _ (σ : List Relation) (v : Table) (t : ValidTable fields σ v) (z : Sized v.records) where
  -- the record that follows key k
  module _ (r k p : ℕ) (f : Follows v.records r k p) where
    next_follower : next_at (encode v) p ≡ follower v.records r (record_at v.records p).key
    next_follower = enc_next v z p f.here f.within ∙ rw f.related

    -- is one step of the chain, from a label below it
    step : (low : ℕ) → low < label (record_at v.records p) → chain_step (encode v) r low p ≡ true
    unfolding chain_step
    step low l =
        whole (leb p (used_at (encode v))) (eqb (relation_at (encode v) p) r ∷ ltb low (label_at (encode v) p) ∷ leb (next_at (encode v) p) (used_at (encode v)) ∷ []) (
          rw (enc_used v) (le-leb _ _ f.within),
          (
            rw (enc_relation v z p f.here f.within) (eq-eqb _ _ f.related),
            (rw (enc_label v z p f.here f.within) (lt-ltb _ _ l), (rw (enc_used v, next_follower) (le-leb _ _ (follower_within v.records r _)), tt)),
          ),
        )

  -- from key k on, the chain of relation r rises from any label below those of the larger keys
  rises_from : (n r k low p : ℕ) → p ≡ follower v.records r k → ((j : ℕ) → has v.records j ≡ true → j / label_span ≡ r → k < j → low < j % label_span)
      → rises (encode v) r low (chain_from n (encode v) p) ≡ true
  unfolding rises chain_from
  rises_from zero r k low p e h = refl
  rises_from (suc n) r k low zero e h = refl
  rises_from (suc n) r k low (suc p) e h = go (rw (← e) at (follows v.records r k (no_zero fields σ v t))) (λ m l q u. rises_from n r m l q u)
    where
      go : Follows v.records r k (suc p) ⊎ Last v.records r k (suc p)
          → ((m l q : ℕ) → q ≡ follower v.records r m → ((j : ℕ) → has v.records j ≡ true → j / label_span ≡ r → m < j → l < j % label_span) → rises (encode v) r l (chain_from n (encode v) q) ≡ true)
          → (chain_step (encode v) r low (suc p) && rises (encode v) r (label_at (encode v) (suc p)) (chain_from n (encode v) (next_at (encode v) (suc p)))) ≡ true
      go (inl f) ih =
          and_both _ _ (step r k (suc p) f low (h _ (has_record (suc p) v.records f.here f.within) f.related f.above))
          (ih (record_at v.records (suc p)).key _ _ (next_follower r k (suc p) f)
          (λ j g q b. rw (enc_label v z (suc p) f.here f.within) (omega (arith, f.related))))
      go (inr f) ih = absurd (omega (arith, f.none))

  -- each chain rises
  pub chain_rises : (r : ℕ) → 1 ≤ r → r ≤ most_relations → rises (encode v) r 0 (chain_of (encode v) r) ≡ true
  unfolding chain_of
  chain_rises r a b = rises_from (used_at (encode v) + 1) r 0 0 (first_at (encode v) r) (enc_first v r a b) low
    where
      low : (j : ℕ) → has v.records j ≡ true → j / label_span ≡ r → 0 < j → 0 < j % label_span
      low j h e l =
          let q = position_some j v.records h in
          let x = record_valid fields σ v t (position j v.records) q.from_one q.within in
          rw q.keyed at (label_above _ x.labelled)

  -- a record of relation r with a key above k is met from key k on, in as many steps as there are larger keys
  meets_from : (n r k p i : ℕ) → p ≡ follower v.records r k → 1 ≤ i → i ≤ length v.records → relation (record_at v.records i) ≡ r → k < (record_at v.records i).key
      → above k v.records ≤ n → some_of (λ j. eqb i j) (chain_from n (encode v) p) ≡ true
  unfolding chain_from some_of
  meets_from zero r k p i e a b q l c = absurd (omega (arith, above_less k _ v.records (has_record i v.records a b) l))
  meets_from (suc n) r k zero i e a b q l c = go (rw (← e) at (follows v.records r k (no_zero fields σ v t)))
    where
      go : Follows v.records r k 0 ⊎ Last v.records r k 0 → false ≡ true
      go (inl f) = absurd (omega (arith, f.here))
      go (inr f) = absurd (omega (arith, f.least _ (has_record i v.records a b) q))
  meets_from (suc n) r k (suc p) i e a b q l c = go (rw (← e) at (follows v.records r k (no_zero fields σ v t))) (test (eqb i (suc p))) (λ m u y c. meets_from n r m (next_at (encode v) (suc p)) i u a b q y c)
    where
      go : Follows v.records r k (suc p) ⊎ Last v.records r k (suc p) → (eqb i (suc p) ≡ true) ⊎ (eqb i (suc p) ≡ false)
          → ((m : ℕ) → next_at (encode v) (suc p) ≡ follower v.records r m → m < (record_at v.records i).key → above m v.records ≤ n
          → some_of (λ j. eqb i j) (chain_from n (encode v) (next_at (encode v) (suc p))) ≡ true)
          → (eqb i (suc p) || some_of (λ j. eqb i j) (chain_from n (encode v) (next_at (encode v) (suc p)))) ≡ true
      go (inr f) d ih = absurd (omega (arith, f.none))
      go (inl f) (inl d) ih = or_left _ _ d
      go (inl f) (inr d) ih =
          let w = has_record (suc p) v.records f.here f.within in
          let ne : (record_at v.records (suc p)).key ≢ (record_at v.records i).key =
          λ u. eqb-false _ _ d (sym (same_position (suc p) i v.records t.single f.here f.within a b u)) in
          or_right (eqb i (suc p)) _
          (ih _ (next_follower r k (suc p) f) (omega (arith, f.least _ (has_record i v.records a b) q l)) (omega (arith, above_less k _ v.records w f.above)))

  -- each record lies on the chain of its relation
  pub chain_meets : (i r : ℕ) → 1 ≤ i → i ≤ length v.records → relation (record_at v.records i) ≡ r → 1 ≤ r → r ≤ most_relations → some_of (λ j. eqb i j) (chain_of (encode v) r) ≡ true
  unfolding chain_of
  chain_meets i r a b e c d =
      let x = record_valid fields σ v t i a b in
      meets_from (used_at (encode v) + 1) r 0 (first_at (encode v) r) i (enc_first v r c d) a b e (omega (arith, x.above)) (omega (arith, enc_used v, above_within 0 v.records))
