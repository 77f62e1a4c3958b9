-- The least key above a number, the position of a key, and the record that follows in a chain.
-- Assumes nothing.
use Prim.Native.Nat.{ℕ, zero, suc, ◌+◌, ◌-◌, ◌/◌, ◌≤◌, ◌<◌}
use mathlib.Core.Path.{◌≡◌, refl, sym, ◌∙◌, ap}
use mathlib.Core.Bool.{Bool, true, false, cond, ◌&&◌, ◌||◌, not}
use mathlib.Core.List.{List, [], ◌∷◌}
use mathlib.Core.Logic.{◌⊎◌, inl, inr, ◌≢◌}
use native.Mathlib.Omega.{arith}
use lib.Dec.{eqb, ltb}
use lib.ListN.{length, get_or}
use borrow.Author.Tests.{ltb-true, ltb-false, eqb-true, eqb-false, lt-ltb, le-ltb, eq-eqb, ne_eqb}
use Rattle.crdt.proofs.Tests.{test, clash, and_left, and_right, or_cases, or_left, or_right, not_true}
use Rattle.model.specs.Lists.{only, some_of}
use Rattle.model.specs.Records.{Rec, relation, label_span, has, distinct, least_above, position_from, position}
use Rattle.model.specs.Tables.{follower}

-- the record that stands for none
abbrev pub no_rec : Rec
no_rec = record { key = 0; cell = record { flag = 0; regs = [] } }

-- the record of position i, from 1
abbrev pub record_at : List Rec → ℕ → Rec
record_at s i = get_or s (i - 1) no_rec

-- has, by the first record
pub has_here : (x : Rec) (xs : List Rec) → has (x ∷ xs) x.key ≡ true
unfolding has some_of
has_here x xs = or_left _ _ (eq-eqb x.key x.key refl)

pub has_there : (x : Rec) (xs : List Rec) (k : ℕ) → has xs k ≡ true → has (x ∷ xs) k ≡ true
unfolding has some_of
has_there x xs k h = or_right (eqb k x.key) _ h

pub has_cases : (x : Rec) (xs : List Rec) (k : ℕ) → has (x ∷ xs) k ≡ true → (k ≡ x.key) ⊎ (has xs k ≡ true)
unfolding has some_of
has_cases x xs k h = go (or_cases (eqb k x.key) (has xs k) h)
  where
    go : (eqb k x.key ≡ true) ⊎ (has xs k ≡ true) → (k ≡ x.key) ⊎ (has xs k ≡ true)
    go (inl p) = inl (eqb-true k x.key p)
    go (inr p) = inr p

pub has_none : (k : ℕ) → has [] k ≡ false
unfolding has some_of
has_none k = refl

-- the record of an index has its key there
pub has_at : (s : List Rec) (n : ℕ) (d : Rec) → n < length s → has s (get_or s n d).key ≡ true
has_at [] n d h = absurd (omega arith)
has_at (x ∷ xs) zero d h = has_here x xs
has_at (x ∷ xs) (suc n) d h = has_there x xs _ (has_at xs n d (omega arith))

-- the least key above k, by the first record
module _ (k : ℕ) (x : Rec) (xs : List Rec) where
  least_take : k < x.key → (least_above k xs ≡ 0) ⊎ (x.key < least_above k xs) → least_above k (x ∷ xs) ≡ x.key
  unfolding least_above
  least_take h m = rw (lt-ltb k x.key h) (go m)
    where
      go : (least_above k xs ≡ 0) ⊎ (x.key < least_above k xs) → cond (eqb (least_above k xs) 0 || ltb x.key (least_above k xs)) x.key (least_above k xs) ≡ x.key
      go (inl p) = rw (or_left (eqb (least_above k xs) 0) (ltb x.key (least_above k xs)) (eq-eqb _ _ p))
      go (inr p) = rw (or_right (eqb (least_above k xs) 0) (ltb x.key (least_above k xs)) (lt-ltb _ _ p))

  least_pass : x.key ≤ k → least_above k (x ∷ xs) ≡ least_above k xs
  unfolding least_above
  least_pass h = rw (le-ltb k x.key h)

  least_keep : (least_above k xs ≢ 0) → least_above k xs ≤ x.key → least_above k (x ∷ xs) ≡ least_above k xs
  unfolding least_above
  least_keep n h = rw (ne_eqb (least_above k xs) 0 n, le-ltb x.key (least_above k xs) h) (go (ltb k x.key))
    where
      go : (b : Bool) → cond (b && false) x.key (least_above k xs) ≡ least_above k xs
      go true = refl
      go false = refl

-- The least key above k: either no key lies above k, or it lies above k, some record has it, and no key above k is smaller.
pub record Least (k : ℕ) (s : List Rec) : Type 0 where
  pub above : least_above k s ≢ 0 → k < least_above k s
  pub found : least_above k s ≢ 0 → has s (least_above k s) ≡ true
  pub some : (j : ℕ) → has s j ≡ true → k < j → least_above k s ≢ 0
  pub least : (j : ℕ) → has s j ≡ true → k < j → least_above k s ≤ j

pub least_of : (k : ℕ) (s : List Rec) → Least k s
least_of k [] =
    record {
      above = λ n. absurd (n (unfold least_above in refl));
      found = λ n. absurd (n (unfold least_above in refl));
      some = λ j h l. clash h (has_none j);
      least = λ j h l. clash h (has_none j);
    }
least_of k (x ∷ xs) = go (test (ltb k x.key)) (test (eqb (least_above k xs) 0)) (test (ltb x.key (least_above k xs))) (least_of k xs)
  where
    passed : least_above k (x ∷ xs) ≡ least_above k xs → ((j : ℕ) → j ≡ x.key → k < j → (least_above k xs ≢ 0) × (least_above k xs ≤ j)) → Least k xs → Least k (x ∷ xs)
    passed e f l =
        record {
          above = rw e l.above;
          found = rw e (λ n. has_there x xs _ (l.found n));
          some = rw e (λ j h b. some j (has_cases x xs j h) b);
          least = rw e (λ j h b. least j (has_cases x xs j h) b);
        }
      where
        some : (j : ℕ) → (j ≡ x.key) ⊎ (has xs j ≡ true) → k < j → least_above k xs ≢ 0
        some j (inl p) b = (f j p b).0
        some j (inr p) b = l.some j p b

        least : (j : ℕ) → (j ≡ x.key) ⊎ (has xs j ≡ true) → k < j → least_above k xs ≤ j
        least j (inl p) b = (f j p b).1
        least j (inr p) b = l.least j p b

    taken : least_above k (x ∷ xs) ≡ x.key → k < x.key → ((j : ℕ) → has xs j ≡ true → k < j → x.key ≤ j) → Least k (x ∷ xs)
    taken e a f =
        record {
          above = rw e (λ n. a);
          found = rw e (λ n. has_here x xs);
          some = rw e (λ j h b. omega arith);
          least = rw e (λ j h b. least j (has_cases x xs j h) b);
        }
      where
        least : (j : ℕ) → (j ≡ x.key) ⊎ (has xs j ≡ true) → k < j → x.key ≤ j
        least j (inl p) b = omega arith
        least j (inr p) b = f j p b

    go : (ltb k x.key ≡ true) ⊎ (ltb k x.key ≡ false) → (eqb (least_above k xs) 0 ≡ true) ⊎ (eqb (least_above k xs) 0 ≡ false)
        → (ltb x.key (least_above k xs) ≡ true) ⊎ (ltb x.key (least_above k xs) ≡ false) → Least k xs → Least k (x ∷ xs)
    go (inr p) q r l =
        let b = ltb-false _ _ p in
        passed (least_pass k x xs b) (λ j e h. absurd (omega arith)) l
    go (inl p) (inl q) r l =
        let a = ltb-true _ _ p in
        let z = eqb-true _ _ q in
        taken (least_take k x xs a (inl z)) a (λ j h b. absurd (l.some j h b z))
    go (inl p) (inr q) (inl r) l =
        let a = ltb-true _ _ p in
        let b = ltb-true _ _ r in
        taken (least_take k x xs a (inr b)) a (λ j h c. omega (arith, l.least j h c))
    go (inl p) (inr q) (inr r) l =
        let b = ltb-false _ _ r in
        let n = eqb-false _ _ q in
        passed (least_keep k x xs n b) (λ j e h. (n, omega arith)) l

-- It is the only number of which that holds.
pub least_is : (k m : ℕ) (s : List Rec) → k < m → has s m ≡ true → ((j : ℕ) → has s j ≡ true → k < j → m ≤ j) → least_above k s ≡ m
least_is k m s a h f =
    let l = least_of k s in
    let n = l.some m h a in
    omega (arith, l.least m h a, f (least_above k s) (l.found n) (l.above n))

pub least_none : (k : ℕ) (s : List Rec) → ((j : ℕ) → has s j ≡ true → j ≤ k) → least_above k s ≡ 0
least_none k s f = go (test (eqb (least_above k s) 0))
  where
    go : (eqb (least_above k s) 0 ≡ true) ⊎ (eqb (least_above k s) 0 ≡ false) → least_above k s ≡ 0
    go (inl p) = eqb-true _ _ p
    go (inr p) =
        let n = eqb-false _ _ p in
        let l = least_of k s in
        absurd (omega (arith, l.above n, f _ (l.found n)))

-- the position of a key, by the first record
position_here : (i k : ℕ) (x : Rec) (xs : List Rec) → k ≡ x.key → position_from i k (x ∷ xs) ≡ i
unfolding position_from
position_here i k x xs e = rw (eq-eqb k x.key e)

position_there : (i k : ℕ) (x : Rec) (xs : List Rec) → k ≢ x.key → position_from i k (x ∷ xs) ≡ position_from (suc i) k xs
unfolding position_from
position_there i k x xs e = rw (ne_eqb k x.key e)

pub has_not : (x : Rec) (xs : List Rec) (k : ℕ) → has (x ∷ xs) k ≡ false → (k ≢ x.key) × (has xs k ≡ false)
has_not x xs k h = (λ e. clash (rw e (has_here x xs)) h, go (test (has xs k)))
  where
    go : (has xs k ≡ true) ⊎ (has xs k ≡ false) → has xs k ≡ false
    go (inl p) = clash (has_there x xs k p) h
    go (inr p) = p

position_absent : (i k : ℕ) (s : List Rec) → has s k ≡ false → position_from i k s ≡ 0
position_absent i k [] h = unfold position_from in refl
position_absent i k (x ∷ xs) h =
    let n = has_not x xs k h in
    position_there i k x xs n.0 ∙ position_absent (suc i) k xs n.1

position_present : (i k : ℕ) (s : List Rec) (d : Rec) → has s k ≡ true → (n : ℕ) × (position_from i k s ≡ i + n) × (n < length s) × ((get_or s n d).key ≡ k)
position_present i k [] d h = clash h (has_none k)
position_present i k (x ∷ xs) d h = go (test (eqb k x.key)) (λ p. position_present (suc i) k xs d p)
  where
    R : Type 0
    R = (n : ℕ) × (position_from i k (x ∷ xs) ≡ i + n) × (n < suc (length xs)) × ((get_or (x ∷ xs) n d).key ≡ k)

    later : k ≢ x.key → (n : ℕ) × (position_from (suc i) k xs ≡ suc i + n) × (n < length xs) × ((get_or xs n d).key ≡ k) → R
    later ne r = (suc r.0, position_there i k x xs ne ∙ omega (arith, r.1), omega (arith, r.2), r.3)

    go : (eqb k x.key ≡ true) ⊎ (eqb k x.key ≡ false)
        → (has xs k ≡ true → (n : ℕ) × (position_from (suc i) k xs ≡ suc i + n) × (n < length xs) × ((get_or xs n d).key ≡ k)) → R
    go (inl p) ih = let e = eqb-true _ _ p in (0, position_here i k x xs e ∙ omega arith, omega arith, sym e)
    go (inr p) ih = let n = eqb-false _ _ p in later n (ih (tail (has_cases x xs k h)))
      where
        tail : (k ≡ x.key) ⊎ (has xs k ≡ true) → has xs k ≡ true
        tail (inl e) = absurd (eqb-false _ _ p e)
        tail (inr q) = q

-- A key that no record has is at position 0.
pub position_none : (k : ℕ) (s : List Rec) → has s k ≡ false → position k s ≡ 0
position_none k s h = position_absent 1 k s h

-- The position of a key that a record has: one of 1 to the number of records, and the record there has the key.
pub record Placed (k : ℕ) (s : List Rec) : Type 0 where
  pub from_one : 1 ≤ position k s
  pub within : position k s ≤ length s
  pub keyed : (record_at s (position k s)).key ≡ k

pub position_some : (k : ℕ) (s : List Rec) → has s k ≡ true → Placed k s
position_some k s h =
    let r = position_present 1 k s no_rec h in
    let e : position k s - 1 ≡ r.0 = omega (arith, r.1) in
    record { from_one = omega (arith, r.1); within = omega (arith, r.1, r.2); keyed = rw e r.3 }

pub position_within : (k : ℕ) (s : List Rec) → position k s ≤ length s
position_within k s = go (test (has s k))
  where
    go : (has s k ≡ true) ⊎ (has s k ≡ false) → position k s ≤ length s
    go (inl p) = (position_some k s p).within
    go (inr p) = omega (arith, position_none k s p)

-- Where no key stands twice, the position of the key of a record is its own.
position_own : (i n : ℕ) (s : List Rec) (d : Rec) → distinct s ≡ true → n < length s → position_from i (get_or s n d).key s ≡ i + n
unfolding distinct
position_own i n [] d h l = absurd (omega arith)
position_own i zero (x ∷ xs) d h l = position_here i x.key x xs refl ∙ omega arith
position_own i (suc n) (x ∷ xs) d h l =
    let l' : n < length xs = omega arith in
    let ne : (get_or xs n d).key ≢ x.key = λ e. clash (rw e at (has_at xs n d l')) (not_true _ (and_left (not (has xs x.key)) _ h)) in
    position_there i (get_or xs n d).key x xs ne ∙ position_own (suc i) n xs d (and_right (not (has xs x.key)) _ h) l' ∙ omega arith

pub position_at : (i : ℕ) (s : List Rec) → distinct s ≡ true → 1 ≤ i → i ≤ length s → position (record_at s i).key s ≡ i
position_at i s h a b = position_own 1 (i - 1) s no_rec h (omega arith) ∙ omega arith

-- two positions with one key are one
pub same_position : (i j : ℕ) (s : List Rec) → distinct s ≡ true → 1 ≤ i → i ≤ length s → 1 ≤ j → j ≤ length s → (record_at s i).key ≡ (record_at s j).key → i ≡ j
same_position i j s h a b c d e = sym (position_at i s h a b) ∙ ap (λ (k : ℕ). position k s) e ∙ position_at j s h c d

pub has_record : (i : ℕ) (s : List Rec) → 1 ≤ i → i ≤ length s → has s (record_at s i).key ≡ true
has_record i s a b = has_at s (i - 1) no_rec (omega arith)

-- The records of relation r.
abbrev pub of_relation : ℕ → List Rec → List Rec
of_relation r s = only (λ (x : Rec). eqb (relation x) r) s

only_yes : (r : ℕ) (x : Rec) (xs : List Rec) → relation x ≡ r → of_relation r (x ∷ xs) ≡ x ∷ of_relation r xs
unfolding only
only_yes r x xs e = rw (eq-eqb (relation x) r e)

only_no : (r : ℕ) (x : Rec) (xs : List Rec) → relation x ≢ r → of_relation r (x ∷ xs) ≡ of_relation r xs
unfolding only
only_no r x xs e = rw (ne_eqb (relation x) r e)

pub has_only : (r : ℕ) (s : List Rec) (k : ℕ) → has (of_relation r s) k ≡ true → (has s k ≡ true) × (k / label_span ≡ r)
has_only r [] k h = clash h (unfold only in has_none k)
has_only r (x ∷ xs) k h = go (test (eqb (relation x) r)) (λ p. has_only r xs k p)
  where
    R : Type 0
    R = (has (x ∷ xs) k ≡ true) × (k / label_span ≡ r)

    later : (has xs k ≡ true) × (k / label_span ≡ r) → R
    later q = (has_there x xs k q.0, q.1)

    first : relation x ≡ r → (k ≡ x.key) ⊎ (has (of_relation r xs) k ≡ true) → (has (of_relation r xs) k ≡ true → (has xs k ≡ true) × (k / label_span ≡ r)) → R
    first e (inl p) ih = (rw p (has_here x xs), rw p e)
    first e (inr p) ih = later (ih p)

    go : (eqb (relation x) r ≡ true) ⊎ (eqb (relation x) r ≡ false) → (has (of_relation r xs) k ≡ true → (has xs k ≡ true) × (k / label_span ≡ r)) → R
    go (inl p) ih = let e = eqb-true _ _ p in first e (has_cases x (of_relation r xs) k (rw (only_yes r x xs e) at h)) ih
    go (inr p) ih = later (ih (rw (only_no r x xs (eqb-false _ _ p)) at h))

pub only_has : (r : ℕ) (s : List Rec) (k : ℕ) → has s k ≡ true → k / label_span ≡ r → has (of_relation r s) k ≡ true
only_has r [] k h e = clash h (has_none k)
only_has r (x ∷ xs) k h e = go (test (eqb (relation x) r)) (has_cases x xs k h) (λ p. only_has r xs k p e)
  where
    go : (eqb (relation x) r ≡ true) ⊎ (eqb (relation x) r ≡ false) → (k ≡ x.key) ⊎ (has xs k ≡ true) → (has xs k ≡ true → has (of_relation r xs) k ≡ true)
        → has (of_relation r (x ∷ xs)) k ≡ true
    go (inl p) (inl q) ih = rw (only_yes r x xs (eqb-true _ _ p)) (rw q (has_here x (of_relation r xs)))
    go (inl p) (inr q) ih = rw (only_yes r x xs (eqb-true _ _ p)) (has_there x (of_relation r xs) k (ih q))
    go (inr p) (inl q) ih = absurd (eqb-false _ _ p (ap (λ (n : ℕ). n / label_span) (sym q) ∙ e))
    go (inr p) (inr q) ih = rw (only_no r x xs (eqb-false _ _ p)) (ih q)

-- Position p follows key k in the chain of relation r: either p is 0 and no record of relation r has a larger key, or it is a record of
-- relation r whose key is larger, and no larger one of relation r comes before it.
pub record Follows (s : List Rec) (r k p : ℕ) : Type 0 where
  pub here : 1 ≤ p
  pub within : p ≤ length s
  pub above : k < (record_at s p).key
  pub related : relation (record_at s p) ≡ r
  pub least : (j : ℕ) → has s j ≡ true → j / label_span ≡ r → k < j → (record_at s p).key ≤ j

pub record Last (s : List Rec) (r k p : ℕ) : Type 0 where
  pub none : p ≡ 0
  pub least : (j : ℕ) → has s j ≡ true → j / label_span ≡ r → j ≤ k

-- Where no key is 0, that is what the follower is.
pub follows : (s : List Rec) (r k : ℕ) → has s 0 ≡ false → Follows s r k (follower s r k) ⊎ Last s r k (follower s r k)
unfolding follower
follows s r k z = go (test (eqb (least_above k (of_relation r s)) 0)) (least_of k (of_relation r s))
  where
    go : (eqb (least_above k (of_relation r s)) 0 ≡ true) ⊎ (eqb (least_above k (of_relation r s)) 0 ≡ false) → Least k (of_relation r s) → Follows s r k (follower s r k) ⊎ Last s r k (follower s r k)
    go (inl p) l =
        let e : least_above k (of_relation r s) ≡ 0 = eqb-true _ _ p in
        inr (record { none = rw e (position_none 0 s z); least = λ j h q. below j (test (ltb k j)) (only_has r s j h q) e })
      where
        below : (j : ℕ) → (ltb k j ≡ true) ⊎ (ltb k j ≡ false) → has (of_relation r s) j ≡ true → least_above k (of_relation r s) ≡ 0 → j ≤ k
        below j (inl b) h e = absurd (l.some j h (ltb-true _ _ b) e)
        below j (inr b) h e = ltb-false _ _ b
    go (inr p) l =
        let n = eqb-false _ _ p in
        let m = has_only r s _ (l.found n) in
        let q = position_some (least_above k (of_relation r s)) s m.0 in
        inl (record {
          here = q.from_one;
          within = q.within;
          above = rw q.keyed (l.above n);
          related = rw q.keyed m.1;
          least = λ j h e b. rw q.keyed (l.least j (only_has r s j h e) b);
        })

-- and nothing else is
pub follows_is : (s : List Rec) (r k p : ℕ) → distinct s ≡ true → Follows s r k p → follower s r k ≡ p
unfolding follower
follows_is s r k p d f =
    let h = only_has r s _ (has_record p s f.here f.within) f.related in
    let e : least_above k (of_relation r s) ≡ (record_at s p).key = least_is k _ _ f.above h (λ j g b. let m = has_only r s j g in f.least j m.0 m.1 b) in
    rw e (position_at p s d f.here f.within)

pub last_is : (s : List Rec) (r k p : ℕ) → has s 0 ≡ false → Last s r k p → follower s r k ≡ p
unfolding follower
last_is s r k p z f =
    let e : least_above k (of_relation r s) ≡ 0 = least_none k _ (λ j g. let m = has_only r s j g in f.least j m.0 m.1) in
    rw e (position_none 0 s z ∙ sym f.none)

pub follower_within : (s : List Rec) (r k : ℕ) → follower s r k ≤ length s
unfolding follower
follower_within s r k = position_within _ s
