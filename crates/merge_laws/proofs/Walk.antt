-- A whole table's words, and the links along which a merge goes: each step leads on, and where it stops a record has the label sought or none has.
-- Assumes nothing.
use Prim.Native.Nat.{ℕ, suc, ◌+◌, ◌-◌, ◌/◌, ◌≤◌, ◌<◌}
use mathlib.Core.Path.{◌≡◌, refl, sym, ◌∙◌, ap, subst}
use mathlib.Core.Bool.{true, false}
use mathlib.Core.List.{List, [], ◌∷◌, ◌++◌}
use mathlib.Core.Logic.{◌⊎◌, inl, inr}
use native.Mathlib.Omega.{arith}
use lib.Dec.{eqb, ltb}
use lib.ListN.{length}
use borrow.Author.Tests.{eqb-true, eqb-false, eq-eqb, ne_eqb, ltb-true, ltb-false, lt-ltb, le-ltb}
use Rattle.crdt.specs.Flags.{largest_flag}
use Rattle.crdt.proofs.Tests.{test, clash, and_left, and_right, and_both}
use Rattle.model.specs.Layout.{most_relations, first_words, word, base, capacity_of, used_at, clock_at, first_at, next_at, relation_at, label_at, flag_at}
use Rattle.model.specs.Lists.{only}
use Rattle.model.specs.Records.{Rec, place, relation, label, label_span, has, position}
use Rattle.model.specs.Tables.{Table, decode, encode, record_of, follower}
use Rattle.wellformed.proofs.Ranges.{listed_at}
use Rattle.wellformed.proofs.Follow.{has_none, has_cases, has_record, position_at, Follows, Last, follows}
use Rattle.wellformed.proofs.Words.{decode_fits}
use Rattle.merge_laws.specs.Absorb.{no_rec, nth, records_in, with_records, blank, ahead, SoundTable, Whole, Linked, first, next, precedes, meets, Sought, added}
use Rattle.merge_laws.proofs.Spell.{Spells, encode_spells}
use Rattle.merge_laws.proofs.Frames.{fits, no_zero}
use Rattle.merge_laws.proofs.Added.{added_first, added_behind}

-- The words of a sound value are whole.
pub encode_decode : (v : Table) → SoundTable v → decode (encode v) ≡ v
encode_decode v w = decode_fits v (fits v w)

pub whole_encode : (v : Table) → SoundTable v → Whole (encode v)
whole_encode v w =
    let e = encode_decode v w in
    record { words = ap encode e; value = subst (λ (u : Table). SoundTable u) (sym e) w }

-- how many records have a key above k
above : ℕ → List Rec → ℕ
above k s = length (only (λ (x : Rec). ltb k x.key) s)

above_yes : (k : ℕ) (x : Rec) (xs : List Rec) → k < x.key → above k (x ∷ xs) ≡ suc (above k xs)
unfolding above only
above_yes k x xs h = rw (lt-ltb k x.key h)

above_no : (k : ℕ) (x : Rec) (xs : List Rec) → x.key ≤ k → above k (x ∷ xs) ≡ above k xs
unfolding above only
above_no k x xs h = rw (le-ltb k x.key h)

above_down : (k m : ℕ) (s : List Rec) → k < m → above m s ≤ above k s
above_down k m [] l = unfold above only in omega arith
above_down k m (x ∷ xs) l = go (test (ltb m x.key)) (test (ltb k x.key)) (above_down k m xs l)
  where
    go : (ltb m x.key ≡ true) ⊎ (ltb m x.key ≡ false) → (ltb k x.key ≡ true) ⊎ (ltb k x.key ≡ false) → above m xs ≤ above k xs → above m (x ∷ xs) ≤ above k (x ∷ xs)
    go (inl p) q ih = let a = ltb-true m x.key p in omega (arith, above_yes m x xs a, above_yes k x xs (omega arith))
    go (inr p) (inl q) ih = omega (arith, above_no m x xs (ltb-false m x.key p), above_yes k x xs (ltb-true k x.key q))
    go (inr p) (inr q) ih = omega (arith, above_no m x xs (ltb-false m x.key p), above_no k x xs (ltb-false k x.key q))

above_less : (k m : ℕ) (s : List Rec) → has s m ≡ true → k < m → above m s < above k s
above_less k m [] h l = clash h (has_none m)
above_less k m (x ∷ xs) h l = go (has_cases x xs m h) (test (ltb m x.key)) (test (ltb k x.key)) (λ p. above_less k m xs p l)
  where
    go : (m ≡ x.key) ⊎ (has xs m ≡ true) → (ltb m x.key ≡ true) ⊎ (ltb m x.key ≡ false) → (ltb k x.key ≡ true) ⊎ (ltb k x.key ≡ false)
        → (has xs m ≡ true → above m xs < above k xs) → above m (x ∷ xs) < above k (x ∷ xs)
    go (inl e) p q ih = omega (arith, above_no m x xs (omega arith), above_yes k x xs (omega arith), above_down k m xs l)
    go (inr g) (inl p) q ih = let a = ltb-true m x.key p in omega (arith, above_yes m x xs a, above_yes k x xs (omega arith), ih g)
    go (inr g) (inr p) (inl q) ih = omega (arith, above_no m x xs (ltb-false m x.key p), above_yes k x xs (ltb-true k x.key q), ih g)
    go (inr g) (inr p) (inr q) ih = omega (arith, above_no m x xs (ltb-false m x.key p), above_no k x xs (ltb-false k x.key q), ih g)

ahead_some : (s : List Rec) (i : ℕ) → 1 ≤ i → ahead s i ≡ suc (above (nth s i).key s)
unfolding ahead above
ahead_some s i h = rw (ne_eqb i 0 (omega arith))

ahead_none : (s : List Rec) (i : ℕ) → i ≡ 0 → ahead s i ≡ 0
unfolding ahead
ahead_none s i h = rw (eq-eqb i 0 h)

module _ (t : List ℕ) (w : Whole t) where
  spelled : Spells t (decode t)
  spelled = subst (λ (u : List ℕ). Spells u (decode t)) w.words (encode_spells (decode t) (fits (decode t) w.value))

  pub used_is : used_at t ≡ length (records_in t)
  unfolding used_at
  used_is = spelled.used

  pub clock_is : clock_at t ≡ (decode t).clock
  unfolding clock_at
  clock_is = spelled.clock

  pub capacity_is : capacity_of t ≡ (decode t).capacity
  unfolding decode
  capacity_is = refl

  pub first_is : (r : ℕ) → 1 ≤ r → r ≤ most_relations → first_at t r ≡ follower (records_in t) r 0
  unfolding first_at
  first_is r a b =
      let e : first_words + (r - 1) - (first_words - 1) ≡ r = omega arith in
      rw e at (spelled.firsts (first_words + (r - 1)) (omega arith) (omega arith))

  module _ (i : ℕ) (a : 1 ≤ i) (b : i ≤ length (records_in t)) where
    pub next_is : next_at t i ≡ follower (records_in t) (relation (nth (records_in t) i)) (nth (records_in t) i).key
    unfolding next_at
    next_is = spelled.nexts i a b

    pub relation_is : relation_at t i ≡ relation (nth (records_in t) i)
    unfolding relation_at
    relation_is = spelled.relations i a b

    pub label_is : label_at t i ≡ label (nth (records_in t) i)
    unfolding label_at
    label_is = spelled.labels i a b

    pub flag_is : flag_at t i ≤ largest_flag
    unfolding flag_at
    flag_is = omega (arith, spelled.flags i a b, (w.value.sound i a b).flagged)

    pub record_is : record_of t i ≡ nth (records_in t) i
    unfolding decode
    record_is = sym (listed_at (used_at t) (record_of t) i no_rec a (omega (arith, used_is)))

    -- fewer records are left at the next one
    pub ahead_less : ahead (records_in t) (next_at t i) < ahead (records_in t) i
    ahead_less = go (subst (λ (j : ℕ). Follows (records_in t) (relation (nth (records_in t) i)) (nth (records_in t) i).key j ⊎ Last (records_in t) (relation (nth (records_in t) i)) (nth (records_in t) i).key j) (sym next_is) (follows (records_in t) (relation (nth (records_in t) i)) (nth (records_in t) i).key (no_zero (decode t) w.value)))
      where
        go : Follows (records_in t) (relation (nth (records_in t) i)) (nth (records_in t) i).key (next_at t i) ⊎ Last (records_in t) (relation (nth (records_in t) i)) (nth (records_in t) i).key (next_at t i) → ahead (records_in t) (next_at t i) < ahead (records_in t) i
        go (inl f) =
            omega (
              arith,
              ahead_some (records_in t) i a,
              ahead_some (records_in t) (next_at t i) f.here,
              above_less (nth (records_in t) i).key (nth (records_in t) (next_at t i)).key (records_in t) (has_record (next_at t i) (records_in t) f.here f.within) f.above,
            )
        go (inr f) = omega (arith, ahead_some (records_in t) i a, ahead_none (records_in t) (next_at t i) f.none)

-- What lies before a link: its key, 0 at the first, is below the place sought, and the link leads to what follows it.
record Before (t : List ℕ) (r l a : ℕ) : Type 0 where
  key : ℕ
  below : key < place r l
  link : word t a ≡ follower (records_in t) r key

module _ (t : List ℕ) (w : Whole t) (r l : ℕ) (r₁ : 1 ≤ r) (r₂ : r ≤ most_relations) where
  before : (a : ℕ) → Linked (records_in t) r l a → Before t r l a
  before _ first =
      record {
        key = 0;
        below = omega arith;
        link = first_link;
      }
    where
      first_link : word t (first_words + (r - 1)) ≡ follower (records_in t) r 0
      first_link = let e : first_words + (r - 1) - (first_words - 1) ≡ r = omega arith in rw e at ((spelled t w).firsts (first_words + (r - 1)) (omega arith) (omega arith))
  before _ (next p x y e b) =
      record {
        key = (nth (records_in t) p).key;
        below = omega arith;
        link = (spelled t w).nexts p x y ∙ ap (λ (q : ℕ). follower (records_in t) q (nth (records_in t) p).key) e;
      }

  module _ (a : ℕ) (q : Linked (records_in t) r l a) where
    -- where the link leads
    leads_to_lem : (b : Before t r l a) → Follows (records_in t) r b.key (word t a) ⊎ Last (records_in t) r b.key (word t a)
    leads_to_lem b = subst (λ (j : ℕ). Follows (records_in t) r b.key j ⊎ Last (records_in t) r b.key j) (sym b.link) (follows (records_in t) r b.key (no_zero (decode t) w.value))

    pub link_within : word t a ≤ length (records_in t)
    link_within = go (leads_to_lem (before a q))
      where
        go : Follows (records_in t) r (before a q).key (word t a) ⊎ Last (records_in t) r (before a q).key (word t a) → word t a ≤ length (records_in t)
        go (inl f) = f.within
        go (inr f) = omega (arith, f.none)

    -- a step along the chain
    pub link_on : precedes t a l ≡ true → (1 ≤ word t a) × (word t a ≤ length (records_in t)) × Linked (records_in t) r l (base (word t a))
    unfolding precedes
    link_on h = go (leads_to_lem (before a q))
      where
        up : 0 < word t a
        up = ltb-true 0 (word t a) (and_left (ltb 0 (word t a)) (ltb (label_at t (word t a)) l) h)

        low : label_at t (word t a) < l
        low = ltb-true (label_at t (word t a)) l (and_right (ltb 0 (word t a)) (ltb (label_at t (word t a)) l) h)

        go : Follows (records_in t) r (before a q).key (word t a) ⊎ Last (records_in t) r (before a q).key (word t a) → (1 ≤ word t a) × (word t a ≤ length (records_in t)) × Linked (records_in t) r l (base (word t a))
        go (inl f) = (f.here, f.within, next (word t a) f.here f.within f.related (omega (arith, low, label_is t w (word t a) f.here f.within)))
        go (inr f) = absurd (omega (arith, up, f.none))

  added_linked : (a : ℕ) (k : Linked (records_in t) r l a) → 1 ≤ l → l < label_span → has (records_in t) (place r l) ≡ false → length (records_in t) < (decode t).capacity
      → ((j : ℕ) → has (records_in t) j ≡ true → j / label_span ≡ r → (before a k).key < j → place r l < j)
      → added (encode (decode t)) a r l ≡ encode (with_records (decode t) (records_in t ++ (blank (place r l) ∷ [])))
  unfolding before
  added_linked _ first l₁ l₂ new room g = added_first (decode t) w.value r l r₁ r₂ l₁ l₂ new room (λ j h e. g j h e (omega arith))
  added_linked _ (next p x y e b) l₁ l₂ new room g = added_behind (decode t) w.value r l r₁ r₂ l₁ l₂ new room p x y e (omega arith) g

  -- where the walk stops
  module _ (a : ℕ) (q : Sought t r l a) (l₁ : 1 ≤ l) (l₂ : l < label_span) where
    stop : Before t r l a
    stop = before a q.linked

    stop_high : 1 ≤ word t a → l ≤ label_at t (word t a)
    unfolding precedes
    stop_high h = go (test (ltb (label_at t (word t a)) l))
      where
        go : (ltb (label_at t (word t a)) l ≡ true) ⊎ (ltb (label_at t (word t a)) l ≡ false) → l ≤ label_at t (word t a)
        go (inl e) = clash (and_both _ _ (lt-ltb 0 (word t a) h) e) q.stops
        go (inr e) = ltb-false (label_at t (word t a)) l e

    -- no record of the relation lies between
    gap : (j : ℕ) → has (records_in t) j ≡ true → j / label_span ≡ r → stop.key < j → place r l ≤ j
    gap j h e b = go (leads_to_lem a q.linked stop)
      where
        go : Follows (records_in t) r stop.key (word t a) ⊎ Last (records_in t) r stop.key (word t a) → place r l ≤ j
        go (inl f) = omega (arith, f.least j h e b, f.related, stop_high f.here, label_is t w (word t a) f.here f.within)
        go (inr f) = absurd (omega (arith, f.least j h e))

    -- the record there has the label sought
    pub found : meets t a l ≡ true → (has (records_in t) (place r l) ≡ true) × (position (place r l) (records_in t) ≡ word t a)
    unfolding meets
    found h = go (leads_to_lem a q.linked stop)
      where
        up : 0 < word t a
        up = ltb-true 0 (word t a) (and_left (ltb 0 (word t a)) (eqb (label_at t (word t a)) l) h)

        here : label_at t (word t a) ≡ l
        here = eqb-true (label_at t (word t a)) l (and_right (ltb 0 (word t a)) (eqb (label_at t (word t a)) l) h)

        go : Follows (records_in t) r stop.key (word t a) ⊎ Last (records_in t) r stop.key (word t a) → (has (records_in t) (place r l) ≡ true) × (position (place r l) (records_in t) ≡ word t a)
        go (inl f) =
            let e : (nth (records_in t) (word t a)).key ≡ place r l = omega (arith, f.related, here, label_is t w (word t a) f.here f.within) in
            (rw e at (has_record (word t a) (records_in t) f.here f.within), rw e at (position_at (word t a) (records_in t) w.value.single f.here f.within))
        go (inr f) = absurd (omega (arith, up, f.none))

    -- or none has
    pub not_found : meets t a l ≡ false → has (records_in t) (place r l) ≡ false
    unfolding meets
    not_found h = go (test (has (records_in t) (place r l))) (leads_to_lem a q.linked stop)
      where
        go : (has (records_in t) (place r l) ≡ true) ⊎ (has (records_in t) (place r l) ≡ false) → Follows (records_in t) r stop.key (word t a) ⊎ Last (records_in t) r stop.key (word t a) → has (records_in t) (place r l) ≡ false
        go (inl g) (inl f) =
            let e : place r l / label_span ≡ r = omega arith in
            let i = f.least (place r l) g e stop.below in
            let k : label_at t (word t a) ≡ l = omega (arith, i, f.related, stop_high f.here, label_is t w (word t a) f.here f.within) in
            clash (and_both _ _ (lt-ltb 0 (word t a) f.here) (eq-eqb (label_at t (word t a)) l k)) h
        go (inl g) (inr f) = let e : place r l / label_span ≡ r = omega arith in absurd (omega (arith, f.least (place r l) g e, stop.below))
        go (inr g) f = g

    pub met : has (records_in t) (place r l) ≡ meets t a l
    met = go (test (meets t a l))
      where
        go : (meets t a l ≡ true) ⊎ (meets t a l ≡ false) → has (records_in t) (place r l) ≡ meets t a l
        go (inl e) = (found e).0 ∙ sym e
        go (inr e) = not_found e ∙ sym e

    -- A record added there.
    pub added_there : meets t a l ≡ false → length (records_in t) < (decode t).capacity → added t a r l ≡ encode (with_records (decode t) (records_in t ++ (blank (place r l) ∷ [])))
    unfolding stop
    added_there h room = subst (λ (u : List ℕ). added u a r l ≡ encode (with_records (decode t) (records_in t ++ (blank (place r l) ∷ [])))) w.words (added_linked a q.linked l₁ l₂ (not_found h) room strict)
      where
        strict : (j : ℕ) → has (records_in t) j ≡ true → j / label_span ≡ r → stop.key < j → place r l < j
        strict j g e b = go (test (eqb j (place r l)))
          where
            go : (eqb j (place r l) ≡ true) ⊎ (eqb j (place r l) ≡ false) → place r l < j
            go (inl c) = clash (rw (eqb-true j (place r l) c) at g) (not_found h)
            go (inr c) = let n = eqb-false j (place r l) c in omega (arith, gap j g e b)
