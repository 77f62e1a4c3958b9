-- The array of positions in list order as the chains fill it: one position more, and from one relation to the next.
-- Assumes nothing.
use Prim.Native.Nat.{ℕ, ◌+◌, ◌/◌, ◌≤◌, ◌<◌}
use mathlib.Core.Path.{◌≡◌, sym, ◌∙◌, ap}
use mathlib.Core.Logic.{◌⊎◌, inl, inr}
use mathlib.Core.List.{List}
use native.Mathlib.Omega.{arith}
use lib.ListN.{length, get_or, set, take}
use lib.Seq.{get_or-set_same, get_or-set_other}
use Rattle.std.proofs.lemmas.List.{get_or-take, length-take-le}
use Rattle.crdt.proofs.Tests.{Tri, low, same, high, tri}
use Rattle.model.specs.Layout.{most_relations, most_records, used_at, first_at, next_at, relation_at}
use Rattle.model.specs.Records.{Rec, label_span, place}
use Rattle.model.specs.Tables.{decode, follower}
use Rattle.wellformed.proofs.Follow.{record_at, Follows, Last, follows, follows_is, last_is}
use Rattle.wellformed.proofs.Links.{formed_first, formed_next}
use Rattle.judged.specs.Checked.{Checked}
use Rattle.references.specs.Order.{key_at, Ordered}
use Rattle.references.proofs.Room.{room, room_more}
use Rattle.references.proofs.Places.{used_most, recs_length, recs_distinct, no_key, at_position, label_bounds, relation_least, relation_most, key_is, key_relation, has_key, same_key}

-- an entry after a store
pub entry_last : (o : List ℕ) (n x : ℕ) → n < length o → get_or (set o n x) n 0 ≡ x
entry_last o n x h = get_or-set_same o n x 0 h

pub entry_before : (o : List ℕ) (n x j : ℕ) → j < n → get_or (set o n x) j 0 ≡ get_or o j 0
entry_before o n x j h = get_or-set_other o n j x 0 (λ e. omega arith)

-- the entries alone
pub order_cut : (t : List ℕ) (k : ℕ) (o : List ℕ) (n : ℕ) → n ≤ length o → Ordered t k o n → Ordered t k (take n o) n
order_cut t k o n fits h =
    record {
      least = λ j l. rw (at j l) (h.least j l);
      within = λ j l. rw (at j l) (h.within j l);
      upto = λ j l. rw (at j l) (h.upto j l);
      rising = λ i j l m. rw (at i (omega arith), at j m) (h.rising i j l m);
      all = λ i a b l. let r = h.all i a b l in (r.0, r.1, at r.0 r.1 ∙ r.2);
    }
  where
    at : (j : ℕ) → j < n → get_or (take n o) j 0 ≡ get_or o j 0
    at j l = get_or-take n o j 0 l

-- and an array of keys beside them
pub order_pair : (t : List ℕ) (k : ℕ) (o a : List ℕ) (n : ℕ) → n ≤ length o → n ≤ length a → Ordered t k o n
    → (length (take n a) ≡ length (take n o)) × Ordered t k (take n o) (length (take n o))
order_pair t k o a n fits room h =
    let e = length-take-le n o fits in
    (omega (arith, e, length-take-le n a room), rw e (order_cut t k o n fits h))

-- Along the chain of relation r: the records up to a key are listed, and i is what follows it.
pub record Along (t : List ℕ) (r i : ℕ) (o : List ℕ) (n : ℕ) : Type 0 where
  pub last : ℕ
  pub ordered : Ordered t last o n
  pub above : place r 0 ≤ last
  pub below : last < place (r + 1) 0
  pub next : i ≡ follower (decode t).records r last

-- What a turn of the walk knows: a record at i, and room for it.
pub record Turn (t : List ℕ) (n i l : ℕ) : Type 0 where
  pub least : 1 ≤ i
  pub most : i ≤ used_at t
  pub small : used_at t ≤ most_records
  pub few : n < used_at t
  pub room : n < l

module _ (s t : List ℕ) (c : Checked s t) where
  abbrev recs : List Rec
  recs = (decode t).records

  -- the entries are no more than the records
  module _ (k : ℕ) (o : List ℕ) (n : ℕ) (h : Ordered t k o n) where
    once : (i j : ℕ) → i < j → j < n → get_or o i 0 ≡ get_or o j 0 → ⊥
    once i j l m e = omega (arith, h.rising i j l m, ap (λ (p : ℕ). key_at t p) e)

    pub order_room : n ≤ used_at t
    order_room = room o (used_at t) n h.least h.within once

    -- and fewer where a record has a larger key
    pub order_more : (i : ℕ) → 1 ≤ i → i ≤ used_at t → k < key_at t i → n < used_at t
    order_more i a b l = room_more o (used_at t) n h.least h.within once i a b (λ j m e. omega (arith, h.upto j m, ap (λ (p : ℕ). key_at t p) e))

  -- no entry
  pub order_none : (o : List ℕ) → Ordered t (place 1 0) o 0
  order_none o =
      record {
        least = λ j l. absurd (omega arith);
        within = λ j l. absurd (omega arith);
        upto = λ j l. absurd (omega arith);
        rising = λ i j l m. absurd (omega arith);
        all = λ i a b l. absurd (omega (arith, key_is s t c i a b, label_bounds s t c i a b, relation_least s t c i a b));
      }

  -- one entry more: the record with the least key above
  module _ (k : ℕ) (o : List ℕ) (n i : ℕ) (h : Ordered t k o n) (fits : n < length o) (a : 1 ≤ i) (b : i ≤ used_at t) (up : k < key_at t i)
      (next : (p : ℕ) → 1 ≤ p → p ≤ used_at t → k < key_at t p → key_at t i ≤ key_at t p) where
    entry : (P : ℕ → Type 0) (j : ℕ) → j < n + 1 → (j < n → P (get_or o j 0)) → P i → P (get_or (set o n i) j 0)
    entry P j l f q = go (tri j n)
      where
        go : Tri j n → P (get_or (set o n i) j 0)
        go (low m) = rw (entry_before o n i j m) (f m)
        go (same e) = rw (e, entry_last o n i fits) q
        go (high m) = absurd (omega arith)

    pub order_push : Ordered t (key_at t i) (set o n i) (n + 1)
    order_push =
        record {
          least = λ j l. entry (λ p. 1 ≤ p) j l (h.least j) a;
          within = λ j l. entry (λ p. p ≤ used_at t) j l (h.within j) b;
          upto = λ j l. entry (λ p. key_at t p ≤ key_at t i) j l (λ m. omega (arith, h.upto j m)) (omega arith);
          rising = λ p j l m. entry (λ q. key_at t (get_or (set o n i) p 0) < key_at t q) j m
              (λ r. rw (entry_before o n i p (omega arith)) (h.rising p j l r))
              (let r : p < n = omega arith in rw (entry_before o n i p r) (omega (arith, h.upto p r)));
          all = λ p x y l. go p x y l (tri k (key_at t p));
        }
      where
        old : (p : ℕ) → (j : ℕ) × (j < n) × (get_or o j 0 ≡ p) → (j : ℕ) × (j < n + 1) × (get_or (set o n i) j 0 ≡ p)
        old p r = (r.0, omega (arith, r.1), entry_before o n i r.0 r.1 ∙ r.2)

        go : (p : ℕ) → 1 ≤ p → p ≤ used_at t → key_at t p ≤ key_at t i → Tri k (key_at t p) → (j : ℕ) × (j < n + 1) × (get_or (set o n i) j 0 ≡ p)
        go p x y l (low m) = (n, omega arith, entry_last o n i fits ∙ same_key s t c i p a b x y (omega (arith, next p x y m)))
        go p x y l (same m) = old p (h.all p x y (omega arith))
        go p x y l (high m) = old p (h.all p x y (omega arith))

  -- no record between
  pub order_skip : (k m : ℕ) (o : List ℕ) (n : ℕ) → Ordered t k o n → k ≤ m → ((p : ℕ) → 1 ≤ p → p ≤ used_at t → key_at t p ≤ m → key_at t p ≤ k) → Ordered t m o n
  order_skip k m o n h l f =
      record {
        least = h.least;
        within = h.within;
        upto = λ j q. omega (arith, h.upto j q);
        rising = h.rising;
        all = λ i a b q. h.all i a b (f i a b q);
      }

  -- what follows key k in the chain of relation r, by its position
  met_within : (r k p : ℕ) → Follows recs r k p → p ≤ used_at t
  met_within r k p f = omega (arith, f.within, recs_length s t c)

  met_key : (r k p : ℕ) (f : Follows recs r k p) → (record_at recs p).key ≡ key_at t p
  met_key r k p f = ap (λ (x : Rec). x.key) (at_position s t c p f.here (met_within r k p f))

  -- the first of a chain follows the place of its relation too
  first_is : (r : ℕ) → Follows recs r 0 (follower recs r 0) ⊎ Last recs r 0 (follower recs r 0) → follower recs r 0 ≡ follower recs r (place r 0)
  first_is r (inl f) =
      let p = follower recs r 0 in
      let b = met_within r 0 p f in
      let k = met_key r 0 p f in
      let e : relation_at t p ≡ r = sym (key_relation s t c p f.here b) ∙ ap (λ (n : ℕ). n / label_span) (sym k) ∙ f.related in
      sym (follows_is recs r (place r 0) p (recs_distinct s t c)
      (record {
        here = f.here;
        within = f.within;
        above = omega (arith, k, e, key_is s t c p f.here b, label_bounds s t c p f.here b);
        related = f.related;
        least = λ j h q l. f.least j h q (omega arith);
      }))
  first_is r (inr f) = sym (last_is recs r (place r 0) (follower recs r 0) (no_key s t c) (record { none = f.none; least = λ j h q. omega (arith, f.least j h q) }))

  pub along_start : (r i : ℕ) (o : List ℕ) (n : ℕ) → 1 ≤ r → r ≤ most_relations → Ordered t (place r 0) o n → i ≡ first_at t r → Along t r i o n
  along_start r i o n a b h e =
      record {
        last = place r 0;
        ordered = h;
        above = omega arith;
        below = omega arith;
        next = e ∙ formed_first s t c.schema c.formed r a b ∙ first_is r (follows recs r 0 (no_key s t c));
      }

  -- what i is, where it is a record
  module _ (r i : ℕ) (o : List ℕ) (n : ℕ) (w : Along t r i o n) (some : i ≡ 0 → ⊥) where
    met : Follows recs r w.last i
    met = go (rw (← w.next) at (follows recs r w.last (no_key s t c)))
      where
        go : Follows recs r w.last i ⊎ Last recs r w.last i → Follows recs r w.last i
        go (inl f) = f
        go (inr f) = absurd (some f.none)

    along_least : 1 ≤ i
    along_least = met.here

    along_most : i ≤ used_at t
    along_most = met_within r w.last i met

    key : (record_at recs i).key ≡ key_at t i
    key = met_key r w.last i met

    up : w.last < key_at t i
    up = rw key at met.above

    related : key_at t i / label_span ≡ r
    related = ap (λ (n : ℕ). n / label_span) (sym key) ∙ met.related

    next_above_lem : (p : ℕ) → 1 ≤ p → p ≤ used_at t → w.last < key_at t p → key_at t i ≤ key_at t p
    next_above_lem p a b l = go (tri r (key_at t p / label_span))
      where
        go : Tri r (key_at t p / label_span) → key_at t i ≤ key_at t p
        go (low m) = omega (arith, related)
        go (same m) = omega (arith, key, met.least (key_at t p) (has_key s t c p a b) (sym m) l)
        go (high m) = absurd (omega (arith, w.above))

    along_room : n < used_at t
    along_room = order_more w.last o n w.ordered i along_least along_most up

    pub along_turn : most_records ≤ length o → Turn t n i (length o)
    along_turn l =
        let m = used_most s t c in
        let f = along_room in
        record { least = along_least; most = along_most; small = m; few = f; room = omega arith }

    pub along_step : (m : ℕ) → n < length o → m ≡ next_at t i → Along t r m (set o n i) (n + 1)
    along_step m fits e =
        record {
          last = key_at t i;
          ordered = order_push w.last o n i w.ordered fits along_least along_most up next_above_lem;
          above = omega (arith, w.above, up);
          below = omega (arith, related);
          next = e ∙ formed_next s t c.schema c.formed i along_least along_most ∙ ap (λ (q : ℕ). follower recs q (key_at t i)) related;
        }

  pub along_end : (r i : ℕ) (o : List ℕ) (n : ℕ) → Along t r i o n → i ≡ 0 → Ordered t (place (r + 1) 0) o n
  along_end r i o n w z = order_skip w.last (place (r + 1) 0) o n w.ordered (omega (arith, w.below)) (λ p a b l. go p a b l (tri w.last (key_at t p)) (follows recs r w.last (no_key s t c)))
    where
      go : (p : ℕ) → 1 ≤ p → p ≤ used_at t → key_at t p ≤ place (r + 1) 0 → Tri w.last (key_at t p)
          → Follows recs r w.last (follower recs r w.last) ⊎ Last recs r w.last (follower recs r w.last) → key_at t p ≤ w.last
      go p a b l (high m) f = omega arith
      go p a b l (same m) f = omega arith
      go p a b l (low m) (inl f) = absurd (omega (arith, f.here, w.next))
      go p a b l (low m) (inr f) =
          let e : key_at t p / label_span ≡ r = omega (arith, key_is s t c p a b, label_bounds s t c p a b, w.above) in
          f.least (key_at t p) (has_key s t c p a b) e

  -- the records of all relations
  pub order_all : (o : List ℕ) (n : ℕ) → Ordered t (place (most_relations + 1) 0) o n → (i : ℕ) → 1 ≤ i → i ≤ used_at t → (j : ℕ) × (j < n) × (get_or o j 0 ≡ i)
  order_all o n h i a b = h.all i a b (omega (arith, key_is s t c i a b, label_bounds s t c i a b, relation_most s t c i a b))
