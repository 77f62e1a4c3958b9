-- The links of a well-formed table follow from its records.
-- Assumes nothing.
use Prim.Native.Nat.{ℕ, ◌/◌, ◌≤◌, ◌<◌}
use mathlib.Core.Path.{◌≡◌, refl, sym, ◌∙◌, ap}
use mathlib.Core.Bool.{true, false}
use mathlib.Core.List.{List}
use native.Mathlib.Omega.{arith}
use lib.ListN.{length}
use Rattle.crdt.proofs.Tests.{Tri, low, same, high, tri}
use Rattle.model.specs.Layout.{most_relations, used_at, first_at, next_at, relation_at, label_at}
use Rattle.model.specs.Lists.{listed}
use Rattle.model.specs.Schemas.{broken}
use Rattle.model.specs.Records.{Rec, label_span, place, relation, has, position}
use Rattle.model.specs.Tables.{record_of, decode, follower}
use Rattle.model.specs.WellFormed.{chain_of, well_formed}
use Rattle.wellformed.proofs.Follow.{no_rec, record_at, position_some, follows_is, last_is}
use Rattle.wellformed.proofs.Ranges.{listed_length, listed_at}
use Rattle.wellformed.proofs.Facts.{SoundSchema, schema_sound, Formed, formed}
use Rattle.wellformed.proofs.Chains.{lies, Least, none, least, first_least, next_least, chain_in_lem, on_own}
use Rattle.wellformed.proofs.Values.{has_from, label_bounds, relation_is, records_distinct}

key_is : (t : List ℕ) (i : ℕ) → (record_of t i).key ≡ place (relation_at t i) (label_at t i)
unfolding record_of
key_is t i = refl

module _ (s t : List ℕ) (sound : SoundSchema s) (fm : Formed s t) where
  abbrev recs : List Rec
  recs = listed (used_at t) (record_of t)

  recs_length : length recs ≡ used_at t
  recs_length = listed_length (used_at t) (record_of t)

  -- the record of a position
  at_position : (i : ℕ) → 1 ≤ i → i ≤ used_at t → record_at recs i ≡ record_of t i
  at_position i a b = listed_at (used_at t) (record_of t) i no_rec a b

  no_zero : has recs 0 ≡ false
  unfolding listed
  no_zero = has_from 1 (used_at t) 0 (record_of t) (λ j a b e. omega (arith, (label_bounds s t sound fm j a (omega arith)).0, key_is t j))

  -- a key of relation r is that of a record of its chain
  key_of_lem : (r j : ℕ) → has recs j ≡ true → j / label_span ≡ r → (i : ℕ) × (lies i (chain_of t r) ≡ true) × (1 ≤ label_at t i) × (j ≡ place r (label_at t i))
  key_of_lem r j h e =
      let p = position_some j recs h in
      let a = p.from_one in
      let i = position j recs in
      let b : i ≤ used_at t = omega (arith, p.within, recs_length) in
      let k : (record_of t i).key ≡ j = ap (λ (x : Rec). x.key) (sym (at_position i a b)) ∙ p.keyed in
      let q : relation_at t i ≡ r = sym (relation_is s t sound fm i a b) ∙ ap (λ (n : ℕ). n / label_span) k ∙ e in
      (i, rw q at (on_own t fm.up i (fm.on i a b)).2, (label_bounds s t sound fm i a b).0, sym k ∙ key_is t i ∙ ap (λ (n : ℕ). place n (label_at t i)) q)

  -- where the labels above bound are those of the keys above k
  follower_is : (r k bound p : ℕ) → 1 ≤ r → r ≤ most_relations → ((l : ℕ) → bound < l → k < place r l) → ((l : ℕ) → 1 ≤ l → l ≤ bound → place r l ≤ k)
      → Least t (chain_of t r) bound p → follower recs r k ≡ p
  follower_is r k bound p a b up down (none f) =
      last_is recs r k 0 no_zero (record { none = refl; least = λ j h e. let q = key_of_lem r j h e in rw q.3 (down (label_at t q.0) q.2 (f q.0 q.1)) })
  follower_is r k bound p a b up down (least l g f) =
      let c = chain_in_lem t r (fm.up r a b) p l in
      let x = at_position p c.0 c.1 in
      let key : (record_at recs p).key ≡ place r (label_at t p) = ap (λ (y : Rec). y.key) x ∙ key_is t p ∙ ap (λ (n : ℕ). place n (label_at t p)) c.2 in
      follows_is recs r k p (records_distinct s t sound fm)
      (record {
        here = c.0;
        within = omega (arith, c.1, recs_length);
        above = rw key (up (label_at t p) g);
        related = ap (λ (y : Rec). relation y) x ∙ relation_is s t sound fm p c.0 c.1 ∙ c.2;
        least = λ j h e d. let q = key_of_lem r j h e in rw key (after j d q (tri bound (label_at t q.0)));
      })
    where
      after : (j : ℕ) → k < j → (q : (i : ℕ) × (lies i (chain_of t r) ≡ true) × (1 ≤ label_at t i) × (j ≡ place r (label_at t i)))
          → Tri bound (label_at t q.0) → place r (label_at t p) ≤ j
      after j d q (low n) = omega (arith, f q.0 q.1 n, q.3)
      after j d q (same n) = absurd (omega (arith, down (label_at t q.0) q.2 (omega arith), q.3))
      after j d q (high n) = absurd (omega (arith, down (label_at t q.0) q.2 (omega arith), q.3))

  pub first_link : (r : ℕ) → 1 ≤ r → r ≤ most_relations → first_at t r ≡ follower recs r 0
  first_link r a b =
      sym (follower_is r 0 0 (first_at t r) a b (λ l h. omega arith) (λ l h g. absurd (omega arith)) (first_least t r (fm.up r a b)))

  pub next_link : (i : ℕ) → 1 ≤ i → i ≤ used_at t → next_at t i ≡ follower recs (relation (record_of t i)) (record_of t i).key
  next_link i a b =
      let o = on_own t fm.up i (fm.on i a b) in
      rw (relation_is s t sound fm i a b, key_is t i)
      (sym (follower_is (relation_at t i) (place (relation_at t i) (label_at t i)) (label_at t i) (next_at t i) o.0 o.1 (λ l h. omega arith) (λ l h g. omega arith)
      (next_least t (relation_at t i) (fm.up (relation_at t i) o.0 o.1) i o.2)))

-- the same of the table's value
module _ (s t : List ℕ) (b : broken s ≡ false) (w : well_formed s t ≡ true) where
  pub formed_first : (r : ℕ) → 1 ≤ r → r ≤ most_relations → first_at t r ≡ follower (decode t).records r 0
  unfolding decode
  formed_first r l h = first_link s t (schema_sound s b) (formed s t w) r l h

  pub formed_next : (i : ℕ) → 1 ≤ i → i ≤ used_at t → next_at t i ≡ follower (decode t).records (relation (record_of t i)) (record_of t i).key
  unfolding decode
  formed_next i l h = next_link s t (schema_sound s b) (formed s t w) i l h
