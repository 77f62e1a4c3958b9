-- The steps of seeking and adding a record in the forms in which the code asks for them.
-- Assumes nothing.
use Prim.Native.Nat.{ℕ, ◌+◌, ◌≤◌, ◌<◌}
use mathlib.Core.Path.{◌≡◌}
use mathlib.Core.Bool.{true, false, ◌&&◌}
use mathlib.Core.List.{List}
use native.Mathlib.Omega.{arith}
use lib.Dec.{eqb, ltb}
use lib.ListN.{set}
use Rattle.model.specs.Layout.{most_relations, most_records, used_word, word, base, used_at, next_at, label_at}
use Rattle.merge_laws.specs.Absorb.{records_in, ahead, Whole, Linked, precedes, meets, Sought, Seekable, added}
use Rattle.merge_laws.proofs.Walk.{link_on, ahead_less, used_is}

module _ (t : List ℕ) (link label i x : ℕ) where
  pub precedes_is : i ≡ word t link → x ≡ label_at t i → (ltb 0 i && ltb x label) ≡ precedes t link label
  unfolding precedes
  precedes_is e d = rw (d, e)

  pub meets_is : i ≡ word t link → x ≡ label_at t i → (ltb 0 i && eqb x label) ≡ meets t link label
  unfolding meets
  meets_is e d = rw (d, e)

pub added_is : (t t₁ t₂ t₃ t₄ t₅ : List ℕ) (link r l next n at : ℕ) → next ≡ word t link → n ≡ used_at t → at ≡ base (n + 1)
    → t₁ ≡ set t at next → t₂ ≡ set t₁ (at + 1) r → t₃ ≡ set t₂ (at + 2) l → t₄ ≡ set t₃ used_word (n + 1) → t₅ ≡ set t₄ link (n + 1) → t₅ ≡ added t link r l
unfolding added
added_is t t₁ t₂ t₃ t₄ t₅ link r l next n at a b c d e f g h = rw (h, g, f, e, d, c, b, a)

-- the walk along a chain of the own table
module _ (t : List ℕ) (label from link : ℕ) (q : Seekable t label from) (inv : (r : ℕ) → 1 ≤ r → r ≤ most_relations → Linked (records_in t) r label from → Linked (records_in t) r label link) where
  pub seek_in : precedes t link label ≡ true → (1 ≤ word t link) × (word t link ≤ most_records)
  seek_in p =
      let w = q.whole in
      let n = link_on t w q.relation label q.least q.most link (inv q.relation q.least q.most q.linked) p in
      (n.0, omega (arith, n.1, w.value.room, w.value.most))

  pub seek_less : precedes t link label ≡ true → (i at : ℕ) → i ≡ word t link → at ≡ base i → ahead (records_in t) (word t at) < ahead (records_in t) (word t link)
  unfolding next_at
  seek_less p i at e d =
      let w = q.whole in
      let n = link_on t w q.relation label q.least q.most link (inv q.relation q.least q.most q.linked) p in
      rw (d, e) (ahead_less t w (word t link) n.0 n.1)

  pub seek_again : precedes t link label ≡ true → (i at : ℕ) → i ≡ word t link → at ≡ base i → (r : ℕ) → 1 ≤ r → r ≤ most_relations → Linked (records_in t) r label from → Linked (records_in t) r label at
  seek_again p i at e d r r₁ r₂ l = rw (d, e) (link_on t q.whole r label r₁ r₂ link (inv r r₁ r₂ l) p).2

  pub seek_done : precedes t link label ≡ false → (r : ℕ) → 1 ≤ r → r ≤ most_relations → Linked (records_in t) r label from → Sought t r label link
  seek_done p r r₁ r₂ l = record { linked = inv r r₁ r₂ l; stops = p }

pub used_most : (t : List ℕ) → Whole t → used_at t ≤ most_records
used_most t w = omega (arith, used_is t w, w.value.room, w.value.most)

-- what a search promises, of any relation
abbrev pub Seeks : List ℕ → ℕ → ℕ → ℕ → Type 0
Seeks t l a a' = (r : ℕ) → 1 ≤ r → r ≤ most_relations → Linked (records_in t) r l a → Sought t r l a'

pub sought_at : (t b : List ℕ) (r j a l a' : ℕ) → 1 ≤ r → r ≤ most_relations → l ≡ label_at b j → Linked (records_in t) r (label_at b j) a → Seeks t l a a' → Sought t r (label_at b j) a'
sought_at t b r j a l a' r₁ r₂ e k s = (rw e at s) r r₁ r₂ k
