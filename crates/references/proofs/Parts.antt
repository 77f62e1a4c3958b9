-- All records in list order, the part of a relation among them, and the record with a label in it.
-- Assumes nothing.
use Prim.Native.Nat.{ℕ, ◌+◌, ◌*◌, ◌-◌, ◌≤◌, ◌<◌}
use mathlib.Core.Path.{◌≡◌, sym, ◌∙◌, ap}
use mathlib.Core.List.{List}
use native.Mathlib.Omega.{arith}
use lib.ListN.{length, get_or, take, drop}
use Rattle.std.proofs.lemmas.List.{get_or-take, get_or-drop, length-take-le, length-drop}
use Rattle.crdt.proofs.Tests.{Tri, low, same, high, tri}
use Rattle.model.specs.Layout.{most_relations, used_at, relation_at}
use Rattle.model.specs.Records.{label_span, place, position}
use Rattle.model.specs.Tables.{decode}
use Rattle.judged.specs.Checked.{Checked}
use Rattle.references.specs.Order.{key_at, Ordered}
use Rattle.references.specs.Search.{half_word, Lower, Lists, Holds}
use Rattle.references.proofs.Places.{label_bounds, relation_most, key_is, key_relation, position_is, position_nowhere}
use Rattle.references.proofs.Order.{order_all}

-- the entries from `from` to before `to`
abbrev pub part : List ℕ → ℕ → ℕ → List ℕ
part a from to = take (to - from) (drop from a)

module _ (a : List ℕ) (from to : ℕ) (p : from ≤ to) (q : to ≤ length a) where
  pub part_length : length (part a from to) ≡ to - from
  part_length = length-take-le (to - from) (drop from a) (omega (arith, length-drop from a))

  pub part_at : (j : ℕ) → j < to - from → get_or (part a from to) j 0 ≡ get_or a (from + j) 0
  part_at j l = get_or-take (to - from) (drop from a) j 0 l ∙ get_or-drop from a j 0

module _ (s t : List ℕ) (c : Checked s t) where
  -- a key is below half a word
  key_small : (i : ℕ) → 1 ≤ i → i ≤ used_at t → key_at t i < half_word
  key_small i a b = omega (arith, key_is s t c i a b, label_bounds s t c i a b, relation_most s t c i a b)

  -- the keys of all records in list order
  pub lists_keyed : (o a : List ℕ) → Ordered t (place (most_relations + 1) 0) o (length o) → length a ≡ length o
      → ((j : ℕ) → j < length o → get_or a j 0 ≡ key_at t (get_or o j 0)) → Lists t o a
  lists_keyed o a h e k =
      record {
        keyed = record { long = e; least = h.least; within = h.within; at = k };
        sorted =
            record {
              small = λ j l. let m : j < length o = omega arith in rw (k j m) (key_small (get_or o j 0) (h.least j m) (h.within j m));
              rising = λ i j l m. let n : j < length o = omega arith in rw (k i (omega arith), k j n) (h.rising i j l n);
            };
        all = λ i p q none. let r = order_all s t c o (length o) h i p q in none r.0 r.1 r.2;
      }

  -- between the places of a relation and the next
  module _ (o a : List ℕ) (h : Lists t o a) (r from to : ℕ) (u : Lower a (r * label_span) from) (v : Lower a ((r + 1) * label_span) to) where
    pub parted : from ≤ to
    parted = go (tri to from)
      where
        go : Tri to from → from ≤ to
        go (low l) = absurd (omega (arith, u.below to l, v.above to (omega arith) (omega (arith, u.most))))
        go (same l) = omega arith
        go (high l) = omega arith

    room : to ≤ length o
    room = omega (arith, v.most, h.keyed.long)

    abbrev po : List ℕ
    po = part o from to

    abbrev pa : List ℕ
    pa = part a from to

    long : length po ≡ to - from
    long = part_length o from to parted room

    keys_long : length pa ≡ to - from
    keys_long = part_length a from to parted v.most

    at : (j : ℕ) → j < to - from → get_or po j 0 ≡ get_or o (from + j) 0
    at = part_at o from to parted room

    key_at_part : (j : ℕ) → j < to - from → get_or pa j 0 ≡ get_or a (from + j) 0
    key_at_part = part_at a from to parted v.most

    related : (j : ℕ) → from ≤ j → j < to → relation_at t (get_or o j 0) ≡ r
    related j l m =
        let q : j < length o = omega (arith, room) in
        omega (
          arith,
          key_relation s t c (get_or o j 0) (h.keyed.least j q) (h.keyed.within j q),
          h.keyed.at j q,
          u.above j l (omega (arith, v.most)),
          v.below j m,
        )

    -- a record of the relation among all is in the part
    module _ (i : ℕ) (x : 1 ≤ i) (y : i ≤ used_at t) (e : relation_at t i ≡ r) (j : ℕ) (l : j < length o) (q : get_or o j 0 ≡ i) where
      key : get_or a j 0 ≡ key_at t i
      key = h.keyed.at j l ∙ ap (λ (p : ℕ). key_at t p) q

      from_least : from ≤ j
      from_least = go (tri j from)
        where
          go : Tri j from → from ≤ j
          go (low m) = absurd (omega (arith, key, key_is s t c i x y, e, u.below j m))
          go (same m) = omega arith
          go (high m) = omega arith

      to_most : j < to
      to_most = go (tri j to)
        where
          behind : to ≤ j → ⊥
          behind m = omega (arith, key, key_is s t c i x y, label_bounds s t c i x y, e, v.above j m (omega (arith, h.keyed.long)))

          go : Tri j to → j < to
          go (low m) = m
          go (same m) = absurd (behind (omega arith))
          go (high m) = absurd (behind (omega arith))

    pub part_holds : Holds t po pa r
    part_holds =
        record {
          keyed =
              record {
                long = omega (arith, long, keys_long);
                least = λ j l. let m : j < to - from = omega (arith, long) in rw (at j m) (h.keyed.least (from + j) (omega (arith, room)));
                within = λ j l. let m : j < to - from = omega (arith, long) in rw (at j m) (h.keyed.within (from + j) (omega (arith, room)));
                at = λ j l. let m : j < to - from = omega (arith, long) in rw (at j m, key_at_part j m) (h.keyed.at (from + j) (omega (arith, room)));
              };
          sorted =
              record {
                small = λ j l. let m : j < to - from = omega (arith, keys_long) in rw (key_at_part j m) (h.sorted.small (from + j) (omega (arith, v.most)));
                rising = λ i j l k. let m : j < to - from = omega (arith, keys_long) in
                    rw (key_at_part i (omega arith), key_at_part j m) (h.sorted.rising (from + i) (from + j) (omega arith) (omega (arith, v.most)));
              };
          related = λ j l. let m : j < to - from = omega (arith, long) in rw (at j m) (related (from + j) (omega arith) (omega arith));
          all = λ i x y e none. h.all i x y (λ j l q. inside i x y e none j l q);
        }
      where
        inside : (i : ℕ) → 1 ≤ i → i ≤ used_at t → relation_at t i ≡ r → ((j : ℕ) → j < length po → get_or po j 0 ≡ i → ⊥)
            → (j : ℕ) → j < length o → get_or o j 0 ≡ i → ⊥
        inside i x y e none j l q =
            let f = from_least i x y e j l q in
            let b = to_most i x y e j l q in
            let z : from + (j - from) ≡ j = omega arith in
            none (j - from) (omega (arith, long)) (at (j - from) (omega arith) ∙ ap (λ (n : ℕ). get_or o n 0) z ∙ q)

  -- a label looked for in a part
  module _ (o a : List ℕ) (r x at : ℕ) (h : Holds t o a r) (below : x < label_span) (w : Lower a (place r x) at) where
    missing : ((j : ℕ) → j < length a → get_or a j 0 ≡ place r x → ⊥) → position (place r x) (decode t).records ≡ 0
    missing f = position_nowhere s t c (place r x) none
      where
        none : (i : ℕ) → 1 ≤ i → i ≤ used_at t → key_at t i ≡ place r x → ⊥
        none i p q e = h.all i p q (omega (arith, key_relation s t c i p q, e))
            (λ j l z. f j (omega (arith, h.keyed.long)) (h.keyed.at j l ∙ ap (λ (p : ℕ). key_at t p) z ∙ e))

    -- behind all smaller keys
    pub found_past : length a ≤ at → position (place r x) (decode t).records ≡ 0
    found_past l = missing (λ j p q. omega (arith, w.below j (omega arith)))

    pub found_here : (i : ℕ) → at < length a → i ≡ get_or o at 0 → get_or a at 0 ≡ place r x → (1 ≤ i) × (i ≡ position (place r x) (decode t).records)
    found_here i l e q =
        let m : at < length o = omega (arith, h.keyed.long) in
        let y : key_at t i ≡ place r x = ap (λ (p : ℕ). key_at t p) e ∙ sym (h.keyed.at at m) ∙ q in
        let p : 1 ≤ i = omega (arith, h.keyed.least at m) in
        (p, rw (← y) (sym (position_is s t c i p (omega (arith, h.keyed.within at m)))))

    pub found_none : at < length a → (get_or a at 0 ≡ place r x → ⊥) → position (place r x) (decode t).records ≡ 0
    found_none l ne = missing go
      where
        go : (j : ℕ) → j < length a → get_or a j 0 ≡ place r x → ⊥
        go j p q = by (tri j at)
          where
            by : Tri j at → ⊥
            by (low m) = omega (arith, w.below j m)
            by (same m) = ne (rw m at q)
            by (high m) = omega (arith, w.above at (omega arith) l, h.sorted.rising at j m p)
