-- The walk through the chains in list order: where it stands, what it has passed, and what it gives.
-- Assumes nothing.
use Prim.Native.Nat.{ℕ, ◌+◌, ◌*◌, ◌-◌, ◌≤◌, ◌<◌}
use mathlib.Core.Path.{◌≡◌, refl, sym, ◌∙◌, ap}
use mathlib.Core.Logic.{◌⊎◌, inl, inr}
use mathlib.Core.Bool.{Bool, true, false, cond}
use mathlib.Core.List.{List}
use native.Mathlib.Omega.{arith}
use lib.Dec.{eqb}
use lib.ListN.{length, get_or}
use borrow.Author.Tests.{eqb-true, eqb-false, eq-eqb, ne_eqb}
use Rattle.crdt.proofs.Tests.{Tri, low, same, high, tri, test, clash}
use Rattle.model.specs.Layout.{most_relations, used_at, first_at, next_at, relation_at, label_at}
use Rattle.model.specs.Lists.{listed}
use Rattle.model.specs.Schemas.{broken}
use Rattle.model.specs.Records.{Rec, label_span, place, has, distinct, least_above, position}
use Rattle.model.specs.Tables.{record_of, decode}
use Rattle.model.specs.WellFormed.{well_formed}
use Rattle.model.specs.Edits.{record_at}
use Rattle.model.specs.Calls.{marked, place_key}
use Rattle.wellformed.proofs.Follow.{no_rec, least_is, least_none, position_none, position_at}
use Rattle.wellformed.proofs.Ranges.{listed_length, listed_at}
use Rattle.wellformed.proofs.Facts.{schema_sound, formed}
use Rattle.wellformed.proofs.Values.{records_distinct, has_from}
use Rattle.marks.specs.Marks.{is_marked}
use Rattle.marks.proofs.Marks.{marked_true, true_marked}
use Rattle.marks.proofs.Chain.{On, Before, left, labels, own_relation, first_on, first_before, next_on, next_before, next_less, one_label}
use Rattle.judged.specs.Checked.{Checked}
use Rattle.std.specs.Prelude.{Some, None}
use Rattle.list_step.specs.Given.{given}
use Rattle.list_step.proofs.Marked.{marked_has, has_marked}

-- record j comes up to index i of relation r; 0 stands at the end of the chain
abbrev Reached : List ℕ → ℕ → ℕ → ℕ → Type 0
Reached t r i j = (relation_at t j < r) ⊎ ((relation_at t j ≡ r) × ((i ≡ 0) ⊎ (label_at t j ≤ label_at t i)))

abbrev Passed : List ℕ → ℕ → ℕ → ℕ → Type 0
Passed t r i j = (relation_at t j < r) ⊎ ((relation_at t j ≡ r) × Before t i j)

-- the walk has looked at every record above key k up to index i of relation r, and none is marked
pub record Past (t m : List ℕ) (k r i : ℕ) : Type 0 where
  pub most : r ≤ most_relations
  pub here : (i ≡ 0) ⊎ On t r i
  pub bound : k < (r + 1) * label_span
  pub from : (i ≡ 0) ⊎ (k ≤ (record_of t i).key)
  pub none : (j : ℕ) → 1 ≤ j → j ≤ used_at t → k < (record_of t j).key → Reached t r i j → is_marked m j ≡ false

-- the same of those before it
pub record Cursor (t m : List ℕ) (k r i : ℕ) : Type 0 where
  pub most : r ≤ most_relations
  pub here : (i ≡ 0) ⊎ On t r i
  pub bound : k < (r + 1) * label_span
  pub above : (i ≡ 0) ⊎ (k < (record_of t i).key)
  pub none : (j : ℕ) → 1 ≤ j → j ≤ used_at t → k < (record_of t j).key → Passed t r i j → is_marked m j ≡ false

-- falls with each turn
unfoldable pub ahead : List ℕ → ℕ → ℕ → ℕ
ahead t r i = (most_relations - r) * (label_span + 1) + left t i

key_is : (t : List ℕ) (i : ℕ) → (record_of t i).key ≡ place (relation_at t i) (label_at t i)
unfolding record_of
key_is t i = refl

left_most : (t : List ℕ) (i : ℕ) → left t i ≤ label_span
unfolding left
left_most t i = go (eqb i 0)
  where
    go : (b : Bool) → cond b 0 (label_span - label_at t i) ≤ label_span
    go true = omega arith
    go false = omega arith

left_end : (t : List ℕ) (i : ℕ) → i ≡ 0 → left t i ≡ 0
unfolding left
left_end t i e = rw (eq-eqb i 0 e)

cond_zero : {A : Type 0} (i : ℕ) (a b : A) → i ≡ 0 → cond (eqb i 0) a b ≡ a
cond_zero i a b e = rw (eq-eqb i 0 e)

cond_more : {A : Type 0} (i : ℕ) (a b : A) → (i ≡ 0 → ⊥) → cond (eqb i 0) a b ≡ b
cond_more i a b n = rw (ne_eqb i 0 n)

zero_or : (i : ℕ) → (i ≡ 0) ⊎ (i ≡ 0 → ⊥)
zero_or i = go (test (eqb i 0))
  where
    go : (eqb i 0 ≡ true) ⊎ (eqb i 0 ≡ false) → (i ≡ 0) ⊎ (i ≡ 0 → ⊥)
    go (inl p) = inl (eqb-true i 0 p)
    go (inr p) = inr (eqb-false i 0 p)

on_of : (t : List ℕ) (r i : ℕ) → (i ≡ 0) ⊎ On t r i → (i ≡ 0 → ⊥) → On t r i
on_of t r i (inl e) n = absurd (n e)
on_of t r i (inr o) n = o

module _ (s t m : List ℕ) (sd : Checked s t) (k : ℕ) where
  -- a turn, from what is past to where the walk stands next
  module _ (r i : ℕ) (p : Past t m k r i) where
    to_first : i ≡ 0 → r < most_relations → Cursor t m k (r + 1) (first_at t (r + 1))
    to_first e l =
        record {
          most = omega arith;
          here = first_on s t sd.schema sd.formed (r + 1) (omega arith) (omega arith);
          bound = omega (arith, p.bound);
          above = up (first_on s t sd.schema sd.formed (r + 1) (omega arith) (omega arith));
          none = λ j a b g h. passed j a b g h;
        }
      where
        up : (first_at t (r + 1) ≡ 0) ⊎ On t (r + 1) (first_at t (r + 1)) → (first_at t (r + 1) ≡ 0) ⊎ (k < (record_of t (first_at t (r + 1))).key)
        up (inl q) = inl q
        up (inr o) = inr (omega (arith, p.bound, key_is t (first_at t (r + 1)), o.related))

        before : (j : ℕ) → 1 ≤ j → j ≤ used_at t → k < (record_of t j).key → relation_at t j < r + 1 → Tri (relation_at t j) r → is_marked m j ≡ false
        before j a b g h (low q) = p.none j a b g (inl q)
        before j a b g h (same q) = p.none j a b g (inr (q, inl e))
        before j a b g h (high q) = absurd (omega arith)

        passed : (j : ℕ) → 1 ≤ j → j ≤ used_at t → k < (record_of t j).key → Passed t (r + 1) (first_at t (r + 1)) j → is_marked m j ≡ false
        passed j a b g (inl h) = before j a b g h (tri (relation_at t j) r)
        passed j a b g (inr h) = absurd (first_before s t sd.schema sd.formed (r + 1) j (record { from_one = a; within = b; related = h.0 }) h.1)

    to_next : (i ≡ 0 → ⊥) → Cursor t m k r (next_at t i)
    to_next n =
        record {
          most = p.most;
          here = there (next_on s t sd.schema sd.formed r i o);
          bound = p.bound;
          above = up p.from (next_on s t sd.schema sd.formed r i o);
          none = λ j a b g h. passed j a b g h;
        }
      where
        o : On t r i
        o = on_of t r i p.here n

        there : (next_at t i ≡ 0) ⊎ (On t r (next_at t i) × (label_at t i < label_at t (next_at t i))) → (next_at t i ≡ 0) ⊎ On t r (next_at t i)
        there (inl q) = inl q
        there (inr q) = inr q.0

        up : (i ≡ 0) ⊎ (k ≤ (record_of t i).key) → (next_at t i ≡ 0) ⊎ (On t r (next_at t i) × (label_at t i < label_at t (next_at t i))) → (next_at t i ≡ 0) ⊎ (k < (record_of t (next_at t i)).key)
        up f (inl q) = inl q
        up (inl f) (inr q) = absurd (n f)
        up (inr f) (inr q) = inr (omega (arith, f, key_is t i, key_is t (next_at t i), o.related, q.0.related, q.1))

        back : (j : ℕ) → (j ≡ i) ⊎ (label_at t j < label_at t i) → label_at t j ≤ label_at t i
        back j (inl q) = rw q (omega arith)
        back j (inr q) = omega arith

        passed : (j : ℕ) → 1 ≤ j → j ≤ used_at t → k < (record_of t j).key → Passed t r (next_at t i) j → is_marked m j ≡ false
        passed j a b g (inl h) = p.none j a b g (inl h)
        passed j a b g (inr h) =
            p.none j a b g (inr (h.0, inr (back j (next_before s t sd.schema sd.formed r i j o (record { from_one = a; within = b; related = h.0 }) h.1))))

    -- on along the chain, or from its end to the next relation's
    abbrev pub Turn : ℕ → ℕ → Type 0
    Turn r' i' = ((i ≡ 0 → ⊥) × (r' ≡ r) × (i' ≡ next_at t i)) ⊎ ((i ≡ 0) × (r < most_relations) × (r' ≡ r + 1) × (i' ≡ first_at t (r + 1)))

    pub turn : (r' i' : ℕ) → Turn r' i' → Cursor t m k r' i'
    turn r' i' (inl h) = rw (h.1, h.2) (to_next h.0)
    turn r' i' (inr h) = rw (h.3, h.2) (to_first h.0 h.1)

    pub turn_less : (r' i' : ℕ) → Turn r' i' → ahead t r' i' < ahead t r i
    unfolding ahead
    turn_less r' i' (inl h) = rw (h.1, h.2) (omega (arith, next_less s t sd.schema sd.formed r i (on_of t r i p.here h.0)))
    turn_less r' i' (inr h) = omega (arith, h.1, h.2, left_most t i')

  -- where what it stands at is not marked, that is past
  pub goes_past : (r i : ℕ) → Cursor t m k r i → is_marked m i ≡ false → Past t m k r i
  goes_past r i c here_not =
      record { most = c.most; here = c.here; bound = c.bound; from = up c.above; none = λ j a b g q. passed j a b g q }
    where
      up : (i ≡ 0) ⊎ (k < (record_of t i).key) → (i ≡ 0) ⊎ (k ≤ (record_of t i).key)
      up (inl e) = inl e
      up (inr l) = inr (omega arith)

      at_label : (j : ℕ) → 1 ≤ j → j ≤ used_at t → k < (record_of t j).key → relation_at t j ≡ r → (i ≡ 0) ⊎ (i ≡ 0 → ⊥) → label_at t j ≤ label_at t i → Tri (label_at t j) (label_at t i)
          → is_marked m j ≡ false
      at_label j a b g q (inl z) l w = c.none j a b g (inr (q, inl z))
      at_label j a b g q (inr n) l (low w) = c.none j a b g (inr (q, inr w))
      at_label j a b g q (inr n) l (same w) =
          let o = on_of t r i c.here n in
          rw (one_label s t sd.schema sd.formed r j i (record { from_one = a; within = b; related = q }) o w) here_not
      at_label j a b g q (inr n) l (high w) = absurd (omega arith)

      passed : (j : ℕ) → 1 ≤ j → j ≤ used_at t → k < (record_of t j).key → Reached t r i j → is_marked m j ≡ false
      passed j a b g (inl q) = c.none j a b g (inl q)
      passed j a b g (inr (q, inl z)) = c.none j a b g (inr (q, inl z))
      passed j a b g (inr (q, inr l)) = at_label j a b g q (zero_or i) l (tri (label_at t j) (label_at t i))

-- the start: the place's own key is past
module _ (s t m : List ℕ) (sd : Checked s t) (q : ℕ) (l : q ≤ used_at t) where
  abbrev recs : List Rec
  recs = (decode t).records

  recs_length : length recs ≡ used_at t
  unfolding decode
  recs_length = listed_length (used_at t) (record_of t)

  recs_at : (i : ℕ) → 1 ≤ i → i ≤ used_at t → get_or recs (i - 1) no_rec ≡ record_of t i
  unfolding decode
  recs_at i a b = listed_at (used_at t) (record_of t) i no_rec a b

  start_key : (q ≡ 0 → ⊥) → place_key (decode t) q ≡ (record_of t q).key
  unfolding place_key record_at
  start_key n = cond_more q 0 _ n ∙ ap (λ (x : Rec). x.key) (recs_at q (omega arith) l)

  start_zero : q ≡ 0 → place_key (decode t) q ≡ 0
  unfolding place_key
  start_zero e = cond_zero q 0 _ e

  pub start_past : (r : ℕ) → r ≡ cond (eqb q 0) 0 (relation_at t q) → Past t m (place_key (decode t) q) r q
  start_past r e = go (zero_or q)
    where
      b : broken s ≡ false
      b = sd.schema

      w : well_formed s t ≡ true
      w = sd.formed

      go : (q ≡ 0) ⊎ (q ≡ 0 → ⊥) → Past t m (place_key (decode t) q) r q
      go (inl z) =
          let r0 : r ≡ 0 = e ∙ cond_zero q 0 (relation_at t q) z in
          rw (start_zero z)
          (record {
            most = omega arith;
            here = inl z;
            bound = omega arith;
            from = inl z;
            none = λ j a c g h. absurd (low_relation j a c r0 h);
          })
        where
          low_relation : (j : ℕ) → 1 ≤ j → j ≤ used_at t → r ≡ 0 → Reached t r q j → ⊥
          low_relation j a c r0 (inl h) = omega arith
          low_relation j a c r0 (inr h) = omega (arith, h.0, own_relation s t b w j a c)
      go (inr n) =
          let a : 1 ≤ q = omega arith in
          let rq : r ≡ relation_at t q = e ∙ cond_more q 0 (relation_at t q) n in
          let o = own_relation s t b w q a l in
          rw (start_key n)
          (record {
            most = omega arith;
            here = inr (record { from_one = a; within = l; related = sym rq });
            bound = omega (arith, key_is t q, labels s t b w q a l);
            from = inr (omega arith);
            none = λ j c d g h. absurd (above j c d rq g h);
          })
        where
          above : (j : ℕ) → 1 ≤ j → j ≤ used_at t → r ≡ relation_at t q → (record_of t q).key < (record_of t j).key → Reached t r q j → ⊥
          above j c d rq g (inl h) = omega (arith, key_is t q, key_is t j, labels s t b w j c d)
          above j c d rq g (inr (h, inl z)) = n z
          above j c d rq g (inr (h, inr v)) = omega (arith, key_is t q, key_is t j)

  -- what the walk gives
  module _ (r i : ℕ) where
    abbrev k : ℕ
    k = place_key (decode t) q

    once : distinct recs ≡ true
    unfolding decode
    once = records_distinct s t (schema_sound s sd.schema) (formed s t sd.formed)

    no_zero : has recs 0 ≡ false
    unfolding decode listed
    no_zero = has_from 1 (used_at t) 0 (record_of t) (λ j a b e. omega (arith, labels s t sd.schema sd.formed j a (omega arith), key_is t j))

    -- a marked key is that of a marked record
    marked_record : (j : ℕ) → has (marked m recs) j ≡ true → (n : ℕ) × (1 ≤ n) × (n ≤ used_at t) × (is_marked m n ≡ true) × ((record_of t n).key ≡ j)
    marked_record j h =
        let x = marked_has m recs j no_rec h in
        let n = x.0 + 1 in
        let z : n - 1 ≡ x.0 = omega arith in
        let a : 1 ≤ n = omega arith in
        let b : n ≤ used_at t = omega (arith, x.1, recs_length) in
        (n, a, b, true_marked m n a (rw z x.2), ap (λ (y : Rec). y.key) (sym (recs_at n a b)) ∙ rw z x.3)

    -- at the end
    pub gives_none : Past t m k r i → i ≡ 0 → most_relations ≤ r → None ≡ given (position (least_above k (marked m recs)) recs)
    gives_none c z far =
        let e : least_above k (marked m recs) ≡ 0 = least_none k (marked m recs) (λ j h. below j (marked_record j h) (tri k j)) in
        sym (rw (e, position_none 0 recs no_zero))
      where
        reach : (n : ℕ) → 1 ≤ n → n ≤ used_at t → Reached t r i n
        reach n a b = go (tri (relation_at t n) r)
          where
            go : Tri (relation_at t n) r → Reached t r i n
            go (low v) = inl v
            go (same v) = inr (v, inl z)
            go (high v) = absurd (omega (arith, own_relation s t sd.schema sd.formed n a b))

        below : (j : ℕ) → (n : ℕ) × (1 ≤ n) × (n ≤ used_at t) × (is_marked m n ≡ true) × ((record_of t n).key ≡ j) → Tri k j → j ≤ k
        below j x (low v) = clash x.3 (c.none x.0 x.1 x.2 (rw x.4 v) (reach x.0 x.1 x.2))
        below j x (same v) = omega arith
        below j x (high v) = omega arith

    -- at a marked record
    pub gives_record : Cursor t m k r i → is_marked m i ≡ true → Some i ≡ given (position (least_above k (marked m recs)) recs)
    gives_record c mk =
        let n : i ≡ 0 → ⊥ = λ z. omega (arith, (marked_true m i mk).0, z) in
        let o = on_of t r i c.here n in
        let x = recs_at i o.from_one o.within in
        let len : i - 1 < length recs = omega (arith, recs_length, o.from_one, o.within) in
        let h : has (marked m recs) (record_of t i).key ≡ true = rw x at (has_marked m recs (i - 1) no_rec len (marked_true m i mk).1) in
        let e : least_above k (marked m recs) ≡ (record_of t i).key = least_is k (record_of t i).key (marked m recs) (up n c.above) h (λ j g v. least j (marked_record j g) v o) in
        let y : (get_or recs (i - 1) no_rec).key ≡ (record_of t i).key = ap (λ (z : Rec). z.key) x in
        let f : i ≡ position (least_above k (marked m recs)) recs = sym (rw e (rw y at (position_at i recs once o.from_one (omega (arith, recs_length, o.within))))) in
        sym (ap given (sym f) ∙ cond_more i None (Some i) n)
      where
        up : (i ≡ 0 → ⊥) → (i ≡ 0) ⊎ (k < (record_of t i).key) → k < (record_of t i).key
        up n (inl z) = absurd (n z)
        up n (inr v) = v

        later : (x : ℕ) → 1 ≤ x → x ≤ used_at t → k < (record_of t x).key → is_marked m x ≡ true → On t r i → Tri (relation_at t x) r → Tri (label_at t x) (label_at t i)
            → (record_of t i).key ≤ (record_of t x).key
        later x a b g mk o (low v) u = clash mk (c.none x a b g (inl v))
        later x a b g mk o (same v) (low u) = clash mk (c.none x a b g (inr (v, inr u)))
        later x a b g mk o (same v) (same u) = omega (arith, key_is t x, key_is t i, o.related)
        later x a b g mk o (same v) (high u) = omega (arith, key_is t x, key_is t i, o.related)
        later x a b g mk o (high v) u = omega (arith, key_is t x, key_is t i, o.related, labels s t sd.schema sd.formed i o.from_one o.within)

        least : (j : ℕ) → (y : ℕ) × (1 ≤ y) × (y ≤ used_at t) × (is_marked m y ≡ true) × ((record_of t y).key ≡ j) → k < j → On t r i → (record_of t i).key ≤ j
        least j y v o =
            let e = y.4 in
            rw e at (later y.0 y.1 y.2 (rw e v) y.3 o (tri (relation_at t y.0) r) (tri (label_at t y.0) (label_at t i)))
