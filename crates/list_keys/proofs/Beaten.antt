-- Step 3 by marks: where those of the older records of its relation are the kept ones, a standing record is kept unless it is beaten on a key.
-- Assumes nothing.
use Prim.Native.Nat.{ℕ, ◌+◌, ◌-◌, ◌≤◌, ◌<◌}
use mathlib.Core.Path.{◌≡◌, refl, sym, ◌∙◌, ap}
use mathlib.Core.Logic.{◌⊎◌, inl, inr}
use mathlib.Core.Bool.{Bool, true, false, cond, ◌&&◌, ◌||◌}
use mathlib.Core.List.{List}
use native.Mathlib.Omega.{arith}
use lib.Dec.{eqb}
use lib.ListN.{get_or}
use borrow.Author.Tests.{eqb-true, eq-eqb}
use Rattle.crdt.proofs.Tests.{Tri, low, same, high, tri, test, clash, or_left, or_right, or_none, and_left}
use Rattle.model.specs.Layout.{most_relations, used_at, relation_at, label_at, mask_at}
use Rattle.model.specs.Schemas.{Relation, broken, schema_of}
use Rattle.model.specs.Records.{Rec, place, relation, has, in_order, Rising}
use Rattle.model.specs.Tables.{record_of, decode}
use Rattle.model.specs.WellFormed.{well_formed}
use Rattle.model.specs.Shown.{conflict_on, conflict, described, kept}
use Rattle.laws.proofs.Lists.{◌∈◌}
use Rattle.laws.proofs.Order.{order_rising}
use Rattle.laws.proofs.Shown.{standing_in, standing_rising, kept_in, kept_apart, kept_exactly}
use Rattle.marks.specs.Marks.{is_marked}
use Rattle.marks.proofs.Marks.{marked_here}
use Rattle.marks.proofs.Members.{in_record, member_at, holds}
use Rattle.marks.proofs.Chain.{labels, own_relation}
use Rattle.references.specs.Resolved.{Marked}
use Rattle.list_conflicts.proofs.Keys.{relation_own, records_meet}
use Rattle.list_keys.specs.Buckets.{beaten_on, loses}
use Rattle.list_keys.specs.Passes.{stood, stood_mark, kept_mark, Upto, Copied}
use Rattle.list_keys.proofs.Bucketed.{beaten_by, by_beaten}

-- the order of keys of one relation is that of labels
key_less : (t : List ℕ) (i j : ℕ) → relation_at t j ≡ relation_at t i → label_at t j < label_at t i → (record_of t j).key < (record_of t i).key
unfolding record_of
key_less t i j e h = omega arith

less_key : (t : List ℕ) (i j : ℕ) → relation_at t j ≡ relation_at t i → (record_of t j).key < (record_of t i).key → label_at t j < label_at t i
unfolding record_of
less_key t i j e h = omega arith

conflict_relation : (σ : List Relation) (x y : Rec) → conflict σ x y ≡ true → relation x ≡ relation y
unfolding conflict
conflict_relation σ x y h = eqb-true (relation x) (relation y) (and_left (eqb (relation x) (relation y)) (conflict_on σ (described σ x).key1 x y || conflict_on σ (described σ x).key2 x y) h)

-- a mark by whether it is a member's
marked_is : (a : List ℕ) (i : ℕ) (x : Bool) → 1 ≤ i → get_or a (i - 1) 0 ≡ cond x 1 0 → is_marked a i ≡ x
marked_is a i x l e = sym (marked_here a i l) ∙ ap (λ (v : ℕ). eqb v 1) e ∙ go x
  where
    go : (y : Bool) → eqb (cond y 1 0) 1 ≡ y
    go true = refl
    go false = refl

module _ (s t : List ℕ) (b : broken s ≡ false) (w : well_formed s t ≡ true) where
  abbrev keeps : List Rec
  keeps = kept (schema_of s) (stood s t)

  part : (x : Rec) → x ∈ stood s t → x ∈ in_order (decode t).records
  part x h = (standing_in (schema_of s) (in_order (decode t).records) x h).0

  kept_part : (x : Rec) → x ∈ keeps → x ∈ in_order (decode t).records
  kept_part x h = part x (kept_in (schema_of s) (stood s t) x h)

  rises : Rising 0 (stood s t)
  rises = standing_rising (schema_of s) (in_order (decode t).records) (order_rising (decode t).records)

  module _ (i : ℕ) (a : 1 ≤ i) (g : i ≤ used_at t) where
    -- one that does not stand is not kept
    kept_none : has (stood s t) (record_of t i).key ≡ false → has keeps (record_of t i).key ≡ false
    kept_none e = go (test (has keeps (record_of t i).key))
      where
        go : (has keeps (record_of t i).key ≡ true) ⊎ (has keeps (record_of t i).key ≡ false) → has keeps (record_of t i).key ≡ false
        go (inl p) = clash (holds s t b w (stood s t) i (kept_in (schema_of s) (stood s t) _ (member_at s t b w keeps kept_part i a g p))) e
        go (inr p) = p

    -- record j conflicts with it on a key, and on either
    abbrev on_key : ℕ → ℕ → Bool
    on_key m j = conflict_on (schema_of s) m (record_of t j) (record_of t i)

    abbrev on_either : ℕ → Bool
    on_either j = on_key (mask_at s (relation_at t i) 1) j || on_key (mask_at s (relation_at t i) 2) j

    either : (j : ℕ) → 1 ≤ j → j ≤ used_at t → relation_at t j ≡ relation_at t i
        → on_either j ≡ conflict (schema_of s) (record_of t j) (record_of t i)
    either j p q e = rw e at (records_meet s t b w j i p q a g e)

    -- one that stands and conflicts with no older one of its relation that is kept, on either key, is kept
    abbrev Clear : ℕ → Type 0
    Clear j = relation_at t j ≡ relation_at t i → label_at t j < label_at t i → has keeps (record_of t j).key ≡ true → on_either j ≡ false

    kept_one : has (stood s t) (record_of t i).key ≡ true → ((j : ℕ) → 1 ≤ j → j ≤ used_at t → Clear j) → has keeps (record_of t i).key ≡ true
    kept_one e clear =
        holds s t b w keeps i
        ((kept_exactly (schema_of s) (stood s t) rises (record_of t i) (member_at s t b w (stood s t) part i a g e)).1 (λ y h l. free y h l (test (conflict (schema_of s) y (record_of t i)))))
      where
        free : (y : Rec) → y ∈ keeps → y.key < (record_of t i).key → (conflict (schema_of s) y (record_of t i) ≡ true) ⊎ (conflict (schema_of s) y (record_of t i) ≡ false)
            → conflict (schema_of s) y (record_of t i) ≡ false
        free y h l (inr c) = c
        free y h l (inl c) =
            let r = in_record s t b w y (kept_part y h) in
            let j = r.0 in
            let h' : record_of t j ∈ keeps = rw r.3 at h in
            let l' : (record_of t j).key < (record_of t i).key = rw r.3 at l in
            let c' : conflict (schema_of s) (record_of t j) (record_of t i) ≡ true = rw r.3 at c in
            let q : relation_at t j ≡ relation_at t i
            = sym (relation_own s t b w j r.1 r.2) ∙ conflict_relation (schema_of s) (record_of t j) (record_of t i) c' ∙ relation_own s t b w i a g in
            clash (either j r.1 r.2 q ∙ c') (clear j r.1 r.2 q (less_key t i j q l') (holds s t b w keeps j h'))

    -- marks c: those of the older records of its relation are the kept ones, and its own is that of the standing ones
    module _ (c : List ℕ) (m n : ℕ) (em : m ≡ mask_at s (relation_at t i) 1) (en : n ≡ mask_at s (relation_at t i) 2)
        (older : (j : ℕ) → 1 ≤ j → j ≤ used_at t → relation_at t j ≡ relation_at t i → label_at t j < label_at t i → get_or c (j - 1) 0 ≡ kept_mark s t j)
        (itself : get_or c (i - 1) 0 ≡ stood_mark s t i) where
      beaten_dropped : (k : ℕ) → (k ≡ mask_at s (relation_at t i) 1) ⊎ (k ≡ mask_at s (relation_at t i) 2) → beaten_on s t c k i ≡ true → has keeps (record_of t i).key ≡ false
      beaten_dropped k ek h = go (test (has keeps (record_of t i).key))
        where
          meets : (j : ℕ) → (k ≡ mask_at s (relation_at t i) 1) ⊎ (k ≡ mask_at s (relation_at t i) 2) → on_key k j ≡ true → on_either j ≡ true
          meets j (inl e) f = or_left _ _ (rw e at f)
          meets j (inr e) f = or_right (on_key (mask_at s (relation_at t i) 1) j) _ (rw e at f)

          go : (has keeps (record_of t i).key ≡ true) ⊎ (has keeps (record_of t i).key ≡ false) → has keeps (record_of t i).key ≡ false
          go (inr p) = p
          go (inl p) =
              let r = beaten_by s t c k i h in
              let j = r.0 in
              let z = sym (marked_is c j (has keeps (record_of t j).key) r.1 (older j r.1 r.2 r.3.related r.3.older)) ∙ r.3.marked in
              let f = sym (either j r.1 r.2 r.3.related) ∙ meets j ek r.3.meets in
              let q = kept_apart (schema_of s) (stood s t) (record_of t j) (record_of t i) (member_at s t b w keeps kept_part j r.1 r.2 z) (member_at s t b w keeps kept_part i a g p) f in
              absurd (omega (arith, q, key_less t i j r.3.related r.3.older))

      unbeaten : (k : ℕ) → beaten_on s t c k i ≡ false → (j : ℕ) → 1 ≤ j → j ≤ used_at t → relation_at t j ≡ relation_at t i → label_at t j < label_at t i → has keeps (record_of t j).key ≡ true
          → on_key k j ≡ false
      unbeaten k e j p q f l h = go (test (on_key k j))
        where
          go : (on_key k j ≡ true) ⊎ (on_key k j ≡ false) → on_key k j ≡ false
          go (inr z) = z
          go (inl z) =
              let y = marked_is c j (has keeps (record_of t j).key) p (older j p q f l) ∙ h in
              clash (by_beaten s t c k i j p q (record { marked = y; related = f; older = l; meets = z })) e

      pub kept_mark_lem : cond (loses s t c m n i) 0 (get_or c (i - 1) 0) ≡ kept_mark s t i
      unfolding loses
      kept_mark_lem =
          rw (marked_is c i (has (stood s t) (record_of t i).key) a itself, itself)
          (go (test (has (stood s t) (record_of t i).key)) (test (beaten_on s t c m i)) (test (beaten_on s t c n i)))
        where
          go : (has (stood s t) (record_of t i).key ≡ true) ⊎ (has (stood s t) (record_of t i).key ≡ false)
              → (beaten_on s t c m i ≡ true) ⊎ (beaten_on s t c m i ≡ false) → (beaten_on s t c n i ≡ true) ⊎ (beaten_on s t c n i ≡ false)
              → cond (has (stood s t) (record_of t i).key && (beaten_on s t c m i || beaten_on s t c n i)) 0 (stood_mark s t i) ≡ kept_mark s t i
          go (inr e) p q = rw (e, kept_none e)
          go (inl e) (inl p) q = rw (e, p, beaten_dropped m (inl em) p)
          go (inl e) (inr p) (inl q) = rw (e, p, q, beaten_dropped n (inr en) q)
          go (inl e) (inr p) (inr q) =
              let k = kept_one e (λ j x y f l h. or_none _ _ (rw em at (unbeaten m p j x y f l h)) (rw en at (unbeaten n q j x y f l h))) in
              rw (e, p, q, k)

  -- without keys all that stand are kept
  pub upto_keyless : (r : ℕ) (c : List ℕ) → mask_at s r 1 ≡ 0 → mask_at s r 2 ≡ 0 → Upto s t (place r 0) c → Upto s t (place (r + 1) 0) c
  upto_keyless r c e f u = record { done = λ i a g h. go i a g h (tri (relation_at t i) r); rest = λ i a g h. u.rest i a g (omega arith) }
    where
      no_key : (m : ℕ) (x y : Rec) → m ≡ 0 → conflict_on (schema_of s) m x y ≡ false
      no_key m x y z = unfold conflict_on in rw (eq-eqb m 0 z)

      same_mark : (i : ℕ) → 1 ≤ i → i ≤ used_at t → relation_at t i ≡ r → stood_mark s t i ≡ kept_mark s t i
      same_mark i a g q = choose (test (has (stood s t) (record_of t i).key))
        where
          clear : (j : ℕ) → 1 ≤ j → j ≤ used_at t → Clear i a g j
          clear j p l = λ d o h. rw (no_key (mask_at s (relation_at t i) 1) (record_of t j) (record_of t i) (rw q e), no_key (mask_at s (relation_at t i) 2) (record_of t j) (record_of t i) (rw q f))

          choose : (has (stood s t) (record_of t i).key ≡ true) ⊎ (has (stood s t) (record_of t i).key ≡ false) → stood_mark s t i ≡ kept_mark s t i
          choose (inl z) = rw (z, kept_one i a g z clear)
          choose (inr z) = rw (z, kept_none i a g z)

      go : (i : ℕ) (a : 1 ≤ i) (g : i ≤ used_at t) → place (relation_at t i) (label_at t i) < place (r + 1) 0 → Tri (relation_at t i) r → get_or c (i - 1) 0 ≡ kept_mark s t i
      go i a g h (low q) = u.done i a g (omega (arith, (labels s t b w i a g).1))
      go i a g h (same q) = u.rest i a g (omega (arith, q)) ∙ same_mark i a g q
      go i a g h (high q) = absurd (omega arith)

  -- before the first relation, and after the last
  pub upto_none : (k : List ℕ) → Marked t (stood s t) k → (n : ℕ) (c : List ℕ) → n ≡ used_at t → Copied k n c → Upto s t (place 1 0) c
  upto_none k mk n c e h =
      record {
        done = λ i a g l. absurd (omega (arith, own_relation s t b w i a g));
        rest = λ i a g l. copied i a g;
      }
    where
      copied : (i : ℕ) → 1 ≤ i → i ≤ used_at t → get_or c (i - 1) 0 ≡ stood_mark s t i
      copied i a g =
          let q : i - 1 + 1 ≡ i = omega arith in
          (rw q at (h.at (i - 1) (omega arith))) ∙ ap (λ (x : Bool). cond x 1 0) (marked_is k i (has (stood s t) (record_of t i).key) a (mk.at i a g))

  pub upto_all : (n : ℕ) (c : List ℕ) → most_relations < n → Upto s t (place n 0) c → Marked t (kept (schema_of s) (stood s t)) c
  upto_all n c h u = record { at = λ i a g. u.done i a g (omega (arith, own_relation s t b w i a g, (labels s t b w i a g).1)) }
