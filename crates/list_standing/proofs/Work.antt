-- The marks and the records to visit, from none to all: one more of them, the hops of a record, and the standing records at the end.
-- Assumes nothing.
use Prim.Native.Nat.{ℕ, ◌+◌, ◌-◌, ◌≤◌, ◌<◌}
use mathlib.Core.Path.{◌≡◌, refl, sym, ◌∙◌}
use mathlib.Core.Bool.{true, false, cond}
use mathlib.Core.List.{List}
use mathlib.Core.Logic.{◌⊎◌, inl, inr}
use native.Mathlib.Omega.{arith}
use lib.Dec.{eqb, leb, ltb}
use lib.ListN.{length, get_or, set, replicate, length-replicate}
use lib.Seq.{get_or-set_same, get_or-set_other}
use borrow.Author.Tests.{eqb-true, eqb-false, le-leb, lt-ltb}
use Rattle.crdt.proofs.Tests.{Tri, low, same, high, tri, test, clash, and_left}
use Rattle.model.specs.Layout.{most_records, field_count, kind_at, used_at, relation_at}
use Rattle.model.specs.Schemas.{is_reference, is_abort, abort_kinds, propagation_kinds, schema_of}
use Rattle.model.specs.Records.{Rec, has, in_order}
use Rattle.model.specs.Tables.{decode, record_of}
use Rattle.model.specs.Shown.{complete, live, targets}
use Rattle.laws.proofs.Lists.{◌∈◌}
use Rattle.laws.proofs.Shown.{has_in, standing_least}
use Rattle.judged.specs.Checked.{Checked}
use Rattle.references.specs.Order.{key_at}
use Rattle.references.specs.Resolved.{absent, resolved_at, Marked}
use Rattle.references.proofs.Room.{room, room_more}
use Rattle.list_standing.specs.Work.{standing_of, mark_of, Added, Queue, More, Live, Target, Hopped, Visited}
use Rattle.list_standing.proofs.Fields.{in_target}
use Rattle.list_standing.proofs.Members.{order_is, order_spot, leads_back, resolved_within}

pub zeros_room : (m n : ℕ) → n ≤ m → n ≤ length (replicate {A = ℕ} m 0)
zeros_room m n h = omega (arith, length-replicate {A = ℕ} m 0)

-- more of nothing, and more of more
pub more_same : (t m w : List ℕ) (n : ℕ) → More t m w n m w n
more_same t m w n = record { grows = omega arith; keeps = λ i a b h. h; same = λ k l. refl }

pub more_more : (t m w : List ℕ) (n : ℕ) (m₁ w₁ : List ℕ) (n₁ : ℕ) (m₂ w₂ : List ℕ) (n₂ : ℕ)
    → More t m w n m₁ w₁ n₁ → More t m₁ w₁ n₁ m₂ w₂ n₂ → More t m w n m₂ w₂ n₂
more_more t m w n m₁ w₁ n₁ m₂ w₂ n₂ p q =
    record {
      grows = omega (arith, p.grows, q.grows);
      keeps = λ i a b h. q.keeps i a b (p.keeps i a b h);
      same = λ k l. q.same k (omega (arith, p.grows)) ∙ p.same k l;
    }

module _ (s t m w : List ℕ) (n : ℕ) (q : Queue s t m w n) where
  -- the entries are no more than the records, and fewer where a record has no mark
  pub queue_room : n ≤ used_at t
  queue_room = room w (used_at t) n q.least q.within q.once

  pub queue_more : (p : ℕ) → 1 ≤ p → p ≤ used_at t → (mark_of m p ≡ 1 → ⊥) → n < used_at t
  queue_more p a b u = room_more w (used_at t) n q.least q.within q.once p a b (λ k l e. u (rw e at (q.marked k l)))

  -- a record without a mark has its place in both arrays
  pub add_room : (p : ℕ) → 1 ≤ p → p ≤ used_at t → used_at t ≤ length m → used_at t ≤ most_records
      → (1 ≤ p) × (p ≤ length m) × (p ≤ most_records) × ((mark_of m p ≡ 1 → ⊥) → n < most_records)
  add_room p a b lm l = (a, omega arith, omega arith, λ u. omega (arith, queue_more p a b u))

-- what a record that stands leaves behind when it is added
pub record Step (s t m w : List ℕ) (n p : ℕ) (m' w' : List ℕ) (n' : ℕ) : Type 0 where
  pub queue : Queue s t m' w' n'
  pub more : More t m w n m' w' n'
  pub marked : mark_of m' p ≡ 1

module _ (s t m w : List ℕ) (n p : ℕ) (q : Queue s t m w n) (a : 1 ≤ p) (b : p ≤ used_at t) (st : has (standing_of s t) (key_at t p) ≡ true)
    (lm : used_at t ≤ length m) (lw : used_at t ≤ length w) where
  module _ (u : mark_of m p ≡ 1 → ⊥) where
    here : mark_of (set m (p - 1) 1) p ≡ 1
    here = get_or-set_same m (p - 1) 1 0 (omega arith)

    other : (i : ℕ) → 1 ≤ i → (i ≡ p → ⊥) → mark_of (set m (p - 1) 1) i ≡ mark_of m i
    other i l e = get_or-set_other m (p - 1) (i - 1) 1 0 (λ z. omega arith)

    fits : n < length w
    fits = omega (arith, queue_more s t m w n q p a b u)

    -- a record is p or another one
    split : (i : ℕ) → (i ≡ p) ⊎ (i ≡ p → ⊥)
    split i = go (test (eqb i p))
      where
        go : (eqb i p ≡ true) ⊎ (eqb i p ≡ false) → (i ≡ p) ⊎ (i ≡ p → ⊥)
        go (inl e) = inl (eqb-true i p e)
        go (inr e) = inr (eqb-false i p e)

    kept : (i : ℕ) → 1 ≤ i → mark_of m i ≡ 1 → mark_of (set m (p - 1) 1) i ≡ 1
    kept i l h = go (split i)
      where
        go : (i ≡ p) ⊎ (i ≡ p → ⊥) → mark_of (set m (p - 1) 1) i ≡ 1
        go (inl e) = rw e here
        go (inr e) = other i l e ∙ h

    before : (k : ℕ) → k < n → get_or (set w n p) k 0 ≡ get_or w k 0
    before k l = get_or-set_other w n k p 0 (λ z. omega arith)

    last : get_or (set w n p) n 0 ≡ p
    last = get_or-set_same w n p 0 fits

    entry : (P : ℕ → Type 0) (k : ℕ) → k < n + 1 → (k < n → P (get_or w k 0)) → P p → P (get_or (set w n p) k 0)
    entry P k l f x = go (tri k n)
      where
        go : Tri k n → P (get_or (set w n p) k 0)
        go (low h) = rw (before k h) (f h)
        go (same h) = rw (h, last) x
        go (high h) = absurd (omega arith)

    step_new : Step s t m w n p (set m (p - 1) 1) (set w n p) (n + 1)
    step_new =
        record {
          queue =
              record {
                least = λ k l. entry (λ x. 1 ≤ x) k l (q.least k) a;
                within = λ k l. entry (λ x. x ≤ used_at t) k l (q.within k) b;
                once = λ j k l h. let i : j < n = omega arith in
                    rw (before j i) (entry (λ x. get_or w j 0 ≡ x → ⊥) k h (λ r. q.once j k l r) (λ e. u (rw e at (q.marked j i))));
                marked = λ k l. entry (λ x. mark_of (set m (p - 1) 1) x ≡ 1) k l (λ r. kept (get_or w k 0) (q.least k r) (q.marked k r)) here;
                queued = λ i x y h. queued i x y h (split i);
                zero = λ i x y h. zero i x y h (split i);
                stands = λ i x y h. stands i x y h (split i);
              };
          more = record { grows = omega arith; keeps = λ i x y h. kept i x h; same = before };
          marked = here;
        }
      where
        queued : (i : ℕ) → 1 ≤ i → i ≤ used_at t → mark_of (set m (p - 1) 1) i ≡ 1 → (i ≡ p) ⊎ (i ≡ p → ⊥) → (k : ℕ) × (k < n + 1) × (get_or (set w n p) k 0 ≡ i)
        queued i x y h (inl e) = (n, omega arith, last ∙ sym e)
        queued i x y h (inr e) = let r = q.queued i x y (sym (other i x e) ∙ h) in (r.0, omega (arith, r.1), before r.0 r.1 ∙ r.2)

        zero : (i : ℕ) → 1 ≤ i → i ≤ used_at t → (mark_of (set m (p - 1) 1) i ≡ 1 → ⊥) → (i ≡ p) ⊎ (i ≡ p → ⊥) → mark_of (set m (p - 1) 1) i ≡ 0
        zero i x y h (inl e) = absurd (h (rw e here))
        zero i x y h (inr e) = other i x e ∙ q.zero i x y (λ z. h (other i x e ∙ z))

        stands : (i : ℕ) → 1 ≤ i → i ≤ used_at t → mark_of (set m (p - 1) 1) i ≡ 1 → (i ≡ p) ⊎ (i ≡ p → ⊥) → has (standing_of s t) (key_at t i) ≡ true
        stands i x y h (inl e) = rw e st
        stands i x y h (inr e) = q.stands i x y (sym (other i x e) ∙ h)

  step_old : mark_of m p ≡ 1 → Step s t m w n p m w n
  step_old h = record { queue = q; more = more_same t m w n; marked = h }

  pub queue_add : (m' w' : List ℕ) (n' : ℕ) → Added m w n p m' w' n' → Step s t m w n p m' w' n'
  queue_add m' w' n' d = go (test (eqb (mark_of m p) 1))
    where
      go : (eqb (mark_of m p) 1 ≡ true) ⊎ (eqb (mark_of m p) 1 ≡ false) → Step s t m w n p m' w' n'
      go (inl e) = let h = eqb-true (mark_of m p) 1 e in let r = d.old h in rw (r.0, r.1, r.2) (step_old h)
      go (inr e) = let h = eqb-false (mark_of m p) 1 e in let r = d.new h in rw (r.0, r.1, r.2) (step_new h)

-- what a hop leads to
pub target_there : (s t : List ℕ) (i j p : ℕ) → p ≡ resolved_at s t i j → Checked s t → (r k : ℕ) → r ≡ relation_at t i → k ≡ kind_at s r j
    → abort_kinds ≤ k → k < propagation_kinds → (p ≡ 0 → ⊥) → (p ≡ absent → ⊥) → Target s t i j p
target_there s t i j p e c r k er ek l h z y =
    let w = resolved_within s t c i j p e z y in
    record {
      least = w.0;
      within = w.1;
      abort = rw (← er, ← ek, le-leb abort_kinds k l, lt-ltb k propagation_kinds h);
      there = sym e;
    }

-- hops stay hops
module _ (s t : List ℕ) (m w : List ℕ) (n : ℕ) (m' w' : List ℕ) (n' : ℕ) (more : More t m w n m' w' n') where
  hopped_more : (i j : ℕ) → Hopped s t m i j → Hopped s t m' i j
  hopped_more i j h = record { onto = λ p k a b e q. more.keeps p a b (h.onto p k a b e q) }

  pub visited_keep : (i l : ℕ) → Visited s t m i l → Visited s t m' i l
  visited_keep i l v = record { at = λ j a b. hopped_more i j (v.at j a b) }

  -- one field more
  pub visited_more : (i j n : ℕ) → Visited s t m i (j - 1) → Hopped s t m' i j → n ≤ j → Visited s t m' i n
  visited_more i j n v h l = record { at = λ k a b. go k a b (tri k j) }
    where
      go : (k : ℕ) → 1 ≤ k → k ≤ n → Tri k j → Hopped s t m' i k
      go k a b (low d) = hopped_more i k (v.at k a (omega arith))
      go k a b (same d) = rw d h
      go k a b (high d) = absurd (omega arith)

module _ (s t m : List ℕ) (i j p : ℕ) (g : Target s t i j p) where
  pub hop_marked : mark_of m p ≡ 1 → Hopped s t m i j
  hop_marked h = record { onto = λ r k a b e q. rw (sym g.there ∙ e) at h }

-- step 1, record by record
pub record LiveTo (s t m : List ℕ) (n : ℕ) : Type 0 where
  pub at : (i : ℕ) → 1 ≤ i → i ≤ n → live (schema_of s) (record_of t i) ≡ true → mark_of m i ≡ 1

pub live_keep : (s t m w : List ℕ) (n : ℕ) (m' w' : List ℕ) (n' : ℕ) → More t m w n m' w' n' → Live s t m → Live s t m'
live_keep s t m w n m' w' n' more v = record { at = λ i a b f. more.keeps i a b (v.at i a b f) }

-- the first entries visited
pub record Done (s t m w : List ℕ) (n : ℕ) : Type 0 where
  pub at : (k : ℕ) → k < n → Visited s t m (get_or w k 0) (field_count s (relation_at t (get_or w k 0)))

pub done_more : (s t m w : List ℕ) (n : ℕ) (m' w' : List ℕ) (n' l i : ℕ) → l < n → Done s t m w l → More t m w n m' w' n'
    → i ≡ get_or w l 0 → Visited s t m' i (field_count s (relation_at t i)) → Done s t m' w' (l + 1)
done_more s t m w n m' w' n' l i b d more at v = record { at = λ k h. go k h (tri k l) }
  where
    go : (k : ℕ) → k < l + 1 → Tri k l → Visited s t m' (get_or w' k 0) (field_count s (relation_at t (get_or w' k 0)))
    go k h (low e) = rw (more.same k (omega arith)) (visited_keep s t m w n m' w' n' more _ _ (d.at k e))
    go k h (same e) = rw (e, more.same l b, ← at) v
    go k h (high e) = absurd (omega arith)

-- All visited: the marked records are those that stand.
module _ (s t m w : List ℕ) (n : ℕ) (c : Checked s t) (q : Queue s t m w n) (v : Live s t m) (d : Done s t m w n) where
  abbrev ordered : List Rec
  ordered = in_order (decode t).records

  Keyed : ℕ → Type 0
  Keyed k = (i : ℕ) → 1 ≤ i → i ≤ used_at t → key_at t i ≡ k → mark_of m i ≡ 1

  starts : (x : Rec) → x ∈ ordered → live (schema_of s) x ≡ true → Keyed x.key
  unfolding Keyed
  starts x h l i a b e = v.at i a b (rw (order_is s t c x i h a b e) l)

  visited : (i : ℕ) → 1 ≤ i → i ≤ used_at t → mark_of m i ≡ 1 → Visited s t m i (field_count s (relation_at t i))
  visited i a b h = let r = q.queued i a b h in rw r.2 at (d.at r.0 r.1)

  abort_reference : (k : ℕ) → is_abort k ≡ true → is_reference k ≡ true
  abort_reference k h = and_left (leb abort_kinds k) (ltb k propagation_kinds) h

  hops : (y x : Rec) → y ∈ ordered → Keyed y.key → x ∈ ordered → complete (schema_of s) x ≡ true → x.key ∈ targets (schema_of s) is_abort y → Keyed x.key
  unfolding Keyed
  hops y x hy my hx f g p a b e =
      let o = order_spot s t c y hy in
      let i = o.at in
      let ey = order_is s t c y i hy o.least o.most o.keyed in
      let z = in_target s t c i o.least o.most is_abort x.key (rw ey g) in
      let l = leads_back s t c i z.at p a b (record { reference = abort_reference (kind_at s (relation_at t i) z.at) z.chosen; nonempty = z.nonempty; key = sym z.key ∙ sym e }) in
      let u = visited i o.least o.most (my i o.least o.most o.keyed) in
      (u.at z.at z.least (omega (arith, z.most))).onto p z.chosen a b l (rw (order_is s t c x p hx a b e) f)

  marked_stands : (i : ℕ) → 1 ≤ i → i ≤ used_at t → has (standing_of s t) (key_at t i) ≡ true → mark_of m i ≡ 1
  unfolding Keyed
  marked_stands i a b h =
      let r = has_in (standing_of s t) (key_at t i) h in
      standing_least (schema_of s) ordered Keyed starts hops r.0 r.1 i a b (sym r.2)

  pub all_marked : Marked t (standing_of s t) m
  all_marked = record { at = λ i a b. go i a b (test (has (standing_of s t) (key_at t i))) }
    where
      go : (i : ℕ) → 1 ≤ i → i ≤ used_at t → (has (standing_of s t) (key_at t i) ≡ true) ⊎ (has (standing_of s t) (key_at t i) ≡ false)
          → get_or m (i - 1) 0 ≡ cond (has (standing_of s t) (record_of t i).key) 1 0
      go i a b (inl h) = rw h (marked_stands i a b h)
      go i a b (inr h) = rw h (q.zero i a b (λ e. clash (q.stands i a b e) h))
