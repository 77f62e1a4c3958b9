-- Marks between the shown records and the kept ones: dropping a record that is not grounded leaves them there, and where every marked
-- record is grounded they are the shown ones.
-- Assumes nothing.
use Prim.Native.Nat.{ℕ, ◌-◌, ◌≤◌, ◌<◌}
use mathlib.Core.Path.{◌≡◌, refl, sym, ◌∙◌, ap}
use mathlib.Core.Logic.{◌⊎◌, inl, inr}
use mathlib.Core.Bool.{Bool, true, false, cond, ◌&&◌, not}
use mathlib.Core.List.{List}
use native.Mathlib.Omega.{arith}
use lib.Dec.{eqb}
use lib.ListN.{length, get_or, set, get_or-eq_default}
use lib.Seq.{get_or-set_same, get_or-set_other}
use Rattle.crdt.proofs.Tests.{Tri, low, same, high, tri, test, clash, and_left, and_right, and_both, not_true, not_false}
use Rattle.model.specs.Layout.{used_at}
use Rattle.model.specs.Schemas.{is_reference, schema_of}
use Rattle.model.specs.Records.{Rec, has, in_order}
use Rattle.model.specs.Tables.{record_of, decode}
use Rattle.model.specs.Shown.{targets, standing, kept, shown}
use Rattle.laws.proofs.Lists.{◌∈◌}
use Rattle.laws.proofs.Shown.{standing_in, kept_in, settled_part, settled_largest, shown_references}
use Rattle.marks.specs.Marks.{is_marked}
use Rattle.marks.proofs.Marks.{marked_true, true_marked}
use Rattle.marks.proofs.Members.{in_record, member_at, holds}
use Rattle.references.specs.Resolved.{Resolves, Marked}
use Rattle.judged.specs.Checked.{Checked}
use Rattle.list_keys.proofs.Listed.{marked_has, has_marked}
use Rattle.list_settled.specs.Rounds.{grounded_at, drops_at, dropped_at}
use Rattle.list_settled.proofs.Grounded.{LedTo, grounded_held, held_grounded}

abbrev pub kept_of : List ℕ → List ℕ → List Rec
kept_of s t = kept (schema_of s) (standing (schema_of s) (in_order (decode t).records))

abbrev pub shown_of : List ℕ → List ℕ → List Rec
shown_of s t = shown (schema_of s) (in_order (decode t).records)

pub record Between (s t m : List ℕ) : Type 0 where
  pub bits : (i : ℕ) → 1 ≤ i → i ≤ used_at t → is_marked m i ≡ false → get_or m (i - 1) 0 ≡ 0
  pub upper : (i : ℕ) → 1 ≤ i → i ≤ used_at t → is_marked m i ≡ true → has (kept_of s t) (record_of t i).key ≡ true
  pub lower : (i : ℕ) → 1 ≤ i → i ≤ used_at t → has (shown_of s t) (record_of t i).key ≡ true → is_marked m i ≡ true

cond_zero : (x : Bool) → (cond {A = ℕ} x 1 0 ≡ 1 → ⊥) → cond {A = ℕ} x 1 0 ≡ 0
cond_zero true n = absurd (n refl)
cond_zero false n = refl

-- one mark cleared
module _ (m : List ℕ) (i : ℕ) (h : is_marked m i ≡ true) where
  inside : i - 1 < length m
  inside = go (tri (i - 1) (length m))
    where
      go : Tri (i - 1) (length m) → i - 1 < length m
      go (low l) = l
      go (same e) = let l : length m ≤ i - 1 = omega arith in absurd (omega (arith, sym (get_or-eq_default m 0 l) ∙ (marked_true m i h).1))
      go (high l) = let l : length m ≤ i - 1 = omega arith in absurd (omega (arith, sym (get_or-eq_default m 0 l) ∙ (marked_true m i h).1))

  cleared_here : get_or (set m (i - 1) 0) (i - 1) 0 ≡ 0
  cleared_here = get_or-set_same m (i - 1) 0 0 inside

  cleared_other : (j : ℕ) → 1 ≤ j → (j ≡ i → ⊥) → get_or (set m (i - 1) 0) (j - 1) 0 ≡ get_or m (j - 1) 0
  cleared_other j a n = let k : j - 1 ≡ i - 1 → ⊥ = λ e. n (omega (arith, (marked_true m i h).0)) in get_or-set_other m (i - 1) (j - 1) 0 0 k

  cleared_not : is_marked (set m (i - 1) 0) i ≡ true → ⊥
  cleared_not e = omega (arith, (marked_true (set m (i - 1) 0) i e).1, cleared_here)

  cleared_marked : (j : ℕ) → 1 ≤ j → (j ≡ i → ⊥) → is_marked (set m (i - 1) 0) j ≡ is_marked m j
  unfolding is_marked
  cleared_marked j a n = ap (λ (x : ℕ). not (eqb j 0) && eqb x 1) (cleared_other j a n)

same_or : (i j : ℕ) → (i ≡ j) ⊎ (i ≡ j → ⊥)
same_or i j = go (tri i j)
  where
    go : Tri i j → (i ≡ j) ⊎ (i ≡ j → ⊥)
    go (low l) = inr (λ e. omega arith)
    go (same e) = inl e
    go (high l) = inr (λ e. omega arith)

module _ (s t : List ℕ) (ck : Checked s t) where
  abbrev ordered : List Rec
  ordered = in_order (decode t).records

  kept_part : (x : Rec) → x ∈ kept_of s t → x ∈ ordered
  kept_part x h = (standing_in (schema_of s) ordered x (kept_in (schema_of s) (standing (schema_of s) ordered) x h)).0

  shown_kept : (x : Rec) → x ∈ shown_of s t → x ∈ kept_of s t
  unfolding shown
  shown_kept x h = settled_part (schema_of s) (kept_of s t) x h

  pub shown_part : (x : Rec) → x ∈ shown_of s t → x ∈ ordered
  shown_part x h = kept_part x (shown_kept x h)

  pub between_kept : (m : List ℕ) → Marked t (kept_of s t) m → Between s t m
  between_kept m mk =
      record {
        bits = λ i a l h. mk.at i a l ∙ cond_zero (has (kept_of s t) (record_of t i).key) (λ e. clash (true_marked m i a (mk.at i a l ∙ e)) h);
        upper = λ i a l h. marked_has s t ck.schema ck.formed (kept_of s t) m mk i a l h;
        lower = λ i a l h.
            has_marked s t ck.schema ck.formed (kept_of s t) m mk i a l
            (holds s t ck.schema ck.formed (kept_of s t) i (shown_kept (record_of t i) (member_at s t ck.schema ck.formed (shown_of s t) shown_part i a l h)));
      }

  module _ (refs m : List ℕ) (rs : Resolves s t refs) (bt : Between s t m) where
    -- a shown record is grounded
    shown_grounded : (i : ℕ) → 1 ≤ i → i ≤ used_at t → has (shown_of s t) (record_of t i).key ≡ true → grounded_at refs m i ≡ true
    shown_grounded i a l h =
        let x = member_at s t ck.schema ck.formed (shown_of s t) shown_part i a l h in
        held_grounded s t refs m ck rs i a l (λ k g. lead k (shown_references (schema_of s) ordered (record_of t i) x k g))
      where
        lead : (k : ℕ) → (y : Rec) × (y ∈ shown_of s t) × (y.key ≡ k) → LedTo t m k
        lead k y =
            let r = in_record s t ck.schema ck.formed y.0 (shown_part y.0 y.1) in
            let q : record_of t r.0 ∈ shown_of s t = rw r.3 at y.1 in
            record {
              index = r.0;
              from_one = r.1;
              within = r.2;
              keyed = ap (λ (x : Rec). x.key) (sym r.3) ∙ y.2;
              marked = bt.lower r.0 r.1 r.2 (holds s t ck.schema ck.formed (shown_of s t) r.0 q);
            }

    pub between_drop : (i : ℕ) → 1 ≤ i → i ≤ used_at t → Between s t (dropped_at refs m i)
    unfolding dropped_at drops_at
    between_drop i a l = go (test (drops_at refs m i))
      where
        drop : is_marked m i ≡ true → grounded_at refs m i ≡ false → Between s t (set m (i - 1) 0)
        drop h g =
            record {
              bits = λ j b k e. bits j b k e (same_or j i);
              upper = λ j b k e. upper j b k e (same_or j i);
              lower = λ j b k e. lower j b k e (same_or j i);
            }
          where
            bits : (j : ℕ) → 1 ≤ j → j ≤ used_at t → is_marked (set m (i - 1) 0) j ≡ false → (j ≡ i) ⊎ (j ≡ i → ⊥) → get_or (set m (i - 1) 0) (j - 1) 0 ≡ 0
            bits j b k e (inl q) = rw q (cleared_here m i h)
            bits j b k e (inr n) = cleared_other m i h j b n ∙ bt.bits j b k (sym (cleared_marked m i h j b n) ∙ e)

            upper : (j : ℕ) → 1 ≤ j → j ≤ used_at t → is_marked (set m (i - 1) 0) j ≡ true → (j ≡ i) ⊎ (j ≡ i → ⊥) → has (kept_of s t) (record_of t j).key ≡ true
            upper j b k e (inl q) = absurd (cleared_not m i h (rw q at e))
            upper j b k e (inr n) = bt.upper j b k (sym (cleared_marked m i h j b n) ∙ e)

            lower : (j : ℕ) → 1 ≤ j → j ≤ used_at t → has (shown_of s t) (record_of t j).key ≡ true → (j ≡ i) ⊎ (j ≡ i → ⊥) → is_marked (set m (i - 1) 0) j ≡ true
            lower j b k e (inl q) = clash (shown_grounded i a l (rw q at e)) g
            lower j b k e (inr n) = cleared_marked m i h j b n ∙ bt.lower j b k e

        go : (drops_at refs m i ≡ true) ⊎ (drops_at refs m i ≡ false) → Between s t (cond (is_marked m i && not (grounded_at refs m i)) (set m (i - 1) 0) m)
        go (inl e) = rw e (drop (and_left (is_marked m i) (not (grounded_at refs m i)) e) (not_true (grounded_at refs m i) (and_right (is_marked m i) (not (grounded_at refs m i)) e)))
        go (inr e) = rw e bt

    -- at rest
    module _ (rest : (i : ℕ) → 1 ≤ i → i ≤ used_at t → drops_at refs m i ≡ false) where
      stays : (i : ℕ) → 1 ≤ i → i ≤ used_at t → is_marked m i ≡ true → grounded_at refs m i ≡ true
      unfolding drops_at
      stays i a l h = go (test (grounded_at refs m i))
        where
          go : (grounded_at refs m i ≡ true) ⊎ (grounded_at refs m i ≡ false) → grounded_at refs m i ≡ true
          go (inl e) = e
          go (inr e) = clash (and_both (is_marked m i) (not (grounded_at refs m i)) h (not_false (grounded_at refs m i) e)) (rest i a l)

      abbrev Marks : Rec → Type 0
      Marks x = (i : ℕ) × (1 ≤ i) × (i ≤ used_at t) × (x ≡ record_of t i) × (is_marked m i ≡ true)

      closed : (x : Rec) → Marks x → (k : ℕ) → k ∈ targets (schema_of s) is_reference x → (y : Rec) × Marks y × (y.key ≡ k)
      closed x p k g =
          let h = grounded_held s t refs m ck rs p.0 p.1 p.2 (stays p.0 p.1 p.2 p.4) k (rw p.3 at g) in
          (record_of t h.index, (h.index, h.from_one, h.within, refl, h.marked), h.keyed)

      within : (x : Rec) → Marks x → x ∈ kept_of s t
      within x p = rw p.3 (member_at s t ck.schema ck.formed (kept_of s t) kept_part p.0 p.1 p.2 (bt.upper p.0 p.1 p.2 p.4))

      marked_shown : (i : ℕ) → 1 ≤ i → i ≤ used_at t → is_marked m i ≡ true → has (shown_of s t) (record_of t i).key ≡ true
      unfolding shown
      marked_shown i a l h = holds s t ck.schema ck.formed (shown_of s t) i (settled_largest (schema_of s) Marks closed (kept_of s t) within (record_of t i) (i, a, l, refl, h))

      pub at_rest : Marked t (shown_of s t) m
      at_rest = record { at = λ i a l. go i a l (test (is_marked m i)) }
        where
          go : (i : ℕ) → 1 ≤ i → i ≤ used_at t → (is_marked m i ≡ true) ⊎ (is_marked m i ≡ false) → get_or m (i - 1) 0 ≡ cond (has (shown_of s t) (record_of t i).key) 1 0
          go i a l (inl h) = rw (marked_shown i a l h) (marked_true m i h).1
          go i a l (inr h) = rw (hidden (test (has (shown_of s t) (record_of t i).key))) (bt.bits i a l h)
            where
              hidden : (has (shown_of s t) (record_of t i).key ≡ true) ⊎ (has (shown_of s t) (record_of t i).key ≡ false) → has (shown_of s t) (record_of t i).key ≡ false
              hidden (inl e) = clash (bt.lower i a l e) h
              hidden (inr e) = e
