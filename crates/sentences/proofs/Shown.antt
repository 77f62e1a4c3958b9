-- What is shown: never an incomplete record, two records that reference each other, and never a loser of step 3.
-- Assumes nothing.
use Prim.Native.Nat.{ℕ, zero, suc, ◌-◌, ◌≤◌, ◌<◌}
use mathlib.Core.Path.{◌≡◌, refl, sym, ◌∙◌}
use mathlib.Core.Logic.{◌⊎◌, inl, inr}
use mathlib.Core.Bool.{Bool, true, false, cond, ◌&&◌}
use mathlib.Core.List.{List, [], ◌∷◌, ◌++◌, map}
use native.Mathlib.Omega.{arith}
use lib.ListN.{length, get_or, replicate}
use borrow.Author.Tests.{not-false}
use Rattle.crdt.proofs.Tests.{test, clash, and_left, and_right}
use Rattle.model.specs.Layout.{used_at}
use Rattle.model.specs.Lists.{all_of, listed}
use Rattle.model.specs.Schemas.{Relation, is_reference, schema_of}
use Rattle.model.specs.Records.{Rec, has, in_order}
use Rattle.model.specs.Tables.{record_of, decode}
use Rattle.model.specs.Shown.{complete, targets, conflict, standing, kept, shown}
use Rattle.model.specs.Calls.{schema_length, table_length, marks_of, marks_number, marks_marks}
use Rattle.laws.proofs.Lists.{◌∈◌}
use Rattle.laws.proofs.Checks.{passed}
use Rattle.laws.proofs.Members.{one_key, in_order_lem}
use Rattle.laws.proofs.Drafts.{shown_in}
use Rattle.laws.proofs.Shown.{has_in, standing_in, kept_in, kept_apart, settled_part, settled_largest}
use Rattle.wellformed.proofs.Ranges.{listed_length, listed_at}
use Rattle.wellformed.proofs.Follow.{no_rec}
use Rattle.convergence.proofs.Walk.{get_d_in}
use Rattle.convergence.proofs.Tables.{Good, good_valid}

module _ (σ : List Relation) (c : List Rec) where
  shown_kept : (x : Rec) → x ∈ shown σ c → x ∈ kept σ (standing σ c)
  unfolding shown
  shown_kept x m = settled_part σ _ x m

  -- "Incomplete records are .. never shown."
  pub incomplete_hidden : (x : Rec) → complete σ x ≡ false → x ∈ shown σ c → ⊥
  incomplete_hidden x e m = clash (standing_in σ c x (kept_in σ (standing σ c) x (shown_kept x m))).1 e

  -- "Two records that reference each other may thus stay.": they do, where step 3 keeps both and they reference nothing else.
  pub each_other_stay : (x y : Rec) → x ∈ kept σ (standing σ c) → y ∈ kept σ (standing σ c)
      → ((k : ℕ) → k ∈ targets σ is_reference x → k ≡ y.key) → ((k : ℕ) → k ∈ targets σ is_reference y → k ≡ x.key)
      → (x ∈ shown σ c) × (y ∈ shown σ c)
  unfolding shown
  each_other_stay x y hx hy tx ty = (stays x (inl refl), stays y (inr refl))
    where
      Two : Rec → Type 0
      Two z = (z ≡ x) ⊎ (z ≡ y)

      leads : (z : Rec) → Two z → (k : ℕ) → k ∈ targets σ is_reference z → (w : Rec) × Two w × (w.key ≡ k)
      leads z (inl e) k h = (y, inr refl, sym (tx k (rw e at h)))
      leads z (inr e) k h = (x, inl refl, sym (ty k (rw e at h)))

      inside : (z : Rec) → Two z → z ∈ kept σ (standing σ c)
      inside z (inl e) = rw e hx
      inside z (inr e) = rw e hy

      stays : (z : Rec) → Two z → z ∈ shown σ c
      stays z p = settled_largest σ Two leads (kept σ (standing σ c)) inside z p

  -- "A step 3 winner lost in step 4 does not bring its loser back.": whatever becomes of the winner.
  pub loser_hidden : (winner loser : Rec) → winner ∈ kept σ (standing σ c) → winner.key < loser.key → conflict σ winner loser ≡ true → loser ∈ shown σ c → ⊥
  loser_hidden winner loser h l e m = absurd (omega (arith, kept_apart σ (standing σ c) winner loser h (shown_kept loser m) e))

-- Over words: an accepted marks call writes 0 for an incomplete record.
mark_at : (p : Rec → ℕ) (l : List Rec) (m : List ℕ) (n : ℕ) (d : Rec) → n < length l → get_or (map p l ++ m) n 0 ≡ p (get_or l n d)
mark_at p [] m n d h = absurd (omega arith)
mark_at p (x ∷ xs) m zero d h = refl
mark_at p (x ∷ xs) m (suc n) d h = mark_at p xs m n d (omega arith)

marks_good : (s t m : List ℕ) → marks_number s t m ≡ 0 → Good s t
unfolding marks_number all_of
marks_good s t m h =
    let p = passed _ refl h in
    let l = and_left (schema_length s && table_length t) _ (not-false _ p.0) in
    record { lent = and_left (schema_length s) _ l; sized = and_right (schema_length s) _ l; sound = p.1.0; formed = not-false _ p.1.1.0 }

-- the mark of record i
pub mark_is : (s t : List ℕ) (i : ℕ) → 1 ≤ i → i ≤ used_at t → get_or (marks_of s t) (i - 1) 0 ≡ cond (has (shown (schema_of s) (in_order (decode t).records)) (record_of t i).key) 1 0
unfolding decode marks_of
mark_is s t i l u =
    let within : i - 1 < length (listed (used_at t) (record_of t)) = omega (arith, listed_length (used_at t) (record_of t)) in
    mark_at _ (listed (used_at t) (record_of t)) _ (i - 1) no_rec within ∙ rw (listed_at (used_at t) (record_of t) i no_rec l u)

pub incomplete_unmarked : (s t m : List ℕ) (i : ℕ) → marks_number s t m ≡ 0 → 1 ≤ i → i ≤ used_at t → complete (schema_of s) (record_of t i) ≡ false
    → get_or (marks_marks s t m) (i - 1) 0 ≡ 0
unfolding marks_marks
incomplete_unmarked s t m i h l u e = rw h (go (test (has (shown (schema_of s) (in_order recs)) (record_of t i).key)))
  where
    recs : List Rec
    recs = (decode t).records

    within : i - 1 < length recs
    within = unfold decode in omega (arith, listed_length (used_at t) (record_of t))

    here : get_or recs (i - 1) no_rec ≡ record_of t i
    here = unfold decode in listed_at (used_at t) (record_of t) i no_rec l u

    is : get_or (marks_of s t) (i - 1) 0 ≡ cond (has (shown (schema_of s) (in_order recs)) (record_of t i).key) 1 0
    is = mark_is s t i l u

    go : (has (shown (schema_of s) (in_order recs)) (record_of t i).key ≡ true) ⊎ (has (shown (schema_of s) (in_order recs)) (record_of t i).key ≡ false)
        → get_or (marks_of s t) (i - 1) 0 ≡ 0
    go (inr n) = is ∙ rw n
    go (inl y) =
        let r = has_in (shown (schema_of s) (in_order recs)) (record_of t i).key y in
        let q : record_of t i ∈ recs = rw here at (get_d_in recs (i - 1) no_rec within) in
        let d = (good_valid s t (marks_good s t m h)).distinct in
        let o = one_key recs d (record_of t i) r.0 q (in_order_lem recs d r.0 (shown_in (schema_of s) (in_order recs) r.0 r.1)) (sym r.2) in
        absurd (incomplete_hidden (schema_of s) (in_order recs) (record_of t i) e (rw o r.1))
