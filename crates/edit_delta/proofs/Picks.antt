-- The delta of an edit is the draft by its marks: records are redone by their keys or by their positions.
-- Assumes nothing.
use Prim.Native.Nat.{ℕ, zero, suc, ◌-◌, ◌≤◌, ◌<◌}
use mathlib.Core.Path.{◌≡◌, refl, sym, ◌∙◌, ap}
use mathlib.Core.Bool.{Bool, true, false, cond}
use mathlib.Core.List.{List, [], ◌∷◌}
use mathlib.Core.Option.{Option}
use mathlib.Core.Logic.{◌⊎◌, inl, inr}
use native.Mathlib.Omega.{arith}
use lib.Dec.{eqb}
use lib.ListN.{length, get_or}
use borrow.Author.Tests.{eqb-true, eq-eqb}
use Rattle.crdt.specs.Cells.{Cell, join_opt}
use Rattle.crdt.proofs.Tests.{test, clash, or_cases, or_left, or_right}
use Rattle.model.specs.Layout.{fields, delta_records, used_at}
use Rattle.model.specs.Lists.{some_of}
use Rattle.model.specs.Records.{Rec, has, own, at, in_order}
use Rattle.model.specs.Tables.{record_of, decode}
use Rattle.model.specs.Edits.{Edit, delta_of, redoing}
use Rattle.laws.proofs.Join.{ext}
use Rattle.laws.proofs.Lists.{◌∈◌}
use Rattle.laws.proofs.Order.{at_order, order_rising}
use Rattle.laws.proofs.Shown.{listed}
use Rattle.edit_delta.specs.Picked.{Picked, picked_keys, draft_of}
use Rattle.merge_laws.specs.Absorb.{no_rec, nth}
use Rattle.edit_delta.proofs.Wanted.{redone_at, recs_length, recs_at, recs_index}

abbrev among : ℕ → List ℕ → Bool
among k ks = some_of (λ j. eqb k j) ks

-- a picked key is that of a marked record, and such a key is picked
picked_from : (s : List Rec) (m : List ℕ) (k : ℕ) → among k (picked_keys s m) ≡ true → (n : ℕ) × (n < length s) × ((get_or s n no_rec).key ≡ k) × (get_or m n 0 ≡ 1)
unfolding picked_keys some_of
picked_from [] m k h = clash h refl
picked_from (x ∷ xs) [] k h = clash h refl
picked_from (x ∷ xs) (b ∷ bs) k h = go (test (eqb b 1)) (λ g. picked_from xs bs k g)
  where
    R : Type 0
    R = (n : ℕ) × (n < suc (length xs)) × ((get_or (x ∷ xs) n no_rec).key ≡ k) × (get_or (b ∷ bs) n 0 ≡ 1)

    S : Type 0
    S = (n : ℕ) × (n < length xs) × ((get_or xs n no_rec).key ≡ k) × (get_or bs n 0 ≡ 1)

    later : S → R
    later q = (suc q.0, omega (arith, q.1), q.2, q.3)

    first : eqb b 1 ≡ true → (eqb k x.key ≡ true) ⊎ (among k (picked_keys xs bs) ≡ true) → (among k (picked_keys xs bs) ≡ true → S) → R
    first e (inl p) ih = (0, omega arith, sym (eqb-true k x.key p), eqb-true b 1 e)
    first e (inr p) ih = later (ih p)

    go : (eqb b 1 ≡ true) ⊎ (eqb b 1 ≡ false) → (among k (picked_keys xs bs) ≡ true → S) → R
    go (inl e) ih = first e (or_cases (eqb k x.key) (among k (picked_keys xs bs)) (rw e at h)) ih
    go (inr e) ih = later (ih (rw e at h))

picked_to : (s : List Rec) (m : List ℕ) (n : ℕ) → n < length s → length s ≤ length m → get_or m n 0 ≡ 1 → among (get_or s n no_rec).key (picked_keys s m) ≡ true
unfolding picked_keys some_of
picked_to [] m n l h e = absurd (omega arith)
picked_to (x ∷ xs) [] n l h e = absurd (omega arith)
picked_to (x ∷ xs) (b ∷ bs) zero l h e = rw (eq-eqb b 1 e) (or_left _ _ (eq-eqb x.key x.key refl))
picked_to (x ∷ xs) (b ∷ bs) (suc n) l h e = go (eqb b 1) (picked_to xs bs n (omega arith) (omega arith) e)
  where
    go : (c : Bool) → among (get_or xs n no_rec).key (picked_keys xs bs) ≡ true → among (get_or xs n no_rec).key (cond c (x.key ∷ picked_keys xs bs) (picked_keys xs bs)) ≡ true
    go true ih = or_right (eqb (get_or xs n no_rec).key x.key) _ ih
    go false ih = ih

same_test : (a b : Bool) → (a ≡ true → b ≡ true) → (b ≡ true → a ≡ true) → a ≡ b
same_test true true f g = refl
same_test true false f g = sym (f refl)
same_test false true f g = g refl
same_test false false f g = refl

module _ (t ks m : List ℕ) (p : Picked t ks m) (known : (k : ℕ) → k ∈ ks → has (decode t).records k ≡ true) (marks : used_at t ≤ length m) where
  abbrev recs : List Rec
  recs = (decode t).records

  pick_mark : (i : ℕ) → 1 ≤ i → i ≤ used_at t → among (record_of t i).key ks ≡ true → get_or m (i - 1) 0 ≡ 1
  pick_mark i a b h = p.at i a b ∙ rw h

  mark_pick : (i : ℕ) → 1 ≤ i → i ≤ used_at t → get_or m (i - 1) 0 ≡ 1 → among (record_of t i).key ks ≡ true
  mark_pick i a b h = go (test (among (record_of t i).key ks))
    where
      go : (among (record_of t i).key ks ≡ true) ⊎ (among (record_of t i).key ks ≡ false) → among (record_of t i).key ks ≡ true
      go (inl e) = e
      go (inr e) = let z : get_or m (i - 1) 0 ≡ 0 = p.at i a b ∙ rw e in absurd (omega arith)

  pub same_picked : (k : ℕ) → among k ks ≡ among k (picked_keys (decode t).records m)
  same_picked k = same_test (among k ks) (among k (picked_keys recs m)) to of
    where
      to : among k ks ≡ true → among k (picked_keys recs m) ≡ true
      to h =
          let q = recs_index t k (known k (listed k ks h)) in
          let e : (nth recs q.0).key ≡ k = ap (λ (x : Rec). x.key) (recs_at t q.0 q.1 q.2) ∙ q.3 in
          rw e at (picked_to recs m (q.0 - 1) (omega (arith, q.1, q.2, recs_length t)) (omega (arith, recs_length t)) (pick_mark q.0 q.1 q.2 (rw q.3 h)))

      of : among k (picked_keys recs m) ≡ true → among k ks ≡ true
      of h =
          let q = picked_from recs m k h in
          let i = suc q.0 in
          let b : suc q.0 ≤ used_at t = omega (arith, q.1, recs_length t) in
          let z : suc q.0 - 1 ≡ q.0 = omega arith in
          let e : (record_of t (suc q.0)).key ≡ k = ap (λ (x : Rec). x.key) (sym (recs_at t (suc q.0) (omega arith) b)) ∙ ap (λ (n : ℕ). (get_or recs n no_rec).key) z ∙ q.2 in
          rw e at (mark_pick (suc q.0) (omega arith) b (ap (λ (n : ℕ). get_or m n 0) z ∙ q.3))

  pub same_redone : (x : Rec) → in_order (x ∷ redoing fields (in_order (decode t).records) ks) ≡ in_order (x ∷ redoing fields (in_order (decode t).records) (picked_keys (decode t).records m))
  same_redone x = ext 0 _ _ (order_rising _) (order_rising _) (λ k. at_order k (x ∷ redoing fields (in_order recs) ks) ∙ both k ∙ sym (at_order k (x ∷ redoing fields (in_order recs) (picked_keys recs m))))
    where
      one : (k : ℕ) → at k (redoing fields (in_order recs) ks) ≡ at k (redoing fields (in_order recs) (picked_keys recs m))
      one k = redone_at fields (in_order recs) ks k ∙ rw (same_picked k) (sym (redone_at fields (in_order recs) (picked_keys recs m) k))

      both : (k : ℕ) → at k (x ∷ redoing fields (in_order recs) ks) ≡ at k (x ∷ redoing fields (in_order recs) (picked_keys recs m))
      both k = unfold at in ap (λ (o : Option Cell). join_opt (own k x) o) (one k)

-- The delta of an edit whose changes are one record and redone ones is the draft by the marks of the redone ones.
pub draft_delta : (t : List ℕ) (e : Edit) (x : Rec) (ks m : List ℕ) → e.changed ≡ x ∷ redoing fields (in_order (decode t).records) ks → Picked t ks m
    → ((k : ℕ) → k ∈ ks → has (decode t).records k ≡ true) → used_at t ≤ length m → delta_of fields (decode t) e ≡ draft_of t e.clock x m
unfolding delta_of draft_of
draft_delta t e x ks m c p known marks =
    let z = ap in_order c ∙ same_redone t ks m p known marks x in
    λ i. record { capacity = delta_records; replica = (decode t).replica; clock = e.clock; records = z i }
