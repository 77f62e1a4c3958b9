-- As many marks as keys that are picked, or fewer: what a draft needs of the marks, from the keys to be redone.
-- Assumes nothing.
use Prim.Native.Nat.{ℕ, suc, ◌≤◌}
use mathlib.Core.Path.{◌≡◌, refl, sym, ◌∙◌, ap}
use mathlib.Core.Bool.{Bool, true, false, cond}
use mathlib.Core.List.{List, [], ◌∷◌}
use mathlib.Core.Logic.{◌⊎◌, inl, inr, ◌≢◌}
use native.Mathlib.Omega.{arith}
use lib.Dec.{eqb}
use lib.ListN.{length}
use borrow.Author.Tests.{eqb-true, eqb-false, eq-eqb, ne_eqb}
use Rattle.crdt.proofs.Tests.{test, clash, or_left, or_right}
use Rattle.model.specs.Layout.{used_at}
use Rattle.model.specs.Lists.{some_of}
use Rattle.model.specs.Records.{Rec, has, distinct, Distinct}
use Rattle.model.specs.Tables.{decode}
use Rattle.laws.proofs.Lists.{◌∈◌}
use Rattle.laws.proofs.Valid.{distinct_true}
use Rattle.wellformed.proofs.Pigeon.{Out, NoDup}
use Rattle.edit_delta.specs.Picked.{Picked, picked_keys}
use Rattle.edit_delta.proofs.Wanted.{picked_none}
use Rattle.edit_delta.proofs.Picks.{same_picked}

abbrev among : ℕ → List ℕ → Bool
among k ks = some_of (λ j. eqb k j) ks

among_here : (k : ℕ) (l : List ℕ) → among k (k ∷ l) ≡ true
unfolding some_of
among_here k l = or_left _ _ (eq-eqb k k refl)

among_there : (k j : ℕ) (l : List ℕ) → among k l ≡ true → among k (j ∷ l) ≡ true
unfolding some_of
among_there k j l h = or_right (eqb k j) _ h

among_nil : {X : Type 0} (k : ℕ) → among k [] ≡ true → X
unfolding some_of
among_nil k h = clash h refl

among_other : (k j : ℕ) (l : List ℕ) → k ≢ j → among k (j ∷ l) ≡ true → among k l ≡ true
unfolding some_of
among_other k j l n h = rw (ne_eqb k j n) at h

out_of : (k : ℕ) (l : List ℕ) → among k l ≡ false → Out k l
out_of k [] h = tt
out_of k (j ∷ l) h = (λ e. clash (rw e (among_here j l)) h, out_of k l (later (test (among k l))))
  where
    later : (among k l ≡ true) ⊎ (among k l ≡ false) → among k l ≡ false
    later (inl p) = clash (among_there k j l p) h
    later (inr p) = p

-- the picked keys of records with different keys are different
picked_nodup : (s : List Rec) (m : List ℕ) → Distinct s → NoDup (picked_keys s m)
unfolding picked_keys
picked_nodup [] m d = tt
picked_nodup (x ∷ xs) [] d = tt
picked_nodup (x ∷ xs) (b ∷ bs) d = go (eqb b 1) (picked_nodup xs bs d.1)
  where
    go : (c : Bool) → NoDup (picked_keys xs bs) → NoDup (cond c (x.key ∷ picked_keys xs bs) (picked_keys xs bs))
    go true ih = (out_of x.key (picked_keys xs bs) (picked_none xs bs x.key d.0), ih)
    go false ih = ih

-- without one of them
without : ℕ → List ℕ → List ℕ
without k [] = []
without k (j ∷ l) = let r = without k l in cond (eqb j k) r (j ∷ r)

without_here : (k : ℕ) (l : List ℕ) (j : ℕ) → j ≡ k → without k (j ∷ l) ≡ without k l
unfolding without
without_here k l j e = rw (eq-eqb j k e)

without_there : (k : ℕ) (l : List ℕ) (j : ℕ) → j ≢ k → without k (j ∷ l) ≡ j ∷ without k l
unfolding without
without_there k l j e = rw (ne_eqb j k e)

without_out : (k : ℕ) (l : List ℕ) → Out k l → without k l ≡ l
without_out k [] o = unfold without in refl
without_out k (j ∷ l) o = without_there k l j (λ e. o.0 (sym e)) ∙ ap (λ (q : List ℕ). j ∷ q) (without_out k l o.1)

without_length : (k : ℕ) (l : List ℕ) → NoDup l → length l ≤ suc (length (without k l))
without_length k [] d = omega arith
without_length k (j ∷ l) d = go (test (eqb j k)) (without_length k l d.1)
  where
    go : (eqb j k ≡ true) ⊎ (eqb j k ≡ false) → length l ≤ suc (length (without k l)) → suc (length l) ≤ suc (length (without k (j ∷ l)))
    go (inl p) ih = let e : j ≡ k = eqb-true j k p in omega (arith, ap length (without_here k l j e ∙ without_out k l (rw e at d.0)))
    go (inr p) ih = omega (arith, ap length (without_there k l j (eqb-false j k p)))

without_still : (k i : ℕ) (l : List ℕ) → Out i l → Out i (without k l)
without_still k i [] o = unfold without in tt
without_still k i (j ∷ l) o = go (test (eqb j k)) (without_still k i l o.1)
  where
    go : (eqb j k ≡ true) ⊎ (eqb j k ≡ false) → Out i (without k l) → Out i (without k (j ∷ l))
    go (inl p) ih = rw (without_here k l j (eqb-true j k p)) ih
    go (inr p) ih = rw (without_there k l j (eqb-false j k p)) (o.0, ih)

without_nodup : (k : ℕ) (l : List ℕ) → NoDup l → NoDup (without k l)
without_nodup k [] d = unfold without in tt
without_nodup k (j ∷ l) d = go (test (eqb j k)) (without_nodup k l d.1)
  where
    go : (eqb j k ≡ true) ⊎ (eqb j k ≡ false) → NoDup (without k l) → NoDup (without k (j ∷ l))
    go (inl p) ih = rw (without_here k l j (eqb-true j k p)) ih
    go (inr p) ih = rw (without_there k l j (eqb-false j k p)) (without_still k j l d.0, ih)

without_among : (k i : ℕ) (l : List ℕ) → among i (without k l) ≡ true → (among i l ≡ true) × (i ≢ k)
without_among k i [] h = among_nil i (unfold without in h)
without_among k i (j ∷ l) h = go (test (eqb j k)) (λ g. without_among k i l g)
  where
    later : (among i l ≡ true) × (i ≢ k) → (among i (j ∷ l) ≡ true) × (i ≢ k)
    later q = (among_there i j l q.0, q.1)

    here : j ≢ k → (eqb i j ≡ true) ⊎ (eqb i j ≡ false) → among i (j ∷ without k l) ≡ true → (among i (without k l) ≡ true → (among i l ≡ true) × (i ≢ k)) → (among i (j ∷ l) ≡ true) × (i ≢ k)
    here n (inl p) g ih = let e : i ≡ j = eqb-true i j p in (rw e (among_here j l), λ z. n (sym e ∙ z))
    here n (inr p) g ih = later (ih (among_other i j (without k l) (eqb-false i j p) g))

    go : (eqb j k ≡ true) ⊎ (eqb j k ≡ false) → (among i (without k l) ≡ true → (among i l ≡ true) × (i ≢ k)) → (among i (j ∷ l) ≡ true) × (i ≢ k)
    go (inl p) ih = later (ih (rw (without_here k l j (eqb-true j k p)) at h))
    go (inr p) ih = let n = eqb-false j k p in here n (test (eqb i j)) (rw (without_there k l j n) at h) ih

-- different members of a list are no more than it has
few_of : (ks l : List ℕ) → NoDup l → ((i : ℕ) → among i l ≡ true → among i ks ≡ true) → length l ≤ length ks
few_of [] [] d h = omega arith
few_of [] (j ∷ l) d h = among_nil j (h j (among_here j l))
few_of (k ∷ ks) l d h =
    omega (arith, without_length k l d, few_of ks (without k l) (without_nodup k l d) (λ i g. let q = without_among k i l g in among_other i k ks q.1 (h i q.0)))

-- Marks by keys that the table holds are no more than the keys.
pub picked_few : (t ks m : List ℕ) → Picked t ks m → ((k : ℕ) → k ∈ ks → has (decode t).records k ≡ true) → used_at t ≤ length m → distinct (decode t).records ≡ true
    → length (picked_keys (decode t).records m) ≤ length ks
picked_few t ks m p known marks d =
    few_of ks (picked_keys (decode t).records m) (picked_nodup (decode t).records m (distinct_true (decode t).records d)) (λ i g. same_picked t ks m p known marks i ∙ g)
