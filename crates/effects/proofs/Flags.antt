-- The flags that an edit redoes: which keys, and what becomes of their flags.
-- Assumes nothing.
use Prim.Native.Nat.{ℕ, max, ◌+◌, ◌%◌, ◌<◌}
use mathlib.Core.Path.{◌≡◌, refl, ◌∙◌}
use mathlib.Core.Logic.{◌⊎◌, inl, inr}
use mathlib.Core.Bool.{Bool, true, false, cond, ◌||◌, ◌&&◌, not}
use mathlib.Core.List.{List, [], ◌∷◌, ◌++◌}
use native.Mathlib.Omega.{arith}
use lib.Dec.{eqb}
use borrow.Author.Tests.{eqb-true, eq-eqb, lt-ltb}
use Rattle.crdt.specs.Flags.{largest_flag, is_odd, is_even, deleted, redone}
use Rattle.crdt.proofs.Tests.{test, clash, and_none}
use Rattle.model.specs.Lists.{only, some_of}
use Rattle.model.specs.Records.{Rec}
use Rattle.model.specs.Edits.{flag_of, odd, spent}
use Rattle.laws.proofs.Lists.{in_some}
use Rattle.laws.proofs.Shown.{listed}
use Rattle.effects.specs.Effects.{Redone}
use Rattle.effects.proofs.Joins.{among}

-- a key among those that pass a test
pub among_only : (p : ℕ → Bool) (k : ℕ) (l : List ℕ) → among k (only p l) ≡ (p k && among k l)
unfolding only some_of
among_only p k [] = and_none (p k)
among_only p k (j ∷ l) = go (test (eqb k j)) (test (p j)) (among_only p k l)
  where
    go : (eqb k j ≡ true) ⊎ (eqb k j ≡ false) → (p j ≡ true) ⊎ (p j ≡ false) → among k (only p l) ≡ (p k && among k l)
        → among k (cond (p j) (j ∷ only p l) (only p l)) ≡ (p k && (eqb k j || among k l))
    go (inl e) (inl q) h = let q' : p k ≡ true = rw (eqb-true k j e) q in rw (q, q', e)
    go (inl e) (inr q) h = let q' : p k ≡ false = rw (eqb-true k j e) q in rw q (h ∙ rw q')
    go (inr e) (inl q) h = rw (q, e) h
    go (inr e) (inr q) h = rw (q, e) h

pub among_append : (k : ℕ) (l m : List ℕ) → among k (l ++ m) ≡ (among k l || among k m)
unfolding some_of
among_append k [] m = refl
among_append k (j ∷ l) m = go (eqb k j) (among_append k l m)
  where
    go : (b : Bool) → among k (l ++ m) ≡ (among k l || among k m) → (b || among k (l ++ m)) ≡ (b || among k l || among k m)
    go true h = refl
    go false h = h

pub among_odd : (c : List Rec) (k : ℕ) (l : List ℕ) → among k (odd c l) ≡ (is_odd (flag_of c k) && among k l)
unfolding odd
among_odd c k l = among_only (λ j. is_odd (flag_of c j)) k l

-- "a flag to be redone is 65,535" did not apply
pub not_spent : (c : List Rec) (k : ℕ) (ks : List ℕ) → spent c ks ≡ false → among k ks ≡ true → flag_of c k ≡ largest_flag → ⊥
unfolding spent
not_spent c k ks h m e = clash (in_some (λ j. eqb (flag_of c j) largest_flag) k ks (listed k ks m) (eq-eqb (flag_of c k) largest_flag e)) h

-- the larger of a flag and the redone one
pub redone_law : (b : Bool) (f f' : ℕ) → (b ≡ true → is_odd f ≡ true) → (b ≡ true → f < largest_flag) → f' ≡ max f (max 0 (cond b (redone f) 0)) → Redone b f f'
unfolding redone
redone_law true f f' o l e =
    let o' = o refl in
    let l' = l refl in
    let m : f % 2 ≡ 1 = eqb-true (f % 2) 1 o' in
    let e' : f' ≡ max f (max 0 (f + 1)) = e ∙ rw (o', lt-ltb f largest_flag l') in
    let q : f' ≡ f + 1 = omega arith in
    record { odd = o; raised = λ h. q; even = λ h. eq-eqb (f' % 2) 0 (omega arith); kept = λ h. clash refl h }
redone_law false f f' o l e = record { odd = o; raised = λ h. clash h refl; even = λ h. clash h refl; kept = λ h. omega arith }

-- the larger of an even flag and the deleted one
pub deleted_law : (f f' : ℕ) → is_even f ≡ true → f < largest_flag → f' ≡ max f (max (deleted f) 0) → (f' ≡ f + 1) × (is_odd f' ≡ true)
unfolding deleted
deleted_law f f' o l e =
    let m : f % 2 ≡ 0 = eqb-true (f % 2) 0 o in
    let e' : f' ≡ max f (max (f + 1) 0) = e ∙ rw (o, lt-ltb f largest_flag l) in
    let q : f' ≡ f + 1 = omega arith in
    (q, eq-eqb (f' % 2) 1 (omega arith))
