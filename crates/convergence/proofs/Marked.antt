-- The records marked by the marks of a table are those whose key a list has.
-- Assumes nothing.
use Prim.Native.Nat.{ℕ}
use mathlib.Core.Path.{◌≡◌, refl, ap}
use mathlib.Core.Bool.{Bool, true, false, cond}
use mathlib.Core.List.{List, [], ◌∷◌, ◌++◌, map}
use lib.Dec.{eqb}
use Rattle.model.specs.Lists.{only}
use Rattle.model.specs.Records.{Rec, has}
use Rattle.model.specs.Calls.{marked}
use Rattle.laws.proofs.Lists.{only_in, in_only}
use Rattle.laws.proofs.Shown.{has_in, in_has}

pub marked_only : (p : Rec → Bool) (s : List Rec) (m : List ℕ) → marked (map (λ (x : Rec). cond (p x) 1 0) s ++ m) s ≡ only p s
unfolding marked only
marked_only p [] [] = refl
marked_only p [] (k ∷ m) = refl
marked_only p (x ∷ xs) m = go (p x) (marked_only p xs m)
  where
    go : (b : Bool) → marked (map (λ (x : Rec). cond (p x) 1 0) xs ++ m) xs ≡ only p xs
        → cond (eqb (cond b 1 0) 1) (x ∷ marked (map (λ (x : Rec). cond (p x) 1 0) xs ++ m) xs) (marked (map (λ (x : Rec). cond (p x) 1 0) xs ++ m) xs) ≡ cond b (x ∷ only p xs) (only p xs)
    go true e = ap (λ (l : List Rec). x ∷ l) e
    go false e = e

-- of records, those whose key l has
abbrev pub held_by : List Rec → List Rec → List Rec
held_by l s = only (λ (x : Rec). has l x.key) s

pub held_has : (l s : List Rec) (k : ℕ) → has (held_by l s) k ≡ true → has l k ≡ true
held_has l s k h =
    let r = has_in (held_by l s) k h in
    let q = only_in (λ (x : Rec). has l x.key) r.0 s r.1 in
    rw r.2 at q.1

pub has_held : (l s : List Rec) (k : ℕ) → has l k ≡ true → has s k ≡ true → has (held_by l s) k ≡ true
has_held l s k h g =
    let r = has_in s k g in
    in_has (held_by l s) r.0 k (in_only (λ (x : Rec). has l x.key) r.0 s r.1 (rw r.2 h)) r.2
