-- The records of a rising list that lie below a key.
-- Assumes nothing.
use Prim.Native.Nat.{ℕ, suc, ◌≤◌, ◌<◌}
use mathlib.Core.Path.{◌≡◌, refl, sym, ◌∙◌, ap}
use mathlib.Core.Bool.{true, false}
use mathlib.Core.List.{List, [], ◌∷◌, ◌++◌}
use mathlib.Core.Option.{none, some}
use mathlib.Core.Logic.{◌⊎◌, inl, inr}
use native.Mathlib.Omega.{arith}
use lib.Dec.{ltb}
use borrow.Author.Tests.{ltb-true, ltb-false, lt-ltb, le-ltb}
use Rattle.crdt.specs.Cells.{Cell}
use Rattle.crdt.proofs.Tests.{test, Tri, low, same, high, tri}
use Rattle.model.specs.Lists.{only}
use Rattle.model.specs.Records.{Rec, has, at, Rising}
use Rattle.laws.proofs.Join.{at_below, at_head, at_tail, nothing, rising_weaken}
use Rattle.laws.proofs.Lists.{only_in}
use Rattle.laws.proofs.Shown.{has_in, in_has}
use Rattle.wellformed.proofs.Follow.{has_here, has_there}

abbrev pub under : ℕ → List Rec → List Rec
under b s = only (λ (x : Rec). ltb x.key b) s

under_yes : (b : ℕ) (x : Rec) (xs : List Rec) → x.key < b → under b (x ∷ xs) ≡ x ∷ under b xs
unfolding only
under_yes b x xs h = rw (lt-ltb x.key b h)

under_no : (b : ℕ) (x : Rec) (xs : List Rec) → b ≤ x.key → under b (x ∷ xs) ≡ under b xs
unfolding only
under_no b x xs h = rw (le-ltb x.key b h)

under_nil : (b : ℕ) → under b [] ≡ []
unfolding only
under_nil b = refl

pub under_rising : (b c : ℕ) (s : List Rec) → Rising c s → Rising c (under b s)
under_rising b c [] r = rw (under_nil b) tt
under_rising b c (x ∷ xs) r = go (test (ltb x.key b)) (under_rising b (suc x.key) xs r.1)
  where
    go : (ltb x.key b ≡ true) ⊎ (ltb x.key b ≡ false) → Rising (suc x.key) (under b xs) → Rising c (under b (x ∷ xs))
    go (inl e) ih = rw (under_yes b x xs (ltb-true x.key b e)) (r.0, ih)
    go (inr e) ih = rw (under_no b x xs (ltb-false x.key b e)) (rising_weaken c (suc x.key) (under b xs) (omega (arith, r.0)) ih)

pub under_has : (b : ℕ) (s : List Rec) (j : ℕ) → has (under b s) j ≡ true → (has s j ≡ true) × (j < b)
under_has b s j h =
    let q = has_in (under b s) j h in
    let o = only_in (λ (x : Rec). ltb x.key b) q.0 s q.1 in
    let l : q.0.key < b = ltb-true q.0.key b o.1 in
    (in_has s q.0 j o.0 q.2, omega (arith, q.2))

-- none below the least, all below what is above all
pub under_none : (b c : ℕ) (s : List Rec) → b ≤ c → Rising c s → under b s ≡ []
under_none b c [] l r = under_nil b
under_none b c (x ∷ xs) l r = under_no b x xs (omega (arith, r.0)) ∙ under_none b (suc x.key) xs (omega (arith, r.0)) r.1

pub under_gap : (a b : ℕ) (s : List Rec) → a ≤ b → ((j : ℕ) → a ≤ j → j < b → has s j ≡ true → ⊥) → under b s ≡ under a s
under_gap a b [] l h = under_nil b ∙ sym (under_nil a)
under_gap a b (x ∷ xs) l h = go (test (ltb x.key a)) (test (ltb x.key b)) (under_gap a b xs l (λ j p q e. h j p q (has_there x xs j e)))
  where
    go : (ltb x.key a ≡ true) ⊎ (ltb x.key a ≡ false) → (ltb x.key b ≡ true) ⊎ (ltb x.key b ≡ false) → under b xs ≡ under a xs → under b (x ∷ xs) ≡ under a (x ∷ xs)
    go (inl p) q ih =
        let m = ltb-true x.key a p in
        under_yes b x xs (omega arith) ∙ ap (λ (z : List Rec). x ∷ z) ih ∙ sym (under_yes a x xs m)
    go (inr p) (inl q) ih = absurd (h x.key (ltb-false x.key a p) (ltb-true x.key b q) (has_here x xs))
    go (inr p) (inr q) ih = under_no b x xs (ltb-false x.key b q) ∙ ih ∙ sym (under_no a x xs (ltb-false x.key a p))

pub under_all : (b : ℕ) (s : List Rec) → ((j : ℕ) → has s j ≡ true → j < b) → under b s ≡ s
under_all b [] h = under_nil b
under_all b (x ∷ xs) h = under_yes b x xs (h x.key (has_here x xs)) ∙ ap (λ (z : List Rec). x ∷ z) (under_all b xs (λ j e. h j (has_there x xs j e)))

at_nil : (k : ℕ) → at k [] ≡ none
unfolding at
at_nil k = refl

-- the record of a key comes last below the next key
pub under_next : (c k : ℕ) (s : List Rec) (d : Cell) → Rising c s → at k s ≡ some d → under (suc k) s ≡ under k s ++ (record { key = k; cell = d } ∷ [])
under_next c k [] d r e = nothing d (sym (at_nil k) ∙ e)
under_next c k (x ∷ xs) d r e = go (tri x.key k) (λ g. under_next (suc x.key) k xs d r.1 g)
  where
    go : Tri x.key k → (at k xs ≡ some d → under (suc k) xs ≡ under k xs ++ (record { key = k; cell = d } ∷ [])) → under (suc k) (x ∷ xs) ≡ under k (x ∷ xs) ++ (record { key = k; cell = d } ∷ [])
    go (low p) ih =
        let n : k ≡ x.key → ⊥ = omega arith in
        under_yes (suc k) x xs (omega arith) ∙ ap (λ (z : List Rec). x ∷ z) (ih (sym (at_tail k x xs n) ∙ e)) ∙ sym (rw (under_yes k x xs p))
    go (same p) ih =
        let c' : x.cell ≡ d = cc (at_head x xs r.1, e) in
        let y : x ≡ record { key = k; cell = d } = λ i. record { key = p i; cell = c' i } in
        under_yes (suc k) x xs (omega arith) ∙ ap (λ (z : List Rec). x ∷ z) (under_none (suc k) (suc x.key) xs (omega arith) r.1)
        ∙ ap (λ (z : Rec). z ∷ []) y
        ∙ ap (λ (z : List Rec). z ++ (record { key = k; cell = d } ∷ [])) (sym (under_no k x xs (omega arith) ∙ under_none k (suc x.key) xs (omega arith) r.1))
    go (high p) ih = nothing d (sym (at_below k x.key (x ∷ xs) p (omega arith, r.1)) ∙ e)
