-- The join of records in list order: what it holds under each key, its order, its laws, its length.
-- Assumes nothing.
use Prim.Native.Nat.{ℕ, suc, ◌+◌, ◌≤◌, ◌<◌}
use mathlib.Core.Path.{◌≡◌, refl, sym, ◌∙◌}
use mathlib.Core.Bool.{Bool, true, false, cond}
use mathlib.Core.List.{List, [], ◌∷◌}
use mathlib.Core.Option.{Option, none, some}
use mathlib.Core.Logic.{◌⊎◌, inl, inr}
use native.Mathlib.Omega.{arith}
use lib.Dec.{ltb, leb, eqb}
use lib.ListN.{length}
use borrow.Author.Tests.{eqb-true, eqb-false, lt-ltb, le-ltb, eq-eqb, ne_eqb}
use Rattle.crdt.specs.Cells.{Cell, join_cell, join_opt}
use Rattle.crdt.proofs.Tests.{Tri, low, same, high, tri, test}
use Rattle.crdt.proofs.Lattice.{opt_lattice}
use Rattle.model.specs.Lists.{only}
use Rattle.model.specs.Records.{Rec, insert, join, Rising, own, at}

-- what insert does, by the order of the keys
abbrev pub met : Rec → Rec → Rec
met e x = record { key = x.key; cell = join_cell x.cell e.cell }

pub insert_low : (e x : Rec) (xs : List Rec) → e.key < x.key → insert e (x ∷ xs) ≡ e ∷ x ∷ xs
unfolding insert
insert_low e x xs h = rw (lt-ltb _ _ h)

pub insert_same : (e x : Rec) (xs : List Rec) → e.key ≡ x.key → insert e (x ∷ xs) ≡ met e x ∷ xs
unfolding insert
insert_same e x xs h = let l : x.key ≤ e.key = omega arith in rw (le-ltb _ _ l, eq-eqb _ _ h)

pub insert_high : (e x : Rec) (xs : List Rec) → x.key < e.key → insert e (x ∷ xs) ≡ x ∷ insert e xs
unfolding insert
insert_high e x xs h =
    let l : x.key ≤ e.key = omega arith in
    let n : e.key ≡ x.key → ⊥ = omega arith in
    rw (le-ltb _ _ l, ne_eqb _ _ n)

-- order
pub insert_rising : (b : ℕ) (e : Rec) (s : List Rec) → b ≤ e.key → Rising b s → Rising b (insert e s)
unfolding insert
insert_rising b e [] h r = (h, tt)
insert_rising b e (x ∷ xs) h r = go (tri e.key x.key) (λ (l : suc x.key ≤ e.key). insert_rising (suc x.key) e xs l r.1)
  where
    go : Tri e.key x.key → (suc x.key ≤ e.key → Rising (suc x.key) (insert e xs)) → Rising b (insert e (x ∷ xs))
    go (low p) ih = rw (insert_low e x xs p) (h, (p, r.1))
    go (same p) ih = rw (insert_same e x xs p) r
    go (high p) ih = rw (insert_high e x xs p) (r.0, ih p)

pub rising_weaken : (b c : ℕ) (s : List Rec) → b ≤ c → Rising c s → Rising b s
rising_weaken b c [] h r = tt
rising_weaken b c (x ∷ xs) h r = (omega (arith, r.0), r.1)

pub only_rising : (p : Rec → Bool) (b : ℕ) (s : List Rec) → Rising b s → Rising b (only p s)
unfolding only
only_rising p b [] r = tt
only_rising p b (x ∷ xs) r = go (p x) (only_rising p (suc x.key) xs r.1)
  where
    go : (q : Bool) → Rising (suc x.key) (only p xs) → Rising b (cond q (x ∷ only p xs) (only p xs))
    go true h = (r.0, h)
    go false h = rising_weaken b (suc x.key) (only p xs) (omega arith) h

pub join_rising : (s t : List Rec) → Rising 0 s → Rising 0 (join s t)
unfolding join
join_rising s [] r = r
join_rising s (e ∷ es) r = join_rising (insert e s) es (insert_rising 0 e s (omega arith) r)

-- what is held under a key
pub own_met : (k : ℕ) (e x : Rec) → e.key ≡ x.key → own k (met e x) ≡ join_opt (own k x) (own k e)
unfolding own join_opt
own_met k e x h = rw h (go (eqb k x.key))
  where
    go : (t : Bool) → cond t (some (join_cell x.cell e.cell)) none ≡ join_opt (cond t (some x.cell) none) (cond t (some e.cell) none)
    go true = refl
    go false = refl

pub opt_none : (a : Option Cell) → join_opt a none ≡ a
unfolding join_opt
opt_none none = refl
opt_none (some a) = refl

pub swap_last : (a b c : Option Cell) → join_opt (join_opt a b) c ≡ join_opt (join_opt a c) b
swap_last a b c = cc (opt_lattice.assoc a b c, opt_lattice.assoc a c b, opt_lattice.comm b c)

pub at_insert : (k : ℕ) (e : Rec) (s : List Rec) → at k (insert e s) ≡ join_opt (at k s) (own k e)
unfolding insert at
at_insert k e [] = opt_lattice.comm (own k e) none
at_insert k e (x ∷ xs) = go (tri e.key x.key) (at_insert k e xs)
  where
    go : Tri e.key x.key → at k (insert e xs) ≡ join_opt (at k xs) (own k e) → at k (insert e (x ∷ xs)) ≡ join_opt (join_opt (own k x) (at k xs)) (own k e)
    go (low p) ih = rw (insert_low e x xs p) (opt_lattice.comm _ _)
    go (same p) ih = rw (insert_same e x xs p) (rw (own_met k e x p) (swap_last _ _ _))
    go (high p) ih = rw (insert_high e x xs p) (rw ih (sym (opt_lattice.assoc _ _ _)))

pub at_join : (k : ℕ) (s t : List Rec) → at k (join s t) ≡ join_opt (at k s) (at k t)
unfolding join at
at_join k s [] = sym (opt_none (at k s))
at_join k s (e ∷ es) = cc (at_join k (insert e s) es, at_insert k e s, opt_lattice.assoc (at k s) (own k e) (at k es))

pub own_other : (k : ℕ) (x : Rec) → (k ≡ x.key → ⊥) → own k x ≡ none
unfolding own
own_other k x h = rw (ne_eqb _ _ h)

pub own_self : (x : Rec) → own x.key x ≡ some x.cell
unfolding own
own_self x = rw (eq-eqb x.key x.key refl)

pub at_below : (k b : ℕ) (s : List Rec) → k < b → Rising b s → at k s ≡ none
unfolding at join_opt
at_below k b [] h r = refl
at_below k b (x ∷ xs) h r =
    let n : k ≡ x.key → ⊥ = omega (arith, r.0) in
    let l : k < suc x.key = omega (arith, r.0) in
    cc (own_other k x n, at_below k (suc x.key) xs l r.1)

pub at_head : (x : Rec) (xs : List Rec) → Rising (suc x.key) xs → at x.key (x ∷ xs) ≡ some x.cell
unfolding at join_opt
at_head x xs r = let l : x.key < suc x.key = omega arith in cc (own_self x, at_below x.key (suc x.key) xs l r)

pub at_tail : (k : ℕ) (x : Rec) (xs : List Rec) → (k ≡ x.key → ⊥) → at k (x ∷ xs) ≡ at k xs
unfolding at join_opt
at_tail k x xs h = rw (own_other k x h)

-- records in order are settled by what they hold under each key
pub nothing : {X : Type 0} (c : Cell) → ◌≡◌ {A = Option Cell} none (some c) → X
nothing c h = let z : ◌≡◌ {A = ℕ} 0 1 = cc in absurd (omega arith)

tails : (x y : Rec) (xs ys : List Rec) → x.key ≡ y.key → Rising (suc x.key) xs → Rising (suc x.key) ys
    → ((k : ℕ) → at k (x ∷ xs) ≡ at k (y ∷ ys)) → (k : ℕ) → at k xs ≡ at k ys
tails x y xs ys e rs rt h k = go (test (eqb k x.key))
  where
    go : (eqb k x.key ≡ true) ⊎ (eqb k x.key ≡ false) → at k xs ≡ at k ys
    go (inl p) = let l : k < suc x.key = omega (arith, eqb-true k x.key p) in at_below k _ xs l rs ∙ sym (at_below k _ ys l rt)
    go (inr p) = let n : k ≡ x.key → ⊥ = eqb-false _ _ p in let m : k ≡ y.key → ⊥ = λ q. n (q ∙ sym e) in cc (h k, at_tail k x xs n, at_tail k y ys m)

pub ext : (b : ℕ) (s t : List Rec) → Rising b s → Rising b t → ((k : ℕ) → at k s ≡ at k t) → s ≡ t
unfolding at
ext b [] [] rs rt h = refl
ext b [] (y ∷ ys) rs rt h = nothing y.cell (h y.key ∙ at_head y ys rt.1)
ext b (x ∷ xs) [] rs rt h = nothing x.cell (sym (h x.key) ∙ at_head x xs rs.1)
ext b (x ∷ xs) (y ∷ ys) rs rt h = go (tri x.key y.key) (λ (r : Rising (suc x.key) ys) (t : (k : ℕ) → at k xs ≡ at k ys). ext (suc x.key) xs ys rs.1 r t)
  where
    go : Tri x.key y.key → (Rising (suc x.key) ys → ((k : ℕ) → at k xs ≡ at k ys) → xs ≡ ys) → x ∷ xs ≡ y ∷ ys
    go (low p) ih = nothing x.cell (cc (h x.key, at_head x xs rs.1, at_below x.key y.key (y ∷ ys) p (omega arith, rt.1)))
    go (high p) ih = nothing y.cell (cc (h y.key, at_head y ys rt.1, at_below y.key x.key (x ∷ xs) p (omega arith, rs.1)))
    go (same p) ih =
        let r : Rising (suc x.key) ys = rw p rt.1 in
        let c : x.cell ≡ y.cell = cc (h x.key, at_head x xs rs.1, at_head y ys rt.1) in
        let e : x ≡ y = λ i. record { key = p i; cell = c i } in
        cc (ih r (tails x y xs ys p rs.1 r h))

-- the laws
pub join_comm : (s t : List Rec) → Rising 0 s → Rising 0 t → join s t ≡ join t s
join_comm s t rs rt = ext 0 _ _ (join_rising s t rs) (join_rising t s rt) (λ k. cc (at_join k s t, at_join k t s, opt_lattice.comm (at k s) (at k t)))

pub join_assoc : (s t u : List Rec) → Rising 0 s → join (join s t) u ≡ join s (join t u)
join_assoc s t u rs =
    ext 0 _ _ (join_rising _ u (join_rising s t rs)) (join_rising s _ rs)
    (λ k. cc (at_join k (join s t) u, at_join k s t, at_join k s (join t u), at_join k t u, opt_lattice.assoc (at k s) (at k t) (at k u)))

pub join_idem : (s : List Rec) → Rising 0 s → join s s ≡ s
join_idem s rs = ext 0 _ _ (join_rising s s rs) rs (λ k. cc (at_join k s s, opt_lattice.idem (at k s)))

-- how many
pub insert_length : (e : Rec) (s : List Rec) → (length s ≤ length (insert e s)) × (length (insert e s) ≤ length s + 1)
unfolding insert
insert_length e [] = omega arith
insert_length e (x ∷ xs) = go (tri e.key x.key) (insert_length e xs)
  where
    go : Tri e.key x.key → (length xs ≤ length (insert e xs)) × (length (insert e xs) ≤ length xs + 1) → (length (x ∷ xs) ≤ length (insert e (x ∷ xs))) × (length (insert e (x ∷ xs)) ≤ length (x ∷ xs) + 1)
    go (low p) ih = rw (insert_low e x xs p) (omega arith)
    go (same p) ih = rw (insert_same e x xs p) (omega arith)
    go (high p) ih = rw (insert_high e x xs p) (omega arith)

pub length_own : (s t : List Rec) → length s ≤ length (join s t)
unfolding join
length_own s [] = omega arith
length_own s (e ∷ es) = omega (arith, length_own (insert e s) es, insert_length e s)

pub length_other : (s t : List Rec) → Rising 0 s → Rising 0 t → length t ≤ length (join s t)
length_other s t rs rt = rw (join_comm s t rs rt) (length_own t s)

pub length_sum : (s t : List Rec) → length (join s t) ≤ length s + length t
unfolding join
length_sum s [] = omega arith
length_sum s (e ∷ es) = omega (arith, length_sum (insert e s) es, insert_length e s)
