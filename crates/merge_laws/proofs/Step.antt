-- Taking in one record is one step of a merge: what is left to take in then gives the same records.
-- Assumes nothing.
use Prim.Native.Nat.{ℕ, zero, suc, ◌+◌, ◌-◌, ◌<◌, max}
use mathlib.Core.Path.{◌≡◌, refl, sym, ◌∙◌, ap, ap₂}
use mathlib.Core.Bool.{Bool, true, false, cond, ◌||◌, not}
use mathlib.Core.List.{List, [], ◌∷◌, ◌++◌, map, append_assoc}
use mathlib.Core.Logic.{◌⊎◌, inl, inr, ◌≢◌}
use native.Mathlib.Omega.{arith}
use lib.Dec.{eqb, ltb}
use lib.ListN.{length, get_or, set, replicate}
use borrow.Author.Tests.{eqb-true, eqb-false, eq-eqb, ne_eqb, ltb-true, ltb-false}
use Rattle.crdt.specs.Cells.{Reg, no_reg, join_reg, join_regs, Cell, join_cell}
use Rattle.crdt.proofs.Tests.{test, clash}
use Rattle.crdt.proofs.Order.{join_later, join_tie_up}
use Rattle.model.specs.Layout.{fields}
use Rattle.model.specs.Lists.{only, some_of}
use Rattle.model.specs.Records.{Rec, has, in_order, Rising, Distinct, position, position_from}
use Rattle.model.specs.Merge.{joined_with, merged_records}
use Rattle.laws.proofs.Join.{rising_weaken, at_below, at_head, at_tail}
use Rattle.laws.proofs.Merge.{new, append_nil}
use Rattle.laws.proofs.Members.{order_rising_same}
use Rattle.wellformed.proofs.Follow.{has_here, has_cases, has_none, has_not}
use Rattle.merge_laws.specs.Absorb.{no_rec, blank, spaced, celled, joined_at, absorb}
use Rattle.merge_laws.proofs.Links.{has_last}
use Rattle.merge_laws.proofs.Added.{blank_key}

-- record y joined into the record of its key, or added at the end
unfoldable pub taken : Rec → List Rec → List Rec
taken y [] = y ∷ []
taken y (x ∷ xs) = let r = taken y xs in cond (eqb y.key x.key) (record { key = x.key; cell = join_cell x.cell y.cell } ∷ xs) (x ∷ r)

pub taken_here : (y x : Rec) (xs : List Rec) → y.key ≡ x.key → taken y (x ∷ xs) ≡ record { key = x.key; cell = join_cell x.cell y.cell } ∷ xs
unfolding taken
taken_here y x xs e = rw (eq-eqb y.key x.key e)

pub taken_there : (y x : Rec) (xs : List Rec) → y.key ≢ x.key → taken y (x ∷ xs) ≡ x ∷ taken y xs
unfolding taken
taken_there y x xs e = rw (ne_eqb y.key x.key e)

pub taken_new : (y : Rec) (s : List Rec) → has s y.key ≡ false → taken y s ≡ s ++ (y ∷ [])
taken_new y [] h = unfold taken in refl
taken_new y (x ∷ xs) h = let n = has_not x xs y.key h in taken_there y x xs n.0 ∙ ap (λ (l : List Rec). x ∷ l) (taken_new y xs n.1)

-- the index of a key
index : ℕ → List Rec → ℕ
index k [] = 0
index k (x ∷ xs) = let r = index k xs in cond (eqb k x.key) 0 (suc r)

position_index : (i k : ℕ) (s : List Rec) → has s k ≡ true → position_from i k s ≡ i + index k s
unfolding position_from index
position_index i k [] h = clash h (has_none k)
position_index i k (x ∷ xs) h = go (test (eqb k x.key)) (λ g. position_index (suc i) k xs g)
  where
    tail : eqb k x.key ≡ false → (k ≡ x.key) ⊎ (has xs k ≡ true) → has xs k ≡ true
    tail n (inl e) = absurd (eqb-false k x.key n e)
    tail n (inr g) = g

    go : (eqb k x.key ≡ true) ⊎ (eqb k x.key ≡ false) → (has xs k ≡ true → position_from (suc i) k xs ≡ suc i + index k xs)
        → cond (eqb k x.key) i (position_from (suc i) k xs) ≡ i + cond (eqb k x.key) 0 (suc (index k xs))
    go (inl e) ih = rw e (omega arith)
    go (inr e) ih = rw e (omega (arith, ih (tail e (has_cases x xs k h))))

taken_at : (y : Rec) (s : List Rec) → has s y.key ≡ true
    → set s (index y.key s) (record { key = (get_or s (index y.key s) no_rec).key; cell = join_cell (get_or s (index y.key s) no_rec).cell y.cell }) ≡ taken y s
unfolding index
taken_at y [] h = clash h (has_none y.key)
taken_at y (x ∷ xs) h = go (test (eqb y.key x.key)) (λ g. taken_at y xs g)
  where
    tail : eqb y.key x.key ≡ false → (y.key ≡ x.key) ⊎ (has xs y.key ≡ true) → has xs y.key ≡ true
    tail n (inl e) = absurd (eqb-false y.key x.key n e)
    tail n (inr g) = g

    go : (eqb y.key x.key ≡ true) ⊎ (eqb y.key x.key ≡ false)
        → (has xs y.key ≡ true → set xs (index y.key xs) (record { key = (get_or xs (index y.key xs) no_rec).key; cell = join_cell (get_or xs (index y.key xs) no_rec).cell y.cell }) ≡ taken y xs)
        → set (x ∷ xs) (index y.key (x ∷ xs)) (record { key = (get_or (x ∷ xs) (index y.key (x ∷ xs)) no_rec).key; cell = join_cell (get_or (x ∷ xs) (index y.key (x ∷ xs)) no_rec).cell y.cell }) ≡ taken y (x ∷ xs)
    go (inl e) ih = rw e (sym (taken_here y x xs (eqb-true y.key x.key e)))
    go (inr e) ih = rw e (ap (λ (l : List Rec). x ∷ l) (ih (tail e (has_cases x xs y.key h))) ∙ sym (taken_there y x xs (eqb-false y.key x.key e)))

-- a blank record joined with another is the other
join_none : (g : Reg) → join_reg no_reg g ≡ g
join_none g = go (test (ltb 0 g.stamp))
  where
    go : (ltb 0 g.stamp ≡ true) ⊎ (ltb 0 g.stamp ≡ false) → join_reg no_reg g ≡ g
    go (inl e) = sym (join_later 0 0 g.value g.stamp (ltb-true 0 g.stamp e))
    go (inr e) = let z = ltb-false 0 g.stamp e in sym (join_tie_up 0 0 g.value g.stamp (omega arith) (omega arith))

regs_none : (n : ℕ) (gs : List Reg) → length gs ≡ n → join_regs (replicate n no_reg) gs ≡ gs
unfolding join_regs
regs_none zero gs e = refl
regs_none (suc n) [] e = absurd (omega arith)
regs_none (suc n) (g ∷ gs) e = ap₂ (λ (a : Reg) (l : List Reg). a ∷ l) (join_none g) (regs_none n gs (omega arith))

cell_none : (k : ℕ) (c : Cell) → length c.regs ≡ fields → join_cell (blank k).cell c ≡ c
unfolding join_cell blank
cell_none k c e =
    let f : max 0 c.flag ≡ c.flag = omega arith in
    let g = regs_none fields c.regs e in
    λ i. record { flag = f i; regs = g i }

joined_taken : (s : List Rec) (y : Rec) → has s y.key ≡ true → joined_at s (position y.key s) y ≡ taken y s
unfolding joined_at celled
joined_taken s y h = let e : position y.key s - 1 ≡ index y.key s = omega (arith, position_index 1 y.key s h) in rw e (taken_at y s h)

blank_met : (y : Rec) → length y.cell.regs ≡ fields → record { key = (blank y.key).key; cell = join_cell (blank y.key).cell y.cell } ≡ y
blank_met y e = let c = cell_none y.key y.cell e in let k = blank_key y.key in λ i. record { key = k i; cell = c i }

pub blank_last : (s : List Rec) (k : ℕ) → has (s ++ (blank k ∷ [])) k ≡ true
unfolding blank
blank_last s k = has_last s (blank k)

taken_blank : (s : List Rec) (y : Rec) → length y.cell.regs ≡ fields → has s y.key ≡ false → taken y (s ++ (blank y.key ∷ [])) ≡ taken y s
taken_blank [] y e h = taken_here y (blank y.key) [] (sym (blank_key y.key)) ∙ ap (λ (x : Rec). x ∷ []) (blank_met y e) ∙ unfold taken in refl
taken_blank (x ∷ xs) y e h =
    let n = has_not x xs y.key h in
    taken_there y x (xs ++ (blank y.key ∷ [])) n.0 ∙ ap (λ (l : List Rec). x ∷ l) (taken_blank xs y e n.1) ∙ sym (taken_there y x xs n.0)

-- The records after a step.
pub absorb_taken : (s : List Rec) (y : Rec) → length y.cell.regs ≡ fields → absorb s y ≡ taken y s
unfolding absorb spaced
absorb_taken s y e = go (test (has s y.key))
  where
    go : (has s y.key ≡ true) ⊎ (has s y.key ≡ false)
        → joined_at (cond (has s y.key) s (s ++ (blank y.key ∷ []))) (position y.key (cond (has s y.key) s (s ++ (blank y.key ∷ [])))) y ≡ taken y s
    go (inl h) = rw h (joined_taken s y h)
    go (inr h) =
        rw h (joined_taken (s ++ (blank y.key ∷ [])) y (blank_last s y.key) ∙ taken_blank s y e h)

-- what they have
has_taken : (y : Rec) (s : List Rec) (k : ℕ) → k ≢ y.key → has (taken y s) k ≡ has s k
unfolding taken has some_of
has_taken y [] k n = rw (ne_eqb k y.key n)
has_taken y (x ∷ xs) k n = go (eqb y.key x.key) (has_taken y xs k n)
  where
    go : (b : Bool) → has (taken y xs) k ≡ has xs k
        → has (cond b (record { key = x.key; cell = join_cell x.cell y.cell } ∷ xs) (x ∷ taken y xs)) k ≡ (eqb k x.key || has xs k)
    go true ih = refl
    go false ih = ap (λ (b : Bool). eqb k x.key || b) ih

-- what is new to them among records of larger keys
only_taken : (y : Rec) (s : List Rec) (b : ℕ) (ys : List Rec) → Rising b ys → y.key < b → only (new (taken y s)) ys ≡ only (new s) ys
unfolding only
only_taken y s b [] r h = refl
only_taken y s b (z ∷ zs) r h =
    rw (has_taken y s z.key (omega (arith, r.0)), only_taken y s (suc z.key) zs r.1 (omega (arith, r.0)))

joined_other : (y : Rec) (ys : List Rec) (x : Rec) → x.key ≢ y.key → joined_with ys x ≡ joined_with (y ∷ ys) x
unfolding joined_with
joined_other y ys x n = rw (at_tail x.key y ys n)

pub joined_none : (ys : List Rec) (x : Rec) (b : ℕ) → Rising b ys → x.key < b → joined_with ys x ≡ x
unfolding joined_with
joined_none ys x b r h = rw (at_below x.key b ys h r)

map_other : (y : Rec) (ys s : List Rec) → has s y.key ≡ false → map (joined_with ys) s ≡ map (joined_with (y ∷ ys)) s
map_other y ys [] h = refl
map_other y ys (x ∷ xs) h = let n = has_not x xs y.key h in ap₂ (λ (a : Rec) (l : List Rec). a ∷ l) (joined_other y ys x (λ e. n.0 (sym e))) (map_other y ys xs n.1)

joined_met : (y : Rec) (ys : List Rec) (x : Rec) → y.key ≡ x.key → Rising (suc y.key) ys → joined_with ys (record { key = x.key; cell = join_cell x.cell y.cell }) ≡ joined_with (y ∷ ys) x
unfolding joined_with
joined_met y ys x e r = rw (← e) (rw (at_below y.key (suc y.key) ys (omega arith) r, at_head y ys r))

has_past : (y x : Rec) (xs : List Rec) → y.key ≢ x.key → has (x ∷ xs) y.key ≡ has xs y.key
unfolding has some_of
has_past y x xs n = rw (ne_eqb y.key x.key n)

map_taken : (y : Rec) (ys s : List Rec) → Distinct s → Rising (suc y.key) ys
    → map (joined_with ys) (taken y s) ≡ map (joined_with (y ∷ ys)) s ++ cond (has s y.key) [] (y ∷ [])
map_taken y ys [] d r = unfold taken has some_of in ap (λ (z : Rec). z ∷ []) (joined_none ys y (suc y.key) r (omega arith))
map_taken y ys (x ∷ xs) d r = go (test (eqb y.key x.key)) (map_taken y ys xs d.1 r)
  where
    go : (eqb y.key x.key ≡ true) ⊎ (eqb y.key x.key ≡ false) → map (joined_with ys) (taken y xs) ≡ map (joined_with (y ∷ ys)) xs ++ cond (has xs y.key) [] (y ∷ [])
        → map (joined_with ys) (taken y (x ∷ xs)) ≡ map (joined_with (y ∷ ys)) (x ∷ xs) ++ cond (has (x ∷ xs) y.key) [] (y ∷ [])
    go (inl e) ih =
        let k : y.key ≡ x.key = eqb-true y.key x.key e in
        let h : has (x ∷ xs) y.key ≡ true = rw k (has_here x xs) in
        let n : has xs y.key ≡ false = rw k d.0 in
        rw (taken_here y x xs k, h) (ap₂ (λ (a : Rec) (l : List Rec). a ∷ l) (joined_met y ys x k r) (map_other y ys xs n ∙ sym (append_nil _)))
    go (inr e) ih =
        let n : y.key ≢ x.key = eqb-false y.key x.key e in
        rw (taken_there y x xs n, has_past y x xs n) (ap₂ (λ (a : Rec) (l : List Rec). a ∷ l) (joined_other y ys x (λ q. n (sym q))) ih)

-- Rising records, the first taken in: what is left to take in gives the same.
pub step : (s : List Rec) (y : Rec) (ys : List Rec) → Distinct s → length y.cell.regs ≡ fields → Rising 0 (y ∷ ys) → merged_records (absorb s y) ys ≡ merged_records s (y ∷ ys)
unfolding merged_records
step s y ys d e r =
    let o : in_order (y ∷ ys) ≡ y ∷ ys = order_rising_same (y ∷ ys) r in
    let o' : in_order ys ≡ ys = order_rising_same ys (rising_weaken 0 (suc y.key) ys (omega arith) r.1) in
    rw (absorb_taken s y e, o, o', map_taken y ys s d r.1, only_taken y s (suc y.key) ys r.1 (omega arith)) (append_assoc (map (joined_with (y ∷ ys)) s) (cond (has s y.key) [] (y ∷ [])) (only (new s) ys) ∙ ap (λ (l : List Rec). map (joined_with (y ∷ ys)) s ++ l) rest)
  where
    rest : cond (has s y.key) [] (y ∷ []) ++ only (new s) ys ≡ only (new s) (y ∷ ys)
    rest = unfold only in go (has s y.key)
      where
        go : (b : Bool) → cond b [] (y ∷ []) ++ only (new s) ys ≡ cond (not b) (y ∷ only (new s) ys) (only (new s) ys)
        go true = refl
        go false = refl
