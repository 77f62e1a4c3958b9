-- Records in list order: what they hold, and how many they are.
-- Assumes nothing.
use Prim.Native.Nat.{ℕ, suc, ◌≤◌, ◌<◌}
use mathlib.Core.Path.{◌≡◌, refl, sym, ◌∙◌, ap}
use mathlib.Core.Bool.{Bool, true, false, cond, ◌||◌}
use mathlib.Core.List.{List, [], ◌∷◌}
use mathlib.Core.Option.{Option, none, some}
use mathlib.Core.Logic.{◌⊎◌, inl, inr}
use native.Mathlib.Omega.{arith}
use lib.Dec.{eqb}
use lib.ListN.{length}
use borrow.Author.Tests.{eq-eqb, ne_eqb}
use Rattle.crdt.specs.Cells.{Cell, join_opt}
use Rattle.crdt.proofs.Tests.{Tri, low, same, high, tri}
use Rattle.crdt.proofs.Lattice.{opt_lattice}
use Rattle.model.specs.Lists.{some_of}
use Rattle.model.specs.Records.{Rec, has, insert, in_order, Rising, Distinct, own, at}
use Rattle.laws.proofs.Join.{at_insert, insert_low, insert_same, insert_high, insert_rising, at_below}

pub order_rising : (s : List Rec) → Rising 0 (in_order s)
unfolding in_order
order_rising [] = tt
order_rising (x ∷ xs) = insert_rising 0 x (in_order xs) (omega arith) (order_rising xs)

pub at_order : (k : ℕ) (s : List Rec) → at k (in_order s) ≡ at k s
unfolding in_order at
at_order k [] = refl
at_order k (x ∷ xs) = cc (at_insert k x (in_order xs), at_order k xs, opt_lattice.comm (at k xs) (own k x))

-- how many: the positions are as many as the records in order
unfoldable pub is_some : Option Cell → Bool
is_some none = false
is_some (some c) = true

pub has_at : (s : List Rec) (k : ℕ) → has s k ≡ is_some (at k s)
unfolding has some_of at own is_some join_opt
has_at [] k = refl
has_at (x ∷ xs) k = go (eqb k x.key) (at k xs) (has_at xs k)
  where
    go : (b : Bool) (o : Option Cell) → has xs k ≡ is_some o → (b || has xs k) ≡ is_some (join_opt (cond b (some x.cell) none) o)
    go true none h = refl
    go true (some c) h = refl
    go false o h = h

unfoldable pub grown : Bool → ℕ → ℕ
grown b n = cond b n (suc n)

grown_suc : (b : Bool) (n : ℕ) → suc (cond b n (suc n)) ≡ cond b (suc n) (suc (suc n))
grown_suc true n = refl
grown_suc false n = refl

-- a key above all is not there
below_has : (k b : ℕ) (s : List Rec) → k < b → Rising b s → has s k ≡ false
unfolding is_some
below_has k b s l r = has_at s k ∙ rw (at_below k b s l r)

pub insert_count : (b : ℕ) (e : Rec) (s : List Rec) → Rising b s → length (insert e s) ≡ grown (has s e.key) (length s)
unfolding has some_of insert grown
insert_count b e [] r = refl
insert_count b e (x ∷ xs) r = go (tri e.key x.key) (insert_count (suc x.key) e xs r.1)
  where
    go : Tri e.key x.key → length (insert e xs) ≡ cond (has xs e.key) (length xs) (suc (length xs)) → length (insert e (x ∷ xs)) ≡ cond (eqb e.key x.key || has xs e.key) (suc (length xs)) (suc (suc (length xs)))
    go (low p) ih =
        let l : e.key < suc x.key = omega arith in
        let n : e.key ≡ x.key → ⊥ = omega arith in
        rw (insert_low e x xs p) (cc (below_has e.key (suc x.key) xs l r.1, ne_eqb _ _ n))
    go (same p) ih = rw (insert_same e x xs p) (rw (eq-eqb e.key x.key p))
    go (high p) ih =
        let n : e.key ≡ x.key → ⊥ = omega arith in
        rw (insert_high e x xs p) (cc (ih, grown_suc (has xs e.key) (length xs), ne_eqb _ _ n))

has_order : (s : List Rec) (k : ℕ) → has (in_order s) k ≡ has s k
has_order s k = cc (has_at (in_order s) k, has_at s k, at_order k s)

pub order_length : (s : List Rec) → Distinct s → length (in_order s) ≡ length s
unfolding in_order grown
order_length [] d = refl
order_length (x ∷ xs) d = cc (insert_count 0 x (in_order xs) (order_rising xs), has_order xs x.key, d.0, order_length xs d.1)
