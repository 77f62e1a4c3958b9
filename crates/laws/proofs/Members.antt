-- Records of distinct keys are settled by their members: any two listings of them are one list in order.
-- Assumes nothing.
use Prim.Native.Nat.{ℕ, suc, ◌≤◌, ◌<◌}
use mathlib.Core.Path.{subst, ◌≡◌, refl, sym, ◌∙◌, ap}
use mathlib.Core.Logic.{◌⊎◌, inl, inr}
use mathlib.Core.Bool.{Bool, true, false, ◌||◌}
use mathlib.Core.List.Memᴰ
use mathlib.Core.List.{List, [], ◌∷◌}
use mathlib.Core.Option.{Option, none, some}
use native.Mathlib.Omega.{arith}
use lib.Dec.{eqb}
use borrow.Author.Tests.{eqb-false, eq-eqb, ne_eqb}
use Rattle.crdt.specs.Cells.{Cell, join_opt}
use Rattle.crdt.proofs.Tests.{test, clash}
use Rattle.model.specs.Lists.{some_of}
use Rattle.model.specs.Records.{Rec, has, insert, in_order, Rising, Distinct, own, at}
use Rattle.laws.proofs.Join.{opt_none, own_self, own_other, ext, at_below}
use Rattle.laws.proofs.Lists.{◌∈◌}
use Rattle.laws.proofs.Shown.{has_in, in_has}
use Rattle.laws.proofs.Order.{is_some, has_at, at_order, order_rising}

pub absent : (s : List Rec) (k : ℕ) → has s k ≡ false → at k s ≡ none
unfolding is_some
absent s k h = go (at k s) (sym (has_at s k) ∙ h)
  where
    go : (o : Option Cell) → is_some o ≡ false → o ≡ none
    go none e = refl
    go (some c) e = clash refl e

at_first : (y : Rec) (ys : List Rec) → has ys y.key ≡ false → at y.key (y ∷ ys) ≡ some y.cell
unfolding at join_opt
at_first y ys h = cc (own_self y, absent ys y.key h)

pub at_member : (s : List Rec) (x : Rec) → Distinct s → x ∈ s → at x.key s ≡ some x.cell
unfolding at join_opt
at_member [] x d x4 = elim x4 [ ]
at_member (y ∷ ys) x d (Memᴰ.head e) = subst (λ (z : Rec). at z.key (y ∷ ys) ≡ some z.cell) (sym e) (at_first y ys d.0)
at_member (y ∷ ys) x d (Memᴰ.tail m) =
    let n : x.key ≡ y.key → ⊥ = λ e. clash (in_has ys x y.key m e) d.0 in
    cc (own_other x.key y n, at_member ys x d.1 m)

pub at_key : (s : List Rec) (x : Rec) (k : ℕ) → Distinct s → x ∈ s → x.key ≡ k → at k s ≡ some x.cell
at_key s x k d m e = rw e at (at_member s x d m)

pub same_order : (s t : List Rec) → Distinct s → Distinct t → ((x : Rec) → x ∈ s → x ∈ t) → ((x : Rec) → x ∈ t → x ∈ s) → in_order s ≡ in_order t
same_order s t ds dt f g = ext 0 _ _ (order_rising s) (order_rising t) (λ k. at_order k s ∙ go k (test (has s k)) (test (has t k)) ∙ sym (at_order k t))
  where
    go : (k : ℕ) → (has s k ≡ true) ⊎ (has s k ≡ false) → (has t k ≡ true) ⊎ (has t k ≡ false) → at k s ≡ at k t
    go k (inl p) q = let r = has_in s k p in rw (← r.2) (at_member s r.0 ds r.1 ∙ sym (at_member t r.0 dt (f r.0 r.1)))
    go k (inr p) (inl q) = let r = has_in t k q in clash (in_has s r.0 k (g r.0 r.1) r.2) p
    go k (inr p) (inr q) = absent s k p ∙ sym (absent t k q)

-- records in order are their own listing in order
pub rising_distinct : (b : ℕ) (s : List Rec) → Rising b s → Distinct s
unfolding is_some
rising_distinct b [] r = tt
rising_distinct b (x ∷ xs) r =
    let l : x.key < suc x.key = omega arith in
    (has_at xs x.key ∙ rw (at_below x.key (suc x.key) xs l r.1), rising_distinct (suc x.key) xs r.1)

pub order_rising_same : (s : List Rec) → Rising 0 s → in_order s ≡ s
order_rising_same s r = ext 0 _ _ (order_rising s) r (λ k. at_order k s)

-- so what chains in order read, and that has the same members, is the listing in order
pub read_in_order : (s t : List Rec) → Distinct s → Rising 0 t → ((x : Rec) → x ∈ s → x ∈ t) → ((x : Rec) → x ∈ t → x ∈ s) → t ≡ in_order s
read_in_order s t ds rt f g = sym (order_rising_same t rt) ∙ same_order t s (rising_distinct 0 t rt) ds g f

-- members of one key are one
cell_of_lem : (o : Option Cell) (a b : Cell) → o ≡ some a → o ≡ some b → a ≡ b
cell_of_lem o a b p q = cc

pub one_key : (s : List Rec) → Distinct s → (x y : Rec) → x ∈ s → y ∈ s → x.key ≡ y.key → x ≡ y
one_key s d x y hx hy e =
    let f = cell_of_lem _ x.cell y.cell (at_key s x y.key d hx e) (at_member s y d hy) in
    λ i. record { key = e i; cell = f i }

some_true : (o : Option Cell) (a : Cell) → o ≡ some a → is_some o ≡ true
unfolding is_some
some_true o a e = rw e

-- the same members in order
pub in_order_lem : (s : List Rec) → Distinct s → (x : Rec) → x ∈ in_order s → x ∈ s
in_order_lem s d x h =
    let a = sym (at_order x.key s) ∙ at_member (in_order s) x (rising_distinct 0 (in_order s) (order_rising s)) h in
    let y = has_in s x.key (has_at s x.key ∙ some_true _ _ a) in
    let f = cell_of_lem _ y.0.cell x.cell (at_key s y.0 x.key d y.1 y.2) a in
    let e : y.0 ≡ x = λ i. record { key = y.2 i; cell = f i } in
    rw e at y.1

-- a record, and one in list order, of one key
pub one_record : (s : List Rec) (x y : Rec) → Distinct s → x ∈ s → y ∈ in_order s → x.key ≡ y.key → x ≡ y
one_record s x y d hx hy e = one_key s d x y hx (in_order_lem s d y hy) e

pub order_in : (s : List Rec) → Distinct s → (x : Rec) → x ∈ s → x ∈ in_order s
order_in s d x h =
    let a = at_order x.key s ∙ at_member s x d h in
    let y = has_in (in_order s) x.key (has_at (in_order s) x.key ∙ some_true _ _ a) in
    let e = one_key s d y.0 x (in_order_lem s d y.0 y.1) h y.2 in
    rw e at y.1
