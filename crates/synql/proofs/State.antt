-- Figures 16 and 17: the lookup of a merge, and the deltas of the edits, are the paper's.
-- Assumes nothing.
use Prim.Native.Nat.{ℕ, zero, suc, ◌+◌, ◌-◌, ◌*◌, ◌/◌, ◌%◌, max, ◌≤◌, ◌<◌}
use mathlib.Core.Path.{◌≡◌, refl, sym, ◌∙◌, ap, fun_ext}
use mathlib.Core.Logic.{◌⊎◌, inl, inr}
use mathlib.Core.Bool.{Bool, true, false, cond, ◌&&◌, ◌||◌}
use mathlib.Core.List.{List, [], ◌∷◌, ◌++◌, map}
use mathlib.Core.Option.{Option, none, some}
use native.Mathlib.Omega.{arith}
use lib.Dec.{eqb, ltb, leb}
use lib.ListN.{length, get_or, replicate, set}
use borrow.Author.Tests.{eqb-true, eqb-false, ltb-true, ltb-false, leb-true, lt-ltb, le-ltb, le-leb, eq-eqb, ne_eqb}
use Rattle.crdt.specs.Cells.{Reg, reg, no_reg, Cell, up_to, join_reg, join_regs, join_cell, join_opt}
use Rattle.crdt.proofs.Tests.{Tri, low, same, high, tri, test, and_left, and_right}
use Rattle.crdt.proofs.Order.{join_later, join_earlier}
use Rattle.model.specs.Records.{Rec, label_span, place, relation, label, own, at, in_order, Distinct}
use Rattle.model.specs.Merge.{merged_records}
use Rattle.laws.proofs.Lists.{◌∈◌}
use Rattle.laws.proofs.Order.{at_order}
use Rattle.laws.proofs.Members.{at_member}
use Rattle.laws.proofs.Join.{opt_none}
use Rattle.laws.proofs.Merge.{at_merged}
use Rattle.synql.specs.Synql.{Map, Tuple, RDb, join_bottom, join_map, join_tuple, join_db, single, no_fields, wr, wr_opt, ins, updated}
use Rattle.synql.specs.Database.{stamped_reg, field_map, tuple_of, tuple_opt, database, values_map}

-- a joined register has the larger stamp
join_stamp : (a b : Reg) → (join_reg a b).stamp ≡ max a.stamp b.stamp
join_stamp a b = go (tri a.stamp b.stamp)
  where
    tie : a.stamp ≡ b.stamp → (t : Bool) → (cond t b a).stamp ≡ max a.stamp b.stamp
    tie e true = omega arith
    tie e false = omega arith

    go : Tri a.stamp b.stamp → (join_reg a b).stamp ≡ max a.stamp b.stamp
    go (low p) = ap (λ (g : Reg). g.stamp) (sym (join_later a.value a.stamp b.value b.stamp p)) ∙ omega arith
    go (same p) = unfold join_reg in tie p (up_to a b)
    go (high p) = ap (λ (g : Reg). g.stamp) (sym (join_earlier a.value a.stamp b.value b.stamp p)) ∙ omega arith

pub stamp_none : (g : Reg) → g.stamp ≡ 0 → stamped_reg g ≡ none
unfolding stamped_reg
stamp_none g e = rw (eq-eqb g.stamp 0 e)

pub stamp_some : (g : Reg) → (g.stamp ≡ 0 → ⊥) → stamped_reg g ≡ some g
unfolding stamped_reg
stamp_some g n = rw (ne_eqb g.stamp 0 n)

-- (11), of one field: a register without a stamp is not in the map
stamped_join : (a b : Reg) → stamped_reg (join_reg a b) ≡ join_bottom join_reg (stamped_reg a) (stamped_reg b)
unfolding join_bottom
stamped_join a b = go (test (eqb a.stamp 0)) (test (eqb b.stamp 0))
  where
    go : (eqb a.stamp 0 ≡ true) ⊎ (eqb a.stamp 0 ≡ false) → (eqb b.stamp 0 ≡ true) ⊎ (eqb b.stamp 0 ≡ false) → stamped_reg (join_reg a b) ≡ join_bottom join_reg (stamped_reg a) (stamped_reg b)
    go (inl p) (inl q) =
        let x : a.stamp ≡ 0 = eqb-true a.stamp 0 p in
        let y : b.stamp ≡ 0 = eqb-true b.stamp 0 q in
        let z : (join_reg a b).stamp ≡ 0 = omega (arith, join_stamp a b) in
        stamp_none (join_reg a b) z ∙ rw (stamp_none a x, stamp_none b y)
    go (inl p) (inr q) =
        let x : a.stamp ≡ 0 = eqb-true a.stamp 0 p in
        let y : b.stamp ≡ 0 → ⊥ = eqb-false b.stamp 0 q in
        let l : a.stamp < b.stamp = omega arith in
        ap stamped_reg (sym (join_later a.value a.stamp b.value b.stamp l)) ∙ rw (stamp_none a x)
    go (inr p) (inl q) =
        let x : a.stamp ≡ 0 → ⊥ = eqb-false a.stamp 0 p in
        let y : b.stamp ≡ 0 = eqb-true b.stamp 0 q in
        let l : b.stamp < a.stamp = omega arith in
        ap stamped_reg (sym (join_earlier a.value a.stamp b.value b.stamp l)) ∙ rw (stamp_some a x, stamp_none b y)
    go (inr p) (inr q) =
        let x : a.stamp ≡ 0 → ⊥ = eqb-false a.stamp 0 p in
        let y : b.stamp ≡ 0 → ⊥ = eqb-false b.stamp 0 q in
        let z : (join_reg a b).stamp ≡ 0 → ⊥ = omega (arith, join_stamp a b) in
        stamp_some (join_reg a b) z ∙ rw (stamp_some a x, stamp_some b y)

bottom_none : {A : Type 0} (j : A → A → A) (x : Option A) → join_bottom j x none ≡ x
unfolding join_bottom
bottom_none j none = refl
bottom_none j (some a) = refl

at_join : (xs ys : List Reg) (n : ℕ) → stamped_reg (get_or (join_regs xs ys) n no_reg) ≡ join_bottom join_reg (stamped_reg (get_or xs n no_reg)) (stamped_reg (get_or ys n no_reg))
unfolding join_regs join_bottom stamped_reg
at_join [] ys n = refl
at_join (x ∷ xs) [] n = sym (bottom_none join_reg _)
at_join (x ∷ xs) (y ∷ ys) zero = stamped_join x y
at_join (x ∷ xs) (y ∷ ys) (suc n) = at_join xs ys n

fields_join : (xs ys : List Reg) → field_map (join_regs xs ys) ≡ join_map join_reg (field_map xs) (field_map ys)
unfolding field_map join_bottom
fields_join xs ys = fun_ext λ f. go f (eqb f 0)
  where
    go : (f : ℕ) (t : Bool) → cond t none (stamped_reg (get_or (join_regs xs ys) (f - 1) no_reg)) ≡ join_bottom join_reg (cond t none (stamped_reg (get_or xs (f - 1) no_reg))) (cond t none (stamped_reg (get_or ys (f - 1) no_reg)))
    go f true = refl
    go f false = at_join xs ys (f - 1)

tuple_join : (x y : Option Cell) → tuple_opt (join_opt x y) ≡ join_bottom (join_tuple join_reg) (tuple_opt x) (tuple_opt y)
unfolding join_opt join_bottom tuple_of join_cell
tuple_join none y = refl
tuple_join (some a) none = refl
tuple_join (some a) (some b) = λ i. some (record { fields = fields_join a.regs b.regs i; flag = max a.flag b.flag })

-- records whose lookup is the join of two lookups have the joined state
joined_state : (a b c : List Rec) → ((k : ℕ) → at k c ≡ join_opt (at k a) (at k b)) → database c ≡ join_db join_reg (database a) (database b)
unfolding database join_bottom
joined_state a b c h = fun_ext λ r. fun_ext λ l. go r l (ltb l label_span)
  where
    go : (r l : ℕ) (t : Bool) → cond t (tuple_opt (at (place r l) c)) none ≡ join_bottom (join_tuple join_reg) (cond t (tuple_opt (at (place r l) a)) none) (cond t (tuple_opt (at (place r l) b)) none)
    go r l true = rw (h (place r l)) (tuple_join (at (place r l) a) (at (place r l) b))
    go r l false = refl

-- the lookup of a merge is (10) and (11), with the register join of document 01
pub merge_is_11 : (a b : List Rec) → database (merged_records a b) ≡ join_db join_reg (database a) (database b)
merge_is_11 a b = joined_state a b (merged_records a b) (λ k. at_merged k a b)

-- the state does not depend on positions
pub order_state : (a : List Rec) → database (in_order a) ≡ database a
unfolding database
order_state a = fun_ext λ r. fun_ext λ l. rw (at_order (place r l) a)

-- changes of several records: the first joined with the rest
pub split_state : (x : Rec) (xs : List Rec) → database (in_order (x ∷ xs)) ≡ join_db join_reg (database (x ∷ [])) (database xs)
split_state x xs = order_state (x ∷ xs) ∙ joined_state (x ∷ []) xs (x ∷ xs) (λ k. look k)
  where
    look : (k : ℕ) → at k (x ∷ xs) ≡ join_opt (at k (x ∷ [])) (at k xs)
    look k = unfold at in rw (opt_none (own k x))

-- one record is one tuple
same_place : (r l q u : ℕ) → l < label_span → u < label_span → place q u ≡ place r l → (q ≡ r) × (u ≡ l)
same_place r l q u h k e = omega arith

pub one_state : (r l : ℕ) (c : Cell) → l < label_span → database (record { key = place r l; cell = c } ∷ []) ≡ single r l (tuple_of c)
unfolding database single at own join_opt
one_state r l c h = fun_ext λ q. fun_ext λ u. go q u (test (ltb u label_span)) (test (eqb (place q u) (place r l)))
  where
    R : ℕ → ℕ → Type 0
    R q u = cond (ltb u label_span) (tuple_opt (join_opt (cond (eqb (place q u) (place r l)) (some c) none) none)) none ≡ cond (eqb q r && eqb u l) (some (tuple_of c)) none

    apart : (q u : ℕ) → ((q ≡ r) × (u ≡ l) → ⊥) → (eqb q r && eqb u l) ≡ false
    apart q u n = pick (test (eqb q r)) (test (eqb u l))
      where
        pick : (eqb q r ≡ true) ⊎ (eqb q r ≡ false) → (eqb u l ≡ true) ⊎ (eqb u l ≡ false) → (eqb q r && eqb u l) ≡ false
        pick (inl p) (inl s) = absurd (n (eqb-true q r p, eqb-true u l s))
        pick (inl p) (inr s) = rw (p, s)
        pick (inr p) s = rw p

    go : (q u : ℕ) → (ltb u label_span ≡ true) ⊎ (ltb u label_span ≡ false) → (eqb (place q u) (place r l) ≡ true) ⊎ (eqb (place q u) (place r l) ≡ false) → R q u
    go q u (inl p) (inl s) =
        let e = same_place r l q u h (ltb-true u label_span p) (eqb-true (place q u) (place r l) s) in
        let e₁ : q ≡ r = e.0 in
        let e₂ : u ≡ l = e.1 in
        rw (p, s, eq-eqb q r e₁, eq-eqb u l e₂)
    go q u (inl p) (inr s) =
        let n = eqb-false (place q u) (place r l) s in
        rw (p, s, apart q u (λ e. n (λ i. place (e.0 i) (e.1 i))))
    go q u (inr p) s =
        let m : label_span ≤ u = ltb-false u label_span p in
        rw (p, apart q u (λ e. absurd (omega (arith, e.1))))

-- a key is the place of its relation and label
pub key_place_lem : (k : ℕ) → place (k / label_span) (k % label_span) ≡ k
key_place_lem k = omega arith

-- the tuple of a record
pub tuple_at : (a : List Rec) (x : Rec) → Distinct a → x ∈ a → database a (relation x) (label x) ≡ some (tuple_of x.cell)
unfolding database
tuple_at a x d m = let l : label x < label_span = omega arith in rw (lt-ltb (label x) label_span l, key_place_lem x.key) (ap tuple_opt (at_member a x d m))
