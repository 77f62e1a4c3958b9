-- Merging records by position is joining them in list order: old positions stay, and what is added is new.
-- Assumes nothing.
use Prim.Native.Nat.{ℕ, suc, ◌≤◌, ◌<◌}
use mathlib.Core.Path.{◌≡◌, refl, sym, ◌∙◌, ap}
use mathlib.Core.Logic.{◌⊎◌, inl, inr}
use mathlib.Core.Bool.{Bool, true, false, cond, ◌||◌, not}
use mathlib.Core.List.Memᴰ
use mathlib.Core.List.{List, [], ◌∷◌, ◌++◌, map}
use mathlib.Core.Option.{Option, none, some}
use native.Mathlib.Omega.{arith}
use lib.Dec.{eqb}
use lib.ListN.{length}
use borrow.Author.Tests.{eqb-true, eqb-false, eq-eqb, ne_eqb}
use Rattle.crdt.specs.Cells.{Cell, join_cell, join_opt}
use Rattle.crdt.proofs.Tests.{test, clash, not_true, not_false, or_left, or_right}
use Rattle.crdt.proofs.Lattice.{opt_lattice, cell_lattice}
use Rattle.model.specs.Lists.{only, some_of}
use Rattle.model.specs.Records.{Rec, has, own, at, insert, in_order, join, Rising, Distinct}
use Rattle.model.specs.Merge.{join_held, joined_with, merged_records}
use Rattle.laws.proofs.Lists.{◌∈◌, only_in}
use Rattle.laws.proofs.Join.{opt_none, own_self, own_other, ext, at_join, join_rising}
use Rattle.laws.proofs.Shown.{has_in, in_has}
use Rattle.laws.proofs.Order.{is_some, has_at, at_order, order_rising, order_length}
use Rattle.laws.proofs.Members.{absent, at_member, rising_distinct}

pub at_append : (k : ℕ) (l m : List Rec) → at k (l ++ m) ≡ join_opt (at k l) (at k m)
unfolding at join_opt
at_append k [] m = refl
at_append k (x ∷ l) m = cc (at_append k l m, opt_lattice.assoc (own k x) (at k l) (at k m))

pub has_append : (k : ℕ) (l m : List Rec) → has (l ++ m) k ≡ (has l k || has m k)
unfolding has some_of
has_append k [] m = refl
has_append k (x ∷ l) m = go (eqb k x.key) (has_append k l m)
  where
    go : (b : Bool) → has (l ++ m) k ≡ (has l k || has m k) → (b || has (l ++ m) k) ≡ (b || has l k || has m k)
    go true h = refl
    go false h = h

-- a record joined with what the other records hold
own_joined : (k : ℕ) (b : List Rec) (x : Rec) → own k (joined_with b x) ≡ cond (eqb k x.key) (join_opt (own k x) (at k b)) none
unfolding own joined_with join_opt
own_joined k b x = go (test (eqb k x.key))
  where
    joins : (o : Option Cell) → some (join_held x.cell o) ≡ join_opt (some x.cell) o
    joins none = refl
    joins (some c) = refl

    go : (eqb k x.key ≡ true) ⊎ (eqb k x.key ≡ false) → cond (eqb k x.key) (some (join_held x.cell (at x.key b))) none ≡ cond (eqb k x.key) (join_opt (cond (eqb k x.key) (some x.cell) none) (at k b)) none
    go (inl p) = let e : k ≡ x.key = eqb-true k x.key p in rw p (rw e (joins (at x.key b)))
    go (inr p) = rw p

-- joining with b under each key that is held
at_map : (k : ℕ) (b a : List Rec) → at k (map (joined_with b) a) ≡ cond (has a k) (join_opt (at k a) (at k b)) none
unfolding at has some_of
at_map k b [] = refl
at_map k b (x ∷ xs) = rw (own_joined k b x) (rw (at_map k b xs) (go (test (eqb k x.key)) (test (has xs k))))
  where
    A : Option Cell
    A = own k x

    B : Option Cell
    B = at k b

    R : Option Cell
    R = at k xs

    go : (eqb k x.key ≡ true) ⊎ (eqb k x.key ≡ false) → (has xs k ≡ true) ⊎ (has xs k ≡ false)
        → join_opt (cond (eqb k x.key) (join_opt (own k x) (at k b)) none) (cond (has xs k) (join_opt (at k xs) (at k b)) none) ≡ cond (eqb k x.key || has xs k) (join_opt (join_opt (own k x) (at k xs)) (at k b)) none
    go (inl p) (inl q) =
        rw (p, q)
        (cc (opt_lattice.assoc A B (join_opt R B), opt_lattice.assoc B R B, opt_lattice.comm B R, opt_lattice.assoc R B B, opt_lattice.idem B, opt_lattice.assoc A R B))
    go (inl p) (inr q) = rw (p, q) (cc (absent xs k q, opt_none (own k x), opt_none (join_opt (own k x) (at k b))))
    go (inr p) (inl q) = unfold join_opt in rw (p, q) (cc (own_other k x (eqb-false k x.key p)))
    go (inr p) (inr q) = unfold join_opt in rw (p, q)

has_map : (k : ℕ) (b a : List Rec) → has (map (joined_with b) a) k ≡ has a k
unfolding has some_of joined_with
has_map k b [] = refl
has_map k b (x ∷ xs) = ap (λ (t : Bool). eqb k x.key || t) (has_map k b xs)

-- what a has is left out
abbrev pub new : List Rec → Rec → Bool
new a y = not (has a y.key)

at_new : (k : ℕ) (a l : List Rec) → at k (only (new a) l) ≡ cond (has a k) none (at k l)
unfolding only at
at_new k a [] = go (has a k)
  where
    go : (b : Bool) → ◌≡◌ {A = Option Cell} none (cond b none none)
    go true = refl
    go false = refl
at_new k a (x ∷ xs) = go (test (has a x.key)) (test (eqb k x.key)) (at_new k a xs)
  where
    go : (has a x.key ≡ true) ⊎ (has a x.key ≡ false) → (eqb k x.key ≡ true) ⊎ (eqb k x.key ≡ false) → at k (only (new a) xs) ≡ cond (has a k) none (at k xs)
        → at k (cond (not (has a x.key)) (x ∷ only (new a) xs) (only (new a) xs)) ≡ cond (has a k) none (join_opt (own k x) (at k xs))
    go (inl p) (inl q) h = let e : has a k ≡ true = rw (eqb-true k x.key q) p in rw p (h ∙ rw e)
    go (inl p) (inr q) h = unfold join_opt in rw p (h ∙ rw (own_other k x (eqb-false k x.key q)))
    go (inr p) (inl q) h = let e : has a k ≡ false = rw (eqb-true k x.key q) p in rw p (rw e (ap (join_opt (own k x)) (h ∙ rw e)))
    go (inr p) (inr q) h = unfold join_opt in rw p (rw (own_other k x (eqb-false k x.key q)) h)

-- "The lookup of a merge is the join of the lookups."
pub at_merged : (k : ℕ) (a b : List Rec) → at k (merged_records a b) ≡ join_opt (at k a) (at k b)
unfolding merged_records
at_merged k a b = rw (at_append k (map (joined_with b) a) (only (new a) (in_order b))) (rw (at_map k b a) (rw (at_new k a (in_order b)) (rw (at_order k b) (go (test (has a k))))))
  where
    go : (has a k ≡ true) ⊎ (has a k ≡ false) → join_opt (cond (has a k) (join_opt (at k a) (at k b)) none) (cond (has a k) none (at k b)) ≡ join_opt (at k a) (at k b)
    go (inl p) = rw p (opt_none (join_opt (at k a) (at k b)))
    go (inr p) = rw p (rw (absent a k p))

-- contents of the merged records are the join of contents
pub order_merged : (a b : List Rec) → in_order (merged_records a b) ≡ join (in_order a) (in_order b)
order_merged a b =
    ext 0 _ _ (order_rising _) (join_rising _ _ (order_rising a))
    (λ k. cc (at_order k (merged_records a b), at_merged k a b, at_join k (in_order a) (in_order b), at_order k a, at_order k b))

map_distinct : (b a : List Rec) → Distinct a → Distinct (map (joined_with b) a)
unfolding joined_with
map_distinct b [] d = tt
map_distinct b (x ∷ xs) d = (has_map x.key b xs ∙ d.0, map_distinct b xs d.1)

-- what has not the key has it not after a test
only_lacks : (p : Rec → Bool) (l : List Rec) (k : ℕ) → has l k ≡ false → has (only p l) k ≡ false
only_lacks p l k h = go (test (has (only p l) k))
  where
    go : (has (only p l) k ≡ true) ⊎ (has (only p l) k ≡ false) → has (only p l) k ≡ false
    go (inl e) = let r = has_in (only p l) k e in clash (in_has l r.0 k (only_in p r.0 l r.1).0 r.2) h
    go (inr e) = e

pub only_distinct : (p : Rec → Bool) (l : List Rec) → Distinct l → Distinct (only p l)
unfolding only
only_distinct p [] d = tt
only_distinct p (x ∷ xs) d = go (p x) (only_distinct p xs d.1)
  where
    go : (b : Bool) → Distinct (only p xs) → Distinct (cond b (x ∷ only p xs) (only p xs))
    go true i = (only_lacks p xs x.key d.0, i)
    go false i = i

pub append_distinct : (l m : List Rec) → Distinct l → Distinct m → ((y : Rec) → y ∈ m → has l y.key ≡ false) → Distinct (l ++ m)
append_distinct [] m dl dm h = dm
append_distinct (x ∷ l) m dl dm h = (rw (has_append x.key l m) (go (test (has m x.key))), append_distinct l m dl.1 dm (λ y k. later y (h y k)))
  where
    go : (has m x.key ≡ true) ⊎ (has m x.key ≡ false) → (has l x.key || has m x.key) ≡ false
    go (inl e) = unfold has some_of in (let r = has_in m x.key e in clash (or_left (eqb r.0.key x.key) (has l r.0.key) (eq-eqb _ _ r.2)) (h r.0 r.1))
    go (inr e) = rw (dl.0, e)

    later : (y : Rec) → has (x ∷ l) y.key ≡ false → has l y.key ≡ false
    later y e = go' (test (has l y.key))
      where
        go' : (has l y.key ≡ true) ⊎ (has l y.key ≡ false) → has l y.key ≡ false
        go' (inl q) = unfold has some_of in clash (or_right (eqb y.key x.key) (has l y.key) q) e
        go' (inr q) = q

-- old positions stay and no key comes twice
pub merged_distinct : (a b : List Rec) → Distinct a → Distinct (merged_records a b)
unfolding merged_records
merged_distinct a b d =
    append_distinct _ _ (map_distinct b a d) (only_distinct (new a) (in_order b) (rising_distinct 0 (in_order b) (order_rising b)))
    (λ y m. has_map y.key b a ∙ not_true _ (only_in (new a) y (in_order b) m).1)

-- "merge needs more than N distinct records": as many positions as the join has records
pub merged_length : (a b : List Rec) → Distinct a → length (merged_records a b) ≡ length (join (in_order a) (in_order b))
merged_length a b d = sym (order_length (merged_records a b) (merged_distinct a b d)) ∙ ap length (order_merged a b)

-- a copy of itself
pub none_new : (a l : List Rec) → ((y : Rec) → y ∈ l → has a y.key ≡ true) → only (new a) l ≡ []
unfolding only
none_new a [] h = refl
none_new a (x ∷ xs) h = let e = h x (Memᴰ.head refl) in rw e (none_new a xs (λ y m. h y (Memᴰ.tail m)))

joined_self : (a : List Rec) (x : Rec) → Distinct a → x ∈ a → joined_with a x ≡ x
unfolding joined_with
joined_self a x d m = rw (at_member a x d m) (λ i. record { key = x.key; cell = cell_lattice.idem x.cell i })

pub map_self : (a l : List Rec) → ((x : Rec) → x ∈ l → joined_with a x ≡ x) → map (joined_with a) l ≡ l
map_self a [] h = refl
map_self a (x ∷ xs) h = cc (h x (Memᴰ.head refl), map_self a xs (λ y m. h y (Memᴰ.tail m)))

pub append_nil : (l : List Rec) → l ++ [] ≡ l
append_nil [] = refl
append_nil (x ∷ xs) = ap (λ (t : List Rec). x ∷ t) (append_nil xs)

has_order : (a : List Rec) (k : ℕ) → has (in_order a) k ≡ has a k
has_order a k = cc (has_at (in_order a) k, has_at a k, at_order k a)

pub merged_self : (a : List Rec) → Distinct a → merged_records a a ≡ a
unfolding merged_records
merged_self a d =
    let old = map_self a a (λ x m. joined_self a x d m) in
    let more = none_new a (in_order a) (λ y m. sym (has_order a y.key) ∙ in_has (in_order a) y y.key m refl) in
    rw (old, more) (append_nil a)
