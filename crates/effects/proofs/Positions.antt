-- The records of a merge by position: the old ones joined in place, and one new record behind them.
-- Assumes nothing.
use Prim.Native.Nat.{ℕ, zero, suc, ◌+◌, ◌-◌, ◌≤◌, ◌<◌}
use mathlib.Core.Path.{◌≡◌, refl, sym, ◌∙◌, ap}
use mathlib.Core.Bool.{Bool, true, false, ◌||◌}
use mathlib.Core.Logic.{◌⊎◌, inl, inr}
use mathlib.Core.List.Memᴰ
use mathlib.Core.List.{List, [], ◌∷◌, map}
use native.Mathlib.Omega.{arith}
use lib.ListN.{length, get_or, length-append, length-map, get_or-append}
use lib.Seq.{get_or-append-add}
use lib.Dec.{eqb}
use borrow.Author.Tests.{eqb-true}
use Rattle.crdt.specs.Flags.{is_odd}
use Rattle.crdt.proofs.Tests.{Tri, low, same, high, tri, test, clash, and_left, or_cases}
use Rattle.model.specs.Lists.{only, some_of}
use Rattle.model.specs.Records.{Rec, has, at, insert, in_order}
use Rattle.model.specs.Merge.{joined_with, merged_records}
use Rattle.model.specs.Edits.{flag_of, flag_only, odd, redoing}
use Rattle.laws.proofs.Lists.{◌∈◌}
use Rattle.laws.proofs.Join.{insert_low, insert_high}
use Rattle.laws.proofs.Shown.{in_has}
use Rattle.laws.proofs.Members.{absent}
use Rattle.laws.proofs.Merge.{new}
use Rattle.laws.proofs.Drafts.{has_order}
use Rattle.wellformed.proofs.Follow.{no_rec, record_at}
use Rattle.effects.proofs.Joins.{among}
use Rattle.effects.proofs.Flags.{among_odd}

map_at : (f : Rec → Rec) (l : List Rec) (n : ℕ) (d : Rec) → n < length l → get_or (map f l) n d ≡ f (get_or l n d)
map_at f [] n d h = absurd (omega arith)
map_at f (x ∷ xs) zero d h = refl
map_at f (x ∷ xs) (suc n) d h = map_at f xs n d (omega arith)

-- "old positions remain"
pub old_at : (a b : List Rec) (i : ℕ) → 1 ≤ i → i ≤ length a → record_at (merged_records a b) i ≡ joined_with b (record_at a i)
unfolding merged_records
old_at a b i l m =
    let h : i - 1 < length (map (joined_with b) a) = omega (arith, length-map a (joined_with b)) in
    get_or-append (map (joined_with b) a) (only (new a) (in_order b)) no_rec (i - 1) h ∙ map_at (joined_with b) a (i - 1) no_rec (omega arith)

-- how many, and the record added, by what is new
pub merged_size : (a b : List Rec) → length (merged_records a b) ≡ length a + length (only (new a) (in_order b))
unfolding merged_records
merged_size a b = simp (length-append, length-map)

pub added_at : (a b : List Rec) (x : Rec) → only (new a) (in_order b) ≡ x ∷ [] → record_at (merged_records a b) (length a + 1) ≡ x
unfolding merged_records
added_at a b x e =
    let n : length a + 1 - 1 ≡ length (map (joined_with b) a) + 0 = omega (arith, length-map a (joined_with b)) in
    rw (e, n) (get_or-append-add (map (joined_with b) a) (x ∷ []) 0 no_rec)

-- what is new of records that are old, and of these with one more that isn't
pub none_new : (a l : List Rec) → ((y : Rec) → y ∈ l → has a y.key ≡ true) → only (new a) l ≡ []
unfolding only
none_new a [] h = refl
none_new a (x ∷ xs) h = let e = h x (Memᴰ.head refl) in rw e (none_new a xs (λ y m. h y (Memᴰ.tail m)))

pub one_new : (a : List Rec) (e : Rec) (l : List Rec) → has a e.key ≡ false → ((y : Rec) → y ∈ l → has a y.key ≡ true) → only (new a) (insert e l) ≡ e ∷ []
unfolding only insert
one_new a e [] n h = rw n
one_new a e (x ∷ xs) n h = go (tri e.key x.key) (one_new a e xs n (λ y m. h y (Memᴰ.tail m)))
  where
    old : has a x.key ≡ true
    old = h x (Memᴰ.head refl)

    rest : only (new a) xs ≡ []
    rest = none_new a xs (λ y m. h y (Memᴰ.tail m))

    go : Tri e.key x.key → only (new a) (insert e xs) ≡ e ∷ [] → only (new a) (insert e (x ∷ xs)) ≡ e ∷ []
    go (low p) ih = rw (insert_low e x xs p) (rw (n, old, rest))
    go (same p) ih = clash (rw p old) n
    go (high p) ih = rw (insert_high e x xs p) (rw old ih)

-- redone records are old
has_redoing : (w : ℕ) (c : List Rec) (k : ℕ) (ks : List ℕ) → has (redoing w c ks) k ≡ among k ks
unfolding has some_of redoing flag_only
has_redoing w c k [] = refl
has_redoing w c k (j ∷ ks) = ap (λ (b : Bool). eqb k j || b) (has_redoing w c k ks)

odd_held : (c : List Rec) (k : ℕ) → is_odd (flag_of c k) ≡ true → has c k ≡ true
unfolding flag_of
odd_held c k h = go (test (has c k))
  where
    go : (has c k ≡ true) ⊎ (has c k ≡ false) → has c k ≡ true
    go (inl p) = p
    go (inr p) = clash (rw (absent c k p) at h) refl

module _ (w : ℕ) (a : List Rec) (l : List ℕ) where
  redone_key : (k : ℕ) → has (redoing w (in_order a) (odd (in_order a) l)) k ≡ true → has a k ≡ true
  redone_key k h =
      let m = sym (among_odd (in_order a) k l) ∙ sym (has_redoing w (in_order a) k (odd (in_order a) l)) ∙ h in
      sym (has_order a k) ∙ odd_held (in_order a) k (and_left _ _ m)

  pub redone_old : (y : Rec) → y ∈ in_order (redoing w (in_order a) (odd (in_order a) l)) → has a y.key ≡ true
  redone_old y m = redone_key y.key (sym (has_order _ y.key) ∙ in_has _ y y.key m refl)

  pub all_old : (x : Rec) → has a x.key ≡ true → (y : Rec) → y ∈ in_order (x ∷ redoing w (in_order a) (odd (in_order a) l)) → has a y.key ≡ true
  unfolding has some_of
  all_old x h y m = go (or_cases (eqb y.key x.key) _ (sym (has_order (x ∷ redoing w (in_order a) (odd (in_order a) l)) y.key) ∙ in_has _ y y.key m refl))
    where
      go : (eqb y.key x.key ≡ true) ⊎ (has (redoing w (in_order a) (odd (in_order a) l)) y.key ≡ true) → has a y.key ≡ true
      go (inl p) = rw (eqb-true y.key x.key p) h
      go (inr p) = redone_key y.key p
