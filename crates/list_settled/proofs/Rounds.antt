-- Rounds of step 4: what each turn of them does, that a round which drops nothing finds the marks at rest, and that one which drops a record
-- lessens the marks.
-- Assumes nothing.
use Prim.Native.Nat.{ℕ, zero, suc, ◌+◌, ◌*◌, ◌-◌, ◌≤◌, ◌<◌}
use mathlib.Core.Path.{◌≡◌, refl, sym, ◌∙◌, ap}
use mathlib.Core.Logic.{◌⊎◌, inl, inr}
use mathlib.Core.Bool.{Bool, true, false, cond, ◌&&◌, ◌||◌, not}
use mathlib.Core.List.{List, [], ◌∷◌}
use native.Mathlib.Omega.{arith}
use native.Mathlib.Numerals.{add-one}
use lib.ListN.{get_or, set}
use borrow.Author.Tests.{eq-eqb}
use Rattle.crdt.proofs.Tests.{Tri, low, same, high, tri, test, or_false, and_left}
use Rattle.model.specs.Layout.{fields, used_at}
use Rattle.model.specs.Lists.{each}
use Rattle.layout.proofs.Each.{each_more}
use Rattle.marks.specs.Marks.{is_marked}
use Rattle.marks.proofs.Marks.{marked_true}
use Rattle.references.specs.Resolved.{Resolves}
use Rattle.judged.specs.Checked.{Checked}
use Rattle.list_settled.specs.Rounds.{leads_on, grounded_at, drops_at, dropped_at, round_of, drops_any, ones}
use Rattle.list_settled.proofs.Between.{Between, between_drop}

-- the references of a record, one by one
abbrev pub lead_test : List ℕ → List ℕ → ℕ → ℕ → Bool
lead_test refs m i j = leads_on m (get_or refs (fields * (i - 1) + (j - 1)) 0)

module _ (refs m : List ℕ) (i : ℕ) where
  pub lead_more : (base j : ℕ) (good x : Bool) → base ≡ fields * (i - 1) → good ≡ each j (lead_test refs m i) → x ≡ leads_on m (get_or refs (base + j) 0)
      → (good && x) ≡ each (j + 1) (lead_test refs m i)
  lead_more base j good x e f g =
      let q : base + j ≡ fields * (i - 1) + (j + 1 - 1) = omega arith in
      each_more good x j (lead_test refs m i) f (rw q at g)

  pub lead_all : (j : ℕ) (good : Bool) → j ≡ fields → good ≡ each j (lead_test refs m i) → good ≡ grounded_at refs m i
  unfolding grounded_at
  lead_all j good e f = rw e at f

  pub drop_no : drops_at refs m i ≡ false → m ≡ dropped_at refs m i
  unfolding dropped_at
  drop_no e = rw e

-- a round, one record more
module _ (refs m : List ℕ) where
  pub round_none : m ≡ round_of refs m 0
  unfolding round_of
  round_none = refl

  pub any_none : false ≡ drops_any refs m 0
  unfolding drops_any
  any_none = refl

  pub round_more : (i : ℕ) (a b : List ℕ) → a ≡ round_of refs m i → b ≡ dropped_at refs a (i + 1) → b ≡ round_of refs m (i + 1)
  unfolding round_of
  round_more i a b e f = rw (add-one i) (rw (e, add-one i) at f)

  pub any_more : (i : ℕ) (a : List ℕ) (x y : Bool) → a ≡ round_of refs m i → x ≡ drops_any refs m i → y ≡ drops_at refs a (i + 1) → (x || y) ≡ drops_any refs m (i + 1)
  unfolding drops_any
  any_more i a x y e f g = rw (add-one i) (rw (f, g, e, add-one i))

  pub round_done : (i n : ℕ) (a : List ℕ) → i ≡ n → a ≡ round_of refs m i → a ≡ round_of refs m n
  round_done i n a e f = rw e at f

  pub any_done : (i n : ℕ) (x : Bool) → i ≡ n → x ≡ drops_any refs m i → x ≡ drops_any refs m n
  any_done i n x e f = rw e at f

-- a round that drops nothing
module _ (refs m : List ℕ) where
  round_same : (n : ℕ) → drops_any refs m n ≡ false → round_of refs m n ≡ m
  unfolding round_of drops_any
  round_same zero h = refl
  round_same (suc n) h =
      let o = or_false (drops_any refs m n) (drops_at refs (round_of refs m n) (suc n)) h in
      sym (drop_no refs (round_of refs m n) (suc n) o.1) ∙ round_same n o.0

  round_rest : (n : ℕ) → drops_any refs m n ≡ false → (i : ℕ) → 1 ≤ i → i ≤ n → drops_at refs m i ≡ false
  unfolding drops_any
  round_rest zero h i a l = absurd (omega arith)
  round_rest (suc n) h i a l =
      let o = or_false (drops_any refs m n) (drops_at refs (round_of refs m n) (suc n)) h in
      go (tri i (suc n)) o.1 (round_same n o.0) (λ q. round_rest n o.0 i a q)
    where
      go : Tri i (suc n) → drops_at refs (round_of refs m n) (suc n) ≡ false → round_of refs m n ≡ m → (i ≤ n → drops_at refs m i ≡ false) → drops_at refs m i ≡ false
      go (low q) d e ih = ih (omega arith)
      go (same q) d e ih = rw q (rw e at d)
      go (high q) d e ih = absurd (omega arith)

  pub rests : (n : ℕ) (a : List ℕ) (x : Bool) → x ≡ drops_any refs m n → a ≡ round_of refs m n → x ≡ false → (i : ℕ) → 1 ≤ i → i ≤ n → drops_at refs a i ≡ false
  rests n a x e f h =
      let d : drops_any refs m n ≡ false = sym e ∙ h in
      rw (f ∙ round_same n d) (round_rest n d)

-- the marks stay between the shown and the kept records
pub round_between : (s t refs m : List ℕ) → Checked s t → Resolves s t refs → Between s t m → (n : ℕ) → n ≤ used_at t → Between s t (round_of refs m n)
unfolding round_of
round_between s t refs m ck rs bt zero h = bt
round_between s t refs m ck rs bt (suc n) h = between_drop s t ck refs (round_of refs m n) rs (round_between s t refs m ck rs bt n (omega arith)) (suc n) (omega arith) (omega arith)

-- fewer marks
ones_set : (m : List ℕ) (k : ℕ) → get_or m k 0 ≡ 1 → ones (set m k 0) + 1 ≡ ones m
unfolding ones
ones_set [] k h = absurd (omega arith)
ones_set (x ∷ xs) zero h = rw (eq-eqb x 1 h) (omega arith)
ones_set (x ∷ xs) (suc k) h = omega (arith, ones_set xs k h)

ones_drop : (refs m : List ℕ) (i : ℕ) → ones (dropped_at refs m i) + cond (drops_at refs m i) 1 0 ≡ ones m
unfolding dropped_at drops_at
ones_drop refs m i = go (test (is_marked m i && not (grounded_at refs m i)))
  where
    go : ((is_marked m i && not (grounded_at refs m i)) ≡ true) ⊎ ((is_marked m i && not (grounded_at refs m i)) ≡ false)
        → ones (cond (is_marked m i && not (grounded_at refs m i)) (set m (i - 1) 0) m) + cond (is_marked m i && not (grounded_at refs m i)) 1 0 ≡ ones m
    go (inl e) = rw e (ones_set m (i - 1) (marked_true m i (and_left (is_marked m i) (not (grounded_at refs m i)) e)).1)
    go (inr e) = rw e (omega arith)

ones_round : (refs m : List ℕ) (n : ℕ) → ones (round_of refs m n) + cond (drops_any refs m n) 1 0 ≤ ones m
unfolding round_of drops_any
ones_round refs m zero = omega arith
ones_round refs m (suc n) = go (drops_any refs m n) (drops_at refs (round_of refs m n) (suc n)) (ones_round refs m n) (ones_drop refs (round_of refs m n) (suc n))
  where
    go : (x y : Bool) → ones (round_of refs m n) + cond x 1 0 ≤ ones m → ones (dropped_at refs (round_of refs m n) (suc n)) + cond y 1 0 ≡ ones (round_of refs m n)
        → ones (dropped_at refs (round_of refs m n) (suc n)) + cond (x || y) 1 0 ≤ ones m
    go true true e f = omega arith
    go true false e f = omega arith
    go false true e f = omega arith
    go false false e f = omega arith

pub round_less : (refs m : List ℕ) (n : ℕ) (a : List ℕ) (x : Bool) → x ≡ drops_any refs m n → a ≡ round_of refs m n → x ≡ true → ones a < ones m
round_less refs m n a x e f g = let h = rw (sym e ∙ g) at (ones_round refs m n) in rw f (omega (arith, h))

-- a turn of the rounds: the marks stay between, and where nothing was dropped they are at rest
pub turn_between : (s t refs m : List ℕ) → Checked s t → Resolves s t refs → Between s t m → (n : ℕ) (a : List ℕ) → n ≡ used_at t → a ≡ round_of refs m n → Between s t a
turn_between s t refs m ck rs bt n a e f = rw (f ∙ ap (round_of refs m) e) (round_between s t refs m ck rs bt (used_at t) (omega arith))

pub turn_rests : (t refs m : List ℕ) (n : ℕ) (a : List ℕ) (x : Bool) → n ≡ used_at t → x ≡ drops_any refs m n → a ≡ round_of refs m n
    → x ≡ false → (i : ℕ) → 1 ≤ i → i ≤ used_at t → drops_at refs a i ≡ false
turn_rests t refs m n a x e f g h i b l = rests refs m n a x f g h i b (omega arith)
