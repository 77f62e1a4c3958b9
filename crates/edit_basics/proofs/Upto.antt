-- A test of each number from 1 to n in turn: `any` over `1..=n`.
-- Assumes nothing.
use Prim.Native.Nat.{ℕ, zero, suc, ◌+◌, ◌-◌, ◌≤◌, ◌<◌}
use mathlib.Core.Path.{◌≡◌, refl, sym, ◌∙◌, ap, ap₂, subst}
use mathlib.Core.Logic.{◌⊎◌, inl, inr}
use mathlib.Core.Bool.{Bool, true, false, ◌||◌}
use mathlib.Core.List.{List, [], ◌∷◌}
use native.Mathlib.Omega.{arith}
use lib.ListN.{length}
use Rattle.std.specs.Prelude.{Option, Some, None}
use Rattle.std.specs.List.{range_with_len, list_any, FoldsTo}
use Rattle.std.specs.Option.{MatchOption}
use Rattle.std.specs.Iterator.{AlwaysYields, Yields, YieldsThen, CallableAtEachTurn}
use Rattle.std.specs.Fn.{Called}
use Rattle.std.specs.Range.{range_inclusive_start, range_inclusive_end, range_inclusive_exhausted, range_inclusive_len}
use Rattle.std.specs.declared.ops.RangeInclusive.{RangeInclusive}
use Rattle.std.proofs.iter.Yields.{listed}
use Rattle.std.proofs.iter.runs.Sources.{nat_range_inclusive_steps}
use Rattle.std.proofs.lemmas.Iterator.{YieldsList}
use Rattle.std.proofs.lemmas.Iterator.Search.{any_from_yields_List}
use denote.Param.Members.{Mut}
use Rattle.crdt.proofs.Tests.{test, clash, or_cases, Tri, low, same, high, tri}
use Rattle.edit_basics.proofs.Turns.{NoneTo}

abbrev left : RangeInclusive ℕ → ℕ
left s = range_inclusive_len (λ x y. y - x) (range_inclusive_start s) (range_inclusive_end s) (range_inclusive_exhausted s)

abbrev rest : RangeInclusive ℕ → List ℕ
rest s = range_with_len (range_inclusive_start s) (left s)

spent : (t : RangeInclusive ℕ) → range_inclusive_exhausted t ≡ true → left t ≡ 0
spent t e = ap (range_inclusive_len (λ x y. y - x) (range_inclusive_start t) (range_inclusive_end t)) e

open_left : (t : RangeInclusive ℕ) → range_inclusive_exhausted t ≡ false
    → left t ≡ range_inclusive_end t - range_inclusive_start t + 1 - (range_inclusive_start t - range_inclusive_end t)
open_left t e = ap (range_inclusive_len (λ x y. y - x) (range_inclusive_start t) (range_inclusive_end t)) e

-- the numbers of a closed range come in turn
goes : (s : RangeInclusive ℕ) (x : ℕ) (t : RangeInclusive ℕ) → nat_range_inclusive_steps s (Some x) t → rest s ≡ x ∷ rest t
goes s x t p = head ∙ go (test (range_inclusive_exhausted t))
  where
    head : rest s ≡ x ∷ range_with_len (x + 1) (left t)
    head =
        let e : left s ≡ suc (left t) = omega (arith, p.1.1) in
        ap (range_with_len (range_inclusive_start s)) e ∙ ap (λ k. k ∷ range_with_len (k + 1) (left t)) (sym p.1.0)

    go : (range_inclusive_exhausted t ≡ true) ⊎ (range_inclusive_exhausted t ≡ false) → x ∷ range_with_len (x + 1) (left t) ≡ x ∷ rest t
    go (inl e) = ap (λ k. x ∷ range_with_len (x + 1) k) (spent t e) ∙ ap (λ k. x ∷ range_with_len (range_inclusive_start t) k) (sym (spent t e))
    go (inr e) = let f : x + 1 ≡ range_inclusive_start t = omega (arith, p.1.0, p.1.2 e) in ap (λ k. x ∷ range_with_len k (left t)) f

pub upto : (s : RangeInclusive ℕ) (n : ℕ) → range_inclusive_start s ≡ 1 → range_inclusive_end s ≡ n → range_inclusive_exhausted s ≡ false
    → YieldsList nat_range_inclusive_steps (λ x. x) s (range_with_len 1 n)
upto s n e f o = record { runs = subst (AlwaysYields nat_range_inclusive_steps (λ x. x) s) all (listed nat_range_inclusive_steps (λ x. x) rest stop goes s) }
  where
    stop : (s t : RangeInclusive ℕ) → nat_range_inclusive_steps s None t → length (rest s) ≡ 0
    stop s t p = ap (λ k. length (range_with_len (range_inclusive_start s) k)) p.1.0

    all : rest s ≡ range_with_len 1 n
    all = let l : left s ≡ n = omega (arith, e, f, open_left s o) in ap₂ range_with_len e l

found : (T : ℕ → Bool) (a n : ℕ) → list_any T (range_with_len a n) ≡ true → (y : ℕ) × (a ≤ y) × (y < a + n) × (T y ≡ true)
found T a zero h = clash h refl
found T a (suc n) h = go (or_cases (T a) _ h) (found T (a + 1) n)
  where
    go : (T a ≡ true) ⊎ (list_any T (range_with_len (a + 1) n) ≡ true) → (list_any T (range_with_len (a + 1) n) ≡ true → (y : ℕ) × (a + 1 ≤ y) × (y < a + 1 + n) × (T y ≡ true))
        → (y : ℕ) × (a ≤ y) × (y < a + suc n) × (T y ≡ true)
    go (inl e) k = (a, omega arith, omega arith, e)
    go (inr e) k = let r = k e in (r.0, omega (arith, r.1), omega (arith, r.2), r.3)

neither : (a b : Bool) → (a || b) ≡ false → (a ≡ false) × (b ≡ false)
neither true b h = clash refl h
neither false b h = (refl, h)

none : (T : ℕ → Bool) (a n : ℕ) → list_any T (range_with_len a n) ≡ false → (y : ℕ) → a ≤ y → y < a + n → T y ≡ false
none T a zero h y k l = absurd (omega arith)
none T a (suc n) h y k l = let e = neither (T a) _ h in go (tri a y) e.0 (none T (a + 1) n e.1 y)
  where
    go : Tri a y → T a ≡ false → (a + 1 ≤ y → y < a + 1 + n → T y ≡ false) → T y ≡ false
    go (low b) e more = more (omega arith) (omega arith)
    go (same q) e more = ap T (sym q) ∙ e
    go (high b) e more = absurd (omega arith)

-- what `any` tells of a test T that its closure computes
pub any_upto : {F : Type 0} {g : Mut F (ℕ × Unit {0}) Bool} (T : ℕ → Bool) (s u : RangeInclusive ℕ) (f : F) (r : Bool) (n : ℕ)
    → range_inclusive_start s ≡ 1 → range_inclusive_end s ≡ n → range_inclusive_exhausted s ≡ false
    → (xs : List ℕ) × (o : Option ℕ) × (j : F) × YieldsThen nat_range_inclusive_steps s xs o u × FoldsTo (λ p x q. Called g p (x, tt) false q) f xs j
    × MatchOption o (r ≡ false) (λ x. (r ≡ true) × ((h : F) × Called g j (x, tt) true h))
    → ((x : ℕ) (b : Bool) (q : F) → Called g f (x, tt) b q → (q ≡ f) × (b ≡ T x))
    → (z : Bool) → ((y : ℕ) → 1 ≤ y → y ≤ n → T y ≡ true → z ≡ true) → (NoneTo T n → z ≡ false) → r ≡ z
any_upto T s u f r n one to fresh ran k z if_some if_none = is ∙ go (test (list_any T (range_with_len 1 n)))
  where
    is : r ≡ list_any T (range_with_len 1 n)
    is = any_from_yields_List T u f r ran (upto s n one to fresh) k

    go : (list_any T (range_with_len 1 n) ≡ true) ⊎ (list_any T (range_with_len 1 n) ≡ false) → list_any T (range_with_len 1 n) ≡ z
    go (inl h) = let y = found T 1 n h in h ∙ sym (if_some y.0 y.1 (omega (arith, y.2)) y.3)
    go (inr h) = h ∙ sym (if_none (λ y a b. none T 1 n h y a (omega arith)))

-- what the closure may be asked
open_before : (xs : List ℕ) (s t : RangeInclusive ℕ) → Yields nat_range_inclusive_steps s xs t → range_inclusive_exhausted t ≡ false → range_inclusive_exhausted s ≡ false
open_before [] s t y e = ap range_inclusive_exhausted y ∙ e
open_before (x ∷ xs) s t y e = go (test (range_inclusive_exhausted s))
  where
    go : (range_inclusive_exhausted s ≡ true) ⊎ (range_inclusive_exhausted s ≡ false) → range_inclusive_exhausted s ≡ false
    go (inl q) = absurd (omega (arith, y.1.1.1, spent s q))
    go (inr q) = q

within : (xs : List ℕ) (s t : RangeInclusive ℕ) → Yields nat_range_inclusive_steps s xs t → range_inclusive_exhausted t ≡ false
    → (range_inclusive_end t ≡ range_inclusive_end s) × (range_inclusive_start s ≤ range_inclusive_start t)
within [] s t y e = (sym (ap range_inclusive_end y), omega (arith, ap range_inclusive_start y))
within (x ∷ xs) s t y e =
    let h = within xs y.0 t y.2 e in
    (h.0 ∙ y.1.0, omega (arith, h.1, y.1.1.2 (open_before xs y.0 t y.2 e)))

comes : (xs : List ℕ) (s t : RangeInclusive ℕ) (x : ℕ) (u : RangeInclusive ℕ) → Yields nat_range_inclusive_steps s xs t → nat_range_inclusive_steps t (Some x) u
    → (range_inclusive_start s ≤ x) × (x ≤ range_inclusive_end s)
comes xs s t x u y p = go (test (range_inclusive_exhausted t))
  where
    go : (range_inclusive_exhausted t ≡ true) ⊎ (range_inclusive_exhausted t ≡ false) → (range_inclusive_start s ≤ x) × (x ≤ range_inclusive_end s)
    go (inl e) = absurd (omega (arith, p.1.1, spent t e))
    go (inr e) =
        let h = within xs s t y e in
        (omega (arith, h.1, p.1.0), omega (arith, h.0, p.1.0, p.1.1, open_left t e))

unmoved : {P : Type 0} (R : P → ℕ → P → Type 0) → ((x : ℕ) (p q : P) → R p x q → q ≡ p) → (xs : List ℕ) (p q : P) → FoldsTo R p xs q → q ≡ p
unmoved R stays [] p q c = sym c
unmoved R stays (x ∷ xs) p q c = unmoved R stays xs c.0 q c.2 ∙ stays x p c.0 c.1

pub asked_upto : {P : Type 0} {R : P → ℕ → P → Type 0} {Q : P → ℕ → Type 0} {s : RangeInclusive ℕ} {p : P} (n : ℕ)
    → range_inclusive_start s ≡ 1 → range_inclusive_end s ≡ n → range_inclusive_exhausted s ≡ false
    → ((x : ℕ) (p q : P) → R p x q → q ≡ p) → ((x : ℕ) → 1 ≤ x → x ≤ n → Q p x)
    → CallableAtEachTurn nat_range_inclusive_steps R Q s p
asked_upto {P} {R} {Q} {s} {p} n one to fresh stays h = record {
  at = λ xs t q x u y c k.
      let w = comes xs s t x u y k in
      subst (λ z. Q z x) (sym (unmoved R stays xs p q c)) (h x (omega (arith, w.0, one)) (omega (arith, w.1, to)));
}
