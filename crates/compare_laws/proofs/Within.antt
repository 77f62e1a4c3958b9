-- A table is behind another or alike exactly if its clock is at most the other's and its records are up to the other's.
-- Assumes nothing.
use Prim.Native.Nat.{ℕ, max, ◌≤◌, ◌<◌}
use mathlib.Core.Path.{◌≡◌, refl, sym, ◌∙◌, ap, ap₂}
use mathlib.Core.Bool.{Bool, true, false, ◌&&◌}
use mathlib.Core.List.{List, [], ◌∷◌}
use mathlib.Core.Logic.{◌⊎◌, inl, inr}
use mathlib.Core.Option.{Option}
use native.Mathlib.Omega.{arith}
use Rattle.crdt.specs.Cells.{Cell}
use Rattle.crdt.proofs.Tests.{test, clash}
use Rattle.model.specs.Layout.{clock_at}
use Rattle.model.specs.Lists.{all_of}
use Rattle.model.specs.Records.{Rec, in_order, join}
use Rattle.model.specs.Tables.{decode, Contents, contents}
use Rattle.model.specs.Compare.{join_contents, same_contents}
use Rattle.laws.proofs.Order.{order_rising, at_order}
use Rattle.laws.proofs.Compared.{same_equal, equal_same}
use Rattle.merge_laws.specs.Absorb.{records_in}
use Rattle.compare_laws.specs.UpTo.{opt_up_to, up_to_in, records_up_to}
use Rattle.compare_laws.proofs.Joined.{up_joins, joins_up}

all_alike : (p q : Rec → Bool) (l : List Rec) → ((x : Rec) → p x ≡ q x) → all_of p l ≡ all_of q l
unfolding all_of
all_alike p q [] h = refl
all_alike p q (x ∷ xs) h = ap₂ (λ (a b : Bool). a && b) (h x) (all_alike p q xs h)

up_order : (s : List Rec) (l : List Rec) → all_of (up_to_in (in_order s)) l ≡ all_of (up_to_in s) l
unfolding up_to_in
up_order s l = all_alike (up_to_in (in_order s)) (up_to_in s) l (λ (y : Rec). ap (λ (o : Option Cell). opt_up_to o y.cell) (at_order y.key s))

module _ (b t : List ℕ) where
  up_same : clock_at b ≤ clock_at t → records_up_to (records_in t) (records_in b) ≡ true → same_contents (join_contents (contents b) (contents t)) (contents t) ≡ true
  unfolding join_contents contents decode records_up_to
  up_same c h =
      let f : max (clock_at b) (clock_at t) ≡ clock_at t = omega (arith, c) in
      let r = up_joins (in_order (records_in b)) (in_order (records_in t)) (order_rising (records_in b)) (order_rising (records_in t)) (up_order (records_in t) (in_order (records_in b)) ∙ h) in
      equal_same (join_contents (contents b) (contents t)) (contents t) (λ i. record { clock = f i; records = r i })

  same_up : same_contents (join_contents (contents b) (contents t)) (contents t) ≡ true → (clock_at b ≤ clock_at t) × (records_up_to (records_in t) (records_in b) ≡ true)
  unfolding join_contents contents decode records_up_to
  same_up h =
      let e = same_equal (join_contents (contents b) (contents t)) (contents t) h in
      let f : max (clock_at b) (clock_at t) ≡ clock_at t = ap (λ (x : Contents). x.clock) e in
      let r : join (in_order (records_in b)) (in_order (records_in t)) ≡ in_order (records_in t) = ap (λ (x : Contents). x.records) e in
      (omega (arith, f), sym (up_order (records_in t) (in_order (records_in b))) ∙ joins_up (in_order (records_in b)) (in_order (records_in t)) (order_rising (records_in b)) (order_rising (records_in t)) r)

  pub within_late : clock_at t < clock_at b → false ≡ same_contents (join_contents (contents b) (contents t)) (contents t)
  within_late c = go (test (same_contents (join_contents (contents b) (contents t)) (contents t)))
    where
      go : (same_contents (join_contents (contents b) (contents t)) (contents t) ≡ true) ⊎ (same_contents (join_contents (contents b) (contents t)) (contents t) ≡ false)
          → false ≡ same_contents (join_contents (contents b) (contents t)) (contents t)
      go (inl e) = absurd (omega (arith, (same_up e).0))
      go (inr e) = sym e

  pub within_is : clock_at b ≤ clock_at t → (x : Bool) → x ≡ records_up_to (records_in t) (records_in b) → x ≡ same_contents (join_contents (contents b) (contents t)) (contents t)
  within_is c x d = go (test x) (test (same_contents (join_contents (contents b) (contents t)) (contents t)))
    where
      go : (x ≡ true) ⊎ (x ≡ false) → (same_contents (join_contents (contents b) (contents t)) (contents t) ≡ true) ⊎ (same_contents (join_contents (contents b) (contents t)) (contents t) ≡ false)
          → x ≡ same_contents (join_contents (contents b) (contents t)) (contents t)
      go (inl e) f = e ∙ sym (up_same c (sym d ∙ e))
      go (inr e) (inl f) = clash (d ∙ (same_up f).1) e
      go (inr e) (inr f) = e ∙ sym f
