-- The records of a table in list order, and the record of each position among them.
-- Assumes nothing.
use Prim.Native.Nat.{ℕ, zero, suc, ◌+◌, ◌≤◌, ◌<◌}
use mathlib.Core.Path.{◌≡◌, refl, sym, ◌∙◌, ap}
use mathlib.Core.Bool.{true, false}
use mathlib.Core.List.Memᴰ
use mathlib.Core.List.{List, ◌∷◌}
use mathlib.Core.Option.{Option, some}
use native.Mathlib.Omega.{arith}
use Rattle.crdt.specs.Cells.{Cell}
use Rattle.crdt.proofs.Tests.{Tri, low, same, high, tri}
use Rattle.model.specs.Layout.{used_at}
use Rattle.model.specs.Lists.{from, listed}
use Rattle.model.specs.Schemas.{broken}
use Rattle.model.specs.Records.{Rec, has, in_order, Distinct, at}
use Rattle.model.specs.Tables.{record_of, decode}
use Rattle.model.specs.WellFormed.{well_formed}
use Rattle.laws.proofs.Lists.{◌∈◌}
use Rattle.laws.proofs.Shown.{has_in, in_has}
use Rattle.laws.proofs.Order.{is_some, has_at, at_order, order_rising}
use Rattle.laws.proofs.Members.{rising_distinct, one_key, in_order_lem, order_in}
use Rattle.laws.proofs.Valid.{distinct_true}
use Rattle.wellformed.proofs.Facts.{schema_sound, formed}
use Rattle.wellformed.proofs.Values.{records_distinct}

-- members of a list made of a range
module _ (f : ℕ → Rec) where
  pub from_in : (a n : ℕ) (x : Rec) → x ∈ from a n f → (i : ℕ) × (a ≤ i) × (i < a + n) × (x ≡ f i)
  unfolding from
  from_in a zero x h = elim h [ ]
  from_in a (suc n) x (Memᴰ.head q) = (a, omega arith, omega arith, q)
  from_in a (suc n) x (Memᴰ.tail h) = let r = from_in (suc a) n x h in (r.0, omega (arith, r.1), omega (arith, r.2), r.3)

  pub in_from : (a n i : ℕ) → a ≤ i → i < a + n → f i ∈ from a n f
  unfolding from
  in_from a zero i h g = absurd (omega arith)
  in_from a (suc n) i h g = go (tri a i) (λ l. in_from (suc a) n i l (omega arith))
    where
      go : Tri a i → (suc a ≤ i → f i ∈ from (suc a) n f) → f i ∈ (f a ∷ from (suc a) n f)
      go (low l) ih = Memᴰ.tail (ih l)
      go (same e) ih = Memᴰ.head (ap f (sym e))
      go (high l) ih = absurd (omega arith)

module _ (s t : List ℕ) (b : broken s ≡ false) (w : well_formed s t ≡ true) where
  pub records_once : Distinct (decode t).records
  unfolding decode
  records_once = distinct_true _ (records_distinct s t (schema_sound s b) (formed s t w))

  pub ordered_once : Distinct (in_order (decode t).records)
  ordered_once = rising_distinct 0 (in_order (decode t).records) (order_rising (decode t).records)

  -- the record of a position, and the position of a record
  pub record_in : (i : ℕ) → 1 ≤ i → i ≤ used_at t → record_of t i ∈ in_order (decode t).records
  unfolding decode listed
  record_in i a l = order_in (decode t).records records_once (record_of t i) (in_from (record_of t) 1 (used_at t) i a (omega arith))

  pub in_record : (x : Rec) → x ∈ in_order (decode t).records → (i : ℕ) × (1 ≤ i) × (i ≤ used_at t) × (x ≡ record_of t i)
  unfolding decode listed
  in_record x h =
      let r = from_in (record_of t) 1 (used_at t) x (in_order_lem (decode t).records records_once x h) in
      (r.0, r.1, omega (arith, r.2), r.3)

  -- a list of records of the table that has the key of a record has the record
  pub member_at : (l : List Rec) → ((x : Rec) → x ∈ l → x ∈ in_order (decode t).records) → (i : ℕ) → 1 ≤ i → i ≤ used_at t
      → has l (record_of t i).key ≡ true → record_of t i ∈ l
  member_at l part i a g h =
      let y = has_in l (record_of t i).key h in
      let e = one_key (in_order (decode t).records) ordered_once y.0 (record_of t i) (part y.0 y.1) (record_in i a g) y.2 in
      rw e at y.1

  pub holds : (l : List Rec) (i : ℕ) → record_of t i ∈ l → has l (record_of t i).key ≡ true
  holds l i h = in_has l (record_of t i) _ h refl
