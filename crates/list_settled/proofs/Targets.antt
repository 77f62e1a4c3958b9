-- The targets of a record of a table, by its fields.
-- Assumes nothing.
use Prim.Native.Nat.{ℕ, zero, suc, ◌+◌, ◌≤◌, ◌<◌}
use mathlib.Core.Path.{◌≡◌, sym, ◌∙◌, ap}
use mathlib.Core.Logic.{◌⊎◌, inl, inr}
use mathlib.Core.Bool.{Bool, true, false, cond, ◌&&◌, not}
use mathlib.Core.List.Memᴰ
use mathlib.Core.List.{List, ◌∷◌}
use native.Mathlib.Omega.{arith}
use lib.Dec.{eqb}
use Rattle.crdt.specs.Cells.{Reg, reg}
use Rattle.crdt.proofs.Tests.{Tri, low, same, high, tri, test, clash, and_left, and_right, not_true}
use Rattle.model.specs.Layout.{fields, relations, field_count, kind_at, used_at, relation_at, value_at, stamp_at}
use Rattle.model.specs.Lists.{from, listed}
use Rattle.model.specs.Schemas.{leads_to, broken, schema_of}
use Rattle.model.specs.Records.{place, relation}
use Rattle.model.specs.Tables.{record_of}
use Rattle.model.specs.WellFormed.{well_formed}
use Rattle.model.specs.Shown.{described, leads, targets}
use Rattle.laws.proofs.Lists.{◌∈◌}
use Rattle.wellformed.proofs.Facts.{SoundSchema, schema_sound, Formed, formed, Ruled, ruled}
use Rattle.wellformed.proofs.Values.{kinds_of_lem, relation_is}

module _ (p : ℕ → Bool) (kind v st : ℕ → ℕ) where
  -- field j leads somewhere, and where
  abbrev pub refers : ℕ → Bool
  refers j = p (kind j) && not (eqb (v j) 0)

  abbrev pub aim : ℕ → ℕ
  aim j = place (leads_to (kind j)) (v j)

  abbrev regs : ℕ → Reg
  regs j = reg (v j) (st j)

  leads_in : (a F n k : ℕ) → F ≤ n → k ∈ leads p (from a F kind) (from a n regs) → (j : ℕ) × (a ≤ j) × (j < a + F) × (refers j ≡ true) × (k ≡ aim j)
  unfolding leads from
  leads_in a zero n k l h = elim h [ ]
  leads_in a (suc F) zero k l h = absurd (omega arith)
  leads_in a (suc F) (suc n) k l h = go (test (refers a)) (λ (q : k ∈ leads p (from (suc a) F kind) (from (suc a) n regs)). leads_in (suc a) F n k (omega arith) q)
    where
      R : Type 0
      R = (j : ℕ) × (a ≤ j) × (j < a + suc F) × (refers j ≡ true) × (k ≡ aim j)

      later : (j : ℕ) × (suc a ≤ j) × (j < suc a + F) × (refers j ≡ true) × (k ≡ aim j) → R
      later r = (r.0, omega (arith, r.1), omega (arith, r.2), r.3, r.4)

      first : refers a ≡ true → k ∈ (aim a ∷ leads p (from (suc a) F kind) (from (suc a) n regs))
          → (k ∈ leads p (from (suc a) F kind) (from (suc a) n regs) → (j : ℕ) × (suc a ≤ j) × (j < suc a + F) × (refers j ≡ true) × (k ≡ aim j)) → R
      first e (Memᴰ.head q) ih = (a, omega arith, omega arith, e, q)
      first e (Memᴰ.tail q) ih = later (ih q)

      go : (refers a ≡ true) ⊎ (refers a ≡ false)
          → (k ∈ leads p (from (suc a) F kind) (from (suc a) n regs) → (j : ℕ) × (suc a ≤ j) × (j < suc a + F) × (refers j ≡ true) × (k ≡ aim j)) → R
      go (inl e) ih = first e (rw e at h) ih
      go (inr e) ih = later (ih (rw e at h))

  in_leads : (a F n j : ℕ) → F ≤ n → a ≤ j → j < a + F → refers j ≡ true → aim j ∈ leads p (from a F kind) (from a n regs)
  unfolding leads from
  in_leads a zero n j l h g e = absurd (omega arith)
  in_leads a (suc F) zero j l h g e = absurd (omega arith)
  in_leads a (suc F) (suc n) j l h g e = go (tri a j) (λ q. in_leads (suc a) F n j (omega arith) q (omega arith) e)
    where
      later : (b : Bool) → aim j ∈ leads p (from (suc a) F kind) (from (suc a) n regs)
          → aim j ∈ cond b (aim a ∷ leads p (from (suc a) F kind) (from (suc a) n regs)) (leads p (from (suc a) F kind) (from (suc a) n regs))
      later true q = Memᴰ.tail q
      later false q = q

      go : Tri a j → (suc a ≤ j → aim j ∈ leads p (from (suc a) F kind) (from (suc a) n regs))
          → aim j ∈ cond (refers a) (aim a ∷ leads p (from (suc a) F kind) (from (suc a) n regs)) (leads p (from (suc a) F kind) (from (suc a) n regs))
      go (low q) ih = later (refers a) (ih q)
      go (same q) ih = let e' : refers a ≡ true = rw q e in rw e' (Memᴰ.head (ap aim (sym q)))
      go (high q) ih = absurd (omega arith)

module _ (s t : List ℕ) (b : broken s ≡ false) (w : well_formed s t ≡ true) (p : ℕ → Bool) (i : ℕ) (a : 1 ≤ i) (l : i ≤ used_at t) where
  sound : SoundSchema s
  sound = schema_sound s b

  fm : Formed s t
  fm = formed s t w

  rule : Ruled s t i
  rule = ruled s t i (fm.rules i a l)

  F : ℕ
  F = field_count s (relation_at t i)

  few : field_count s (relation_at t i) ≤ fields
  few = sound.counts (relation_at t i) rule.relation_least rule.relation_most

  own : relation (record_of t i) ≡ relation_at t i
  own = relation_is s t sound fm i a l

  kinds_are : (described (schema_of s) (record_of t i)).kinds ≡ listed (field_count s (relation_at t i)) (kind_at s (relation_at t i))
  kinds_are =
      let lo : 1 ≤ relation (record_of t i) = rw own rule.relation_least in
      let hi : relation (record_of t i) ≤ relations s = rw own rule.relation_most in
      kinds_of_lem s (record_of t i) lo hi ∙ ap (λ (r : ℕ). listed (field_count s r) (kind_at s r)) own

  targets_are : targets (schema_of s) p (record_of t i)
      ≡ leads p (from 1 (field_count s (relation_at t i)) (kind_at s (relation_at t i))) (from 1 fields (λ j. reg (value_at t i j) (stamp_at t i j)))
  unfolding targets record_of listed
  targets_are = ap (λ (ks : List ℕ). leads p ks (from 1 fields (λ j. reg (value_at t i j) (stamp_at t i j)))) kinds_are

  -- each target is that of a field, and each field that refers has its target among them
  pub target_field : (k : ℕ) → k ∈ targets (schema_of s) p (record_of t i)
      → (j : ℕ) × (1 ≤ j) × (j ≤ fields) × (refers p (kind_at s (relation_at t i)) (value_at t i) (stamp_at t i) j ≡ true) × (k ≡ aim p (kind_at s (relation_at t i)) (value_at t i) (stamp_at t i) j)
  target_field k h =
      let r = leads_in p (kind_at s (relation_at t i)) (value_at t i) (stamp_at t i) 1 (field_count s (relation_at t i)) fields k few (rw targets_are at h) in
      (r.0, r.1, omega (arith, r.2, few), r.3, r.4)

  pub field_target : (j : ℕ) → 1 ≤ j → j ≤ fields → refers p (kind_at s (relation_at t i)) (value_at t i) (stamp_at t i) j ≡ true
      → aim p (kind_at s (relation_at t i)) (value_at t i) (stamp_at t i) j ∈ targets (schema_of s) p (record_of t i)
  field_target j f g h =
      rw targets_are
      (in_leads p (kind_at s (relation_at t i)) (value_at t i) (stamp_at t i) 1 (field_count s (relation_at t i)) fields j few f (used (tri j (field_count s (relation_at t i)))) h)
    where
      used : Tri j (field_count s (relation_at t i)) → j < 1 + field_count s (relation_at t i)
      used (low q) = omega arith
      used (same q) = omega arith
      used (high q) =
          clash (and_left (eqb (value_at t i j) 0) (eqb (stamp_at t i j) 0) (rule.unused j f g q)) (not_true _ (and_right (p (kind_at s (relation_at t i) j)) (not (eqb (value_at t i j) 0)) h))
