-- An entry read from a table's words is the entry of the record there.
-- Assumes nothing.
use Prim.Native.Nat.{ℕ, zero, suc, ◌≤◌}
use mathlib.Core.Path.{◌≡◌, refl, sym, ◌∙◌, ap}
use mathlib.Core.Bool.{true, false}
use mathlib.Core.List.{List, ◌∷◌}
use native.Mathlib.Omega.{arith}
use Rattle.crdt.specs.Cells.{reg}
use Rattle.model.specs.Layout.{fields, relations, field_count, kind_at, used_at, relation_at, value_at, stamp_at}
use Rattle.model.specs.Lists.{from, listed}
use Rattle.model.specs.Schemas.{broken, schema_of}
use Rattle.model.specs.Records.{relation, label}
use Rattle.model.specs.Tables.{record_of, decode}
use Rattle.model.specs.WellFormed.{well_formed}
use Rattle.model.specs.Shown.{described}
use Rattle.model.specs.Calls.{Entry, entry_at}
use Rattle.convergence.specs.Entries.{values_of, entry_of}
use Rattle.wellformed.proofs.Ranges.{listed_at}
use Rattle.wellformed.proofs.Follow.{no_rec, record_at}
use Rattle.wellformed.proofs.Facts.{SoundSchema, schema_sound, Formed, formed, Ruled, ruled}
use Rattle.wellformed.proofs.Values.{kinds_of_lem, relation_is, label_is}

values_from : (kind v st : ℕ → ℕ) (i F n : ℕ) → F ≤ n → values_of (from i F kind) (from i n (λ j. reg (v j) (st j))) ≡ from i F v
unfolding values_of from
values_from kind v st i zero n l = refl
values_from kind v st i (suc F) zero l = absurd (omega arith)
values_from kind v st i (suc F) (suc n) l = ap (λ (r : List ℕ). v i ∷ r) (values_from kind v st (suc i) F n (omega arith))

same_entry : (r r' l l' : ℕ) (vs vs' : List ℕ) → r ≡ r' → l ≡ l' → vs ≡ vs'
    → ◌≡◌ {A = Entry} (record { relation = r; label = l; values = vs }) (record { relation = r'; label = l'; values = vs' })
same_entry r r' l l' vs vs' a b c = rw (a, b, c)

module _ (s t : List ℕ) (b : broken s ≡ false) (w : well_formed s t ≡ true) (i : ℕ) (lo : 1 ≤ i) (hi : i ≤ used_at t) where
  sound : SoundSchema s
  sound = schema_sound s b

  rules : Formed s t
  rules = formed s t w

  rule : Ruled s t i
  rule = ruled s t i (rules.rules i lo hi)

  same_relation : relation (record_of t i) ≡ relation_at t i
  same_relation = relation_is s t sound rules i lo hi

  kinds_are : (described (schema_of s) (record_of t i)).kinds ≡ listed (field_count s (relation_at t i)) (kind_at s (relation_at t i))
  kinds_are =
      let r = same_relation in
      let a : 1 ≤ relation (record_of t i) = rw r rule.relation_least in
      let c : relation (record_of t i) ≤ relations s = rw r rule.relation_most in
      kinds_of_lem s (record_of t i) a c ∙ ap (λ (x : ℕ). listed (field_count s x) (kind_at s x)) r

  values_are : values_of (described (schema_of s) (record_of t i)).kinds (record_of t i).cell.regs ≡ listed (field_count s (relation_at t i)) (value_at t i)
  unfolding record_of listed
  values_are =
      ap (λ (ks : List ℕ). values_of ks (record_of t i).cell.regs) kinds_are
      ∙ values_from (kind_at s (relation_at t i)) (value_at t i) (stamp_at t i) 1 (field_count s (relation_at t i)) fields
      (sound.counts (relation_at t i) rule.relation_least rule.relation_most)

  pub entry_is : entry_at s t i ≡ entry_of (schema_of s) (record_of t i)
  unfolding entry_at entry_of
  entry_is = same_entry _ _ _ _ _ _ (sym same_relation) (sym (label_is s t sound rules i lo hi)) (sym values_are)

  pub record_is : record_at (decode t).records i ≡ record_of t i
  unfolding decode
  record_is = listed_at (used_at t) (record_of t) i no_rec lo hi
