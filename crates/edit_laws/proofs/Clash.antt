-- The key comparison of a table's record with any record, over its values.
-- Assumes nothing.
use Prim.Native.Nat.{ℕ, zero, suc, ◌+◌, ◌-◌, ◌/◌, ◌%◌, ◌≤◌, ◌<◌}
use mathlib.Core.Path.{◌≡◌, refl, sym, ◌∙◌, ap}
use mathlib.Core.Logic.{◌⊎◌, inl, inr}
use mathlib.Core.Bool.{Bool, true, false, cond, ◌||◌, ◌&&◌, not}
use mathlib.Core.List.{List, [], ◌∷◌, ◌++◌, map}
use native.Mathlib.Omega.{arith}
use lib.Dec.{eqb}
use lib.ListN.{length, get_or, set, replicate}
use borrow.Author.Tests.{eq-eqb, ne_eqb}
use Rattle.crdt.specs.Cells.{Reg, reg, no_reg, Cell}
use Rattle.crdt.proofs.Tests.{test, clash, and_left, and_right, and_both}
use Rattle.model.specs.Layout.{fields, head_words, word, base, field_count, kind_at, mask_at, used_at, relation_at, value_at, stamp_at}
use Rattle.model.specs.Lists.{from, listed, some_of}
use Rattle.model.specs.Schemas.{is_reference, schema_of}
use Rattle.model.specs.Records.{Rec, relation}
use Rattle.model.specs.Tables.{record_of}
use Rattle.model.specs.Shown.{described, value, rest, equal_on, conflict_on, conflict, standing}
use Rattle.laws.proofs.Shown.{standing_in}
use Rattle.wellformed.proofs.ListRanges.{map_from, span}
use Rattle.wellformed.proofs.Values.{kinds_of_lem}
use Rattle.judged.specs.Checked.{Checked}
use Rattle.references.specs.Order.{key_at}
use Rattle.references.specs.Resolved.{Marked}
use Rattle.references.proofs.Places.{key_relation, relation_least, relation_known}
use Rattle.marks.specs.Marks.{is_marked}
use Rattle.list_conflicts.specs.Keys.{registers, values_conflict, values_at}
use Rattle.list_conflicts.proofs.Keys.{field_agrees, values_in}
use Rattle.edit_basics.specs.Targets.{kinds_of, held, Placed}
use Rattle.edit_basics.proofs.Turns.{NoneTo}
use Rattle.edit_basics.proofs.Marks.{Part, mark_found, mark_none}
use Rattle.edit_laws.specs.Clash.{clashes}

abbrev pub values_of : List Reg → List ℕ
values_of gs = map (λ (g : Reg). g.value) gs

equal_values : (m : ℕ) (ks : List ℕ) (xs ys : List Reg) → equal_on m ks xs ys ≡ equal_on m ks (registers (values_of xs)) (registers (values_of ys))
unfolding equal_on
equal_values m [] xs ys = refl
equal_values m (k ∷ ks) [] [] = ap (λ (t : Bool). field_agrees m k 0 0 && t) (equal_values (m / 2) ks [] [])
equal_values m (k ∷ ks) [] (y ∷ ys) = ap (λ (t : Bool). field_agrees m k 0 y.value && t) (equal_values (m / 2) ks [] ys)
equal_values m (k ∷ ks) (x ∷ xs) [] = ap (λ (t : Bool). field_agrees m k x.value 0 && t) (equal_values (m / 2) ks xs [])
equal_values m (k ∷ ks) (x ∷ xs) (y ∷ ys) = ap (λ (t : Bool). field_agrees m k x.value y.value && t) (equal_values (m / 2) ks xs ys)

module _ (s t : List ℕ) (y : ℕ) (o : Placed s t y) where
  pub values_are : values_of (record_of t y).cell.regs ≡ values_at t y
  unfolding record_of listed values_at value_at word
  values_are =
      map_from (λ (g : Reg). g.value) 1 fields (λ j. reg (value_at t y j) (stamp_at t y j))
      ∙ span t (base y + head_words) fields 1 (value_at t y) (values_in s t o.checked.schema o.checked.formed y o.least o.most) (λ k h. ap (λ n. get_or t n 0) (omega arith))

  pub kinds_here : (described (schema_of s) (record_of t y)).kinds ≡ kinds_of s (relation_at t y)
  kinds_here =
      let c = o.checked in
      let e = key_relation s t c y o.least o.most in
      rw e at (kinds_of_lem s (record_of t y) (omega (arith, e, relation_least s t c y o.least o.most)) (omega (arith, e, relation_known s t c y o.least o.most)))

  -- a key on which the record conflicts with another of these values
  pub conflict_on_lem : (m : ℕ) (x : Rec) (out : List ℕ) → values_of x.cell.regs ≡ out
      → conflict_on (schema_of s) m (record_of t y) x ≡ values_conflict s (relation_at t y) m (values_at t y) out
  unfolding conflict_on values_conflict
  conflict_on_lem m x out e =
      ap (λ (z : Bool). not (eqb m 0) && z)
      (equal_values m _ (record_of t y).cell.regs x.cell.regs ∙ rw (kinds_here, values_are, e))

-- one record of a scan for conflicts
module _ (s t st : List ℕ) (r m1 m2 but : ℕ) (vs : List ℕ) (y : ℕ) where
  abbrev pub takes : Bool
  takes = is_marked st y && clashes s t r m1 m2 but vs y

  three : (a b d e : Bool) → d ≡ false → false ≡ (a && ((b && d) && e))
  three true true d e h = rw h
  three true false d e h = refl
  three false b d e h = refl

  pub takes_hidden : (x : Bool) → x ≡ is_marked st y → x ≡ false → false ≡ takes
  takes_hidden x e h = let k : is_marked st y ≡ false = sym e ∙ h in rw k

  two : (a : Bool) → false ≡ (a && false)
  two true = refl
  two false = refl

  pub takes_but : y ≡ but → false ≡ takes
  takes_but e = rw (eq-eqb y but e) (two (is_marked st y))

  pub takes_other : (q : ℕ) → q ≡ relation_at t y → (q ≡ r → ⊥) → false ≡ takes
  takes_other q e n = three (is_marked st y) (not (eqb y but)) (eqb (relation_at t y) r) (values_conflict s r m1 (values_at t y) vs || values_conflict s r m2 (values_at t y) vs) (ne_eqb (relation_at t y) r (λ z. n (e ∙ z)))

  pub takes_here : (x a b : Bool) (q : ℕ) → x ≡ is_marked st y → x ≡ true → (y ≡ but → ⊥) → q ≡ relation_at t y → q ≡ r
      → a ≡ values_conflict s (relation_at t y) m1 (values_at t y) vs → b ≡ values_conflict s (relation_at t y) m2 (values_at t y) vs → (a || b) ≡ takes
  takes_here x a b q e h n f g u w =
      let k : is_marked st y ≡ true = sym e ∙ h in
      let z : relation_at t y ≡ r = sym f ∙ g in
      rw (k, ne_eqb y but n, eq-eqb (relation_at t y) r z, u, w, z)

-- the scan
module _ (s t st : List ℕ) (c : Checked s t) (mk : Marked t (standing (schema_of s) (held t)) st) where
  stands : Part t (standing (schema_of s) (held t))
  stands x h = (standing_in (schema_of s) (held t) x h).0

  module _ (q : ℕ → Bool) (p : Rec → Bool) (same : (y : ℕ) → 1 ≤ y → y ≤ used_at t → p (record_of t y) ≡ q y) where
    pub stand_found : (y : ℕ) → 1 ≤ y → y ≤ used_at t → (is_marked st y && q y) ≡ true → true ≡ some_of p (standing (schema_of s) (held t))
    stand_found y a b h =
        sym (mark_found s t c _ stands st mk p y a b (and_left (is_marked st y) (q y) h) (same y a b ∙ and_right (is_marked st y) (q y) h))

    pub stand_none : NoneTo (λ y. is_marked st y && q y) (used_at t) → false ≡ some_of p (standing (schema_of s) (held t))
    stand_none h = sym (mark_none s t c _ stands st mk p (λ y a b. ap (λ (z : Bool). is_marked st y && z) (same y a b) ∙ h y a b))

-- a choice by a number
pub choice_here : (j f a b : ℕ) → j ≡ f → a ≡ cond (eqb j f) a b
choice_here j f a b e = rw (eq-eqb j f e)

pub choice_there : (j f a b x : ℕ) → (j ≡ f → ⊥) → x ≡ b → x ≡ cond (eqb j f) a b
choice_there j f a b x n e = rw (ne_eqb j f n) e
