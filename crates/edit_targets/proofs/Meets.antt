-- A resolved reference compared first, and its kind then.
-- Assumes nothing.
use Prim.Native.Nat.{ℕ, ◌+◌, ◌*◌, ◌-◌, ◌<◌}
use mathlib.Core.Path.{◌≡◌, sym, ◌∙◌, ap}
use mathlib.Core.Logic.{◌≢◌}
use mathlib.Core.Bool.{Bool, true, false, ◌&&◌}
use mathlib.Core.List.{List}
use native.Mathlib.Omega.{arith}
use lib.Dec.{eqb}
use lib.ListN.{get_or}
use borrow.Author.Tests.{eq-eqb, ne_eqb}
use Rattle.crdt.proofs.Tests.{and_none, and_both}
use Rattle.model.specs.Layout.{fields, most_records, field_count, relation_at, kind_at}
use Rattle.references.proofs.Places.{used_most, fields_most}
use Rattle.edit_basics.specs.Targets.{Placed, meets}

-- the fields of record i, and the place of one of them
pub counted : (s t : List ℕ) (i r n : ℕ) → r ≡ relation_at t i → n ≡ field_count s r → n ≡ field_count s (relation_at t i)
counted s t i r n er en = en ∙ ap (field_count s) er

pub within : (s t : List ℕ) (i r n j : ℕ) → Placed s t i → r ≡ relation_at t i → n ≡ field_count s r → j < n → fields * (i - 1) + j < fields * most_records
within s t i r n j o er en l = omega (arith, o.least, o.most, used_most _ _ o.checked, fields_most _ _ o.checked _ o.least o.most, counted s t i r n er en)

module _ (q : ℕ → Bool) (s t a : List ℕ) (i p j : ℕ) where
  place_is : fields * (i - 1) + ((j + 1) - 1) ≡ fields * (i - 1) + j
  place_is = omega arith

  read : get_or a (fields * (i - 1) + ((j + 1) - 1)) 0 ≡ get_or a (fields * (i - 1) + j) 0
  read = ap (λ (x : ℕ). get_or a x 0) place_is

  pub elsewhere : get_or a (fields * (i - 1) + j) 0 ≢ p → meets q s t a i p (j + 1) ≡ false
  elsewhere h =
      ap (λ (b : Bool). q (kind_at s (relation_at t i) (j + 1)) && b) (ne_eqb _ p (λ e. h (sym read ∙ e))) ∙ sym (and_none _)

  module _ (r k : ℕ) (er : r ≡ relation_at t i) (ek : k ≡ kind_at s r (j + 1)) where
    kind_is : k ≡ kind_at s (relation_at t i) (j + 1)
    kind_is = ek ∙ ap (λ (z : ℕ). kind_at s z (j + 1)) er

    pub hit : get_or a (fields * (i - 1) + j) 0 ≡ p → true ≡ q k → meets q s t a i p (j + 1) ≡ true
    hit h e = and_both _ _ (ap q (sym kind_is) ∙ sym e) (eq-eqb _ p (read ∙ h))

    pub unchosen : false ≡ q k → meets q s t a i p (j + 1) ≡ false
    unchosen e = ap (λ (b : Bool). b && eqb (get_or a (fields * (i - 1) + ((j + 1) - 1)) 0) p) (ap q (sym kind_is) ∙ sym e)
