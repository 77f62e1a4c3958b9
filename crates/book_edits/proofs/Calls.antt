-- The herd book's edits as the code reads them. Of its kind a record is edited by the library; of another kind the first checks tell, then 6.
-- Assumes nothing.
use Prim.Native.Nat.{ℕ}
use mathlib.Core.Path.{◌≡◌, refl, sym, ◌∙◌, ap}
use mathlib.Core.Logic.{◌≢◌}
use mathlib.Core.Bool.{Bool, true, false, cond}
use mathlib.Core.List.{List}
use lib.Dec.{eqb}
use borrow.Author.Tests.{eqb-true, eqb-false, ne_eqb}
use Rattle.answers.specs.Told.{Told, told}
use Rattle.model.specs.Layout.{relation_at}
use Rattle.model.specs.Lists.{lowest}
use Rattle.model.specs.Edits.{Edit}
use Rattle.model.specs.Calls.{bad_index, edit_number, edit_table, edit_delta, update_of, update_number, update_table, update_delta, deletion_of, deletion_number, deletion_table, deletion_delta}
use Rattle.model.specs.Book.{book, of_kind, change_of, change_number, change_table, change_delta, strike_of, strike_number, strike_table, strike_delta}
use Rattle.laws.proofs.OfKind.{kind_number, kind_table, kind_delta, other_table, other_delta}
use Rattle.edit_laws.specs.First.{first_number}
use Rattle.edit_laws.proofs.First.{number_first, number_own}

-- an edit e of a record that is of another kind; the first checks tell n
module _ (index : Bool) (own delta : List ℕ) (r i : ℕ) (e : Edit) (h : relation_at own i ≢ r) where
  other_checks : lowest (of_kind r own i e).checks ≡ 6
  unfolding of_kind lowest
  other_checks = rw (ne_eqb (relation_at own i) r h)

  abbrev first : ℕ
  first = first_number index book own delta

  other_number : (n : ℕ) → n ≡ cond (eqb (first_number index book own delta) 0) 6 (first_number index book own delta) → n ≡ edit_number index book own delta (of_kind r own i e)
  other_number n q = go (eqb first 0) refl
    where
      go : (b : Bool) → eqb first 0 ≡ b → n ≡ edit_number index book own delta (of_kind r own i e)
      go true z = let w : 0 ≡ first = sym (eqb-true first 0 z) in rw z at q ∙ sym other_checks ∙ number_own index book own delta (of_kind r own i e) w
      go false z = let w : n ≡ first = rw z at q in number_first index book own delta (of_kind r own i e) n w (λ v. eqb-false first 0 z (sym w ∙ v))

  -- a refusal changes no word
  pub other_kept : (n : ℕ) → n ≡ cond (eqb (first_number index book own delta) 0) 6 (first_number index book own delta)
      → (n ≡ edit_number index book own delta (of_kind r own i e))
      × ((own ≡ edit_table (edit_number index book own delta (of_kind r own i e)) own (of_kind r own i e)) × (delta ≡ edit_delta (edit_number index book own delta (of_kind r own i e)) own delta (of_kind r own i e)))
  other_kept n q = (other_number n q, (sym (other_table index own delta r i e h), sym (other_delta index own delta r i e h)))

-- As the code reads them: s is the schema lent to the library, k what is told, x and y the words afterwards.
module _ (own delta : List ℕ) (s : List ℕ) (e : s ≡ book) (k : Told) (x y : List ℕ) where
  module _ (r i : ℕ) (own_kind : relation_at own i ≡ r) where
    pub changed : (f new : ℕ) → k ≡ told (update_number s own delta i f new) 0 → x ≡ update_table s own delta i f new → y ≡ update_delta s own delta i f new
        → (k ≡ told (change_number r own delta i f new) 0) × ((x ≡ change_table r own delta i f new) × (y ≡ change_delta r own delta i f new))
    unfolding update_number update_table update_delta change_of change_number change_table change_delta
    changed f new a b c =
        let u = update_of book own i f new in (
          a ∙ ap (λ (z : List ℕ). told (update_number z own delta i f new) 0) e ∙ ap (λ (n : ℕ). told n 0) (kind_number (bad_index own i) own delta r i u own_kind),
          (
            b ∙ ap (λ (z : List ℕ). update_table z own delta i f new) e ∙ kind_table (bad_index own i) own delta r i u own_kind,
            c ∙ ap (λ (z : List ℕ). update_delta z own delta i f new) e ∙ kind_delta (bad_index own i) own delta r i u own_kind,
          ),
        )

    pub struck : k ≡ told (deletion_number s own delta i) 0 → x ≡ deletion_table s own delta i → y ≡ deletion_delta s own delta i
        → (k ≡ told (strike_number r own delta i) 0) × ((x ≡ strike_table r own delta i) × (y ≡ strike_delta r own delta i))
    unfolding deletion_number deletion_table deletion_delta strike_of strike_number strike_table strike_delta
    struck a b c =
        let u = deletion_of book own i in (
          a ∙ ap (λ (z : List ℕ). told (deletion_number z own delta i) 0) e ∙ ap (λ (n : ℕ). told n 0) (kind_number (bad_index own i) own delta r i u own_kind),
          (
            b ∙ ap (λ (z : List ℕ). deletion_table z own delta i) e ∙ kind_table (bad_index own i) own delta r i u own_kind,
            c ∙ ap (λ (z : List ℕ). deletion_delta z own delta i) e ∙ kind_delta (bad_index own i) own delta r i u own_kind,
          ),
        )

-- of another kind, where n is what is answered
module _ (own delta : List ℕ) (r i : ℕ) (other : relation_at own i ≢ r) (n : ℕ)
    (q : n ≡ cond (eqb (first_number (bad_index own i) book own delta) 0) 6 (first_number (bad_index own i) book own delta)) where
  pub unchanged : (f new : ℕ) → (n ≡ change_number r own delta i f new) × ((own ≡ change_table r own delta i f new) × (delta ≡ change_delta r own delta i f new))
  unfolding change_of change_number change_table change_delta
  unchanged f new = other_kept (bad_index own i) own delta r i (update_of book own i f new) other n q

  pub unstruck : (n ≡ strike_number r own delta i) × ((own ≡ strike_table r own delta i) × (delta ≡ strike_delta r own delta i))
  unfolding strike_of strike_number strike_table strike_delta
  unstruck = other_kept (bad_index own i) own delta r i (deletion_of book own i) other n q
