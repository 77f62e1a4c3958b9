-- An edit of the herd book by the kind of its record: of its kind it is the library's edit; of another kind it is refused with 1, 3 or 6 and changes
-- no word.
-- Assumes nothing.
use Prim.Native.Nat.{ℕ}
use mathlib.Core.Path.{◌≡◌, sym, ◌∙◌, ap}
use mathlib.Core.Logic.{◌≢◌}
use mathlib.Core.Bool.{Bool, true, false, ◌&&◌, ◌||◌, not}
use mathlib.Core.List.{List, [], ◌∷◌}
use native.Mathlib.Omega.{arith}
use borrow.Author.Tests.{eq-eqb, ne_eqb}
use Rattle.model.specs.Layout.{relation_at}
use Rattle.model.specs.Lists.{check, lowest}
use Rattle.model.specs.WellFormed.{well_formed}
use Rattle.model.specs.Edits.{Edit, delta_of, edited_by}
use Rattle.model.specs.Calls.{table_length, delta_length, edit_number, edit_table, edit_delta}
use Rattle.model.specs.Book.{book, of_kind}
use Rattle.model.proofs.Book.{book_good, book_long}

module _ (index : Bool) (own delta : List ℕ) (r i : ℕ) (e : Edit) where
  -- of the kind
  module _ (h : relation_at own i ≡ r) where
    pub kind_number : edit_number index book own delta e ≡ edit_number index book own delta (of_kind r own i e)
    unfolding edit_number of_kind lowest
    kind_number = rw (eq-eqb (relation_at own i) r h)

    pub kind_table : edit_table (edit_number index book own delta e) own e ≡ edit_table (edit_number index book own delta (of_kind r own i e)) own (of_kind r own i e)
    unfolding edit_table edited_by delta_of of_kind
    kind_table = ap (λ (n : ℕ). edit_table n own e) kind_number

    pub kind_delta : edit_delta (edit_number index book own delta e) own delta e ≡ edit_delta (edit_number index book own delta (of_kind r own i e)) own delta (of_kind r own i e)
    unfolding edit_delta delta_of of_kind
    kind_delta = ap (λ (n : ℕ). edit_delta n own delta e) kind_number

  -- of another kind
  module _ (h : relation_at own i ≢ r) where
    pub other_number : edit_number index book own delta (of_kind r own i e) ≡ lowest (check 1 (not (table_length own && delta_length delta) || index) ∷ check 3 (not (well_formed book own)) ∷ check 6 true ∷ [])
    unfolding edit_number of_kind lowest
    other_number = rw (book_long, book_good, ne_eqb (relation_at own i) r h)

    some_number : (a b : Bool) → lowest (check 1 a ∷ check 3 b ∷ check 6 true ∷ []) ≢ 0
    unfolding lowest
    some_number true b z = omega arith
    some_number false true z = omega arith
    some_number false false z = omega arith

    pub other_refused : edit_number index book own delta (of_kind r own i e) ≢ 0
    other_refused z = some_number _ _ (sym other_number ∙ z)

    pub other_table : edit_table (edit_number index book own delta (of_kind r own i e)) own (of_kind r own i e) ≡ own
    unfolding edit_table
    other_table = rw (ne_eqb (edit_number index book own delta (of_kind r own i e)) 0 other_refused)

    pub other_delta : edit_delta (edit_number index book own delta (of_kind r own i e)) own delta (of_kind r own i e) ≡ delta
    unfolding edit_delta
    other_delta = rw (ne_eqb (edit_number index book own delta (of_kind r own i e)) 0 other_refused)
