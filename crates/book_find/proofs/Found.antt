-- The milking with a label: the chain of the milkings has it or not, and its mark decides.
-- Assumes nothing.
use Prim.Native.Nat.{ℕ, ◌≤◌}
use mathlib.Core.Path.{◌≡◌, refl, sym, ◌∙◌, ap}
use mathlib.Core.Logic.{◌⊎◌, inl, inr, ◌≢◌}
use mathlib.Core.Bool.{Bool, true, false, cond, not}
use mathlib.Core.List.{List, [], ◌∷◌}
use native.Mathlib.Omega.{arith}
use lib.Dec.{eqb}
use borrow.Author.Tests.{ne_eqb}
use Rattle.crdt.specs.Labels.{is_label}
use Rattle.crdt.proofs.Tests.{test}
use Rattle.answers.specs.Told.{Told, told, told_known}
use Rattle.model.specs.Layout.{used_at}
use Rattle.model.specs.Lists.{check, lowest}
use Rattle.model.specs.Schemas.{broken, schema_of}
use Rattle.model.specs.Records.{Rec, place, has, in_order, position}
use Rattle.model.specs.Tables.{record_of}
use Rattle.model.specs.WellFormed.{well_formed}
use Rattle.model.specs.Shown.{shown}
use Rattle.model.specs.Calls.{schema_length, table_length}
use Rattle.model.specs.Book.{milkings, book, find_number, is_shown, find_index}
use Rattle.model.proofs.Book.{book_good, book_long}
use Rattle.wellformed.proofs.Follow.{position_none, position_some}
use Rattle.judged.specs.Checked.{Checked}
use Rattle.merge_laws.specs.Absorb.{nth, records_in, Whole}
use Rattle.merge_laws.proofs.Wholes.{formed_whole}
use Rattle.merge_laws.proofs.Walk.{used_is, record_is}

-- what the call tells
abbrev pub answer : List ℕ → ℕ → Told
answer t l = told_known (find_number t) (find_index t l) (not (eqb (find_index t l) 0))

pub find_length : (t : List ℕ) (l : ℕ) → table_length t ≡ false → told 1 0 ≡ answer t l
unfolding find_number find_index lowest
find_length t l e = rw e

pub lent_lengths : (s t : List ℕ) → s ≡ book → table_length t ≡ true → (schema_length s ≡ true) × (table_length t ≡ true)
lent_lengths s t e l = (ap schema_length e ∙ book_long, l)

-- the schema lent is the herd book's
module _ (s t : List ℕ) (e : s ≡ book) (long : table_length t ≡ true) where
  pub find_refused : (l n : ℕ) → n ≢ 0 → n ≡ lowest (check 2 (broken s) ∷ check 3 (not (well_formed s t)) ∷ []) → told n 0 ≡ answer t l
  unfolding lowest
  find_refused l n z q = go (test (well_formed book t)) (rw (e, book_good) at q)
    where
      go : (well_formed book t ≡ true) ⊎ (well_formed book t ≡ false) → n ≡ cond (not (well_formed book t)) 3 0 → told n 0 ≡ answer t l
      go (inl w) k = absurd (z (rw w at k))
      go (inr w) k = let m : n ≡ 3 = rw w at k in rw m (unfold find_number find_index in rw (long, w) refl)

-- the table is judged; u is the table that the judged value holds
module _ (s u t : List ℕ) (c : Checked s u) (e : s ≡ book) (d : u ≡ t) (l : ℕ) where
  long : table_length t ≡ true
  long = sym (ap table_length d) ∙ c.long

  formed : well_formed book t ≡ true
  formed = rw (e, d) at c.formed

  number_is : find_number t ≡ 0
  unfolding find_number lowest
  number_is = rw (long, formed) refl

  index_is : (r : ℕ) → r ≡ cond (is_shown t milkings l) (position (place milkings l) (records_in t)) 0 → find_index t l ≡ r
  unfolding find_index
  index_is r h = rw number_is (sym h)

  none : 0 ≡ cond (is_shown t milkings l) (position (place milkings l) (records_in t)) 0 → told 0 0 ≡ answer t l
  none h = rw (number_is, index_is 0 h) refl

  pub find_no_label : is_label l ≡ false → told 0 0 ≡ answer t l
  unfolding is_shown
  find_no_label z = none (rw z refl)

  pub find_unknown : 0 ≡ position (place milkings l) (records_in u) → told 0 0 ≡ answer t l
  find_unknown z = none (go (is_shown t milkings l))
    where
      go : (b : Bool) → 0 ≡ cond b (position (place milkings l) (records_in t)) 0
      go true = rw d at z
      go false = refl

  module _ (i : ℕ) (least : 1 ≤ i) (p : i ≡ position (place milkings l) (records_in u)) where
    whole : Whole t
    whole = formed_whole book t book_good long formed

    place_of : i ≡ position (place milkings l) (records_in t)
    place_of = rw d at p

    here : has (records_in t) (place milkings l) ≡ true
    here = go (test (has (records_in t) (place milkings l)))
      where
        go : (has (records_in t) (place milkings l) ≡ true) ⊎ (has (records_in t) (place milkings l) ≡ false) → has (records_in t) (place milkings l) ≡ true
        go (inl y) = y
        go (inr n) = absurd (omega (arith, least, place_of, position_none _ _ n))

    pub find_placed : (1 ≤ i) × (i ≤ used_at u)
    find_placed =
        let q = position_some _ _ here in
        let k : i ≤ used_at t = omega (arith, place_of, q.within, used_is t whole) in
        (least, rw (← d) at k)

    keyed : (record_of t i).key ≡ place milkings l
    keyed =
        let q = position_some _ _ here in
        ap (λ (x : Rec). x.key) (record_is t whole i (omega (arith, place_of, q.from_one)) (omega (arith, place_of, q.within))) ∙ ap (λ (j : ℕ). (nth (records_in t) j).key) place_of ∙ q.keyed

    -- whether it is shown, as the mark says
    module _ (lab : is_label l ≡ true) (b : Bool) (h : b ≡ has (shown (schema_of s) (in_order (records_in u))) (record_of u i).key) where
      shown_is : is_shown t milkings l ≡ b
      unfolding is_shown
      shown_is =
          let k : b ≡ has (shown (schema_of book) (in_order (records_in t))) (record_of t i).key = rw (e, d) at h in
          rw (lab, ← keyed) (sym k)

      pub find_hidden : b ≡ false → told 0 0 ≡ answer t l
      find_hidden z = none (rw (shown_is, z) refl)

      pub find_known : b ≡ true → told_known 0 i true ≡ answer t l
      find_known z = rw (number_is, index_is i (rw (shown_is, z) place_of), ne_eqb i 0 (λ n. omega (arith, least, n))) refl

-- a mark that says whether
pub mark_is : (m : ℕ) (b : Bool) → m ≡ cond b 1 0 → eqb m 1 ≡ b
mark_is m true e = rw e refl
mark_is m false e = rw e refl
