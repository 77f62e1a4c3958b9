-- The number of a deletion of a judged table.
-- Assumes nothing.
use Prim.Native.Nat.{ℕ}
use mathlib.Core.Path.{◌≡◌, refl, sym, ◌∙◌, ap}
use mathlib.Core.Bool.{Bool, true, false, cond, ◌&&◌, not}
use mathlib.Core.List.{List}
use lib.Dec.{eqb}
use borrow.Author.Tests.{eq-eqb, ne_eqb}
use Rattle.model.specs.Layout.{used_at}
use Rattle.model.specs.Lists.{some_of, lowest}
use Rattle.model.specs.Schemas.{is_abort, schema_of}
use Rattle.model.specs.Records.{Rec, has}
use Rattle.model.specs.Tables.{decode, record_of}
use Rattle.model.specs.Shown.{references, standing, shown}
use Rattle.model.specs.Edits.{record_at, spent, deletion_redoes, deletion}
use Rattle.model.specs.Calls.{deletion_of}
use Rattle.laws.proofs.Drafts.{shown_in}
use Rattle.wellformed.proofs.Ranges.{listed_at}
use Rattle.references.specs.Order.{key_at}
use Rattle.references.specs.Resolved.{Marked}
use Rattle.marks.specs.Marks.{is_marked}
use Rattle.edit_basics.specs.Targets.{held, Placed}
use Rattle.edit_basics.proofs.Marks.{mark_has}
use Rattle.edit_laws.proofs.Picks.{keys_apart}

-- the record of a position
pub record_here : (s t : List ℕ) (i : ℕ) → Placed s t i → record_at (decode t) i ≡ record_of t i
unfolding record_at decode
record_here s t i o = listed_at (used_at t) (record_of t) i _ o.least o.most

pub shown_mark : (s t m : List ℕ) (i : ℕ) → Placed s t i → Marked t (shown (schema_of s) (held t)) m → is_marked m i ≡ has (shown (schema_of s) (held t)) (key_at t i)
shown_mark s t m i o mk = mark_has s t o.checked _ (shown_in (schema_of s) (held t)) m mk i o.least o.most

-- another record that references record i by abort
abbrev pub aborting : List ℕ → List ℕ → ℕ → Rec → Bool
aborting s t i y = not (eqb y.key (key_at t i)) && references (schema_of s) is_abort (key_at t i) y

module _ (s t st : List ℕ) (i y : ℕ) (oi : Placed s t i) (oy : Placed s t y) where
  pub aborting_hidden : (x : Bool) → x ≡ is_marked st y → x ≡ false → false ≡ (is_marked st y && aborting s t i (record_of t y))
  aborting_hidden x e h = let k : is_marked st y ≡ false = sym e ∙ h in rw k

  and_false : (a b : Bool) → b ≡ false → false ≡ (a && b)
  and_false true b h = sym h
  and_false false b h = refl

  pub aborting_self : y ≡ i → false ≡ (is_marked st y && aborting s t i (record_of t y))
  aborting_self e =
      let k : aborting s t i (record_of t y) ≡ false = rw (eq-eqb (key_at t y) (key_at t i) (ap (key_at t) e)) in
      and_false (is_marked st y) (aborting s t i (record_of t y)) k

  pub aborting_here : (x a : Bool) → x ≡ is_marked st y → x ≡ true → (y ≡ i → ⊥) → a ≡ references (schema_of s) is_abort (key_at t i) (record_of t y)
      → a ≡ (is_marked st y && aborting s t i (record_of t y))
  aborting_here x a e h n g =
      let k : is_marked st y ≡ true = sym e ∙ h in
      let d : eqb (key_at t y) (key_at t i) ≡ false = keys_apart s t y i oy oi ∙ ne_eqb y i n in
      rw (k, d) g

module _ (s t : List ℕ) (i : ℕ) (o : Placed s t i) where
  abbrev number : ℕ
  number = lowest (deletion_of s t i).checks

  abbrev A : Bool
  A = has (shown (schema_of s) (held t)) (key_at t i)

  abbrev B : Bool
  B = some_of (aborting s t i) (standing (schema_of s) (held t))

  abbrev D : Bool
  D = spent (held t) (deletion_redoes (schema_of s) (held t) (record_of t i))

  number_is : number ≡ cond (not A) 6 (cond B 10 (cond D 13 0))
  unfolding deletion_of deletion lowest
  number_is = rw (record_here s t i o)

  module _ (m : List ℕ) (mk : Marked t (shown (schema_of s) (held t)) m) (a : Bool) (ea : a ≡ is_marked m i) where
    A-is : a ≡ A
    A-is = ea ∙ shown_mark s t m i o mk

    pub deletion_hidden : a ≡ false → 6 ≡ number
    deletion_hidden h = let k : A ≡ false = sym A-is ∙ h in sym (number_is ∙ rw k)

    module _ (h : a ≡ true) (b : Bool) (eb : b ≡ B) where
      pub deletion_referenced : b ≡ true → 10 ≡ number
      deletion_referenced g =
          let k : A ≡ true = sym A-is ∙ h in
          let l : B ≡ true = sym eb ∙ g in
          sym (number_is ∙ rw (k, l))

      module _ (g : b ≡ false) (d : Bool) (ed : d ≡ D) where
        pub deletion_spent : d ≡ true → 13 ≡ number
        deletion_spent f =
            let k : A ≡ true = sym A-is ∙ h in
            let l : B ≡ false = sym eb ∙ g in
            let n : D ≡ true = sym ed ∙ f in
            sym (number_is ∙ rw (k, l, n))

        pub deletion_done : d ≡ false → 0 ≡ number
        deletion_done f =
            let k : A ≡ true = sym A-is ∙ h in
            let l : B ≡ false = sym eb ∙ g in
            let n : D ≡ false = sym ed ∙ f in
            sym (number_is ∙ rw (k, l, n))
