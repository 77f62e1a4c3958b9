-- What a lookup answers, check by check.
-- Assumes nothing.
use Prim.Native.Nat.{ℕ}
use mathlib.Core.Path.{◌≡◌, refl, ◌∙◌}
use mathlib.Core.Bool.{Bool, true, false, ◌&&◌}
use mathlib.Core.List.{List}
use lib.Dec.{eqb, leb}
use Rattle.crdt.proofs.Tests.{and_left, and_right}
use Rattle.answers.specs.Told.{told, told_known}
use Rattle.model.specs.Layout.{fields, relations}
use Rattle.model.specs.Lists.{lowest}
use Rattle.model.specs.Schemas.{broken}
use Rattle.model.specs.WellFormed.{header_rules, firsts_rule, empty_above}
use Rattle.model.specs.Calls.{schema_length, table_length}
use Rattle.model.specs.Lookup.{Seek, damaged, known, unknown, lookup_seek, is_relation, lookup_number, lookup_known, lookup_index}
use Rattle.table_rules.proofs.Rules.{Ready, ready}
use Rattle.shape_laws.proofs.Same.{schema_length_same, table_length_same, broken_same, header_same}
use Rattle.lookup.specs.Sought.{sought_told}

-- the tests, as the call makes them
pub lengths_are : (s t : List ℕ) (x y : Bool) → x ≡ schema_length s → y ≡ table_length t → (x && y) ≡ (schema_length s && table_length t)
lengths_are s t x y e f = rw (e, f)

pub heads_are : (s t : List ℕ) (x y z : Bool) → x ≡ header_rules t → y ≡ firsts_rule t → z ≡ empty_above s t → (x && y && z) ≡ (header_rules t && firsts_rule t && empty_above s t)
heads_are s t x y z e f g = rw (e, f, g)

pub relation_is : (s : List ℕ) (r n : ℕ) → n ≡ relations s → (leb 1 r && leb r n) ≡ is_relation s r
relation_is s r n e = rw e

module _ (s t : List ℕ) (r l : ℕ) where
  -- a refusal tells the number, 0 and no
  refused : (n : ℕ) → n ≡ lookup_number s t r l → eqb n 0 ≡ false → told n 0 ≡ told_known (lookup_number s t r l) (lookup_index s t r l) (lookup_known s t r l)
  unfolding lookup_index lookup_known
  refused n e h = rw (← e, h)

  pub told_1 : (schema_length s && table_length t) ≡ false → told 1 0 ≡ told_known (lookup_number s t r l) (lookup_index s t r l) (lookup_known s t r l)
  told_1 e = refused 1 (unfold lookup_number lowest in rw e) refl

  module _ (e : (schema_length s && table_length t) ≡ true) where
    pub told_2 : broken s ≡ true → told 2 0 ≡ told_known (lookup_number s t r l) (lookup_index s t r l) (lookup_known s t r l)
    told_2 b = refused 2 (unfold lookup_number lowest in rw (e, b)) refl

    module _ (b : broken s ≡ false) where
      pub told_3 : (header_rules t && firsts_rule t && empty_above s t) ≡ false → told 3 0 ≡ told_known (lookup_number s t r l) (lookup_index s t r l) (lookup_known s t r l)
      told_3 h = refused 3 (unfold lookup_number lowest in rw (e, b, h)) refl

      module _ (h : (header_rules t && firsts_rule t && empty_above s t) ≡ true) where
        pub told_5 : is_relation s r ≡ false → told 5 0 ≡ told_known (lookup_number s t r l) (lookup_index s t r l) (lookup_known s t r l)
        told_5 n = refused 5 (unfold lookup_number lowest in rw (e, b, h, n)) refl

        -- what a walk along the chain needs
        pub may_seek : Ready fields s t
        may_seek =
            let k = and_left (header_rules t) (firsts_rule t) (and_left (header_rules t && firsts_rule t) (empty_above s t) h) in
            ready fields s t (schema_length_same s ∙ and_left (schema_length s) (table_length t) e) (table_length_same t ∙ and_right (schema_length s) (table_length t) e)
            (broken_same s ∙ b) (header_same t ∙ k)

        pub told_sought : is_relation s r ≡ true → sought_told (lookup_seek s t r l) ≡ told_known (lookup_number s t r l) (lookup_index s t r l) (lookup_known s t r l)
        told_sought = go (lookup_seek s t r l) refl
          where
            go : (x : Seek) → lookup_seek s t r l ≡ x → is_relation s r ≡ true → sought_told x ≡ told_known (lookup_number s t r l) (lookup_index s t r l) (lookup_known s t r l)
            go damaged q n = refused 3 (unfold lookup_number lowest in rw (e, b, h, n, q)) refl
            go (known i) q n = unfold lookup_number lookup_index lookup_known lowest in rw (e, b, h, n, q)
            go unknown q n = unfold lookup_number lookup_index lookup_known lowest in rw (e, b, h, n, q)
