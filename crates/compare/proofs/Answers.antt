-- What a comparison answers, check by check.
-- Assumes nothing.
use Prim.Native.Nat.{ℕ}
use mathlib.Core.Path.{◌≡◌, refl}
use mathlib.Core.Bool.{true, false, ◌&&◌}
use mathlib.Core.List.{List}
use lib.Dec.{eqb}
use Rattle.model.specs.Lists.{lowest}
use Rattle.model.specs.Schemas.{broken}
use Rattle.model.specs.Tables.{contents}
use Rattle.model.specs.WellFormed.{well_formed}
use Rattle.model.specs.Calls.{schema_length, table_length}
use Rattle.model.specs.Compare.{compared, compare_number, compare_verdict}
use Rattle.answers.specs.Told.{told}

module _ (s a b : List ℕ) where
  -- a refusal tells the number and 0
  refused : (n : ℕ) → n ≡ compare_number s a b → eqb n 0 ≡ false → told n 0 ≡ told (compare_number s a b) (compare_verdict s a b)
  unfolding compare_verdict
  refused n e h = rw (← e, h)

  pub told_1 : (schema_length s && table_length a && table_length b) ≡ false → told 1 0 ≡ told (compare_number s a b) (compare_verdict s a b)
  told_1 l = refused 1 (unfold compare_number lowest in rw l) refl

  module _ (l : (schema_length s && table_length a && table_length b) ≡ true) where
    pub told_2 : broken s ≡ true → told 2 0 ≡ told (compare_number s a b) (compare_verdict s a b)
    told_2 nb = refused 2 (unfold compare_number lowest in rw (l, nb)) refl

    module _ (nb : broken s ≡ false) where
      pub told_3 : well_formed s a ≡ false → told 3 0 ≡ told (compare_number s a b) (compare_verdict s a b)
      told_3 wa = refused 3 (unfold compare_number lowest in rw (l, nb, wa)) refl

      pub told_4 : well_formed s a ≡ true → well_formed s b ≡ false → told 4 0 ≡ told (compare_number s a b) (compare_verdict s a b)
      told_4 wa wb = refused 4 (unfold compare_number lowest in rw (l, nb, wa, wb)) refl

      pub told_0 : well_formed s a ≡ true → well_formed s b ≡ true → told 0 (compared (contents a) (contents b)) ≡ told (compare_number s a b) (compare_verdict s a b)
      unfolding compare_verdict
      told_0 wa wb = let e : compare_number s a b ≡ 0 = unfold compare_number lowest in rw (l, nb, wa, wb) in rw e
