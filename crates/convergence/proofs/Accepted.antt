-- What an accepted table check says, and that the marks and the walk then answer 0.
-- Assumes nothing.
use Prim.Native.Nat.{ℕ, ◌≤◌}
use mathlib.Core.Path.{◌≡◌, refl}
use mathlib.Core.Bool.{true, false, ◌&&◌, not}
use mathlib.Core.List.{List, [], ◌∷◌}
use native.Mathlib.Omega.{arith}
use lib.ListN.{length}
use borrow.Author.Tests.{eq-eqb, le-ltb, not-false}
use Rattle.crdt.proofs.Tests.{and_left, and_right}
use Rattle.model.specs.Layout.{capacity_of, used_at}
use Rattle.model.specs.Lists.{check, lowest, all_of}
use Rattle.model.specs.Schemas.{broken}
use Rattle.model.specs.WellFormed.{well_formed}
use Rattle.model.specs.Calls.{schema_length, table_length, marks_length, table_number, marks_number, walk_number}
use Rattle.laws.proofs.Checks.{passed}
use Rattle.wellformed.proofs.Facts.{formed}

pub record Accepted (s t : List ℕ) : Type 0 where
  pub schema : schema_length s ≡ true
  pub table : table_length t ≡ true
  pub sound : broken s ≡ false
  pub formed : well_formed s t ≡ true

pub accepted : (s t : List ℕ) → table_number s t ≡ 0 → Accepted s t
unfolding table_number all_of
accepted s t h =
    let p = passed (check 1 (not (schema_length s && table_length t)) ∷ check 2 (broken s) ∷ check 3 (not (well_formed s t)) ∷ []) refl h in
    let l = not-false _ p.0 in
    record {
      schema = and_left (schema_length s) (table_length t) l;
      table = and_right (schema_length s) (table_length t) l;
      sound = p.1.0;
      formed = not-false _ p.1.1.0;
    }

module _ (s t m : List ℕ) (h : table_number s t ≡ 0) (l : length m ≡ capacity_of t) where
  marks_length_lem : marks_length t m ≡ true
  unfolding marks_length
  marks_length_lem = eq-eqb (length m) (capacity_of t) l

  pub marks_zero : marks_number s t m ≡ 0
  unfolding marks_number lowest
  marks_zero = let a = accepted s t h in rw (a.schema, a.table, marks_length_lem, a.sound, a.formed)

  pub walk_zero : (p : ℕ) → p ≤ used_at t → walk_number s t m p ≡ 0
  unfolding walk_number lowest
  walk_zero p b =
      let a = accepted s t h in
      let f = formed s t a.formed in
      let c : p ≤ capacity_of t = omega (arith, f.used) in
      rw (a.schema, a.table, marks_length_lem, le-ltb (used_at t) p b, le-ltb (capacity_of t) p c, a.sound, a.formed)
