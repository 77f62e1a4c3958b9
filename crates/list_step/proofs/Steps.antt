-- The answers of a step, check by check.
-- Assumes nothing.
use Prim.Native.Nat.{ℕ, ◌≤◌}
use mathlib.Core.Path.{◌≡◌, refl, sym, ◌∙◌, ap}
use mathlib.Core.Bool.{Bool, true, false, ◌||◌, ◌&&◌, not}
use mathlib.Core.Logic.{◌⊎◌, inl, inr}
use mathlib.Core.List.{List, [], ◌∷◌}
use lib.Dec.{eqb, ltb}
use borrow.Author.Tests.{eqb-true, ltb-false, ne_eqb, not-false}
use Rattle.crdt.proofs.Tests.{test, or_false, and_left, and_right}
use Rattle.std.specs.Prelude.{Option, Some, None, Result, Ok, Err}
use Rattle.answers.specs.declared.Refusal.{Refusal}
use Rattle.answers.specs.Told.{Told, told, told_ended}
use Rattle.answers.specs.Refused.{refusal_number, given_told}
use Rattle.answers.proofs.Told.{refused_above}
use Rattle.model.specs.Layout.{capacity_of, used_at}
use Rattle.model.specs.Lists.{check, lowest}
use Rattle.model.specs.Schemas.{broken}
use Rattle.model.specs.Records.{least_above, position}
use Rattle.model.specs.Tables.{decode}
use Rattle.model.specs.WellFormed.{well_formed}
use Rattle.list_step.specs.Given.{given, index_or}
use Rattle.model.specs.Calls.{schema_length, table_length, marks_length, marked, place_key, walk_number, walk_given, walk_ended, walk_place}

module _ (s t m : List ℕ) (p : ℕ) where
  abbrev pub wrong : Bool
  wrong = not (schema_length s && table_length t && marks_length t m) || ltb (used_at t) p || ltb (capacity_of t) p

  pub right : wrong ≡ false → (schema_length s ≡ true) × (table_length t ≡ true) × (p ≤ used_at t)
  right h =
      let a = (or_false (not (schema_length s && table_length t && marks_length t m) || ltb (used_at t) p) (ltb (capacity_of t) p) h).0 in
      let b = or_false (not (schema_length s && table_length t && marks_length t m)) (ltb (used_at t) p) a in
      let c = and_left (schema_length s && table_length t) (marks_length t m) (not-false _ b.0) in
      (and_left (schema_length s) (table_length t) c, and_right (schema_length s) (table_length t) c, ltb-false (used_at t) p b.1)

  abbrev answer : Told
  answer = told_ended (walk_number s t m p) (walk_given s t m p) (walk_ended s t m p)

  pub told_length : wrong ≡ true → told 1 0 ≡ answer
  unfolding walk_number walk_given walk_ended lowest
  told_length h = rw h

  -- after check 1 the number is that of checks 2 and 3
  judged_number : wrong ≡ false → (n : ℕ) → n ≡ lowest (check 2 (broken s) ∷ check 3 (not (well_formed s t)) ∷ []) → n ≡ walk_number s t m p
  unfolding walk_number lowest
  judged_number h n e = rw h e

  pub told_refused : wrong ≡ false → (e : Refusal) → refusal_number e ≡ lowest (check 2 (broken s) ∷ check 3 (not (well_formed s t)) ∷ []) → told (refusal_number e) 0 ≡ answer
  unfolding walk_given walk_ended
  told_refused h e f =
      let n = judged_number h (refusal_number e) f in
      let z : eqb (walk_number s t m p) 0 ≡ false = ne_eqb (walk_number s t m p) 0 (λ q. refused_above e (n ∙ q)) in
      rw (z, n) refl

  pub told_given : (i : Option ℕ) → wrong ≡ false → 0 ≡ lowest (check 2 (broken s) ∷ check 3 (not (well_formed s t)) ∷ [])
      → i ≡ given (position (least_above (place_key (decode t) p) (marked m (decode t).records)) (decode t).records) → given_told (Ok i) ≡ answer
  unfolding walk_given walk_ended
  told_given i h z e =
      let q = sym (judged_number h 0 z) in
      let n = position (least_above (place_key (decode t) p) (marked m (decode t).records)) (decode t).records in
      rw (e, q) (go n (test (eqb n 0)))
    where
      go : (n : ℕ) → (eqb n 0 ≡ true) ⊎ (eqb n 0 ≡ false) → given_told (Ok (given n)) ≡ told_ended 0 n (eqb n 0)
      go n (inl y) = let x = eqb-true n 0 y in rw (y, x)
      go n (inr y) = rw y

  -- the place afterwards
  pub place_after : (r : Result (Option ℕ) Refusal) → given_told r ≡ answer → index_or p r ≡ walk_place s t m p
  unfolding walk_place walk_ended
  place_after (Ok (Some v)) e =
      let n : walk_number s t m p ≡ 0 = sym (ap (λ (x : Told). x.number) e) in
      let g : walk_given s t m p ≡ v = sym (ap (λ (x : Told). x.value) e) in
      let f : eqb v 0 ≡ false = rw (n, g) at (sym (ap (λ (x : Told). x.ended) e)) in
      rw (g, f)
  place_after (Ok None) e = let g : walk_given s t m p ≡ 0 = sym (ap (λ (x : Told). x.value) e) in rw g
  place_after (Err _) e = let g : walk_given s t m p ≡ 0 = sym (ap (λ (x : Told). x.value) e) in rw g
