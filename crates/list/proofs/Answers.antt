-- The text for a schema and a table, from what the marks call answers.
-- Assumes nothing.
use Prim.Native.Nat.{ℕ, ◌+◌, ◌≤◌}
use mathlib.Core.Path.{◌≡◌, refl, sym, ap, ◌∙◌}
use mathlib.Core.Bool.{true, false, ◌&&◌, not}
use mathlib.Core.List.{List, [], ◌∷◌, map}
use native.Mathlib.Omega.{arith}
use lib.ListN.{length, replicate, length-replicate}
use borrow.Author.Tests.{eq-eqb, ne_eqb, not-false}
use Rattle.crdt.proofs.Tests.{and_left, and_right}
use Rattle.answers.specs.Told.{Told, told}
use Rattle.model.specs.Layout.{most_records, capacity_of, used_at}
use Rattle.model.specs.Lists.{check, all_of}
use Rattle.model.specs.Schemas.{broken}
use Rattle.model.specs.WellFormed.{well_formed}
use Rattle.model.specs.Calls.{schema_length, table_length, marks_length, marks_number, marks_count, marks_marks, Entry, entry_at, walked, table_walked, shown_list}
use Rattle.laws.proofs.Checks.{passed}
use Rattle.wellformed.proofs.Facts.{formed, table_sized}
use Rattle.list_text.specs.Text.{refused_text, shown_text}
use Rattle.list.specs.Program.{answer_text}
use Rattle.list_text.specs.Placed.{Placed}
use Rattle.list_text.proofs.Laying.{as_text}

-- What answer 0 of the marks says.
pub record Judged (s t : List ℕ) : Type 0 where
  pub width : schema_length s ≡ true
  pub long : table_length t ≡ true
  pub schema : broken s ≡ false
  pub good : well_formed s t ≡ true

module _ (s t m : List ℕ) where
  pub judged : marks_number s t m ≡ 0 → Judged s t
  unfolding marks_number all_of
  judged h =
      let g = passed (check 1 (not (schema_length s && table_length t && marks_length t m)) ∷ check 2 (broken s) ∷ check 3 (not (well_formed s t)) ∷ []) refl h in
      let a = and_left (schema_length s && table_length t) (marks_length t m) (not-false _ g.0) in
      record {
        width = and_left (schema_length s) (table_length t) a;
        long = and_right (schema_length s) (table_length t) a;
        schema = g.1.0;
        good = not-false _ g.1.1.0;
      }

  abbrev zeros : List ℕ
  zeros = replicate (capacity_of t) 0

  module _ (e : marks_length t m ≡ true) where
    zeros_length : marks_length t zeros ≡ true
    unfolding marks_length
    zeros_length = eq-eqb (length zeros) (capacity_of t) (length-replicate (capacity_of t) 0)

    number_same : marks_number s t m ≡ marks_number s t zeros
    unfolding marks_number
    number_same = rw (e, zeros_length)

    count_same : marks_count s t m ≡ marks_count s t zeros
    unfolding marks_count
    count_same = rw number_same

    marks_same : marks_number s t m ≡ 0 → marks_marks s t m ≡ marks_marks s t zeros
    unfolding marks_marks
    marks_same h = rw (sym number_same, h)

    refused_is : (n : ℕ) → n ≡ marks_number s t m → (n ≡ 0 → ⊥) → refused_text n ≡ answer_text s t
    unfolding answer_text
    refused_is n f g =
        let k : n ≡ marks_number s t zeros = f ∙ number_same in
        rw (sym k, ne_eqb n 0 g)

    list_same : (m' : List ℕ) → m' ≡ marks_marks s t zeros → map (entry_at s t) (walked (used_at t + 1) s t m' 0).given ≡ shown_list s t
    unfolding shown_list table_walked
    list_same m' f = ap (λ (l : List ℕ). map (entry_at s t) (walked (used_at t + 1) s t l 0).given) f

    shown_is : (k : ℕ) (l : List Entry) → marks_number s t m ≡ 0 → k ≡ marks_count s t zeros → l ≡ shown_list s t → shown_text s k l ≡ answer_text s t
    unfolding answer_text
    shown_is k l h f g =
        let z : marks_number s t zeros ≡ 0 = sym number_same ∙ h in
        rw (z, f, g)

    module _ (a : Told) (n : ℕ) (b : a ≡ told (marks_number s t m) (marks_count s t m)) (c : n ≡ a.number) where
      number_is : n ≡ marks_number s t m
      number_is = c ∙ ap (λ (x : Told). x.number) b

      pub answer_refused : {o o' : List ℕ} {r : ℕ} → (n ≡ 0 → ⊥) → Placed o 0 (refused_text n) r o' → Placed o 0 (answer_text s t) r o'
      answer_refused g p = as_text (refused_is n number_is g) p

      pub answer_judged : n ≡ 0 → Judged s t
      answer_judged h = judged (sym number_is ∙ h)

      pub answer_used : n ≡ 0 → used_at t ≤ most_records
      answer_used h = let j = answer_judged h in omega (arith, (formed s t j.good).used, (table_sized t j.long).capacity)

      pub answer_shown : {o o' : List ℕ} {r : ℕ} (k : ℕ) (m' : List ℕ) → n ≡ 0 → k ≡ a.value → m' ≡ marks_marks s t m
          → Placed o 0 (shown_text s k (map (entry_at s t) (walked (used_at t + 1) s t m' 0).given)) r o' → Placed o 0 (answer_text s t) r o'
      answer_shown k m' h f g p =
          let z : marks_number s t m ≡ 0 = sym number_is ∙ h in
          let w : k ≡ marks_count s t zeros = f ∙ ap (λ (x : Told). x.value) b ∙ count_same in
          as_text (shown_is k _ z w (list_same m' (g ∙ marks_same z))) p
