-- The words of a table in list order to which a record of the largest key is added.
-- Assumes nothing.
use Prim.Native.Nat.{ℕ, suc, ◌+◌, ◌-◌, ◌/◌, ◌≤◌, ◌<◌}
use mathlib.Core.Path.{◌≡◌, sym, ◌∙◌}
use mathlib.Core.Bool.{true, false, ◌&&◌}
use mathlib.Core.List.{List, [], ◌∷◌, ◌++◌}
use mathlib.Core.Logic.{◌⊎◌, inl, inr, ◌≢◌}
use native.Mathlib.Omega.{arith}
use lib.Dec.{eqb, ltb}
use lib.ListN.{length, get_or}
use borrow.Author.Tests.{eqb-true, eqb-false, ltb-true, ltb-false}
use Rattle.crdt.specs.Flags.{largest_flag}
use Rattle.crdt.proofs.Tests.{test, clash}
use Rattle.model.specs.Layout.{fields, most_relations, first_words, base, relation_at}
use Rattle.model.specs.Records.{Rec, place, relation, label_span, has, Rising}
use Rattle.model.specs.Tables.{Table, encode}
use Rattle.model.specs.Edits.{flag_only}
use Rattle.wellformed.proofs.Follow.{has_none, has_cases, has_record}
use Rattle.wellformed.proofs.Words.{enc_used, enc_relation}
use Rattle.edit_record.specs.Record.{link_of, appended}
use Rattle.merge_laws.specs.Absorb.{no_rec, nth, with_records, SoundTable}
use Rattle.merge_laws.proofs.Frames.{fits}
use Rattle.edit_delta.proofs.Behind.{added_first, added_behind}

-- the last key is the largest
last_most : (c : ℕ) (x : Rec) (xs : List Rec) (j : ℕ) → Rising c (x ∷ xs) → has (x ∷ xs) j ≡ true → j ≤ (get_or (x ∷ xs) (length xs) no_rec).key
last_most c x [] j r h = go (has_cases x [] j h)
  where
    go : (j ≡ x.key) ⊎ (has [] j ≡ true) → j ≤ x.key
    go (inl e) = omega arith
    go (inr e) = clash e (has_none j)
last_most c x (y ∷ ys) j r h = go (has_cases x (y ∷ ys) j h) (λ g. last_most (suc x.key) y ys j r.1 g) (last_most (suc x.key) y ys y.key r.1 (Rattle.wellformed.proofs.Follow.has_here y ys))
  where
    go : (j ≡ x.key) ⊎ (has (y ∷ ys) j ≡ true) → (has (y ∷ ys) j ≡ true → j ≤ (get_or (y ∷ ys) (length ys) no_rec).key) → y.key ≤ (get_or (y ∷ ys) (length ys) no_rec).key → j ≤ (get_or (y ∷ ys) (length ys) no_rec).key
    go (inl e) ih l = omega (arith, r.1.0)
    go (inr e) ih l = ih e

pub last_largest : (s : List Rec) (j : ℕ) → Rising 0 s → has s j ≡ true → j ≤ (nth s (length s)).key
last_largest [] j r h = clash h (has_none j)
last_largest (x ∷ xs) j r h = let e : length xs ≡ suc (length xs) - 1 = omega arith in rw e at (last_most 0 x xs j r h)

module _ (v : Table) (w : SoundTable v) (up : Rising 0 v.records) (r l g : ℕ) (a₁ : 1 ≤ r) (a₂ : r ≤ most_relations) (a₃ : 1 ≤ l) (a₄ : l < label_span) (a₅ : g ≤ largest_flag)
    (top : (j : ℕ) → has v.records j ≡ true → j < place r l) (room : length v.records < v.capacity) where
  link_first : (ltb 0 (length v.records) && eqb (relation_at (encode v) (length v.records)) r) ≡ false → link_of (encode v) r ≡ first_words + (r - 1)
  unfolding link_of
  link_first e = rw (enc_used v, e)

  link_behind : (ltb 0 (length v.records) && eqb (relation_at (encode v) (length v.records)) r) ≡ true → link_of (encode v) r ≡ base (length v.records)
  unfolding link_of
  link_behind e = rw (enc_used v, e)

  pub append_words : appended (encode v) r l g ≡ encode (with_records v (v.records ++ (flag_only fields (place r l) g ∷ [])))
  append_words = go (test (ltb 0 (length v.records))) (test (eqb (relation_at (encode v) (length v.records)) r))
    where
      n : ℕ
      n = length v.records

      R : Type 0
      R = appended (encode v) r l g ≡ encode (with_records v (v.records ++ (flag_only fields (place r l) g ∷ [])))

      last_relation : 0 < length v.records → relation_at (encode v) (length v.records) ≡ relation (nth v.records (length v.records))
      last_relation h = enc_relation v (fits v w).sized (length v.records) (omega arith) (omega arith)

      go : (ltb 0 (length v.records) ≡ true) ⊎ (ltb 0 (length v.records) ≡ false) → (eqb (relation_at (encode v) (length v.records)) r ≡ true) ⊎ (eqb (relation_at (encode v) (length v.records)) r ≡ false) → R
      go (inr p) q =
          let z = ltb-false 0 (length v.records) p in
          added_first v w r l g a₁ a₂ a₃ a₄ a₅ top room (link_first (rw p)) (λ j h e. empty v.records j z h)
        where
          empty : (s : List Rec) (j : ℕ) → length s ≤ 0 → has s j ≡ true → ⊥
          empty [] j z h = clash h (has_none j)
          empty (x ∷ xs) j z h = omega arith
      go (inl p) (inl q) =
          let h = ltb-true 0 (length v.records) p in
          added_behind v w r l g a₁ a₂ a₃ a₄ a₅ top room (length v.records) (link_behind (rw (p, q))) (omega arith) (omega arith)
          (sym (last_relation h) ∙ eqb-true _ _ q) (λ j e. last_largest v.records j up e)
      go (inl p) (inr q) =
          let h = ltb-true 0 (length v.records) p in
          let d : relation (nth v.records (length v.records)) ≢ r = λ e. eqb-false _ _ q (last_relation h ∙ e) in
          let b = top _ (has_record (length v.records) v.records (omega arith) (omega arith)) in
          added_first v w r l g a₁ a₂ a₃ a₄ a₅ top room (link_first (rw (p, q))) (λ j e f. d (between j (nth v.records (length v.records)).key f (last_largest v.records j up e) b))
        where
          between : (j y : ℕ) → j / label_span ≡ r → j ≤ y → y < place r l → y / label_span ≡ r
          between j y f a b = omega arith
