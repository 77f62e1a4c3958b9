-- The words of an old table, eight fields, as those of the table that it is turned into.
-- Assumes nothing.
use Prim.Native.Nat.{ℕ, ◌+◌, ◌≤◌, ◌<◌}
use mathlib.Core.Path.{◌≡◌, sym, ◌∙◌}
use mathlib.Core.Bool.{true}
use mathlib.Core.List.{List, []}
use native.Mathlib.Omega.{arith}
use lib.ListN.{length, get_or, take, drop, length-drop}
use lib.Seq.{ext_get_or, get_or-take, get_or-drop, length-take-le}
use Rattle.model.specs.Layout.{fields, most_relations, record_words, word, base, relations, capacity_of, clock_at, used_at, first_at, next_at, relation_at, label_at}
use Rattle.model.specs.Schemas.{broken}
use Rattle.model.specs.WellFormed.{header_rules, firsts_rule, empty_above, rest_zero, well_formed}
use Rattle.model.specs.Shapes.{old_fields, base_in, capacity_in, next_in, relation_in, label_in, table_length_in, broken_in, header_rules_in, rest_zero_in}
use Rattle.model.specs.Shapes.{well_formed_in, turned_schema, turned_record, turned_table}
use Rattle.layout.proofs.Each.{each_ext}
use Rattle.shape_laws.proofs.Same.{broken_same, header_same, rest_same, formed_same}
use Rattle.shape_laws.proofs.Turned.{record_length, record_turned, turned_length}
use Rattle.shape_laws.proofs.Spelled.{SizedIn, sized_in}
use Rattle.shape_laws.proofs.Agree.{broken_agree, header_agree, firsts_agree, rest_agree, formed_agree, capacity_turned, used_is, clock_is, first_is, next_is, relation_is, label_is}

-- document 01's rules at eight fields are the library's on the turned words
pub old_broken : (s : List ℕ) → broken_in old_fields s ≡ broken (turned_schema old_fields fields s)
old_broken s = broken_agree 8 4 s ∙ broken_same (turned_schema old_fields fields s)

pub old_formed : (s t : List ℕ) → relations s ≤ most_relations → table_length_in old_fields t ≡ true
    → well_formed_in old_fields s t ≡ well_formed (turned_schema old_fields fields s) (turned_table old_fields fields t)
old_formed s t a b = formed_agree 8 4 s t a b ∙ formed_same (turned_schema old_fields fields s) (turned_table old_fields fields t)

module _ (t : List ℕ) (h : table_length_in old_fields t ≡ true) where
  abbrev T : List ℕ
  T = turned_table old_fields fields t

  -- any schema will do
  few : relations [] ≤ most_relations
  unfolding relations word
  few = omega arith

  old : SizedIn old_fields t
  old = sized_in old_fields t h

  pub old_capacity : capacity_of T ≡ capacity_in old_fields t
  unfolding capacity_of capacity_in
  old_capacity = capacity_turned 8 4 [] t few h

  pub old_used : used_at T ≡ used_at t
  old_used = used_is 8 4 [] t few h

  pub old_clock : clock_at T ≡ clock_at t
  old_clock = clock_is 8 4 [] t few h

  pub old_first : (r : ℕ) → 1 ≤ r → r ≤ most_relations → first_at T r ≡ first_at t r
  old_first r a b = first_is 8 4 [] t few h r a b

  pub old_header : header_rules_in old_fields t ≡ header_rules T
  old_header = header_agree 8 4 [] t few h ∙ header_same T

  pub old_firsts : firsts_rule t ≡ firsts_rule T
  old_firsts = firsts_agree 8 4 [] t few h

  -- under any schema
  pub old_above : (s : List ℕ) → empty_above s t ≡ empty_above s T
  unfolding empty_above
  old_above s = each_ext most_relations _ _ (λ r a b. rw (old_first r a b))

  pub old_rest : used_at t ≤ capacity_in old_fields t → rest_zero_in old_fields t ≡ rest_zero T
  old_rest u = rest_agree 8 4 [] t few h u ∙ rest_same T

  module _ (i : ℕ) (a : 1 ≤ i) where
    pub old_next : next_at T i ≡ next_in old_fields t i
    unfolding next_at base next_in base_in
    old_next = next_is 8 4 [] t few h i a

    pub old_relation : relation_at T i ≡ relation_in old_fields t i
    unfolding relation_at base relation_in base_in
    old_relation = relation_is 8 4 [] t few h i a

    pub old_label : label_at T i ≡ label_in old_fields t i
    unfolding label_at base label_in base_in
    old_label = label_is 8 4 [] t few h i a

    -- a record as a part of the turned table
    pub old_row_lem : i ≤ capacity_in old_fields t → turned_record old_fields fields t i ≡ take record_words (drop (base i) T)
    old_row_lem b =
        ext_get_or 0 _ _ (record_length old_fields fields t i ∙ sym (length-take-le record_words (drop (base i) T) (room b)))
        (λ k l.
        let c : k < record_words = omega (arith, l, record_length old_fields fields t i) in
        sym (get_or-take record_words (drop (base i) T) k 0 c ∙ get_or-drop (base i) T k 0 ∙ at k b c))
      where
        room : i ≤ capacity_in old_fields t → record_words ≤ length (drop (base i) T)
        room b = unfold base in omega (arith, b, a, length-drop (base i) T, turned_length old_fields fields t old.least)

        at : (k : ℕ) → i ≤ capacity_in old_fields t → k < record_words → get_or T (base i + k) 0 ≡ get_or (turned_record old_fields fields t i) k 0
        at k b c = unfold base in unfold word in unfold base_in in record_turned old_fields fields t old.least i k a b c
