-- The rules of a record in the forms in which the functions ask for them: a field with its counters, a row of words, and a row of a table.
-- Assumes nothing.
use Prim.Native.Nat.{ℕ, ◌+◌, ◌*◌, ◌-◌, ◌≤◌, ◌<◌}
use mathlib.Core.Path.{◌≡◌, refl, ap, sym, ◌∙◌}
use mathlib.Core.Bool.{Bool, true, false, cond, ◌&&◌, ◌||◌, not, and-false}
use mathlib.Core.List.{List}
use mathlib.Core.Logic.{◌⊎◌, inl, inr}
use native.Mathlib.Omega.{arith}
use lib.Dec.{leb, eqb}
use lib.ListN.{take, drop}
use borrow.Author.Tests.{leb-true, lt-leb, le-leb, eqb-true, eq-eqb, ne_eqb}
use Rattle.crdt.proofs.Tests.{test, clash, and_left, and_right}
use Rattle.crdt.specs.Labels.{largest_counter, is_label, counter_of, replica_of}
use Rattle.crdt.specs.Flags.{largest_flag}
use Rattle.model.specs.Layout.{head_words, word, relations, clock_at}
use Rattle.model.specs.Shapes.{block_in, base_in, count_in, kind_in, relation_in, label_in, flag_in, value_in, stamp_in, record_rules_in, counters_rule_in}
use Rattle.model.specs.Lists.{each}
use Rattle.model.specs.Schemas.{is_reference, abort_kinds}
use Rattle.model.specs.WellFormed.{field_rule}
use Rattle.layout.proofs.Each.{each_none, each_at, each_all, each_ext, each_both}
use Rattle.layout.proofs.Words.{word_part}
use Rattle.table_rules.specs.Rows.{label_under, counters_under, field_placed, fields_good_to, row_good}

-- a label whose counter is at most a clock that is itself a counter
pub label_under_lem : (clock x c r : ℕ) → clock ≤ largest_counter → c ≡ counter_of x → r ≡ replica_of x
    → (leb 1 c && leb c clock && leb 1 r) ≡ label_under clock x
unfolding label_under is_label
label_under_lem clock x c r h e f = rw (← e, ← f) (go (test (leb c clock)))
  where
    yes : (a d : Bool) → (a && true && d) ≡ ((a && true && d) && true)
    yes true true = refl
    yes true false = refl
    yes false d = refl

    no : (a b d : Bool) → (a && false && d) ≡ ((a && b && d) && false)
    no true b d = sym (and-false (true && b && d))
    no false b d = refl

    go : (leb c clock ≡ true) ⊎ (leb c clock ≡ false) → (leb 1 c && leb c clock && leb 1 r) ≡ ((leb 1 c && leb c largest_counter && leb 1 r) && leb c clock)
    go (inl q) = let m = leb-true c clock q in let l : c ≤ largest_counter = omega arith in rw (q, le-leb c largest_counter l) (yes (leb 1 c) (leb 1 r))
    go (inr q) = rw q (no (leb 1 c) (leb c largest_counter) (leb 1 r))

-- a field's rule and counters, by the tests they are made of
rule : Bool → Bool → Bool → Bool → Bool → Bool → Bool → Bool
rule z ls w R lv cs cv = ((z || ls) && (not z || w) && (not R || w || lv)) && (cs && (not R || cv))

rule_none : (ls w R lv cv : Bool) → (w ≡ true → cv ≡ true) → w ≡ rule true ls w R lv true cv
unfolding rule
rule_none ls true true lv cv h = sym (h refl)
rule_none ls true false lv cv h = refl
rule_none ls false R lv cv h = refl

rule_bad : (ls w R lv cs cv : Bool) → (ls && cs) ≡ false → false ≡ rule false ls w R lv cs cv
unfolding rule
rule_bad true w R lv true cv h = clash refl h
rule_bad true w R lv false cv h = sym (and-false ((true && true) && (not R || w || lv)))
rule_bad false w R lv cs cv h = refl

rule_empty : (lv cv : Bool) → cv ≡ true → true ≡ rule false true true true lv true cv
unfolding rule
rule_empty lv cv h = sym h

module _ (clock kind value stamp : ℕ) where
  counter_zero : (x : ℕ) → x ≡ 0 → leb (counter_of x) clock ≡ true
  counter_zero x e = le-leb (counter_of x) clock (rw e (omega arith))

  value_zero : eqb value 0 ≡ true → leb (counter_of value) clock ≡ true
  value_zero e = counter_zero value (eqb-true value 0 e)

  -- the ways out of field_good
  pub field_none : stamp ≡ 0 → eqb value 0 ≡ (field_rule kind value stamp && counters_under clock kind value stamp)
  unfolding field_rule counters_under rule
  field_none e = rw (eq-eqb stamp 0 e, counter_zero stamp e) (rule_none (is_label stamp) (eqb value 0) (is_reference kind) (is_label value) (leb (counter_of value) clock) value_zero)

  module _ (some : stamp ≡ 0 → ⊥) (x : Bool) (e : x ≡ label_under clock stamp) where
    pub field_bad : x ≡ false → false ≡ (field_rule kind value stamp && counters_under clock kind value stamp)
    unfolding field_rule counters_under rule label_under
    field_bad f = rw (ne_eqb stamp 0 some) (rule_bad (is_label stamp) (eqb value 0) (is_reference kind) (is_label value) (leb (counter_of stamp) clock) (leb (counter_of value) clock) (sym e ∙ f))

    label_both : x ≡ true → (is_label stamp ≡ true) × (leb (counter_of stamp) clock ≡ true)
    unfolding label_under
    label_both f = (and_left (is_label stamp) (leb (counter_of stamp) clock) (sym e ∙ f), and_right (is_label stamp) (leb (counter_of stamp) clock) (sym e ∙ f))

    pub field_plain : x ≡ true → kind < abort_kinds → true ≡ (field_rule kind value stamp && counters_under clock kind value stamp)
    unfolding field_rule counters_under
    field_plain f h = let b = label_both f in rw (ne_eqb stamp 0 some, b.0, b.1, lt-leb abort_kinds kind h)

    pub field_empty : x ≡ true → abort_kinds ≤ kind → value ≡ 0 → true ≡ (field_rule kind value stamp && counters_under clock kind value stamp)
    unfolding field_rule counters_under rule
    field_empty f h g =
        let b = label_both f in
        rw (ne_eqb stamp 0 some, b.0, b.1, le-leb abort_kinds kind h, eq-eqb value 0 g) (rule_empty (is_label value) (leb (counter_of value) clock) (counter_zero value g))

    pub field_refers : x ≡ true → abort_kinds ≤ kind → (value ≡ 0 → ⊥) → (y : Bool) → y ≡ label_under clock value
        → y ≡ (field_rule kind value stamp && counters_under clock kind value stamp)
    unfolding field_rule counters_under label_under
    field_refers f h g y p = let b = label_both f in rw (ne_eqb stamp 0 some, b.0, b.1, le-leb abort_kinds kind h, ne_eqb value 0 g) p

  -- the ways out of field_placed
  pub placed_in : (count j : ℕ) (x : Bool) → j ≤ count → x ≡ (field_rule kind value stamp && counters_under clock kind value stamp)
      → x ≡ field_placed clock count j kind value stamp
  unfolding field_placed
  placed_in count j x h e = rw (le-leb j count h) e

  pub placed_above : (count j : ℕ) → count < j → (eqb value 0 && eqb stamp 0) ≡ field_placed clock count j kind value stamp
  unfolding field_placed counters_under
  placed_above count j h = rw (lt-leb j count h) (go (test (eqb value 0)) (test (eqb stamp 0)))
    where
      either : (a : Bool) → true ≡ (true && (a || true))
      either true = refl
      either false = refl

      go : (eqb value 0 ≡ true) ⊎ (eqb value 0 ≡ false) → (eqb stamp 0 ≡ true) ⊎ (eqb stamp 0 ≡ false)
          → (eqb value 0 && eqb stamp 0) ≡ ((eqb value 0 && eqb stamp 0) && (leb (counter_of stamp) clock && (not (is_reference kind) || leb (counter_of value) clock)))
      go (inl p) (inl q) = rw (p, q, counter_zero stamp (eqb-true stamp 0 q), value_zero p) (either (not (is_reference kind)))
      go (inl p) (inr q) = rw (p, q)
      go (inr p) q = rw p

-- a turn of fields_good: the words that it reads are those of field j + 1
pub field_turn : (w clock : ℕ) (b x : List ℕ) (j count kind value stamp : ℕ) (y : Bool) → count ≡ word b 0 → kind ≡ word b (j + 1) → value ≡ word x (head_words + j)
    → stamp ≡ word x (head_words + w + j) → y ≡ field_placed clock count (j + 1) kind value stamp
    → y ≡ field_placed clock (word b 0) (j + 1) (word b (j + 1)) (word x (head_words - 1 + (j + 1))) (word x (head_words - 1 + w + (j + 1)))
field_turn w clock b x j count kind value stamp y e f g h p =
    let v : head_words - 1 + (j + 1) ≡ head_words + j = omega arith in
    let s : head_words - 1 + w + (j + 1) ≡ head_words + w + j = omega arith in
    rw (v, s, ← e, ← f, ← g, ← h) p

-- no field, and more fields than those of which one is not good
module _ (w clock : ℕ) (b x : List ℕ) where
  pub none_good : fields_good_to w 0 clock b x ≡ true
  unfolding fields_good_to
  none_good = sym (each_none _)

  pub more_bad : (m n : ℕ) → m ≤ n → fields_good_to w m clock b x ≡ false → false ≡ fields_good_to w n clock b x
  unfolding fields_good_to
  more_bad m n h e = go (test (fields_good_to w n clock b x))
    where
      go : (fields_good_to w n clock b x ≡ true) ⊎ (fields_good_to w n clock b x ≡ false) → false ≡ fields_good_to w n clock b x
      go (inl q) = clash (each_all m _ (λ k a l. each_at n _ k q a (omega arith))) e
      go (inr q) = sym q

-- the ways out of row_good
module _ (w : ℕ) (s : List ℕ) (clock : ℕ) (x : List ℕ) where
  pub row_low : word x 1 < 1 → false ≡ row_good w s clock x
  unfolding row_good
  row_low h = rw (lt-leb 1 (word x 1) h)

  pub row_high : (R : ℕ) → R ≡ relations s → R < word x 1 → false ≡ row_good w s clock x
  unfolding row_good
  row_high R e h = rw (← e, lt-leb (word x 1) R h, and-false)

  pub row_named : label_under clock (word x 2) ≡ false → false ≡ row_good w s clock x
  unfolding row_good
  row_named h = rw (h, and-false)

  pub row_flag : largest_flag < word x 3 → false ≡ row_good w s clock x
  unfolding row_good
  row_flag h = rw (lt-leb (word x 3) largest_flag h, and-false)

  part_zero : count_in w s (word x 1) ≡ word (take (w + 4) (drop (block_in w (word x 1)) s)) 0
  unfolding count_in
  part_zero = let z : block_in w (word x 1) + 0 ≡ block_in w (word x 1) = omega arith in sym (word_part s (block_in w (word x 1)) (w + 4) 0 (omega arith) ∙ ap (word s) z)

  part_kind : (j : ℕ) → j ≤ w → kind_in w s (word x 1) j ≡ word (take (w + 4) (drop (block_in w (word x 1)) s)) j
  unfolding kind_in
  part_kind j h = sym (word_part s (block_in w (word x 1)) (w + 4) j (omega arith))

  pub row_fields : (R : ℕ) (b : List ℕ) (y : Bool) → R ≡ relations s → 1 ≤ word x 1 → word x 1 ≤ R → label_under clock (word x 2) ≡ true → word x 3 ≤ largest_flag
      → b ≡ take (w + 4) (drop (block_in w (word x 1)) s) → y ≡ fields_good_to w w clock b x → y ≡ row_good w s clock x
  unfolding row_good fields_good_to
  row_fields R b y e h g l f p q =
      rw (← e, le-leb 1 (word x 1) h, le-leb (word x 1) R g, l, le-leb (word x 3) largest_flag f)
      (q ∙ each_ext w _ _ (λ j a m. rw (p, part_zero, part_kind j m)))

-- a row of a table is one of its records
module _ (w : ℕ) (s t : List ℕ) (i : ℕ) where
  row : List ℕ
  row = take (head_words + 2 * w) (drop (base_in w i) t)

  row_at : (k : ℕ) → k < head_words + 2 * w → word row k ≡ word t (base_in w i + k)
  unfolding row
  row_at k h = word_part t (base_in w i) (head_words + 2 * w) k h

  row_relation : word row 1 ≡ relation_in w t i
  unfolding relation_in
  row_relation = row_at 1 (omega arith)

  row_label : word row 2 ≡ label_in w t i
  unfolding label_in
  row_label = row_at 2 (omega arith)

  row_flags : word row 3 ≡ flag_in w t i
  unfolding flag_in
  row_flags = row_at 3 (omega arith)

  row_value : (j : ℕ) → j ≤ w → word row (head_words - 1 + j) ≡ value_in w t i j
  unfolding value_in
  row_value j h = let z : base_in w i + (head_words - 1 + j) ≡ base_in w i + (head_words - 1) + j = omega arith in row_at (head_words - 1 + j) (omega arith) ∙ ap (word t) z

  row_stamp : (j : ℕ) → j ≤ w → word row (head_words - 1 + w + j) ≡ stamp_in w t i j
  unfolding stamp_in
  row_stamp j h =
      let z : base_in w i + (head_words - 1 + w + j) ≡ base_in w i + (head_words - 1) + w + j = omega arith in
      row_at (head_words - 1 + w + j) (omega arith) ∙ ap (word t) z

  shuffle : (a l c f p q : Bool) → (a && (l && c) && f && (p && q)) ≡ ((a && l && f && p) && (c && q))
  shuffle false l c f p q = refl
  shuffle true false c f p q = refl
  shuffle true true false f p q = sym (and-false (f && p))
  shuffle true true true false p q = refl
  shuffle true true true true p q = refl

  placed : ℕ → Bool
  placed j =
      cond (leb j (count_in w s (relation_in w t i))) (field_rule (kind_in w s (relation_in w t i) j) (value_in w t i j) (stamp_in w t i j)) (eqb (value_in w t i j) 0 && eqb (stamp_in w t i j) 0)

  under : ℕ → Bool
  under j = leb (counter_of (stamp_in w t i j)) (clock_at t) && (not (is_reference (kind_in w s (relation_in w t i) j)) || leb (counter_of (value_in w t i j)) (clock_at t))

  row_record : row_good w s (clock_at t) row ≡ (record_rules_in w s t i && counters_rule_in w s t i)
  unfolding row_good record_rules_in counters_rule_in label_under field_placed counters_under placed under
  row_record =
      rw (row_relation, row_label, row_flags)
      (ap (λ (e : Bool).
      leb 1 (relation_in w t i) && leb (relation_in w t i) (relations s) && (is_label (label_in w t i) && leb (counter_of (label_in w t i)) (clock_at t))
      && leb (flag_in w t i) largest_flag && e)
      (each_ext w _ (λ j. placed j && under j) (λ j a m. rw (row_value j m, row_stamp j m)) ∙ each_both w placed under)
      ∙ shuffle (leb 1 (relation_in w t i) && leb (relation_in w t i) (relations s)) (is_label (label_in w t i)) (leb (counter_of (label_in w t i)) (clock_at t)) (leb (flag_in w t i) largest_flag)
      (each w placed) (each w under))

  pub record_row : (clock : ℕ) (x : List ℕ) (y : Bool) → clock ≡ clock_at t → x ≡ take (head_words + 2 * w) (drop (base_in w i) t) → y ≡ row_good w s clock x
      → y ≡ (record_rules_in w s t i && counters_rule_in w s t i)
  unfolding row
  record_row clock x y e f p = (rw (e, f) at p) ∙ row_record
