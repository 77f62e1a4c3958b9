-- The rules of v fields are those of v + d fields of the turned words.
-- Assumes nothing.
use Prim.Native.Nat.{ℕ, zero, suc, ◌+◌, ◌*◌, ◌-◌, ◌≤◌, ◌<◌}
use mathlib.Core.Path.{◌≡◌, refl, sym, ◌∙◌, ap}
use mathlib.Core.Logic.{◌⊎◌, inl, inr}
use mathlib.Core.Bool.{Bool, true, false, cond, ◌&&◌, ◌||◌, not}
use mathlib.Core.List.{List, [], ◌∷◌}
use native.Mathlib.Omega.{arith}
use native.Mathlib.Nat.{mul-add}
use lib.Dec.{leb, ltb, eqb}
use lib.ListN.{length, take}
use lib.Seq.{drop-append-add}
use borrow.Author.Tests.{le-leb, lt-leb, leb-true, leb-false, ltb-true, ltb-false, eqb-true, eq-eqb}
use Rattle.crdt.specs.Labels.{largest_counter, is_replica, is_label, counter_of}
use Rattle.crdt.specs.Flags.{largest_flag}
use Rattle.crdt.proofs.Tests.{test, same_test}
use Rattle.model.specs.Layout.{most_relations, header_words, head_words, first_words, zero_word, zero_words, word, relations, replica_at, clock_at, used_at, first_at}
use Rattle.model.specs.Lists.{each, all_of}
use Rattle.model.specs.Schemas.{kind_rule, mask_rule, is_reference}
use Rattle.model.specs.WellFormed.{firsts_rule, empty_above, field_rule}
use Rattle.model.specs.Shapes.{block_in, count_in, kind_in, mask_in, base_in, capacity_in, next_in, relation_in, label_in, flag_in, value_in, stamp_in}
use Rattle.model.specs.Shapes.{table_length_in, block_rule_in, empty_block_in, broken_in, header_rules_in, record_rules_in, counters_rule_in, chain_from_in, chain_in}
use Rattle.model.specs.Shapes.{chain_step_in, rises_in, chains_rise_in, on_chain_in, rest_zero_in, well_formed_in, rows_from, fields_turned}
use Rattle.model.specs.Shapes.{turned_schema, turned_record, turned_table}
use Rattle.layout.proofs.Each.{each_ext, each_at, each_all, each_fail}
use Rattle.wellformed.proofs.Ranges.{parts, all_append}
use Rattle.shape_laws.proofs.Rows.{each_wider, rows_drop, all_rows, any_ext, all_listed}
use Rattle.shape_laws.proofs.Turned.{record_length, head_length, header_turned, turned_length, capacity_of_lem, head_turned}
use Rattle.shape_laws.proofs.Turned.{relation_turned, label_turned, flag_turned, value_turned, stamp_turned}
use Rattle.shape_laws.proofs.Turned.{relations_turned, count_turned, kind_turned, mask_turned}
use Rattle.shape_laws.proofs.Spelled.{SizedIn, sized_in, past_in, rows_are}

pub empty_zeros : (n : ℕ) (s : List ℕ) (r : ℕ) → empty_block_in n s r ≡ true → (k : ℕ) → k < n + 4 → word s (block_in n r + k) ≡ 0
unfolding empty_block_in
empty_zeros n s r h k l =
    let z : k + 1 - 1 ≡ k = omega arith in
    rw z at (eqb-true (word s (block_in n r + (k + 1 - 1))) 0 (each_at (n + 4) (λ j. eqb (word s (block_in n r + (j - 1))) 0) (k + 1) h (omega arith) (omega arith)))

zeros_empty : (n : ℕ) (s : List ℕ) (r : ℕ) → ((k : ℕ) → k < n + 4 → word s (block_in n r + k) ≡ 0) → empty_block_in n s r ≡ true
unfolding empty_block_in
zeros_empty n s r h = each_all (n + 4) _ (λ j a b. eq-eqb _ 0 (h (j - 1) (omega arith)))

off_both : (l o n a b c : Bool) → (l && false && o && a && b && c) ≡ (l && false && n && a && b && c)
off_both true o n a b c = refl
off_both false o n a b c = refl

off_kinds : (l o a b c : Bool) → (l && false && o && a && b && c) ≡ (l && true && false && a && b && c)
off_kinds true o a b c = refl
off_kinds false o a b c = refl

guard_both : (g x y c x' y' : Bool) → (g ≡ true → (x ≡ x') × (y ≡ y')) → ((g && x) && (c && y)) ≡ ((g && x') && (c && y'))
guard_both true x y c x' y' h = rw ((h refl).0, (h refl).1)
guard_both false x y c x' y' h = refl

guard_whole : (h f e r c o z r' z' : Bool) → (h ≡ true → (r ≡ r') × (z ≡ z')) → (h && f && e && r && c && o && z) ≡ (h && f && e && r' && c && o && z')
guard_whole true f e r c o z r' z' g = rw ((g refl).0, (g refl).1)
guard_whole false f e r c o z r' z' g = refl

no_field : (b : Bool) → cond b (field_rule 0 0 0) (eqb 0 0 && eqb 0 0) ≡ true
unfolding field_rule
no_field true = refl
no_field false = refl

fields_zero : (v d : ℕ) (f : ℕ → ℕ) → all_of (λ x. eqb x 0) (fields_turned v v f) ≡ all_of (λ x. eqb x 0) (fields_turned v (v + d) f)
unfolding fields_turned
fields_zero v d f =
    all_listed (λ x. eqb x 0) (λ j. cond (leb j v) (f j) 0) v
    ∙ each_wider v d _ _ (λ j a b. refl) (λ j a b. rw (lt-leb j v a)) ∙ sym (all_listed (λ x. eqb x 0) (λ j. cond (leb j v) (f j) 0) (v + d))

module _ (v d : ℕ) (s : List ℕ) where
  abbrev S : List ℕ
  S = turned_schema v (v + d) s

  module _ (r : ℕ) (a : 1 ≤ r) (b : r ≤ most_relations) where
    -- a block above R, word by word
    words_to : ((k : ℕ) → k < v + 4 → word s (block_in v r + k) ≡ 0) → (k : ℕ) → k < v + d + 4 → word S (block_in (v + d) r + k) ≡ 0
    unfolding count_in kind_in mask_in
    words_to h zero l =
        let z : block_in (v + d) r + 0 ≡ block_in (v + d) r = omega arith in
        let y : block_in v r ≡ block_in v r + 0 = omega arith in
        ap (word S) z ∙ count_turned v (v + d) s r a b ∙ ap (word s) y ∙ h 0 (omega arith)
    words_to h (suc k) l = go (test (ltb k (v + d)))
      where
        R : Type 0
        R = word S (block_in (v + d) r + suc k) ≡ 0

        kind : (leb (suc k) v ≡ true) ⊎ (leb (suc k) v ≡ false) → cond (leb (suc k) v) (word s (block_in v r + suc k)) 0 ≡ 0
        kind (inl e) = rw e (h (suc k) (omega (arith, leb-true (suc k) v e)))
        kind (inr e) = rw e

        mask : v + d ≤ k → R
        mask q =
            let z : block_in (v + d) r + suc k ≡ block_in (v + d) r + (v + d) + (suc k - (v + d)) = omega arith in
            let y : block_in v r + v + (suc k - (v + d)) ≡ block_in v r + (v + (suc k - (v + d))) = omega arith in
            ap (word S) z ∙ mask_turned v (v + d) s r a b (suc k - (v + d)) (omega arith) (omega arith) ∙ ap (word s) y ∙ h (v + (suc k - (v + d))) (omega arith)

        go : (ltb k (v + d) ≡ true) ⊎ (ltb k (v + d) ≡ false) → R
        go (inl e) = kind_turned v (v + d) s r a b (suc k) (omega arith) (omega (arith, ltb-true k (v + d) e)) ∙ kind (test (leb (suc k) v))
        go (inr e) = mask (ltb-false k (v + d) e)

    words_from : ((k : ℕ) → k < v + d + 4 → word S (block_in (v + d) r + k) ≡ 0) → (k : ℕ) → k < v + 4 → word s (block_in v r + k) ≡ 0
    unfolding count_in kind_in mask_in
    words_from h zero l =
        let z : block_in (v + d) r ≡ block_in (v + d) r + 0 = omega arith in
        let y : block_in v r + 0 ≡ block_in v r = omega arith in
        ap (word s) y ∙ sym (count_turned v (v + d) s r a b) ∙ ap (word S) z ∙ h 0 (omega arith)
    words_from h (suc k) l = go (test (ltb k v))
      where
        R : Type 0
        R = word s (block_in v r + suc k) ≡ 0

        kind : suc k ≤ v → R
        kind q =
            let e : cond (leb (suc k) v) (word s (block_in v r + suc k)) 0 ≡ 0 = sym (kind_turned v (v + d) s r a b (suc k) (omega arith) (omega arith)) ∙ h (suc k) (omega arith) in
            rw (le-leb (suc k) v q) at e

        mask : v ≤ k → R
        mask q =
            let z : block_in v r + suc k ≡ block_in v r + v + (suc k - v) = omega arith in
            let y : block_in (v + d) r + (v + d) + (suc k - v) ≡ block_in (v + d) r + (v + d + (suc k - v)) = omega arith in
            ap (word s) z ∙ sym (mask_turned v (v + d) s r a b (suc k - v) (omega arith) (omega arith)) ∙ ap (word S) y ∙ h (v + d + (suc k - v)) (omega arith)

        go : (ltb k v ≡ true) ⊎ (ltb k v ≡ false) → R
        go (inl e) = kind (ltb-true k v e)
        go (inr e) = mask (ltb-false k v e)

    empty_agree : empty_block_in v s r ≡ empty_block_in (v + d) S r
    empty_agree =
        same_test _ _ (λ h. zeros_empty (v + d) S r (words_to (empty_zeros v s r h))) (λ h. zeros_empty v s r (words_from (empty_zeros (v + d) S r h)))

    abbrev old_kinds : Bool
    old_kinds = each v (λ j. cond (leb j (count_in v s r)) (kind_rule (relations s) (kind_in v s r j)) (eqb (kind_in v s r j) 0))

    abbrev new_kinds : Bool
    new_kinds = each (v + d) (λ j. cond (leb j (count_in v s r)) (kind_rule (relations s) (kind_in (v + d) S r j)) (eqb (kind_in (v + d) S r j) 0))

    -- the kinds, where the count is one of v fields
    kinds_agree : count_in v s r ≤ v → old_kinds ≡ new_kinds
    kinds_agree h =
        each_wider v d _ _
        (λ j e f. rw (kind_turned v (v + d) s r a b j e (omega arith), le-leb j v f))
        (λ j e f. rw (lt-leb j (count_in v s r) (omega arith), kind_turned v (v + d) s r a b j (omega arith) f, lt-leb j v e))

    -- a count above v: its first kind above v is 0, which is none
    kinds_fail : v < count_in v s r → count_in v s r ≤ v + d → false ≡ new_kinds
    kinds_fail h g =
        each_fail (v + d) _ (v + 1) (omega arith) (omega arith)
        (rw (le-leb (v + 1) (count_in v s r) (omega arith), kind_turned v (v + d) s r a b (v + 1) (omega arith) (omega arith), lt-leb (v + 1) v (omega arith)))

    block_agree : block_rule_in v s r ≡ block_rule_in (v + d) S r
    unfolding block_rule_in
    block_agree =
        let mask = mask_turned v (v + d) s r a b in
        rw (count_turned v (v + d) s r a b, relations_turned v (v + d) s, mask 1 (omega arith) (omega arith), mask 2 (omega arith) (omega arith), mask 3 (omega arith) (omega arith))
        (go (test (leb (count_in v s r) v)) (test (leb (count_in v s r) (v + d))))
      where
        go : (leb (count_in v s r) v ≡ true) ⊎ (leb (count_in v s r) v ≡ false) → (leb (count_in v s r) (v + d) ≡ true) ⊎ (leb (count_in v s r) (v + d) ≡ false)
            → (leb 1 (count_in v s r) && leb (count_in v s r) v && old_kinds && mask_rule (count_in v s r) (mask_in v s r 1) && mask_rule (count_in v s r) (mask_in v s r 2)
            && eqb (mask_in v s r 3) 0)
            ≡ (leb 1 (count_in v s r) && leb (count_in v s r) (v + d) && new_kinds && mask_rule (count_in v s r) (mask_in v s r 1) && mask_rule (count_in v s r) (mask_in v s r 2)
            && eqb (mask_in v s r 3) 0)
        go (inl e) (inl f) = rw (e, f, kinds_agree (leb-true (count_in v s r) v e))
        go (inl e) (inr f) = absurd (omega (arith, leb-true (count_in v s r) v e, leb-false (count_in v s r) (v + d) f))
        go (inr e) (inr f) = rw (e, f) (off_both (leb 1 (count_in v s r)) old_kinds new_kinds _ _ _)
        go (inr e) (inl f) = rw (e, f, ← kinds_fail (leb-false (count_in v s r) v e) (leb-true (count_in v s r) (v + d) f)) (off_kinds (leb 1 (count_in v s r)) old_kinds _ _ _)

  pub broken_agree : broken_in v s ≡ broken_in (v + d) S
  unfolding broken_in
  broken_agree =
      rw (relations_turned v (v + d) s)
      (ap (λ (x : Bool). not (leb 1 (relations s) && leb (relations s) most_relations && x))
      (each_ext most_relations _ _ (λ r a b. rw (block_agree r a b, empty_agree r a b))))

-- the table
module _ (v d : ℕ) (s t : List ℕ) (few : relations s ≤ most_relations) (sized : table_length_in v t ≡ true) where
  abbrev T : List ℕ
  T = turned_table v (v + d) t

  abbrev U : List ℕ
  U = turned_schema v (v + d) s

  old : SizedIn v t
  old = sized_in v t sized

  pub capacity_turned : capacity_in (v + d) T ≡ capacity_in v t
  capacity_turned = capacity_of_lem v (v + d) t old.least

  size_turned : length T ≡ header_words + (head_words + 2 * (v + d)) * capacity_in (v + d) T
  size_turned = turned_length v (v + d) t old.least ∙ rw capacity_turned

  -- the header
  head : (k : ℕ) → k < header_words → word T k ≡ word t k
  head k l = header_turned v (v + d) t old.least k l

  pub used_is : used_at T ≡ used_at t
  unfolding used_at
  used_is = head 2 (omega arith)

  pub clock_is : clock_at T ≡ clock_at t
  unfolding clock_at
  clock_is = head 1 (omega arith)

  pub first_is : (r : ℕ) → 1 ≤ r → r ≤ most_relations → first_at T r ≡ first_at t r
  unfolding first_at
  first_is r a b = head (first_words + (r - 1)) (omega arith)

  pub header_agree : header_rules_in v t ≡ header_rules_in (v + d) T
  unfolding header_rules_in replica_at clock_at used_at
  header_agree =
      let zeros = each_ext zero_words _ _ (λ j a b. ap (λ (x : ℕ). eqb x 0) (head (first_words + most_relations + (j - 1)) (omega arith))) in
      rw (head 0 (omega arith), head 1 (omega arith), head 2 (omega arith), head 3 (omega arith), capacity_turned, zeros)

  pub firsts_agree : firsts_rule t ≡ firsts_rule T
  unfolding firsts_rule
  firsts_agree = rw used_is (each_ext most_relations _ _ (λ r a b. rw (first_is r a b)))

  above_agree : empty_above s t ≡ empty_above U T
  unfolding empty_above
  above_agree = rw (relations_turned v (v + d) s) (each_ext most_relations _ _ (λ r a b. rw (first_is r a b)))

  -- next, relation and label, past the last record too
  module _ (i : ℕ) (a : 1 ≤ i) where
    pub head_is : (k : ℕ) → k < head_words → word T (base_in (v + d) i + k) ≡ word t (base_in v i + k)
    head_is k h = go (test (leb i (capacity_in v t)))
      where
        go : (leb i (capacity_in v t) ≡ true) ⊎ (leb i (capacity_in v t) ≡ false) → word T (base_in (v + d) i + k) ≡ word t (base_in v i + k)
        go (inl e) = head_turned v (v + d) t old.least i a (leb-true i (capacity_in v t) e) k h
        go (inr e) =
            let l = leb-false i (capacity_in v t) e in
            past_in (v + d) T size_turned i k (rw capacity_turned l) ∙ sym (past_in v t old.size i k l)

    pub next_is : next_in (v + d) T i ≡ next_in v t i
    unfolding next_in
    next_is =
        let y : base_in (v + d) i ≡ base_in (v + d) i + 0 = omega arith in
        let z : base_in v i + 0 ≡ base_in v i = omega arith in
        ap (word T) y ∙ head_is 0 (omega arith) ∙ ap (word t) z

    pub relation_is : relation_in (v + d) T i ≡ relation_in v t i
    unfolding relation_in
    relation_is = head_is 1 (omega arith)

    pub label_is : label_in (v + d) T i ≡ label_in v t i
    unfolding label_in
    label_is = head_is 2 (omega arith)

  -- chains
  from_agree : (n i : ℕ) → chain_from_in v n t i ≡ chain_from_in (v + d) n T i
  unfolding chain_from_in
  from_agree zero i = refl
  from_agree (suc n) zero = refl
  from_agree (suc n) (suc i) = rw (next_is (suc i) (omega arith)) (ap (λ (l : List ℕ). suc i ∷ l) (from_agree n (next_in v t (suc i))))

  rises_agree : (r n low i : ℕ) → rises_in v t r low (chain_from_in v n t i) ≡ rises_in (v + d) T r low (chain_from_in (v + d) n T i)
  unfolding chain_from_in rises_in chain_step_in
  rises_agree r zero low i = refl
  rises_agree r (suc n) low zero = refl
  rises_agree r (suc n) low (suc i) =
      rw (used_is, relation_is (suc i) (omega arith), label_is (suc i) (omega arith), next_is (suc i) (omega arith), rises_agree r n (label_in v t (suc i)) (next_in v t (suc i)))

  chain_agree : (r : ℕ) → 1 ≤ r → r ≤ most_relations → chain_in v t r ≡ chain_in (v + d) T r
  unfolding chain_in
  chain_agree r a b = rw (used_is, first_is r a b) (from_agree (used_at t + 1) (first_at t r))

  rise_agree : chains_rise_in v t ≡ chains_rise_in (v + d) T
  unfolding chains_rise_in chain_in
  rise_agree = each_ext most_relations _ _ (λ r a b. rw (used_is, first_is r a b) (rises_agree r (used_at t + 1) 0 (first_at t r)))

  on_agree : (i : ℕ) → on_chain_in v t i ≡ on_chain_in (v + d) T i
  unfolding on_chain_in
  on_agree i = any_ext most_relations _ _ (λ r a b. rw (chain_agree r a b))

  -- a record
  module _ (i : ℕ) (a : 1 ≤ i) (b : i ≤ capacity_in v t) where
    value_is : (j : ℕ) → 1 ≤ j → j ≤ v + d → value_in (v + d) T i j ≡ cond (leb j v) (value_in v t i j) 0
    value_is j = value_turned v (v + d) t old.least i a b j

    stamp_is : (j : ℕ) → 1 ≤ j → j ≤ v + d → stamp_in (v + d) T i j ≡ cond (leb j v) (stamp_in v t i j) 0
    stamp_is j = stamp_turned v (v + d) t old.least i a b j

    module _ (r : ℕ) (e : 1 ≤ r) (f : r ≤ relations s) where
      count_is : count_in (v + d) U r ≡ count_in v s r
      count_is = count_turned v (v + d) s r e (omega (arith, f, few))

      kind_is : (j : ℕ) → 1 ≤ j → j ≤ v + d → kind_in (v + d) U r j ≡ cond (leb j v) (kind_in v s r j) 0
      kind_is j = kind_turned v (v + d) s r e (omega (arith, f, few)) j

      fields_agree : each v (λ j.
          cond (leb j (count_in v s r)) (field_rule (kind_in v s r j) (value_in v t i j) (stamp_in v t i j)) (eqb (value_in v t i j) 0 && eqb (stamp_in v t i j) 0))
          ≡ each (v + d) (λ j.
          cond (leb j (count_in (v + d) U r)) (field_rule (kind_in (v + d) U r j) (value_in (v + d) T i j) (stamp_in (v + d) T i j))
          (eqb (value_in (v + d) T i j) 0 && eqb (stamp_in (v + d) T i j) 0))
      fields_agree =
          each_wider v d _ _
          (λ j g h. rw (count_is, kind_is j g (omega arith), value_is j g (omega arith), stamp_is j g (omega arith), le-leb j v h))
          (λ j g h.
          rw (kind_is j (omega arith) h, value_is j (omega arith) h, stamp_is j (omega arith) h, lt-leb j v g) (no_field (leb j (count_in (v + d) U r))))

      counters_agree : each v (λ j. leb (counter_of (stamp_in v t i j)) (clock_at t) && (not (is_reference (kind_in v s r j)) || leb (counter_of (value_in v t i j)) (clock_at t)))
          ≡ each (v + d) (λ j.
          leb (counter_of (stamp_in (v + d) T i j)) (clock_at t) && (not (is_reference (kind_in (v + d) U r j)) || leb (counter_of (value_in (v + d) T i j)) (clock_at t)))
      counters_agree =
          each_wider v d _ _
          (λ j g h. rw (kind_is j g (omega arith), value_is j g (omega arith), stamp_is j g (omega arith), le-leb j v h))
          (λ j g h.
          rw (kind_is j (omega arith) h, value_is j (omega arith) h, stamp_is j (omega arith) h, lt-leb j v g, le-leb (counter_of 0) (clock_at t) (omega arith)))

    record_agree : (record_rules_in v s t i && counters_rule_in v s t i) ≡ (record_rules_in (v + d) U T i && counters_rule_in (v + d) U T i)
    unfolding record_rules_in counters_rule_in
    record_agree =
        let r = relation_in v t i in
        let l = old.least in
        let in_r = leb r (relations s) in
        let isL = is_label (label_in v t i) in
        let fits = leb (flag_in v t i) largest_flag in
        rw (relation_turned v (v + d) t l i a b, label_turned v (v + d) t l i a b, flag_turned v (v + d) t l i a b, relations_turned v (v + d) s, clock_is)
        (guard_both (leb 1 r && in_r && isL && fits) _ _ (leb (counter_of (label_in v t i)) (clock_at t)) _ _ (λ g.
        let p = parts (leb 1 r) (in_r ∷ isL ∷ fits ∷ []) g in
        let e = leb-true 1 r p.0 in
        let f = leb-true r (relations s) p.1.0 in
        (fields_agree r e f, counters_agree r e f)))

  -- the words above the used records
  row_zero : (i : ℕ) → all_of (λ x. eqb x 0) (turned_record v v t i) ≡ all_of (λ x. eqb x 0) (turned_record v (v + d) t i)
  unfolding turned_record all_of
  row_zero i =
      let zero : ℕ → Bool = λ x. eqb x 0 in
      let old_row_lem = all_append zero (fields_turned v v (value_in v t i)) (fields_turned v v (stamp_in v t i)) in
      let new_row = all_append zero (fields_turned v (v + d) (value_in v t i)) (fields_turned v (v + d) (stamp_in v t i)) in
      rw (old_row_lem, new_row, fields_zero v d (value_in v t i), fields_zero v d (stamp_in v t i))

  pub rest_agree : used_at t ≤ capacity_in v t → rest_zero_in v t ≡ rest_zero_in (v + d) T
  unfolding rest_zero_in base_in turned_table
  rest_agree h =
      let z : used_at t + 1 - 1 ≡ used_at t = omega arith in
      let y : used_at t + (capacity_in v t - used_at t) ≡ capacity_in v t = omega arith in
      let q = rw y at (mul-add (head_words + 2 * v) (used_at t) (capacity_in v t - used_at t)) in
      let e : length t ≡ header_words + (head_words + 2 * v) * used_at t + (head_words + 2 * v) * (capacity_in v t - used_at t) = omega (arith, old.size, q) in
      let rows = drop-append-add (take header_words t) (rows_from 1 (capacity_in v t) (turned_record v (v + d) t)) ((head_words + 2 * (v + d)) * used_at t) in
      let above = rows_drop (head_words + 2 * (v + d)) (turned_record v (v + d) t) (record_length v (v + d) t) (used_at t) 1 (capacity_in v t) h in
      rw (used_is, z, ← rows_are v t (capacity_in v t - used_at t) (used_at t) e, rw (head_length v (v + d) t old.least) at (rows ∙ above))
      (all_rows (λ x. eqb x 0) (turned_record v v t) (turned_record v (v + d) t) row_zero (1 + used_at t) (capacity_in v t - used_at t))

  pub header_used : header_rules_in v t ≡ true → used_at t ≤ capacity_in v t
  unfolding header_rules_in
  header_used h =
      let zeros = each zero_words (λ j. eqb (word t (first_words + most_relations + (j - 1))) 0) in
      let p = parts (is_replica (replica_at t)) (leb (clock_at t) largest_counter ∷ leb (used_at t) (capacity_in v t) ∷ eqb (word t zero_word) 0 ∷ zeros ∷ []) h in
      leb-true (used_at t) (capacity_in v t) p.1.1.0

  -- the whole paragraph
  pub formed_agree : well_formed_in v s t ≡ well_formed_in (v + d) U T
  unfolding well_formed_in
  formed_agree =
      let chained = each_ext (used_at t) (on_chain_in (v + d) T) (on_chain_in v t) (λ i a b. sym (on_agree i)) in
      rw (← header_agree, ← firsts_agree, ← above_agree, used_is, ← rise_agree, chained)
      (guard_whole (header_rules_in v t) (firsts_rule t) (empty_above s t) _ (chains_rise_in v t) (each (used_at t) (on_chain_in v t)) _ _ _ (λ h.
      let l = header_used h in
      (each_ext (used_at t) _ _ (λ i a b. record_agree i a (omega (arith, b, l))), rest_agree l)))
