-- The herd book (document 02, F-2), of any words.
-- Assumes nothing.
use Prim.Native.Nat.{ℕ, ◌-◌, ◌≤◌}
use mathlib.Core.Path.{◌≡◌, refl, sym, ◌∙◌, ap}
use mathlib.Core.Logic.{◌⊎◌, inl, inr, ◌≢◌, ◌↔◌}
use mathlib.Core.Bool.{Bool, true, false, cond, ◌&&◌, ◌||◌, not}
use mathlib.Core.List.{List, [], ◌∷◌}
use native.Mathlib.Omega.{arith}
use lib.Dec.{eqb, leb}
use lib.ListN.{length, get_or}
use borrow.Author.Tests.{eq-eqb, ne_eqb, le-leb, not-false}
use Rattle.crdt.specs.Labels.{is_label}
use Rattle.crdt.proofs.Tests.{test, clash, and_left, and_right, and_both, or_cases, not_true}
use Rattle.model.specs.Layout.{word, block, relations, field_count, kind_at, capacity_of, used_at, relation_at, label_at}
use Rattle.model.specs.Lists.{from, listed, some_of, all_of, Check, check, lowest}
use Rattle.model.specs.Schemas.{broken, relation_of, schema_of, relation_numbered}
use Rattle.model.specs.Records.{Rec, place, has, in_order, position}
use Rattle.model.specs.Tables.{record_of, decode}
use Rattle.model.specs.WellFormed.{well_formed}
use Rattle.model.specs.Shown.{shown}
use Rattle.model.specs.Edits.{Edit, values_rule, insertion, update, deletion}
use Rattle.model.specs.Calls.{table_length, delta_length, marks_length, bad_index, marks_number, marks_marks, marks_of, edit_number, insertion_of, insertion_number, update_of, update_number, update_table, update_delta, deletion_of, deletion_number, deletion_table, deletion_delta}
use Rattle.model.specs.Book.{groups, cows, robots, milkings, cleanings, treatments, book_block, book, of_kind, change_of, change_number, change_table, change_delta, strike_of, strike_number, strike_table, strike_delta, find_number, is_shown, find_index}
use Rattle.model.proofs.Book.{book_good, book_long}
use Rattle.laws.proofs.Checks.{passed}
use Rattle.laws.proofs.Valid.{true_distinct}
use Rattle.laws.proofs.Drafts.{shown_has, has_order}
use Rattle.laws.proofs.OfKind.{kind_number, kind_table, kind_delta, other_number, other_table, other_delta}
use Rattle.wellformed.proofs.Ranges.{listed_length, listed_at}
use Rattle.wellformed.proofs.Facts.{label_span_lem, formed, Ruled, ruled}
use Rattle.wellformed.proofs.Follow.{record_at, position_some, position_at}
use Rattle.convergence.proofs.Fields.{schema_length_lem}
use Rattle.convergence.proofs.Tables.{Good, good_valid}
use Rattle.sentences.proofs.Edges.{answered}
use Rattle.sentences.proofs.Shown.{mark_is}

-- "each as the library's call does and with its answers": of a record of the kind, number, table and delta are the library's.
module _ (own delta : List ℕ) (r i : ℕ) (h : relation_at own i ≡ r) where
  pub change_library : (f new : ℕ) → (change_number r own delta i f new ≡ update_number book own delta i f new) × (change_table r own delta i f new ≡ update_table book own delta i f new)
      × (change_delta r own delta i f new ≡ update_delta book own delta i f new)
  unfolding change_of change_number change_table change_delta update_number update_table update_delta
  change_library f new =
      let u = update_of book own i f new in
      (sym (kind_number (bad_index own i) own delta r i u h), sym (kind_table (bad_index own i) own delta r i u h), sym (kind_delta (bad_index own i) own delta r i u h))

  pub strike_library : (strike_number r own delta i ≡ deletion_number book own delta i) × (strike_table r own delta i ≡ deletion_table book own delta i)
      × (strike_delta r own delta i ≡ deletion_delta book own delta i)
  unfolding strike_of strike_number strike_table strike_delta deletion_number deletion_table deletion_delta
  strike_library =
      let u = deletion_of book own i in
      (sym (kind_number (bad_index own i) own delta r i u h), sym (kind_table (bad_index own i) own delta r i u h), sym (kind_delta (bad_index own i) own delta r i u h))

-- "with 6 also for a record of another kind": exactly where 1 and 3 do not apply; and no word changes.
module _ (own delta : List ℕ) (r i : ℕ) (h : relation_at own i ≢ r) where
  pub change_other : (f new : ℕ)
      → (change_number r own delta i f new ≡ lowest (check 1 (not (table_length own && delta_length delta) || bad_index own i) ∷ check 3 (not (well_formed book own)) ∷ check 6 true ∷ []))
      × (change_table r own delta i f new ≡ own) × (change_delta r own delta i f new ≡ delta)
  unfolding change_of change_number change_table change_delta
  change_other f new =
      let u = update_of book own i f new in
      (other_number (bad_index own i) own delta r i u h, other_table (bad_index own i) own delta r i u h, other_delta (bad_index own i) own delta r i u h)

  pub strike-other :
      (strike_number r own delta i ≡ lowest (check 1 (not (table_length own && delta_length delta) || bad_index own i) ∷ check 3 (not (well_formed book own)) ∷ check 6 true ∷ []))
      × (strike_table r own delta i ≡ own) × (strike_delta r own delta i ≡ delta)
  unfolding strike_of strike_number strike_table strike_delta
  strike-other =
      let u = deletion_of book own i in
      (other_number (bad_index own i) own delta r i u h, other_table (bad_index own i) own delta r i u h, other_delta (bad_index own i) own delta r i u h)

-- No call answers 2: the schema is good.
not_two : (index : Bool) (own delta : List ℕ) (e : Edit) → some_of (λ (x : Check). eqb x.number 2 && x.applies) e.checks ≡ false → edit_number index book own delta e ≢ 2
unfolding edit_number some_of
not_two index own delta e n h = go (or_cases (broken book) (some_of (λ (x : Check). eqb x.number 2 && x.applies) e.checks) (answered _ 1 h))
  where
    go : (broken book ≡ true) ⊎ (some_of (λ (x : Check). eqb x.number 2 && x.applies) e.checks ≡ true) → ⊥
    go (inl b) = clash b book_good
    go (inr s) = clash s n

pub enter_not_two : (own delta : List ℕ) (r : ℕ) (vs : List ℕ) → insertion_number book own delta r vs ≢ 2
unfolding insertion_number insertion_of insertion some_of
enter_not_two own delta r vs = not_two false own delta (insertion_of book own r vs) refl

pub change_not_two : (own delta : List ℕ) (r i f new : ℕ) → change_number r own delta i f new ≢ 2
unfolding change_number change_of of_kind update_of update some_of
change_not_two own delta r i f new = not_two (bad_index own i) own delta (change_of r own i f new) refl

pub strike_not_two : (own delta : List ℕ) (r i : ℕ) → strike_number r own delta i ≢ 2
unfolding strike_number strike_of of_kind deletion_of deletion some_of
strike_not_two own delta r i = not_two (bad_index own i) own delta (strike_of r own i) refl

-- An entry never answers 5: the kinds are the schema's relations.
six : relations book ≡ treatments
unfolding relations word book
six = refl

pub enter_not_five : (own delta : List ℕ) (r : ℕ) (vs : List ℕ) → 1 ≤ r → r ≤ treatments → insertion_number book own delta r vs ≢ 5
unfolding insertion_number edit_number insertion_of insertion some_of
enter_not_five own delta r vs l m h = go (or_cases (not (leb 1 r && leb r (length (schema_of book)))) false (answered _ 4 h))
  where
    go : (not (leb 1 r && leb r (length (schema_of book))) ≡ true) ⊎ (◌≡◌ {A = Bool} false true) → ⊥
    go (inl e) = clash (and_both _ _ (le-leb 1 r l) (le-leb r (length (schema_of book)) (omega (arith, schema_length_lem book, six)))) (not_true _ e)
    go (inr e) = clash e refl

-- It answers 7 only for a reference that is neither 0 nor a label; a group's and a robot's never.
abbrev pub good : ℕ → Bool
good v = eqb v 0 || is_label v

seven : (own delta : List ℕ) (r : ℕ) (vs : List ℕ) → insertion_number book own delta r vs ≡ 7 → values_rule (relation_numbered (schema_of book) r).kinds vs ≡ false
unfolding insertion_number edit_number insertion_of insertion some_of
seven own delta r vs h = go (or_cases (not (values_rule (relation_numbered (schema_of book) r).kinds vs)) false (answered _ 6 h))
  where
    go : (not (values_rule (relation_numbered (schema_of book) r).kinds vs) ≡ true) ⊎ (◌≡◌ {A = Bool} false true) → values_rule (relation_numbered (schema_of book) r).kinds vs ≡ false
    go (inl e) = not_true _ e
    go (inr e) = clash e refl

one : (a : Bool) → (a && true) ≡ false → a ≡ false
one true h = h
one false h = refl

two : (a b : Bool) → (a && (b && true)) ≡ false → (a && b) ≡ false
two true b h = one b h
two false b h = refl

module _ (own delta : List ℕ) where
  pub group_values : (number : ℕ) → insertion_number book own delta groups (number ∷ []) ≢ 7
  unfolding values_rule relation_numbered schema_of relation_of listed from relations field_count kind_at block word book_block book
  group_values number h = clash refl (seven own delta groups (number ∷ []) h)

  pub robot_values : (number : ℕ) → insertion_number book own delta robots (number ∷ []) ≢ 7
  unfolding values_rule relation_numbered schema_of relation_of listed from relations field_count kind_at block word book_block book
  robot_values number h = clash refl (seven own delta robots (number ∷ []) h)

  pub cow_values : (tag transponder group : ℕ) → insertion_number book own delta cows (tag ∷ transponder ∷ group ∷ []) ≡ 7 → good group ≡ false
  unfolding values_rule relation_numbered schema_of relation_of listed from relations field_count kind_at block word book_block book
  cow_values tag transponder group h = one _ (seven own delta cows (tag ∷ transponder ∷ group ∷ []) h)

  pub milking_values : (cow robot grams tenths minute : ℕ) → insertion_number book own delta milkings (cow ∷ robot ∷ grams ∷ tenths ∷ minute ∷ []) ≡ 7 → (good cow && good robot) ≡ false
  unfolding values_rule relation_numbered schema_of relation_of listed from relations field_count kind_at block word book_block book
  milking_values cow robot grams tenths minute h = two (good cow) (good robot) (seven own delta milkings (cow ∷ robot ∷ grams ∷ tenths ∷ minute ∷ []) h)

  pub cleaning_values : (robot start end : ℕ) → insertion_number book own delta cleanings (robot ∷ start ∷ end ∷ []) ≡ 7 → good robot ≡ false
  unfolding values_rule relation_numbered schema_of relation_of listed from relations field_count kind_at block word book_block book
  cleaning_values robot start end h = one _ (seven own delta cleanings (robot ∷ start ∷ end ∷ []) h)

  pub treatment_values : (cow first last : ℕ) → insertion_number book own delta treatments (cow ∷ first ∷ last ∷ []) ≡ 7 → good cow ≡ false
  unfolding values_rule relation_numbered schema_of relation_of listed from relations field_count kind_at block word book_block book
  treatment_values cow first last h = one _ (seven own delta treatments (cow ∷ first ∷ last ∷ []) h)

-- "the index of the shown milking with that label": record i is a milking with that label and its mark is 1.
pub record Milking (t : List ℕ) (l i : ℕ) (m : List ℕ) : Type 0 where
  pub least : 1 ≤ i
  pub most : i ≤ used_at t
  pub kind : relation_at t i ≡ milkings
  pub labelled : label_at t i ≡ l
  pub marked : get_or (marks_marks book t m) (i - 1) 0 ≡ 1

module _ (t : List ℕ) (l i : ℕ) (m : List ℕ) (h : find_number t ≡ 0) (n : length m ≡ capacity_of t) where
  good_book : Good book t
  unfolding find_number all_of
  good_book =
      let p = passed (check 1 (not (table_length t)) ∷ check 3 (not (well_formed book t)) ∷ []) refl h in
      record { lent = book_long; sized = not-false _ p.0; sound = book_good; formed = not-false _ p.1.0 }

  marks_are : marks_marks book t m ≡ marks_of book t
  unfolding marks_marks marks_number marks_length lowest
  marks_are = rw (book_long, good_book.sized, eq-eqb _ _ n, book_good, good_book.formed)

  index_is : find_index t l ≡ cond (is_shown t milkings l) (position (place milkings l) (decode t).records) 0
  unfolding find_index
  index_is = rw h

  module _ (i₁ : 1 ≤ i) (i₂ : i ≤ used_at t) where
    own_rules : Ruled book t i
    own_rules = ruled book t i ((formed book t good_book.formed).rules i i₁ i₂)

    record_at_lem : record_at (decode t).records i ≡ record_of t i
    unfolding decode
    record_at_lem = listed_at (used_at t) (record_of t) i _ i₁ i₂

    own_mark : get_or (marks_marks book t m) (i - 1) 0 ≡ cond (has (shown (schema_of book) (in_order (decode t).records)) (record_of t i).key) 1 0
    own_mark = ap (λ (x : List ℕ). get_or x (i - 1) 0) marks_are ∙ mark_is book t i i₁ i₂

    place_at : position (record_of t i).key (decode t).records ≡ i
    unfolding decode
    place_at =
        ap (λ (x : Rec). position x.key (decode t).records) (sym record_at_lem)
        ∙ position_at i (decode t).records (true_distinct _ (good_valid book t good_book).distinct) i₁ (omega (arith, listed_length (used_at t) (record_of t)))

    key_is : relation_at t i ≡ milkings → label_at t i ≡ l → (record_of t i).key ≡ place milkings l
    unfolding record_of
    key_is a b = rw (a, b)

    of_key : is_label l ≡ true → (record_of t i).key ≡ place milkings l → (relation_at t i ≡ milkings) × (label_at t i ≡ l)
    unfolding record_of
    of_key a b =
        let x = label_span_lem (label_at t i) own_rules.label in
        let y = label_span_lem l a in
        (omega (arith, b, x.1, y.1), omega (arith, b, x.1, y.1))

  one_mark : (b : Bool) → ◌≡◌ {A = ℕ} (cond b 1 0) 1 → b ≡ true
  one_mark true e = refl
  one_mark false e = absurd (omega arith)

  milking_found : Milking t l i m → (find_index t l ≡ i) × (i ≢ 0)
  unfolding is_shown
  milking_found x =
      let k = key_is x.least x.most x.kind x.labelled in
      let a : is_label l ≡ true = ap is_label (sym x.labelled) ∙ (own_rules x.least x.most).label in
      let b : has (shown (schema_of book) (in_order (decode t).records)) (place milkings l) ≡ true = sym (ap (has (shown (schema_of book) (in_order (decode t).records))) k) ∙ one_mark _ (sym (own_mark x.least x.most) ∙ x.marked) in
      let c : cond (is_label l && has (shown (schema_of book) (in_order (decode t).records)) (place milkings l)) (position (place milkings l) (decode t).records) 0 ≡ position (place milkings l) (decode t).records = rw (a, b) in
      (index_is ∙ c ∙ ap (λ (z : ℕ). position z (decode t).records) (sym k) ∙ place_at x.least x.most, λ z. omega (arith, z, x.least))

  found_milking : (find_index t l ≡ i) × (i ≢ 0) → Milking t l i m
  unfolding is_shown
  found_milking p = go (test (is_shown t milkings l))
    where
      go : (is_shown t milkings l ≡ true) ⊎ (is_shown t milkings l ≡ false) → Milking t l i m
      go (inr e) = let z : cond (is_shown t milkings l) (position (place milkings l) (decode t).records) 0 ≡ 0 = rw e in absurd (p.1 (sym p.0 ∙ index_is ∙ z))
      go (inl e) =
          let z : cond (is_shown t milkings l) (position (place milkings l) (decode t).records) 0 ≡ position (place milkings l) (decode t).records = rw e in
          let a : is_label l ≡ true = and_left (is_label l) _ e in
          let b : has (shown (schema_of book) (in_order (decode t).records)) (place milkings l) ≡ true = and_right (is_label l) _ e in
          let q = position_some (place milkings l) (decode t).records (sym (has_order (decode t).records (place milkings l)) ∙ shown_has (schema_of book) (in_order (decode t).records) (place milkings l) b) in
          let j : i ≡ position (place milkings l) (decode t).records = sym p.0 ∙ index_is ∙ z in
          let u : length (decode t).records ≡ used_at t = unfold decode in listed_length (used_at t) (record_of t) in
          let i₁ : 1 ≤ i = omega (arith, j, q.from_one) in
          let i₂ : i ≤ used_at t = omega (arith, j, q.within, u) in
          let k : (record_of t i).key ≡ place milkings l = ap (λ (x : Rec). x.key) (sym (record_at_lem i₁ i₂)) ∙ ap (λ (x : ℕ). (record_at (decode t).records x).key) j ∙ q.keyed in
          let o = of_key i₁ i₂ a k in
          let y : has (shown (schema_of book) (in_order (decode t).records)) (record_of t i).key ≡ true = ap (has (shown (schema_of book) (in_order (decode t).records))) k ∙ b in
          let v : ◌≡◌ {A = ℕ} (cond (has (shown (schema_of book) (in_order (decode t).records)) (record_of t i).key) 1 0) 1 = rw y in
          record { least = i₁; most = i₂; kind = o.0; labelled = o.1; marked = own_mark i₁ i₂ ∙ v }

-- Where the call is accepted, it gives i, not 0, exactly if record i is such a milking. The marks are those made of the table over any m of its length.
pub find_exactly : (t : List ℕ) (l i : ℕ) (m : List ℕ) → find_number t ≡ 0 → length m ≡ capacity_of t → Milking t l i m ↔ ((find_index t l ≡ i) × (i ≢ 0))
find_exactly t l i m h n = (milking_found t l i m h n, found_milking t l i m h n)

-- "and in a refusal"
pub find_refused : (t : List ℕ) (l : ℕ) → find_number t ≢ 0 → find_index t l ≡ 0
unfolding find_index
find_refused t l h = rw (ne_eqb (find_number t) 0 h)
