-- The text of any input fits the program's buffer.
-- Assumes nothing.
use Prim.Native.Nat.{ℕ, zero, suc, ◌+◌, ◌*◌, ◌-◌, ◌/◌, ◌≤◌, ◌<◌}
use mathlib.Core.Path.{◌≡◌, refl, ap, ◌∙◌}
use mathlib.Core.Bool.{Bool, true, false, cond, ◌&&◌}
use mathlib.Core.Logic.{◌⊎◌, inl, inr}
use mathlib.Core.List.{List, [], ◌∷◌, ◌++◌, map}
use native.Mathlib.Omega.{arith}
use lib.Dec.{eqb, ltb, leb}
use lib.ListN.{length, take, replicate, length-append, get_or-eq_default}
use borrow.Author.Tests.{eqb-true, leb-true, lt-leb, not-false}
use Rattle.crdt.proofs.Tests.{Tri, low, same, high, tri, test, and_left, and_right}
use Rattle.crdt.specs.Labels.{counter_of, replica_of}
use Rattle.model.specs.Layout.{fields, most_relations, block_words, schema_words, block, word, relations, field_count, kind_at, capacity_of, used_at, relation_at, label_at, value_at}
use Rattle.model.specs.Lists.{listed}
use Rattle.model.specs.Schemas.{is_reference, block_rule, empty_block, broken}
use Rattle.model.specs.Calls.{schema_length, marks_number, marks_count, marks_marks, walk_given, Walked, walked, entry_at, table_walked, shown_list}
use Rattle.wellformed.proofs.Ranges.{each_at, listed_length}
use Rattle.wellformed.proofs.Facts.{schema_sound, formed}
use Rattle.list_text.specs.Text.{space, newline, dot, digit, digits, decimal_text, label_text, reference_text, value_text, values_text, line_text, lines_text, told_text, refused_word, refused_text, shown_word, shown_text}
use Rattle.list.specs.Program.{most_listed, schema_in, table_in, is_whole, answer_text, list_text, line_bytes, most_text}
use Rattle.list_text.specs.Placed.{Placed}
use Rattle.list_text.proofs.Laying.{laid_length, whole}
use Rattle.list.proofs.Answers.{Judged, judged}
use Rattle.list.proofs.Whole.{whole_capacity}

digits_few : (k n : ℕ) → length (digits k n) ≤ k
unfolding digits
digits_few zero n = omega arith
digits_few (suc k) n = omega (arith, length-append (cond (ltb n 10) [] (digits k (n / 10))) (digit n ∷ []), go (ltb n 10) (digits_few k (n / 10)))
  where
    go : (b : Bool) → length (digits k (n / 10)) ≤ k → length (cond b [] (digits k (n / 10))) ≤ k
    go true h = omega arith
    go false h = h

decimal_few : (n : ℕ) → length (decimal_text n) ≤ 20
unfolding decimal_text
decimal_few n = digits_few 20 n

label_few : (x : ℕ) → length (label_text x) ≤ 41
unfolding label_text
label_few x =
    omega (arith, length-append (decimal_text (counter_of x)) (dot ∷ decimal_text (replica_of x)), decimal_few (counter_of x), decimal_few (replica_of x))

reference_few : (x : ℕ) → length (reference_text x) ≤ 41
unfolding reference_text
reference_few x = go (eqb x 0)
  where
    go : (b : Bool) → length (cond b (45 ∷ []) (label_text x)) ≤ 41
    go true = omega arith
    go false = label_few x

value_few : (k x : ℕ) → length (value_text k x) ≤ 41
unfolding value_text
value_few k x = go (is_reference k)
  where
    go : (b : Bool) → length (cond b (reference_text x) (decimal_text x)) ≤ 41
    go true = reference_few x
    go false = omega (arith, decimal_few x)

values_few : (ks vs : List ℕ) → length (values_text ks vs) ≤ 42 * length ks
unfolding values_text
values_few [] vs = omega arith
values_few (k ∷ ks) [] = omega arith
values_few (k ∷ ks) (v ∷ vs) = omega (arith, length-append (space ∷ value_text k v) (values_text ks vs), value_few k v, values_few ks vs)

-- the number of fields of any relation
module _ (s : List ℕ) (w : schema_length s ≡ true) (g : broken s ≡ false) where
  least_relations : 1 ≤ relations s
  unfolding broken
  least_relations = leb-true 1 (relations s) (and_left (leb 1 (relations s)) _ (and_left _ _ (not-false _ g)))

  empty_above_lem : (r : ℕ) → 1 ≤ r → r ≤ most_relations → relations s < r → field_count s r ≡ 0
  unfolding broken empty_block field_count
  empty_above_lem r a b l =
      let k = each_at most_relations (λ r. cond (leb r (relations s)) (block_rule s r) (empty_block s r)) r (and_right (leb 1 (relations s) && leb (relations s) most_relations) _ (not-false _ g)) a b in
      let e = rw (lt-leb r (relations s) l) at k in
      let f = eqb-true _ 0 (each_at block_words (λ j. eqb (word s (block r + (j - 1))) 0) 1 e (omega arith) (omega arith)) in
      ap (λ (n : ℕ). word s n) (omega arith) ∙ f

  past : (r : ℕ) → most_relations < r → field_count s r ≡ 0
  unfolding field_count word block schema_length
  past r l = let n = eqb-true (length s) schema_words w in get_or-eq_default s 0 (omega arith)

  count_first : field_count s 0 ≡ field_count s 1
  unfolding field_count block
  count_first = refl

  count_most : (r : ℕ) → field_count s r ≤ fields
  count_most zero = let h = (schema_sound s g).counts 1 (omega arith) least_relations in omega (arith, count_first)
  count_most (suc r) = go (tri most_relations (suc r)) (tri (relations s) (suc r))
    where
      within : suc r ≤ relations s → field_count s (suc r) ≤ fields
      within h = (schema_sound s g).counts (suc r) (omega arith) h

      above : suc r ≤ most_relations → Tri (relations s) (suc r) → field_count s (suc r) ≤ fields
      above h (low p) = omega (arith, empty_above_lem (suc r) (omega arith) h p)
      above h (same p) = within (omega arith)
      above h (high p) = within (omega arith)

      go : Tri most_relations (suc r) → Tri (relations s) (suc r) → field_count s (suc r) ≤ fields
      go (low q) p = omega (arith, past (suc r) q)
      go (same q) p = above (omega arith) p
      go (high q) p = above (omega arith) p

  -- the line of a record
  line_few : (t : List ℕ) (i : ℕ) → length (line_text s (entry_at s t i)) ≤ line_bytes
  unfolding line_text entry_at
  line_few t i =
      let r = relation_at t i in
      let h = decimal_text r ++ (space ∷ label_text (label_at t i)) in
      let ks = listed (field_count s r) (kind_at s r) in
      let v = values_text ks (listed (field_count s r) (value_at t i)) in
      omega (
        arith,
        length-append h (v ++ (newline ∷ [])),
        length-append (decimal_text r) (space ∷ label_text (label_at t i)),
        length-append v (newline ∷ []),
        decimal_few r,
        label_few (label_at t i),
        values_few ks (listed (field_count s r) (value_at t i)),
        listed_length (field_count s r) (kind_at s r),
        count_most r,
      )

  lines_few : (t : List ℕ) (is : List ℕ) → length (lines_text s (map (entry_at s t) is)) ≤ line_bytes * length is
  unfolding lines_text
  lines_few t [] = omega arith
  lines_few t (i ∷ is) =
      omega (arith, length-append (line_text s (entry_at s t i)) (lines_text s (map (entry_at s t) is)), line_few t i, lines_few t is)

walked_few : (n : ℕ) (s t m : List ℕ) (p : ℕ) → length (walked n s t m p).given ≤ n
unfolding walked
walked_few zero s t m p = omega arith
walked_few (suc n) s t m p = go (eqb (walk_given s t m p) 0) (walked_few n s t m (walk_given s t m p))
  where
    go : (b : Bool) → length (walked n s t m (walk_given s t m p)).given ≤ n
        → length (cond {A = Walked} b (record { given = []; stop = p }) (record { given = walk_given s t m p ∷ (walked n s t m (walk_given s t m p)).given; stop = (walked n s t m (walk_given s t m p)).stop })).given ≤ suc n
    go true h = omega arith
    go false h = omega arith

told_few : (w : List ℕ) (n : ℕ) → length (told_text w n) ≤ length w + 21
unfolding told_text
told_few w n = omega (arith, length-append w (decimal_text n ++ (newline ∷ [])), length-append (decimal_text n) (newline ∷ []), decimal_few n)

refused_few : (n : ℕ) → length (refused_text n) ≤ line_bytes
unfolding refused_text
refused_few n = omega (arith, told_few refused_word n)

shown_few : (s t : List ℕ) (k : ℕ) → Judged s t → capacity_of t ≤ most_listed → length (shown_text s k (shown_list s t)) ≤ most_text
unfolding shown_text shown_list table_walked
shown_few s t k j l =
    let is = (walked (used_at t + 1) s t (marks_marks s t (replicate (capacity_of t) 0)) 0).given in
    omega (
      arith,
      length-append (told_text shown_word k) (lines_text s (map (entry_at s t) is)),
      told_few shown_word k,
      lines_few s j.width j.schema t is,
      walked_few (used_at t + 1) s t (marks_marks s t (replicate (capacity_of t) 0)) 0,
      (formed s t j.good).used,
    )

answer_few : (s t : List ℕ) → capacity_of t ≤ most_listed → length (answer_text s t) ≤ most_text
unfolding answer_text
answer_few s t l = go (test (eqb n 0))
  where
    n : ℕ
    n = marks_number s t (replicate (capacity_of t) 0)

    k : ℕ
    k = marks_count s t (replicate (capacity_of t) 0)

    go : (eqb n 0 ≡ true) ⊎ (eqb n 0 ≡ false) → length (cond (eqb n 0) (shown_text s k (shown_list s t)) (refused_text n)) ≤ most_text
    go (inl h) = rw h (shown_few s t k (judged s t (replicate (capacity_of t) 0) (eqb-true n 0 h)) l)
    go (inr h) = rw h (omega (arith, refused_few n))

list_few : (b : List ℕ) → length (list_text b) ≤ most_text
unfolding list_text
list_few b = go (test (is_whole b))
  where
    go : (is_whole b ≡ true) ⊎ (is_whole b ≡ false) → length (cond (is_whole b) (answer_text (schema_in b) (table_in b)) (refused_text 1)) ≤ most_text
    go (inl h) = rw h (answer_few (schema_in b) (table_in b) (whole_capacity b h))
    go (inr h) = rw h (omega (arith, refused_few 1))

-- the whole text stands at the beginning of the buffer
pub list_whole : {o o' : List ℕ} {r : ℕ} (b : List ℕ) → most_text ≤ length o → Placed o 0 (list_text b) r o'
    → (r ≤ length o') × (take r o' ≡ list_text b)
list_whole {o} {o'} {r} b h p =
    let e : length o' ≡ length o = ap length p.chars ∙ laid_length o 0 (list_text b) in
    let f = list_few b in
    let g = whole (list_text b) p (omega arith) in
    let x = g.0 in
    (omega arith, g.1)
