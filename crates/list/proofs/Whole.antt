-- A whole input: the lengths of its schema and table.
-- Assumes nothing.
use Prim.Native.Nat.{ℕ, ◌+◌, ◌*◌, ◌-◌, ◌/◌, ◌%◌, ◌≤◌, ◌<◌}
use mathlib.Core.Path.{◌≡◌, refl, sym, ap, ◌∙◌}
use mathlib.Core.Bool.{Bool, true, false, ◌&&◌}
use mathlib.Core.Logic.{◌⊎◌, inl, inr}
use mathlib.Core.List.{List}
use native.Mathlib.Omega.{arith}
use lib.Dec.{eqb, leb}
use lib.ListN.{length, take, drop, length-drop}
use lib.Seq.{length-take-le, take_all}
use borrow.Author.Tests.{eq-eqb, le-leb, eqb-true, leb-true}
use Rattle.crdt.proofs.Tests.{test, clash, and_left, and_right, and_both}
use Rattle.model.specs.Layout.{word_bytes, schema_words, header_words, record_words, most_records, capacity_of}
use Rattle.model.specs.Calls.{schema_length, table_length, marks_length}
use Rattle.codec.specs.Bytes.{words_of}
use Rattle.list_text.specs.Text.{refused_text}
use Rattle.list.specs.Program.{most_listed, most_words, most_bytes, schema_in, table_in, is_whole, answer_text, list_text}
use Rattle.list_text.specs.Placed.{Placed}
use Rattle.codec.proofs.Words.{words_length}
use Rattle.list_text.proofs.Laying.{as_text}

-- two tests that imply each other
same_test : (x y : Bool) → (x ≡ true → y ≡ true) → (y ≡ true → x ≡ true) → x ≡ y
same_test x y f g = go (test x) (test y)
  where
    go : (x ≡ true) ⊎ (x ≡ false) → (y ≡ true) ⊎ (y ≡ false) → x ≡ y
    go (inl p) q = p ∙ sym (f p)
    go (inr p) (inl q) = clash (g q) p
    go (inr p) (inr q) = p ∙ sym q

-- The lengths by numbers.
pub record Sizes (n : ℕ) : Type 0 where
  pub words : n % word_bytes ≡ 0
  pub least : schema_words + header_words ≤ n / word_bytes
  pub records : (n / word_bytes - (schema_words + header_words)) % record_words ≡ 0
  pub most : n / word_bytes - (schema_words + header_words) ≤ record_words * most_listed

module _ (b : List ℕ) where
  abbrev count : ℕ
  count = length b / word_bytes

  table_count : length (table_in b) ≡ count - schema_words
  table_count = length-drop schema_words (words_of b) ∙ ap (λ (n : ℕ). n - schema_words) (words_length b)

  pub whole_sizes : is_whole b ≡ true → Sizes (length b)
  unfolding is_whole table_length capacity_of
  whole_sizes h =
      let tl = table_length (table_in b) in
      let h₃ = and_left (eqb (length b % word_bytes) 0 && schema_length (schema_in b) && tl) (leb (capacity_of (table_in b)) most_listed) h in
      let most = leb-true (capacity_of (table_in b)) most_listed (and_right (eqb (length b % word_bytes) 0 && schema_length (schema_in b) && tl) (leb (capacity_of (table_in b)) most_listed) h) in
      let h₂ = and_left (eqb (length b % word_bytes) 0 && schema_length (schema_in b)) tl h₃ in
      let ht = and_right (eqb (length b % word_bytes) 0 && schema_length (schema_in b)) tl h₃ in
      let words = eqb-true (length b % word_bytes) 0 (and_left (eqb (length b % word_bytes) 0) (schema_length (schema_in b)) h₂) in
      let n = length (table_in b) in
      let t₂ = and_left (leb header_words n && eqb ((n - header_words) % record_words) 0) (leb ((n - header_words) / record_words) most_records) ht in
      let least = leb-true header_words n (and_left (leb header_words n) (eqb ((n - header_words) % record_words) 0) t₂) in
      let rest = eqb-true ((n - header_words) % record_words) 0 (and_right (leb header_words n) (eqb ((n - header_words) % record_words) 0) t₂) in
      let e = table_count in
      record { words = words; least = omega arith; records = omega arith; most = omega arith }

  pub whole_capacity : is_whole b ≡ true → capacity_of (table_in b) ≤ most_listed
  unfolding is_whole
  whole_capacity h = leb-true (capacity_of (table_in b)) most_listed (and_right (eqb (length b % word_bytes) 0 && schema_length (schema_in b) && table_length (table_in b)) (leb (capacity_of (table_in b)) most_listed) h)

  pub sizes_whole : Sizes (length b) → is_whole b ≡ true
  unfolding is_whole table_length capacity_of schema_length
  sizes_whole z =
      let e = table_count in
      let k = words_length b in
      let n = length (table_in b) in
      let words = z.words in
      let least = z.least in
      let records = z.records in
      let most = z.most in
      and_both _ _
      (and_both _ _
      (and_both _ _ (eq-eqb (length b % word_bytes) 0 words) (eq-eqb (length (schema_in b)) schema_words (length-take-le schema_words (words_of b) (omega arith))))
      (and_both _ _ (and_both _ _ (le-leb header_words n (omega arith)) (eq-eqb ((n - header_words) % record_words) 0 (omega arith)))
      (le-leb ((n - header_words) / record_words) most_records (omega arith))))
      (le-leb ((n - header_words) / record_words) most_listed (omega arith))

  not_whole : (Sizes (length b) → ⊥) → false ≡ is_whole b
  not_whole f = same_test false (is_whole b) (λ h. clash h refl) (λ h. absurd (f (whole_sizes h)))

  pub not_words : (length b % word_bytes ≡ 0 → ⊥) → false ≡ is_whole b
  not_words h = not_whole (λ z. h z.words)

  pub not_long : count < schema_words + header_words → false ≡ is_whole b
  not_long h = not_whole (λ z. let l = z.least in absurd (omega arith))

  pub not_short : most_bytes < length b → false ≡ is_whole b
  not_short h = not_whole (λ z. let w = z.words in let m = z.most in absurd (omega arith))

  pub whole_is : length b % word_bytes ≡ 0 → schema_words + header_words ≤ count
      → (eqb ((count - (schema_words + header_words)) % record_words) 0 && leb (count - (schema_words + header_words)) (record_words * most_listed)) ≡ is_whole b
  whole_is h l =
      let x = eqb ((count - (schema_words + header_words)) % record_words) 0 in
      let y = leb (count - (schema_words + header_words)) (record_words * most_listed) in
      same_test (x && y) (is_whole b)
      (λ g. sizes_whole
      (record {
        words = h;
        least = l;
        records = eqb-true ((count - (schema_words + header_words)) % record_words) 0 (and_left x y g);
        most = leb-true (count - (schema_words + header_words)) (record_words * most_listed) (and_right x y g);
      }))
      (λ g. let z = whole_sizes g in
      and_both x y (eq-eqb ((count - (schema_words + header_words)) % record_words) 0 z.records)
      (le-leb (count - (schema_words + header_words)) (record_words * most_listed) z.most))

  -- the two texts
  pub listed_refused : {o o' : List ℕ} {r : ℕ} → is_whole b ≡ false → Placed o 0 (refused_text 1) r o' → Placed o 0 (list_text b) r o'
  unfolding list_text
  listed_refused h p = rw h p

  listed_is : is_whole b ≡ true → answer_text (schema_in b) (table_in b) ≡ list_text b
  unfolding list_text
  listed_is h = rw h

  pub listed_words : {o o' : List ℕ} {r : ℕ} (w : List ℕ) → is_whole b ≡ true → w ≡ words_of b
      → Placed o 0 (answer_text (take schema_words w) (drop schema_words w)) r o' → Placed o 0 (list_text b) r o'
  listed_words w h e p = as_text (ap (λ (l : List ℕ). answer_text (take schema_words l) (drop schema_words l)) e ∙ listed_is h) p

  -- room for the words, and for the marks
  pub words_room : (w : List ℕ) → is_whole b ≡ true → most_words ≤ length w → (length b % word_bytes ≡ 0) × (length b ≤ word_bytes * length w)
  words_room w h l = let z = whole_sizes h in let p = z.words in let q = z.least in let r = z.most in (p, omega arith)

  pub marks_room : (w m : List ℕ) → is_whole b ≡ true → w ≡ words_of b → most_listed ≤ length m
      → (schema_words + header_words ≤ length w) × (capacity_of (drop schema_words w) ≤ length m)
  unfolding capacity_of
  marks_room w m h e l =
      let z = whole_sizes h in
      let q = z.least in
      let r = z.most in
      let n : length w ≡ count = ap length e ∙ words_length b in
      let k : length (drop schema_words w) ≡ length w - schema_words = length-drop schema_words w in
      (omega arith, omega arith)

-- what follows the schema, as the slice's rest
rest_is : (w : List ℕ) → take (length w - schema_words) (drop schema_words w) ≡ drop schema_words w
rest_is w = let k : length (drop schema_words w) ≡ length w - schema_words = length-drop schema_words w in take_all (length w - schema_words) (drop schema_words w) (omega arith)

module _ (w m : List ℕ) (n : ℕ) (e : n ≡ capacity_of (take (length w - schema_words) (drop schema_words w))) (l : capacity_of (drop schema_words w) ≤ length m) where
  pub split_room : n ≤ length m
  split_room = let k = e ∙ ap capacity_of (rest_is w) in omega arith

  pub split_marks : marks_length (take (length w - schema_words) (drop schema_words w)) (take (n - 0) m) ≡ true
  unfolding marks_length
  split_marks =
      let r = split_room in
      let k : n - 0 ≡ n = omega arith in
      eq-eqb (length (take (n - 0) m)) (capacity_of (take (length w - schema_words) (drop schema_words w)))
      (ap (λ (j : ℕ). length (take j m)) k ∙ length-take-le n m r ∙ e)

pub split_text : {o o' : List ℕ} {r : ℕ} (w : List ℕ) → Placed o 0 (answer_text (take schema_words w) (take (length w - schema_words) (drop schema_words w))) r o'
    → Placed o 0 (answer_text (take schema_words w) (drop schema_words w)) r o'
split_text w p = as_text (ap (λ (l : List ℕ). answer_text (take schema_words w) l) (rest_is w)) p

-- the words lent on, as the slice's part
pub part_words : (w l : List ℕ) (r : ℕ) → take r w ≡ l → take (r - 0) w ≡ l
part_words w l r e = let k : r - 0 ≡ r = omega arith in ap (λ (n : ℕ). take n w) k ∙ e
