-- The marks of a table and their count.
-- Assumes nothing.
use Prim.Native.Nat.{ℕ, zero, suc, ◌+◌, ◌-◌, ◌≤◌, ◌<◌}
use mathlib.Core.Path.{◌≡◌, refl, sym, ◌∙◌, ap}
use mathlib.Core.Bool.{Bool, true, false, cond, ◌&&◌, not}
use mathlib.Core.List.{List, [], ◌∷◌, ◌++◌, map}
use native.Mathlib.Omega.{arith}
use lib.Dec.{eqb}
use lib.ListN.{length, get_or, take, replicate, length-map, length-take}
use lib.Seq.{ext_get_or, get_or-take}
use Rattle.answers.specs.Told.{Told, told}
use Rattle.model.specs.Layout.{capacity_of, used_at}
use Rattle.model.specs.Lists.{only, check, lowest}
use Rattle.answers.specs.declared.Refusal.{Refusal}
use Rattle.answers.specs.Refused.{refusal_number}
use Rattle.answers.proofs.Told.{refused_above}
use Rattle.std.specs.List.{count_by}
use Rattle.std.proofs.lemmas.List.Recursion.{is_count_by}
use Rattle.model.specs.Schemas.{broken, schema_of}
use Rattle.model.specs.Records.{Rec, has, in_order}
use Rattle.model.specs.Tables.{record_of, decode}
use Rattle.model.specs.WellFormed.{well_formed}
use Rattle.model.specs.Shown.{shown}
use Rattle.model.specs.Calls.{schema_length, table_length, marks_length, marks_of, marks_number, marks_count, marks_marks}
use Rattle.crdt.proofs.Tests.{and_left, and_right}
use borrow.Author.Tests.{eqb-true, ne_eqb}
use Rattle.laws.proofs.Lists.{◌∈◌, only_in, in_only}
use Rattle.laws.proofs.Order.{order_rising, order_length}
use Rattle.laws.proofs.Members.{read_in_order, in_order_lem, order_in}
use Rattle.laws.proofs.Merge.{only_distinct}
use Rattle.wellformed.proofs.Follow.{no_rec}
use Rattle.wellformed.proofs.Ranges.{listed_length, listed_at}
use Rattle.wellformed.proofs.Facts.{formed}
use Rattle.convergence.proofs.Rising.{Few, shown_few}
use Rattle.marks.proofs.Members.{records_once, in_record, member_at}
use Rattle.laws.proofs.Shown.{in_has}
use Rattle.list_keys.proofs.Listed.{mark}
use Rattle.references.specs.Resolved.{Marked}
use Rattle.judged.specs.Checked.{Checked}
use Rattle.list_settled.specs.Rounds.{ones}
use Rattle.list_settled.proofs.Between.{shown_of, shown_part}

-- how many marks are 1
pub ones_count : (m : List ℕ) → count_by (λ x. eqb x 1) m ≡ ones m
unfolding ones
ones_count m = sym (is_count_by ones (λ x. eqb x 1) refl (λ x xs. go (eqb x 1) (ones xs)) m)
  where
    go : (b : Bool) (n : ℕ) → cond b 1 0 + n ≡ cond b (1 + n) n
    go true n = refl
    go false n = omega arith

ones_append : (a : List ℕ) (n : ℕ) → ones (a ++ replicate n 0) ≡ ones a
unfolding ones
ones_append [] zero = refl
ones_append [] (suc n) = omega (arith, ones_append [] n)
ones_append (x ∷ xs) n = ap (λ (k : ℕ). cond (eqb x 1) 1 0 + k) (ones_append xs n)

ones_map : (p : Rec → Bool) (l : List Rec) → ones (map (λ (x : Rec). cond (p x) 1 0) l) ≡ length (only p l)
unfolding ones only
ones_map p [] = refl
ones_map p (x ∷ xs) = go (p x) (ones_map p xs)
  where
    go : (b : Bool) → ones (map (λ (x : Rec). cond (p x) 1 0) xs) ≡ length (only p xs)
        → cond (eqb (cond b 1 0) 1) 1 0 + ones (map (λ (x : Rec). cond (p x) 1 0) xs) ≡ length (cond b (x ∷ only p xs) (only p xs))
    go true e = omega arith
    go false e = omega arith

module _ (s t : List ℕ) (ck : Checked s t) where
  abbrev recs : List Rec
  recs = (decode t).records

  abbrev is_shown : Rec → Bool
  is_shown x = has (shown_of s t) x.key

  recs_length : length recs ≡ used_at t
  unfolding decode
  recs_length = listed_length (used_at t) (record_of t)

  recs_at : (i : ℕ) → i < used_at t → get_or recs i no_rec ≡ record_of t (i + 1)
  unfolding decode
  recs_at i h = let q : i + 1 - 1 ≡ i = omega arith in rw q at (listed_at (used_at t) (record_of t) (i + 1) no_rec (omega arith) (omega arith))

  -- the shown records are those of the table whose key is shown, in order
  shown_rising : Few (length (in_order recs)) (shown_of s t)
  shown_rising = shown_few (schema_of s) (length (in_order recs)) (in_order recs) (record { rising = order_rising recs; few = omega arith })

  shown_in_order : shown_of s t ≡ in_order (only is_shown recs)
  shown_in_order =
      read_in_order (only is_shown recs) (shown_of s t) (only_distinct is_shown recs (records_once s t ck.schema ck.formed)) shown_rising.rising
      (λ x h. let r = only_in is_shown x recs h in back x r.0 r.1)
      (λ x h. in_only is_shown x recs (in_order_lem recs (records_once s t ck.schema ck.formed) x (shown_part s t ck x h)) (in_has' x h))
    where
      in_has' : (x : Rec) → x ∈ shown_of s t → has (shown_of s t) x.key ≡ true
      in_has' x h = in_has (shown_of s t) x x.key h refl

      back : (x : Rec) → x ∈ recs → has (shown_of s t) x.key ≡ true → x ∈ shown_of s t
      back x h e =
          let r = in_record s t ck.schema ck.formed x (order_in recs (records_once s t ck.schema ck.formed) x h) in
          rw r.3 (member_at s t ck.schema ck.formed (shown_of s t) (shown_part s t ck) r.0 r.1 r.2 (rw r.3 at e))

  shown_count : length (shown_of s t) ≡ length (only is_shown recs)
  shown_count = ap length shown_in_order ∙ order_length (only is_shown recs) (only_distinct is_shown recs (records_once s t ck.schema ck.formed))

  -- the marks of the table
  abbrev front : List ℕ
  front = map (λ (x : Rec). mark (is_shown x)) recs

  front_is : (m : List ℕ) → used_at t ≤ length m → Marked t (shown_of s t) m → take (used_at t) m ≡ front
  front_is m l mk =
      ext_get_or 0 (take (used_at t) m) front (length-take (used_at t) m ∙ omega (arith, length-map recs (λ (x : Rec). mark (is_shown x)), recs_length))
      (λ i h. let g : i < used_at t = omega (arith, length-take (used_at t) m) in
      get_or-take (used_at t) m i 0 g ∙ at_mark i g ∙ sym (at_front i g))
    where
      at_mark : (i : ℕ) → i < used_at t → get_or m i 0 ≡ mark (is_shown (record_of t (i + 1)))
      at_mark i g = let q : i + 1 - 1 ≡ i = omega arith in rw q at (mk.at (i + 1) (omega arith) (omega arith))

      map_at : (l : List Rec) (i : ℕ) → i < length l → get_or (map (λ (x : Rec). mark (is_shown x)) l) i 0 ≡ mark (is_shown (get_or l i no_rec))
      map_at [] i h = absurd (omega arith)
      map_at (x ∷ xs) zero h = refl
      map_at (x ∷ xs) (suc i) h = map_at xs i (omega arith)

      at_front : (i : ℕ) → i < used_at t → get_or front i 0 ≡ mark (is_shown (record_of t (i + 1)))
      at_front i g = map_at recs i (omega (arith, recs_length)) ∙ ap (λ (x : Rec). mark (is_shown x)) (recs_at i g)

  module _ (m a b : List ℕ) (k : ℕ) (lm : length m ≡ capacity_of t) (la : length a ≡ length m) (mk : Marked t (shown_of s t) a)
      (ku : k ≡ used_at t) (eb : b ≡ take k a ++ replicate (length a - k) 0) where
    pub marks_are : b ≡ marks_of s t
    unfolding marks_of decode
    marks_are =
        let fm = formed s t ck.formed in
        let u : used_at t ≤ length a = omega (arith, fm.used) in
        let e : b ≡ take (used_at t) a ++ replicate (length a - used_at t) 0 = rw ku at eb in
        let n : length a - used_at t ≡ capacity_of t - length recs = omega (arith, recs_length) in
        e ∙ ap (λ (x : List ℕ). x ++ replicate (length a - used_at t) 0) (front_is a u mk) ∙ ap (λ (j : ℕ). front ++ replicate j 0) n

    pub marks_counted : ones b ≡ length (shown (schema_of s) (in_order (decode t).records))
    unfolding marks_of decode
    marks_counted =
        ap ones marks_are ∙ ones_append front (capacity_of t - length recs) ∙ ones_map is_shown recs ∙ sym shown_count

-- the answers
module _ (s t m : List ℕ) where
  abbrev pub right : Bool
  right = schema_length s && table_length t && marks_length t m

  abbrev answer : Told
  answer = told (marks_number s t m) (marks_count s t m)

  pub rights : right ≡ true → (schema_length s ≡ true) × (table_length t ≡ true) × (length m ≡ capacity_of t)
  unfolding marks_length
  rights h =
      let c = and_left (schema_length s && table_length t) (marks_length t m) h in
      let d = and_right (schema_length s && table_length t) (marks_length t m) h in
      (and_left (schema_length s) (table_length t) c, and_right (schema_length s) (table_length t) c, eqb-true (length m) (capacity_of t) d)

  pub told_length : right ≡ false → (told 1 0 ≡ answer) × (m ≡ marks_marks s t m)
  unfolding marks_number marks_count marks_marks lowest
  told_length h = (rw h, rw h)

  -- after check 1 the number is that of checks 2 and 3
  judged_number : right ≡ true → (n : ℕ) → n ≡ lowest (check 2 (broken s) ∷ check 3 (not (well_formed s t)) ∷ []) → n ≡ marks_number s t m
  unfolding marks_number lowest
  judged_number h n e = rw h e

  pub told_refused : right ≡ true → (e : Refusal) → refusal_number e ≡ lowest (check 2 (broken s) ∷ check 3 (not (well_formed s t)) ∷ [])
      → (told (refusal_number e) 0 ≡ answer) × (m ≡ marks_marks s t m)
  unfolding marks_count marks_marks
  told_refused h e f =
      let n = judged_number h (refusal_number e) f in
      let z : eqb (marks_number s t m) 0 ≡ false = ne_eqb (marks_number s t m) 0 (λ q. refused_above e (n ∙ q)) in
      rw (z, n) (refl, refl)

  pub told_marked : (n : ℕ) (a : List ℕ) → right ≡ true → 0 ≡ lowest (check 2 (broken s) ∷ check 3 (not (well_formed s t)) ∷ [])
      → n ≡ length (shown (schema_of s) (in_order (decode t).records)) → a ≡ marks_of s t → (told 0 n ≡ answer) × (a ≡ marks_marks s t m)
  unfolding marks_count marks_marks
  told_marked n a h z e f = let q = sym (judged_number h 0 z) in (rw (q, e), rw (q, f))

-- lengths as the call found them
pub right_of : (s t m : List ℕ) (a b c x : Bool) → a ≡ schema_length s → b ≡ table_length t → c ≡ marks_length t m → (a && b && c) ≡ x → right s t m ≡ x
right_of s t m a b c x e f g h = rw (sym e, sym f, sym g) h

pub room : (s t : List ℕ) → Checked s t → used_at t ≤ capacity_of t
room s t ck = (formed s t ck.formed).used
