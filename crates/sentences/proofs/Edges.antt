-- The edges of document 01, "What a call hands back", over all tables.
-- Assumes nothing.
use Prim.Native.Nat.{ℕ, zero, suc, ◌≤◌, ◌<◌, ◌+◌, ◌-◌, ◌%◌, ◌/◌}
use mathlib.Core.Path.{◌≡◌, refl, sym, ◌∙◌, ap}
use mathlib.Core.Logic.{◌⊎◌, inl, inr, ◌≢◌}
use mathlib.Core.Bool.{Bool, true, false, cond, ◌&&◌, ◌||◌, not}
use mathlib.Core.List.{List, [], ◌∷◌, map}
use native.Mathlib.Omega.{arith}
use lib.Dec.{eqb}
use lib.ListN.{length}
use borrow.Author.Tests.{eqb-true, eqb-false, eq-eqb, not-false as unnot}
use Rattle.crdt.specs.Labels.{is_replica}
use Rattle.crdt.proofs.Tests.{test, clash, and_left, and_right, and_both, or_left, or_right, or_cases, not_true}
use Rattle.model.specs.Layout.{header_words, capacity_of, used_at}
use Rattle.model.specs.Lists.{from, listed, only, some_of, all_of, times, Check, lowest}
use Rattle.model.specs.Schemas.{broken, schema_of}
use Rattle.model.specs.Records.{Rec, has, in_order, least_above, position}
use Rattle.model.specs.Tables.{record_of, decode}
use Rattle.model.specs.Shown.{standing, kept_after, kept, settled, shown}
use Rattle.model.specs.Edits.{insertion}
use Rattle.model.specs.Calls.{schema_length, table_length, schema_number, table_number, start_number, start_table, marks_of, marked, place_key, walk_number, walk_given, walk_ended, edit_number, insertion_of, insertion_number, shown_list}
use Rattle.laws.proofs.Lists.{◌∈◌}
use Rattle.laws.proofs.Checks.{passed}
use Rattle.laws.proofs.Drafts.{shown_in, has_order}
use Rattle.laws.proofs.Shown.{in_has}
use Rattle.wellformed.proofs.Ranges.{listed_length}
use Rattle.wellformed.proofs.Follow.{has_none, has_here, has_there, has_cases, Least, least_of, Placed, position_some}
use Rattle.wellformed.proofs.Facts.{formed}
use Rattle.convergence.proofs.Marked.{marked_only, held_by, has_held}
use Rattle.convergence.proofs.Walk.{walk_lists}
use Rattle.convergence.proofs.Tables.{Good, good_table, table_good, Begun, start_good}

-- A check whose number is the answer applies.
pub answered : (xs : List Check) (n : ℕ) → lowest xs ≡ suc n → some_of (λ (x : Check). eqb x.number (suc n) && x.applies) xs ≡ true
unfolding lowest some_of
answered [] n h = absurd (omega arith)
answered (x ∷ xs) n h = go (test x.applies) (λ e. answered xs n e)
  where
    go : (x.applies ≡ true) ⊎ (x.applies ≡ false) → (lowest xs ≡ suc n → some_of (λ (y : Check). eqb y.number (suc n) && y.applies) xs ≡ true)
        → (eqb x.number (suc n) && x.applies || some_of (λ (y : Check). eqb y.number (suc n) && y.applies) xs) ≡ true
    go (inl e) ih = or_left _ _ (and_both _ _ (eq-eqb _ _ (rw e at h)) e)
    go (inr e) ih = or_right (eqb x.number (suc n) && x.applies) _ (ih (rw e at h))

used_is : (t : List ℕ) → length (decode t).records ≡ used_at t
unfolding decode
used_is t = listed_length (used_at t) (record_of t)

capacity_is : (t : List ℕ) → (decode t).capacity ≡ capacity_of t
unfolding decode
capacity_is t = refl

-- "used = N − 1 inserts, N gives 11": 11 of an insertion means used = N, and no insertion is accepted there.
pub eleven_full : (s own delta : List ℕ) (r : ℕ) (vs : List ℕ) → insertion_number s own delta r vs ≡ 11 → used_at own ≡ capacity_of own
unfolding insertion_number edit_number insertion_of insertion some_of
eleven_full s own delta r vs h = go (or_cases (eqb (length (decode own).records) (decode own).capacity) false (answered _ 10 h))
  where
    go : (eqb (length (decode own).records) (decode own).capacity ≡ true) ⊎ (◌≡◌ {A = Bool} false true) → used_at own ≡ capacity_of own
    go (inl e) = sym (used_is own) ∙ eqb-true _ _ e ∙ capacity_is own
    go (inr e) = clash e refl

pub full_refused : (s own delta : List ℕ) (r : ℕ) (vs : List ℕ) → used_at own ≡ capacity_of own → insertion_number s own delta r vs ≢ 0
unfolding insertion_number edit_number insertion_of insertion all_of
full_refused s own delta r vs e h =
    let p = passed _ refl h in
    eqb-false _ _ p.1.1.1.1.1.1.1.0 (used_is own ∙ e ∙ sym (capacity_is own))

-- "N = 0 starts and shows nothing"
shown_none : (s : List ℕ) → shown (schema_of s) (in_order []) ≡ []
unfolding shown settled kept_after kept standing only times in_order
shown_none s = refl

lists_none : (s t : List ℕ) → table_number s t ≡ 0 → (decode t).records ≡ [] → shown_list s t ≡ []
lists_none s t h e = walk_lists s t h ∙ rw (e, shown_none s)

pub no_room_shows_nothing : (s t : List ℕ) → table_number s t ≡ 0 → capacity_of t ≡ 0 → shown_list s t ≡ []
no_room_shows_nothing s t h n = lists_none s t h none
  where
    zero_used : used_at t ≡ 0
    zero_used = omega (arith, (formed s t (good_table s t h).formed).used, n)

    none : (decode t).records ≡ []
    none = unfold decode listed from in rw zero_used

no_room_length : (t : List ℕ) → length t ≡ header_words → table_length t ≡ true
unfolding table_length capacity_of
no_room_length t e = rw e

schema_good : (s : List ℕ) → schema_number s ≡ 0 → (schema_length s ≡ true) × (broken s ≡ false)
unfolding schema_number all_of
schema_good s h = let p = passed _ refl h in (unnot (schema_length s) p.0, p.1.0)

pub no_room_starts : (s t : List ℕ) (r : ℕ) → schema_number s ≡ 0 → length t ≡ header_words → is_replica r ≡ true
    → (start_number t r ≡ 0) × (table_number s (start_table t r) ≡ 0) × (shown_list s (start_table t r) ≡ [])
no_room_starts s t r h e l =
    let a = accepts in
    let p = schema_good s h in
    let b = start_good s t r p.0 p.1 a in
    let n = table_good s _ b.good in
    (a, n, lists_none s _ n b.empty)
  where
    accepts : start_number t r ≡ 0
    accepts = unfold start_number lowest in rw (no_room_length t e, l)

-- "an end of the list walk is answered only past the last shown record": at an end no marked record lies after the place in list order.
marked_part : (m : List ℕ) (s : List Rec) (k : ℕ) → has (marked m s) k ≡ true → has s k ≡ true
unfolding marked
marked_part [] s k h = clash h (has_none k)
marked_part (m ∷ ms) [] k h = h
marked_part (m ∷ ms) (x ∷ xs) k h = go (test (eqb m 1)) (λ p. has_there x xs k (marked_part ms xs k p))
  where
    taken : (k ≡ x.key) ⊎ (has (marked ms xs) k ≡ true) → (has (marked ms xs) k ≡ true → has (x ∷ xs) k ≡ true) → has (x ∷ xs) k ≡ true
    taken (inl e) ih = rw e (has_here x xs)
    taken (inr e) ih = ih e

    go : (eqb m 1 ≡ true) ⊎ (eqb m 1 ≡ false) → (has (marked ms xs) k ≡ true → has (x ∷ xs) k ≡ true) → has (x ∷ xs) k ≡ true
    go (inl e) ih = taken (has_cases x (marked ms xs) k (rw e at h)) ih
    go (inr e) ih = ih (rw e at h)

end_keys : (s t m : List ℕ) (p : ℕ) → walk_number s t m p ≡ 0 → walk_given s t m p ≡ 0
    → (k : ℕ) → has (marked m (decode t).records) k ≡ true → k ≤ place_key (decode t) p
unfolding walk_given
end_keys s t m p n g k h = up_to (λ l. beyond l)
  where
    up_to : (place_key (decode t) p < k → ⊥) → k ≤ place_key (decode t) p
    up_to f = omega arith

    beyond : place_key (decode t) p < k → ⊥
    beyond l =
        let q = least_of (place_key (decode t) p) (marked m (decode t).records) in
        let o = position_some _ (decode t).records (marked_part m (decode t).records _ (q.found (q.some k h l))) in
        let z : position (least_above (place_key (decode t) p) (marked m (decode t).records)) (decode t).records ≡ 0 = rw n at g in
        omega (arith, o.from_one, z)

ended : (s t m : List ℕ) (p : ℕ) → walk_ended s t m p ≡ true → (walk_number s t m p ≡ 0) × (walk_given s t m p ≡ 0)
unfolding walk_ended
ended s t m p h = go (test (eqb (walk_number s t m p) 0))
  where
    go : (eqb (walk_number s t m p) 0 ≡ true) ⊎ (eqb (walk_number s t m p) 0 ≡ false) → (walk_number s t m p ≡ 0) × (walk_given s t m p ≡ 0)
    go (inl e) = (eqb-true _ _ e, eqb-true _ _ (rw e at h))
    go (inr e) = let z : ◌≡◌ {A = Bool} false true = rw e at h in clash z refl

pub end_past_marked : (s t m : List ℕ) (p : ℕ) → walk_ended s t m p ≡ true → (x : Rec) → x ∈ marked m (decode t).records → x.key ≤ place_key (decode t) p
end_past_marked s t m p e x h = let z = ended s t m p e in end_keys s t m p z.0 z.1 x.key (in_has _ x x.key h refl)

-- the same over the marks made of the table: no shown record lies after the place
pub end_past_shown : (s t : List ℕ) (p : ℕ) → walk_ended s t (marks_of s t) p ≡ true
    → (x : Rec) → x ∈ shown (schema_of s) (in_order (decode t).records) → x.key ≤ place_key (decode t) p
end_past_shown s t p e x h = let z = ended s t (marks_of s t) p e in end_keys s t (marks_of s t) p z.0 z.1 x.key (rw marks there)
  where
    marks : marked (marks_of s t) (decode t).records ≡ held_by (shown (schema_of s) (in_order (decode t).records)) (decode t).records
    marks = unfold marks_of in marked_only _ (decode t).records _

    there : has (held_by (shown (schema_of s) (in_order (decode t).records)) (decode t).records) x.key ≡ true
    there =
        has_held _ (decode t).records x.key (in_has _ x x.key h refl)
        (sym (has_order (decode t).records x.key) ∙ in_has _ x x.key (shown_in (schema_of s) _ x h) refl)
