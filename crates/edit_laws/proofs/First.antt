-- Checks 1 to 3, then the edit's own: the number of an edit, and what is known where none of the first applies.
-- Assumes nothing.
use Prim.Native.Nat.{ℕ}
use mathlib.Core.Path.{◌≡◌, refl, sym, ◌∙◌, ap}
use mathlib.Core.Logic.{◌⊎◌, inl, inr, ◌≢◌}
use mathlib.Core.Bool.{Bool, true, false, cond, ◌||◌, ◌&&◌, not}
use mathlib.Core.List.{List, [], ◌∷◌}
use native.Mathlib.Omega.{arith}
use lib.Dec.{eqb, ltb}
use lib.ListN.{length}
use borrow.Author.Tests.{eqb-true, eqb-false, ne_eqb, ltb-false, not-false}
use Rattle.answers.specs.declared.Refusal.{Refusal}
use Rattle.std.specs.Prelude.{Result, Ok, Err}
use Rattle.std.specs.Result.{IsErrAnd}
use Rattle.answers.specs.Refused.{refusal_number, number_of}
use Rattle.answers.proofs.Told.{refused_above}
use Rattle.crdt.proofs.Tests.{test, and_left, and_right}
use Rattle.model.specs.Layout.{delta_words, capacity_of, used_at}
use Rattle.model.specs.Lists.{all_of, Check, check, lowest}
use Rattle.model.specs.Schemas.{broken}
use Rattle.model.specs.WellFormed.{well_formed}
use Rattle.model.specs.Edits.{Edit}
use Rattle.model.specs.Calls.{schema_length, table_length, delta_length, bad_index, edit_number}
use Rattle.laws.proofs.Checks.{passed}
use Rattle.judged.specs.Checked.{Checked}
use Rattle.edit_basics.specs.Targets.{Placed}
use Rattle.edit_laws.specs.First.{first_number}

three : (a b c : Bool) (l : List Check) → lowest (check 1 a ∷ check 2 b ∷ check 3 c ∷ l)
    ≡ cond (eqb (lowest (check 1 a ∷ check 2 b ∷ check 3 c ∷ [])) 0) (lowest l) (lowest (check 1 a ∷ check 2 b ∷ check 3 c ∷ []))
unfolding lowest
three true b c l = refl
three false true c l = refl
three false false true l = refl
three false false false l = refl

or_first : (a b : Bool) → (a || b) ≡ false → a ≡ false
or_first true b h = h
or_first false b h = refl

or_second : (a b : Bool) → (a || b) ≡ false → b ≡ false
or_second true true h = h
or_second true false h = refl
or_second false b h = h

module _ (index : Bool) (s t d : List ℕ) where
  number_is : (e : Edit) → edit_number index s t d e ≡ cond (eqb (first_number index s t d) 0) (lowest e.checks) (first_number index s t d)
  unfolding edit_number first_number
  number_is e = three (not (schema_length s && table_length t && delta_length d) || index) (broken s) (not (well_formed s t)) e.checks

  -- one of them applies
  pub number_first : (e : Edit) (n : ℕ) → n ≡ first_number index s t d → n ≢ 0 → n ≡ edit_number index s t d e
  number_first e n q h = let z : first_number index s t d ≢ 0 = λ w. h (q ∙ w) in q ∙ sym (number_is e ∙ rw (ne_eqb (first_number index s t d) 0 z))

  -- none does
  pub number_own : (e : Edit) → 0 ≡ first_number index s t d → lowest e.checks ≡ edit_number index s t d e
  number_own e q = sym (number_is e ∙ rw (sym q))

  -- an accepted edit: none of either
  pub number_none : (e : Edit) → 0 ≡ edit_number index s t d e → (0 ≡ first_number index s t d) × (lowest e.checks ≡ 0)
  number_none e q = go (test (eqb (first_number index s t d) 0))
    where
      go : (eqb (first_number index s t d) 0 ≡ true) ⊎ (eqb (first_number index s t d) 0 ≡ false) → (0 ≡ first_number index s t d) × (lowest e.checks ≡ 0)
      go (inl h) = let z = sym (eqb-true (first_number index s t d) 0 h) in (z, number_own e z ∙ sym q)
      go (inr h) =
          let z : first_number index s t d ≢ 0 = eqb-false (first_number index s t d) 0 h in
          absurd (z (number_first e _ refl z ∙ sym q))

  pub record Entered : Type 0 where
    pub lent : schema_length s ≡ true
    pub delta : length d ≡ delta_words
    pub checked : Checked s t
    pub placed : index ≡ false

  pub entered : 0 ≡ first_number index s t d → Entered
  unfolding first_number all_of delta_length
  entered q =
      let p = passed (check 1 (not (schema_length s && table_length t && delta_length d) || index) ∷ check 2 (broken s) ∷ check 3 (not (well_formed s t)) ∷ []) refl (sym q) in
      let l = not-false (schema_length s && table_length t && delta_length d) (or_first (not (schema_length s && table_length t && delta_length d)) index p.0) in
      let k = and_left (schema_length s && table_length t) (delta_length d) l in
      record {
        lent = and_left (schema_length s) (table_length t) k;
        delta = eqb-true (length d) delta_words (and_right (schema_length s && table_length t) (delta_length d) l);
        checked = record { schema = p.1.0; long = and_right (schema_length s) (table_length t) k; formed = not-false (well_formed s t) p.1.1.0 };
        placed = or_second (not (schema_length s && table_length t && delta_length d)) index p.0;
      }

-- what `?` hands on of a refusal has its number
pub handed_number : {A : Type 0} (r : Result A Refusal) (e : Refusal) → IsErrAnd r (λ x. x ≡ e) → number_of r ≡ refusal_number e
handed_number (Ok v) e h = absurd h
handed_number (Err x) e h = ap refusal_number h

-- as the code reads them: of an index that is found bad or not, and of a refusal that the first checks answer
module _ (index : Bool) (s t d : List ℕ) (bad : Bool) (b : bad ≡ index) where
  first_is : (n : ℕ) → n ≡ first_number bad s t d → n ≡ first_number index s t d
  first_is n h = h ∙ ap (λ (i : Bool). first_number i s t d) b

  pub edit_refused : (e : Edit) (x : Refusal) → refusal_number x ≡ first_number bad s t d → refusal_number x ≡ edit_number index s t d e
  edit_refused e x h = number_first index s t d e (refusal_number x) (first_is (refusal_number x) h) (refused_above x)

  pub edit_judged : (e : Edit) → 0 ≡ first_number bad s t d → lowest e.checks ≡ edit_number index s t d e
  edit_judged e h = number_own index s t d e (first_is 0 h)

  pub edit_entered : 0 ≡ first_number bad s t d → Entered index s t d
  edit_entered h = entered index s t d (first_is 0 h)

-- a record index that is not bad is that of a record
pub index_placed : (s t : List ℕ) (i : ℕ) → Checked s t → bad_index t i ≡ false → Placed s t i
unfolding bad_index
index_placed s t i c h =
    let l = or_first (eqb i 0 || ltb (used_at t) i) (ltb (capacity_of t) i) h in
    let n : i ≢ 0 = eqb-false i 0 (or_first (eqb i 0) (ltb (used_at t) i) l) in
    record { checked = c; least = omega arith; most = ltb-false (used_at t) i (or_second (eqb i 0) (ltb (used_at t) i) l) }

-- the lowest of the three, as the code reads them
module _ (bad : Bool) (s t d : List ℕ) (ls lt ld : Bool) (es : ls ≡ schema_length s) (et : lt ≡ table_length t) (ed : ld ≡ delta_length d) where
  number_first_is : first_number bad s t d ≡ cond (not (ls && lt && ld) || bad) 1 (cond (broken s) 2 (cond (not (well_formed s t)) 3 0))
  unfolding first_number lowest
  number_first_is = rw (es, et, ed)

  pub first_length : (not (ls && lt && ld) || bad) ≡ true → 1 ≡ first_number bad s t d
  first_length h = sym (number_first_is ∙ rw h)

  pub first_judged : (not (ls && lt && ld) || bad) ≡ false → lowest (check 2 (broken s) ∷ check 3 (not (well_formed s t)) ∷ []) ≡ first_number bad s t d
  unfolding lowest
  first_judged h = sym (number_first_is ∙ rw h)

-- checks 1 to 3 of an update or a deletion, whose schema and table come back judged
pub first_placed : (s t d : List ℕ) (i : ℕ) (bad : Bool) → bad ≡ bad_index t i → 0 ≡ first_number bad s t d → (s' t' : List ℕ) → t' ≡ t → Checked s' t' → Placed s' t' i
first_placed s t d i bad b h s' t' e c =
    let n = edit_entered (bad_index t i) s t d bad b h in
    index_placed s' t' i c (ap (λ (z : List ℕ). bad_index z i) e ∙ n.placed)
