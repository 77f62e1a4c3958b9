-- An accepted edit of words: table and delta afterwards are good, and the table holds what it held joined with what the delta holds.
-- Assumes nothing.
use Prim.Native.Nat.{ℕ, ◌≤◌, ◌<◌}
use mathlib.Core.Path.{◌≡◌, refl, sym, ◌∙◌, ap}
use mathlib.Core.Bool.{Bool, true, false, not}
use mathlib.Core.List.{List, [], ◌∷◌}
use native.Mathlib.Omega.{arith}
use lib.ListN.{length}
use Rattle.model.specs.Layout.{fields, most_records}
use Rattle.model.specs.Lists.{all_of, lowest}
use Rattle.model.specs.Schemas.{schema_of}
use Rattle.model.specs.Records.{Rec, in_order, join}
use Rattle.model.specs.Tables.{Table, decode, encode}
use Rattle.model.specs.Merge.{merged_records, merged}
use Rattle.model.specs.Edits.{Edit, delta_of, insertion, update, deletion}
use Rattle.model.specs.Calls.{bad_index, edit_number, edit_table, edit_delta, merge_number, merge_table, insertion_of, insertion_number, insertion_table, insertion_delta, update_of, update_number, update_table, update_delta, deletion_of, deletion_number, deletion_table, deletion_delta}
use Rattle.laws.proofs.Merge.{order_merged}
use Rattle.laws.proofs.Valid.{Valid}
use Rattle.laws.proofs.Checks.{numbered}
use Rattle.laws.proofs.Drafts.{Drafted, insertion_drafted, update_drafted, deletion_drafted}
use Rattle.convergence.proofs.Tables.{Good, good_valid, good_encoded, narrow, Merging, fits, full, merging, Left, edit_good, edit_left}
use Rattle.convergence.proofs.Laws.{held}

pub record Edited (s t w d : List ℕ) : Type 0 where
  pub table : Good s w
  pub delta : Good s d
  pub holds : held w ≡ join (held t) (held d)

-- "The own table afterwards equals its merge with the delta", which answers 0
pub record Equals (s t w d : List ℕ) : Type 0 where
  pub number : merge_number s t d ≡ 0
  pub words : merge_table s t d ≡ w

module _ (index : Bool) (s t d : List ℕ) (e : Edit) (g : Good s t) (f : Drafted fields (schema_of s) (decode t) e) (h : edit_number index s t d e ≡ 0) where
  edited : Edited s t (edit_table (edit_number index s t d e) t e) (edit_delta (edit_number index s t d e) t d e)
  unfolding held merged
  edited =
      let l = edit_left index s t d e g f h in
      record {
        table = l.0.good;
        delta = l.1.good;
        holds =
            ap (λ (v : Table). in_order v.records) l.0.value ∙ order_merged (decode t).records (delta_of fields (decode t) e).records
            ∙ ap (λ (v : Table). join (in_order (decode t).records) (in_order v.records)) (sym l.1.value);
      }

  -- the merge with the delta answers 0 and leaves the same words
  equals : Equals s t (edit_table (edit_number index s t d e) t e) (edit_delta (edit_number index s t d e) t d e)
  equals = go (merging s t (edit_delta (edit_number index s t d e) t d e) g l.1.good)
    where
      l : Left s (edit_table (edit_number index s t d e) t e) (merged (decode t) (delta_of fields (decode t) e)) × Left s (edit_delta (edit_number index s t d e) t d e) (delta_of fields (decode t) e)
      l = edit_left index s t d e g f h

      value : encode (merged (decode t) (delta_of fields (decode t) e)) ≡ edit_table (edit_number index s t d e) t e
      value = ap encode (sym l.0.value) ∙ good_encoded s _ l.0.good

      room : length (merged_records (decode t).records (decode (edit_delta (edit_number index s t d e) t d e)).records) ≤ (decode t).capacity
      room = rw l.1.value f.fits

      go : Merging s t (edit_delta (edit_number index s t d e) t d e) → Equals s t (edit_table (edit_number index s t d e) t e) (edit_delta (edit_number index s t d e) t d e)
      go (fits n e' r) = record { number = n; words = e' ∙ ap (λ (v : Table). encode (merged (decode t) v)) l.1.value ∙ value }
      go (full n e' r) = absurd (omega (arith, room))

insertion_checks : (s t : List ℕ) (r : ℕ) (vs : List ℕ) → all_of numbered (insertion_of s t r vs).checks ≡ true
unfolding insertion_of insertion all_of
insertion_checks s t r vs = refl

update_checks : (s t : List ℕ) (i f new : ℕ) → all_of numbered (update_of s t i f new).checks ≡ true
unfolding update_of update all_of
update_checks s t i f new = refl

deletion_checks : (s t : List ℕ) (i : ℕ) → all_of numbered (deletion_of s t i).checks ≡ true
unfolding deletion_of deletion all_of
deletion_checks s t i = refl

few : fields < most_records
few = omega arith

insertion_draft : (s t : List ℕ) (r : ℕ) (vs : List ℕ) → Good s t → lowest (insertion_of s t r vs).checks ≡ 0 → Drafted fields (schema_of s) (decode t) (insertion_of s t r vs)
unfolding insertion_of
insertion_draft s t r vs g h = insertion_drafted (narrow s g.sound) few (decode t) (good_valid s t g) r vs h

update_draft : (s t : List ℕ) (i f new : ℕ) → Good s t → lowest (update_of s t i f new).checks ≡ 0 → Drafted fields (schema_of s) (decode t) (update_of s t i f new)
unfolding update_of
update_draft s t i f new g h = update_drafted (narrow s g.sound) few (decode t) (good_valid s t g) (omega arith) i f new h

deletion_draft : (s t : List ℕ) (i : ℕ) → Good s t → lowest (deletion_of s t i).checks ≡ 0 → Drafted fields (schema_of s) (decode t) (deletion_of s t i)
unfolding deletion_of
deletion_draft s t i g h = deletion_drafted (narrow s g.sound) few (decode t) (good_valid s t g) i h

pub insertion_edited : (s t d : List ℕ) (r : ℕ) (vs : List ℕ) → insertion_number s t d r vs ≡ 0 → Edited s t (insertion_table s t d r vs) (insertion_delta s t d r vs)
unfolding insertion_number insertion_table insertion_delta
insertion_edited s t d r vs h =
    let g = edit_good false s t d (insertion_of s t r vs) (insertion_checks s t r vs) h in
    edited false s t d (insertion_of s t r vs) g.0 (insertion_draft s t r vs g.0 g.1) h

pub update_edited : (s t d : List ℕ) (i f new : ℕ) → update_number s t d i f new ≡ 0 → Edited s t (update_table s t d i f new) (update_delta s t d i f new)
unfolding update_number update_table update_delta
update_edited s t d i f new h =
    let g = edit_good (bad_index t i) s t d (update_of s t i f new) (update_checks s t i f new) h in
    edited (bad_index t i) s t d (update_of s t i f new) g.0 (update_draft s t i f new g.0 g.1) h

pub deletion_edited : (s t d : List ℕ) (i : ℕ) → deletion_number s t d i ≡ 0 → Edited s t (deletion_table s t d i) (deletion_delta s t d i)
unfolding deletion_number deletion_table deletion_delta
deletion_edited s t d i h =
    let g = edit_good (bad_index t i) s t d (deletion_of s t i) (deletion_checks s t i) h in
    edited (bad_index t i) s t d (deletion_of s t i) g.0 (deletion_draft s t i g.0 g.1) h

pub insertion_equals : (s t d : List ℕ) (r : ℕ) (vs : List ℕ) → insertion_number s t d r vs ≡ 0 → Equals s t (insertion_table s t d r vs) (insertion_delta s t d r vs)
unfolding insertion_number insertion_table insertion_delta
insertion_equals s t d r vs h =
    let g = edit_good false s t d (insertion_of s t r vs) (insertion_checks s t r vs) h in
    equals false s t d (insertion_of s t r vs) g.0 (insertion_draft s t r vs g.0 g.1) h

pub update_equals : (s t d : List ℕ) (i f new : ℕ) → update_number s t d i f new ≡ 0 → Equals s t (update_table s t d i f new) (update_delta s t d i f new)
unfolding update_number update_table update_delta
update_equals s t d i f new h =
    let g = edit_good (bad_index t i) s t d (update_of s t i f new) (update_checks s t i f new) h in
    equals (bad_index t i) s t d (update_of s t i f new) g.0 (update_draft s t i f new g.0 g.1) h

pub deletion_equals : (s t d : List ℕ) (i : ℕ) → deletion_number s t d i ≡ 0 → Equals s t (deletion_table s t d i) (deletion_delta s t d i)
unfolding deletion_number deletion_table deletion_delta
deletion_equals s t d i h =
    let g = edit_good (bad_index t i) s t d (deletion_of s t i) (deletion_checks s t i) h in
    equals (bad_index t i) s t d (deletion_of s t i) g.0 (deletion_draft s t i g.0 g.1) h
