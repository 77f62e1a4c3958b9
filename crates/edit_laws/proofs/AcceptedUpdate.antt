-- An accepted update: what its draft needs, and the words afterwards.
-- Assumes nothing.
use Prim.Native.Nat.{ℕ, ◌+◌, ◌-◌, ◌≤◌, ◌<◌}
use mathlib.Core.Path.{◌≡◌, refl, ◌∙◌, ap}
use mathlib.Core.Logic.{◌≢◌}
use mathlib.Core.Bool.{Bool, ◌&&◌}
use mathlib.Core.List.{List, ◌∷◌}
use native.Mathlib.Omega.{arith}
use lib.Dec.{leb}
use lib.ListN.{length, get_or}
use borrow.Author.Tests.{eqb-false, leb-true, not-false}
use Rattle.answers.specs.declared.Refusal.{Refusal}
use Rattle.answers.specs.Refused.{refusal_number}
use Rattle.answers.proofs.Told.{refused_above}
use Rattle.crdt.specs.Labels.{largest_counter}
use Rattle.crdt.specs.Cells.{Reg, reg, no_reg}
use Rattle.crdt.proofs.Tests.{and_left, and_right}
use Rattle.model.specs.Layout.{fields, most_records, clock_at, relation_at, value_at, stamp_at, field_count, kind_at}
use Rattle.model.specs.Lists.{all_of, lowest}
use Rattle.model.specs.Schemas.{schema_of}
use Rattle.model.specs.Records.{Rec}
use Rattle.model.specs.Tables.{decode, encode, record_of}
use Rattle.model.specs.Shown.{described}
use Rattle.model.specs.Merge.{merged}
use Rattle.model.specs.Edits.{new_label, value_rule, flag_only, with_register, register_at, redoing, record_at, update_redoes, update}
use Rattle.model.specs.Calls.{bad_index, update_of, update_number, update_table, update_delta}
use Rattle.laws.proofs.Checks.{passed}
use Rattle.laws.proofs.Drafts.{update_drafted}
use Rattle.wellformed.proofs.Ranges.{listed_at, listed_length}
use Rattle.convergence.proofs.Tables.{narrow}
use Rattle.merge_laws.specs.Absorb.{Mergeable}
use Rattle.references.proofs.Places.{fields_most}
use Rattle.edit_delta.specs.Picked.{Picked, draft_of}
use Rattle.edit_delta.specs.Drafting.{ReadyToUpdate}
use Rattle.edit_basics.specs.Targets.{held, Placed}
use Rattle.edit_laws.proofs.Clash.{kinds_here}
use Rattle.edit_laws.proofs.DeletionNumber.{record_here}
use Rattle.edit_laws.specs.First.{first_number}
use Rattle.edit_laws.proofs.First.{edit_refused, edit_judged, index_placed}
use Rattle.edit_laws.proofs.Redone.{update_few, update_known}
use Rattle.edit_laws.proofs.Accepted.{checked_valid, fields_few, Planned, own_passed, accepted_entered, draft_ready, draft_mergeable, delta_written, table_written, table_kept, delta_kept}

-- checks 1 to 3, then its own
module _ (s t d : List ℕ) (i f new : ℕ) (bad : Bool) (b : bad ≡ bad_index t i) where
  pub update_refused : (x : Refusal) → refusal_number x ≡ first_number bad s t d → refusal_number x ≡ update_number s t d i f new
  unfolding update_number
  update_refused x h = edit_refused (bad_index t i) s t d bad b (update_of s t i f new) x h

  pub update_judged : 0 ≡ first_number bad s t d → lowest (update_of s t i f new).checks ≡ update_number s t d i f new
  unfolding update_number
  update_judged h = edit_judged (bad_index t i) s t d bad b (update_of s t i f new) h

-- what its own checks say of the field and of the clock
record Fielded (s t : List ℕ) (i f : ℕ) : Type 0 where
  first : 1 ≤ f
  last : f ≤ field_count s (relation_at t i)
  clock : clock_at t < largest_counter

-- the changed record and the redone ones
abbrev x : List ℕ → ℕ → ℕ → ℕ → Rec
x t i f new = with_register (flag_only fields (record_of t i).key 0) f (reg new (new_label (decode t)))

abbrev redoes : List ℕ → List ℕ → ℕ → ℕ → ℕ → List ℕ
redoes s t i f new = update_redoes (schema_of s) (held t) (record_of t i) (kind_at s (relation_at t i) f) (value_at t i f) new

module _ (s t : List ℕ) (i f new : ℕ) (o : Placed s t i) (h : lowest (update_of s t i f new).checks ≡ 0) where
  clock_is : (decode t).clock ≡ clock_at t
  unfolding decode
  clock_is = refl

  kinds_count : length (described (schema_of s) (record_of t i)).kinds ≡ field_count s (relation_at t i)
  kinds_count = ap length (kinds_here s t i o) ∙ listed_length (field_count s (relation_at t i)) (kind_at s (relation_at t i))

  kinds_at : length (described (schema_of s) (record_at (decode t) i)).kinds ≡ field_count s (relation_at t i)
  kinds_at = ap (λ (y : Rec). length (described (schema_of s) y).kinds) (record_here s t i o) ∙ kinds_count

  fielded : Fielded s t i f
  unfolding update_of update all_of
  fielded =
      let p = passed _ refl h in
      let ks = (described (schema_of s) (record_at (decode t) i)).kinds in
      let q = not-false (leb 1 f && leb f (length ks) && value_rule (get_or ks (f - 1) 0) new) p.1.0 in
      let r = and_left (leb 1 f && leb f (length ks)) _ q in
      let c : (decode t).clock ≢ largest_counter = eqb-false (decode t).clock largest_counter p.1.1.1.1.0 in
      record {
        first = leb-true 1 f (and_left (leb 1 f) _ r);
        last = omega (arith, leb-true f (length ks) (and_right (leb 1 f) _ r), kinds_at);
        clock = omega (arith, clock_is, (checked_valid s t o.checked).clock);
      }

  kind_here : get_or (described (schema_of s) (record_of t i)).kinds (f - 1) 0 ≡ kind_at s (relation_at t i) f
  kind_here = ap (λ (ks : List ℕ). get_or ks (f - 1) 0) (kinds_here s t i o) ∙ listed_at (field_count s (relation_at t i)) (kind_at s (relation_at t i)) f 0 fielded.first fielded.last

  field_most : f ≤ fields
  field_most = omega (arith, fielded.last, fields_most s t o.checked i o.least o.most)

  old_here : (register_at (record_of t i) f).value ≡ value_at t i f
  unfolding register_at record_of
  old_here = ap (λ (g : Reg). g.value) (listed_at fields (λ j. reg (value_at t i j) (stamp_at t i j)) f no_reg fielded.first field_most)

  changed : (update_of s t i f new).changed ≡ with_register (flag_only fields (record_of t i).key 0) f (reg new (new_label (decode t))) ∷ redoing fields (held t) (update_redoes (schema_of s) (held t) (record_of t i) (kind_at s (relation_at t i) f) (value_at t i f) new)
  unfolding update_of update
  changed = rw (record_here s t i o, kind_here, old_here)

  planned : Planned s t (update_of s t i f new) (x t i f new) (redoes s t i f new)
  unfolding update_of
  planned =
      record {
        drafted = update_drafted (narrow s o.checked.schema) fields_few (decode t) (checked_valid s t o.checked) (omega arith) i f new h;
        changed = changed;
        known = update_known s t o.checked.schema (record_of t i) (kind_at s (relation_at t i) f) (value_at t i f) new;
        few = update_few s t o.checked.schema (record_of t i) (kind_at s (relation_at t i) f) (value_at t i f) new;
      }

clock_rises : (s t : List ℕ) (i f new : ℕ) → clock_at t + 1 ≡ (update_of s t i f new).clock
unfolding update_of update decode
clock_rises s t i f new = refl

module _ (s t d : List ℕ) (i f new : ℕ) (z : 0 ≡ update_number s t d i f new) (m : List ℕ)
    (p : Picked t (update_redoes (schema_of s) (held t) (record_of t i) (kind_at s (relation_at t i) f) (value_at t i f) new) m) (l : most_records ≡ length m) where
  placed : Placed s t i
  unfolding update_number
  placed = let n = accepted_entered (bad_index t i) s t d (update_of s t i f new) z in index_placed s t i n.checked n.placed

  own : lowest (update_of s t i f new).checks ≡ 0
  unfolding update_number
  own = own_passed (bad_index t i) s t d (update_of s t i f new) z

  plan : Planned s t (update_of s t i f new) (x t i f new) (redoes s t i f new)
  plan = planned s t i f new placed own

  pub update_ready : ReadyToUpdate s t d i f m
  unfolding update_number
  update_ready =
      let n = fielded s t i f new placed own in
      record {
        ready = draft_ready (bad_index t i) s t d (update_of s t i f new) z (x t i f new) (redoes s t i f new) plan m p l;
        clock = n.clock;
        least = placed.least;
        most = placed.most;
        first = n.first;
        last = field_most s t i f new placed own;
      }

  -- the draft's words
  module _ (w : List ℕ) (q : w ≡ encode (draft_of t (clock_at t + 1) (with_register (flag_only fields (record_of t i).key 0) f (reg new (new_label (decode t)))) m)) where
    drawn : w ≡ encode (draft_of t (update_of s t i f new).clock (x t i f new) m)
    drawn = q ∙ ap (λ (c : ℕ). encode (draft_of t c (x t i f new) m)) (clock_rises s t i f new)

    pub update_mergeable : Mergeable t w
    unfolding update_number
    update_mergeable = draft_mergeable (bad_index t i) s t d (update_of s t i f new) z (x t i f new) (redoes s t i f new) plan m p l w drawn

    pub update_written : w ≡ update_delta s t d i f new
    unfolding update_delta update_number
    update_written = delta_written (bad_index t i) s t d (update_of s t i f new) z (x t i f new) (redoes s t i f new) plan m p l w drawn

    pub update_done : (u : List ℕ) → u ≡ encode (merged (decode t) (decode w)) → u ≡ update_table s t d i f new
    unfolding update_table update_number
    update_done u g = table_written (bad_index t i) s t d (update_of s t i f new) z (x t i f new) (redoes s t i f new) plan m p l w drawn u g

-- a refusal changes no word
pub update_kept : (s t d : List ℕ) (i f new : ℕ) (x : Refusal) → refusal_number x ≡ update_number s t d i f new → (t ≡ update_table s t d i f new) × (d ≡ update_delta s t d i f new)
unfolding update_table update_delta
update_kept s t d i f new x h =
    let r : update_number s t d i f new ≢ 0 = λ z. refused_above x (h ∙ z) in
    (table_kept (update_number s t d i f new) t d (update_of s t i f new) r, delta_kept (update_number s t d i f new) t d (update_of s t i f new) r)
