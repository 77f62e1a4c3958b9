-- An accepted edit of one changed record and redone ones: what its draft needs, that the delta may be merged into the table, and the words
-- afterwards. A refused edit keeps all words.
-- Assumes nothing.
use Prim.Native.Nat.{ℕ, ◌≤◌, ◌<◌}
use mathlib.Core.Path.{◌≡◌, sym, ◌∙◌, ap}
use mathlib.Core.Logic.{◌≢◌}
use mathlib.Core.Bool.{Bool, true}
use mathlib.Core.List.{List, ◌∷◌}
use native.Mathlib.Omega.{arith}
use lib.ListN.{length}
use borrow.Author.Tests.{ne_eqb}
use Rattle.model.specs.Layout.{fields, most_records, used_at}
use Rattle.model.specs.Lists.{lowest}
use Rattle.model.specs.Schemas.{schema_of}
use Rattle.model.specs.Records.{Rec, has}
use Rattle.model.specs.Tables.{Table, decode, encode}
use Rattle.model.specs.Merge.{merged}
use Rattle.model.specs.Edits.{Edit, delta_of, edited_by, redoing}
use Rattle.model.specs.Calls.{edit_number, edit_table, edit_delta}
use Rattle.laws.proofs.Lists.{◌∈◌}
use Rattle.laws.proofs.Valid.{Valid, valid_true, true_valid}
use Rattle.laws.proofs.Drafts.{Drafted}
use Rattle.wellformed.proofs.Words.{decode_encode}
use Rattle.wellformed.proofs.Formed.{relations_within, schema_length_lem}
use Rattle.wellformed.proofs.Values.{formed_valid}
use Rattle.merge_laws.specs.Absorb.{Mergeable}
use Rattle.merge_laws.proofs.Wholes.{valid_whole, formed_whole}
use Rattle.judged.specs.Checked.{Checked}
use Rattle.references.proofs.Places.{used_most, recs_distinct}
use Rattle.edit_delta.specs.Picked.{Picked, draft_of}
use Rattle.edit_delta.specs.Drafting.{Ready}
use Rattle.edit_delta.proofs.Picks.{draft_delta}
use Rattle.edit_delta.proofs.Few.{picked_few}
use Rattle.edit_basics.specs.Targets.{held}
use Rattle.edit_laws.specs.First.{first_number}
use Rattle.edit_laws.proofs.First.{number_none, Entered, entered}

pub checked_valid : (s t : List ℕ) → Checked s t → Valid fields (schema_of s) (decode t)
checked_valid s t c = valid_true fields (schema_of s) (decode t) (formed_valid s t c.schema c.long c.formed)

pub fields_few : fields < most_records
fields_few = omega arith

-- what an accepted edit changes: record x, and the redone records of the keys ks
pub record Planned (s t : List ℕ) (e : Edit) (x : Rec) (ks : List ℕ) : Type 0 where
  pub drafted : Drafted fields (schema_of s) (decode t) e
  pub changed : e.changed ≡ x ∷ redoing fields (held t) ks
  pub known : (k : ℕ) → k ∈ ks → has (decode t).records k ≡ true
  pub few : length ks ≤ fields

-- an accepted edit
module _ (index : Bool) (s t d : List ℕ) (e : Edit) (z : 0 ≡ edit_number index s t d e) where
  none : (0 ≡ first_number index s t d) × (lowest e.checks ≡ 0)
  none = number_none index s t d e z

  pub own_passed : lowest e.checks ≡ 0
  own_passed = none.1

  pub accepted_entered : Entered index s t d
  accepted_entered = entered index s t d none.0

  checked : Checked s t
  checked = accepted_entered.checked

  -- its plan, and the marks of the redone records
  module _ (x : Rec) (ks : List ℕ) (n : Planned s t e x ks) (m : List ℕ) (p : Picked t ks m) (l : most_records ≡ length m) where
    room : used_at t ≤ length m
    room = omega (arith, used_most s t checked)

    pub draft_ready : Ready s t d m
    draft_ready =
        record {
          schema = checked.schema;
          table = checked.long;
          formed = checked.formed;
          delta = accepted_entered.delta;
          marks = room;
          few = omega (arith, picked_few t ks m p n.known room (recs_distinct s t checked), n.few);
        }

    -- the draft's words
    module _ (w : List ℕ) (q : w ≡ encode (draft_of t e.clock x m)) where
      words : w ≡ encode (delta_of fields (decode t) e)
      words = q ∙ ap encode (sym (draft_delta t e x ks m n.changed p n.known room))

      value : decode w ≡ delta_of fields (decode t) e
      value = ap decode words ∙ decode_encode (schema_of s) (delta_of fields (decode t) e) (true_valid fields (schema_of s) (delta_of fields (decode t) e) n.drafted.delta)

      pub draft_mergeable : Mergeable t w
      draft_mergeable =
          record {
            own = formed_whole s t checked.schema checked.long checked.formed;
            other = rw words (valid_whole (schema_of s) (delta_of fields (decode t) e) (omega (arith, schema_length_lem s, relations_within s checked.schema)) (true_valid fields (schema_of s) (delta_of fields (decode t) e) n.drafted.delta));
            room = rw value n.drafted.fits;
          }

      pub delta_written : w ≡ edit_delta (edit_number index s t d e) t d e
      unfolding edit_delta
      delta_written = words ∙ rw (sym z)

      pub table_written : (u : List ℕ) → u ≡ encode (merged (decode t) (decode w)) → u ≡ edit_table (edit_number index s t d e) t e
      unfolding edit_table edited_by
      table_written u g = g ∙ ap (λ (v : Table). encode (merged (decode t) v)) value ∙ rw (sym z)

-- a refused edit
module _ (n : ℕ) (t d : List ℕ) (e : Edit) (h : n ≢ 0) where
  pub table_kept : t ≡ edit_table n t e
  unfolding edit_table
  table_kept = rw (ne_eqb n 0 h)

  pub delta_kept : d ≡ edit_delta n t d e
  unfolding edit_delta
  delta_kept = rw (ne_eqb n 0 h)
