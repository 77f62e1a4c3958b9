-- An accepted deletion: what its draft needs, and the words afterwards.
-- Assumes nothing.
use Prim.Native.Nat.{ℕ}
use mathlib.Core.Path.{◌≡◌, refl, ◌∙◌, ap}
use mathlib.Core.Logic.{◌≢◌}
use mathlib.Core.Bool.{Bool, cond}
use mathlib.Core.List.{List, ◌∷◌}
use lib.Dec.{eqb}
use lib.ListN.{length}
use Rattle.answers.specs.declared.Refusal.{Refusal}
use Rattle.answers.specs.Refused.{refusal_number}
use Rattle.answers.proofs.Told.{refused_above}
use Rattle.crdt.specs.Flags.{deleted}
use Rattle.model.specs.Layout.{fields, most_records, clock_at, flag_at}
use Rattle.model.specs.Lists.{lowest}
use Rattle.model.specs.Schemas.{schema_of}
use Rattle.model.specs.Records.{Rec}
use Rattle.model.specs.Tables.{decode, encode, record_of}
use Rattle.model.specs.Merge.{merged}
use Rattle.model.specs.Edits.{flag_only, redoing, deletion_redoes, deletion}
use Rattle.model.specs.Calls.{bad_index, deletion_of, deletion_number, deletion_table, deletion_delta}
use Rattle.laws.proofs.Drafts.{deletion_drafted}
use Rattle.convergence.proofs.Tables.{narrow}
use Rattle.merge_laws.specs.Absorb.{Mergeable}
use Rattle.edit_delta.specs.Picked.{Picked, draft_of}
use Rattle.edit_delta.specs.Drafting.{ReadyToDelete}
use Rattle.edit_basics.specs.Targets.{held, Placed}
use Rattle.edit_laws.proofs.DeletionNumber.{record_here}
use Rattle.edit_laws.specs.First.{first_number}
use Rattle.edit_laws.proofs.First.{edit_refused, edit_judged, index_placed}
use Rattle.edit_laws.proofs.Redone.{deletion_few, deletion_known, deletion_apart}
use Rattle.edit_laws.proofs.Accepted.{checked_valid, fields_few, Planned, own_passed, accepted_entered, draft_ready, draft_mergeable, delta_written, table_written, table_kept, delta_kept}

-- checks 1 to 3, then its own
module _ (s t d : List ℕ) (i : ℕ) (bad : Bool) (b : bad ≡ bad_index t i) where
  pub deletion_refused : (x : Refusal) → refusal_number x ≡ first_number bad s t d → refusal_number x ≡ deletion_number s t d i
  unfolding deletion_number
  deletion_refused x h = edit_refused (bad_index t i) s t d bad b (deletion_of s t i) x h

  pub deletion_judged : 0 ≡ first_number bad s t d → lowest (deletion_of s t i).checks ≡ deletion_number s t d i
  unfolding deletion_number
  deletion_judged h = edit_judged (bad_index t i) s t d bad b (deletion_of s t i) h

-- the changed record and the redone ones
abbrev x : List ℕ → ℕ → Rec
x t i = flag_only fields (record_of t i).key (deleted (flag_at t i))

abbrev redoes : List ℕ → List ℕ → ℕ → List ℕ
redoes s t i = deletion_redoes (schema_of s) (held t) (record_of t i)

module _ (s t : List ℕ) (i : ℕ) (o : Placed s t i) where
  changed : (deletion_of s t i).changed ≡ flag_only fields (record_of t i).key (deleted (flag_at t i)) ∷ redoing fields (held t) (deletion_redoes (schema_of s) (held t) (record_of t i))
  unfolding deletion_of deletion
  changed = rw (record_here s t i o) (ap (λ (f : ℕ). flag_only fields (record_of t i).key (deleted f) ∷ redoing fields (held t) (deletion_redoes (schema_of s) (held t) (record_of t i))) flag)
    where
      flag : (record_of t i).cell.flag ≡ flag_at t i
      flag = unfold record_of in refl

  planned : lowest (deletion_of s t i).checks ≡ 0 → Planned s t (deletion_of s t i) (x t i) (redoes s t i)
  unfolding deletion_of
  planned h =
      record {
        drafted = deletion_drafted (narrow s o.checked.schema) fields_few (decode t) (checked_valid s t o.checked) i h;
        changed = changed;
        known = deletion_known s t o.checked.schema (record_of t i);
        few = deletion_few s t o.checked.schema (record_of t i);
      }

clock_stays : (s t : List ℕ) (i : ℕ) → clock_at t ≡ (deletion_of s t i).clock
unfolding deletion_of deletion decode
clock_stays s t i = refl

module _ (s t d : List ℕ) (i : ℕ) (z : 0 ≡ deletion_number s t d i) (m : List ℕ) (p : Picked t (deletion_redoes (schema_of s) (held t) (record_of t i)) m) (l : most_records ≡ length m) where
  placed : Placed s t i
  unfolding deletion_number
  placed = let n = accepted_entered (bad_index t i) s t d (deletion_of s t i) z in index_placed s t i n.checked n.placed

  plan : Planned s t (deletion_of s t i) (x t i) (redoes s t i)
  unfolding deletion_number
  plan = planned s t i placed (own_passed (bad_index t i) s t d (deletion_of s t i) z)

  pub deletion_ready : ReadyToDelete s t d i m
  unfolding deletion_number
  deletion_ready =
      record {
        ready = draft_ready (bad_index t i) s t d (deletion_of s t i) z (x t i) (redoes s t i) plan m p l;
        least = placed.least;
        most = placed.most;
        unmarked = ap (λ (n : ℕ). eqb n 1) (p.at i placed.least placed.most ∙ ap (λ (b : Bool). cond b 1 0) (deletion_apart s t placed.checked.schema (record_of t i)));
      }

  -- the draft's words
  module _ (w : List ℕ) (q : w ≡ encode (draft_of t (clock_at t) (flag_only fields (record_of t i).key (deleted (flag_at t i))) m)) where
    drawn : w ≡ encode (draft_of t (deletion_of s t i).clock (x t i) m)
    drawn = q ∙ ap (λ (c : ℕ). encode (draft_of t c (x t i) m)) (clock_stays s t i)

    pub deletion_mergeable : Mergeable t w
    unfolding deletion_number
    deletion_mergeable = draft_mergeable (bad_index t i) s t d (deletion_of s t i) z (x t i) (redoes s t i) plan m p l w drawn

    pub deletion_written : w ≡ deletion_delta s t d i
    unfolding deletion_delta deletion_number
    deletion_written = delta_written (bad_index t i) s t d (deletion_of s t i) z (x t i) (redoes s t i) plan m p l w drawn

    pub deletion_done : (u : List ℕ) → u ≡ encode (merged (decode t) (decode w)) → u ≡ deletion_table s t d i
    unfolding deletion_table deletion_number
    deletion_done u g = table_written (bad_index t i) s t d (deletion_of s t i) z (x t i) (redoes s t i) plan m p l w drawn u g

-- a refusal changes no word
pub deletion_kept : (s t d : List ℕ) (i : ℕ) (x : Refusal) → refusal_number x ≡ deletion_number s t d i → (t ≡ deletion_table s t d i) × (d ≡ deletion_delta s t d i)
unfolding deletion_table deletion_delta
deletion_kept s t d i x h =
    let r : deletion_number s t d i ≢ 0 = λ z. refused_above x (h ∙ z) in
    (table_kept (deletion_number s t d i) t d (deletion_of s t i) r, delta_kept (deletion_number s t d i) t d (deletion_of s t i) r)
