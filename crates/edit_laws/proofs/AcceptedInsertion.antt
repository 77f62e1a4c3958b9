-- An accepted insertion: what its draft needs, its label, and the words afterwards.
-- Assumes nothing.
use Prim.Native.Nat.{ℕ, ◌+◌, ◌<◌}
use mathlib.Core.Path.{◌≡◌, refl, sym, ◌∙◌, ap}
use mathlib.Core.Logic.{◌≢◌}
use mathlib.Core.Bool.{false}
use mathlib.Core.List.{List}
use lib.ListN.{length}
use borrow.Author.Tests.{ne_eqb}
use Rattle.answers.specs.declared.Refusal.{Refusal}
use Rattle.answers.specs.Refused.{refusal_number}
use Rattle.answers.proofs.Told.{refused_above}
use Rattle.answers.specs.Told.{told}
use Rattle.crdt.specs.Labels.{largest_counter}
use Rattle.model.specs.Layout.{fields, most_records, clock_at}
use Rattle.model.specs.Lists.{lowest}
use Rattle.model.specs.Schemas.{is_reference}
use Rattle.model.specs.Tables.{decode, encode}
use Rattle.model.specs.Shown.{leads}
use Rattle.model.specs.Merge.{merged}
use Rattle.model.specs.Edits.{new_label, new_record, odd, insertion}
use Rattle.model.specs.Calls.{insertion_of, insertion_number, insertion_label, insertion_table, insertion_delta}
use Rattle.laws.proofs.Drafts.{insertion_drafted}
use Rattle.convergence.proofs.Tables.{narrow}
use Rattle.merge_laws.specs.Absorb.{Mergeable}
use Rattle.judged.specs.Checked.{Checked}
use Rattle.edit_delta.specs.Picked.{Picked, draft_of}
use Rattle.edit_delta.specs.Drafting.{ReadyToInsert}
use Rattle.edit_basics.specs.Targets.{kinds_of, bare, held}
use Rattle.edit_laws.proofs.InsertionNumber.{Accepted, accepted}
use Rattle.edit_laws.specs.First.{first_number}
use Rattle.edit_laws.proofs.First.{edit_refused, edit_judged}
use Rattle.edit_laws.proofs.Redone.{odd_known, insertion_few}
use Rattle.edit_laws.proofs.Accepted.{checked_valid, fields_few, Planned, own_passed, accepted_entered, draft_ready, draft_mergeable, delta_written, table_written, table_kept, delta_kept}

-- checks 1 to 3, then its own
module _ (s t d : List ℕ) (r : ℕ) (vs : List ℕ) where
  pub insertion_refused : (x : Refusal) → refusal_number x ≡ first_number false s t d → refusal_number x ≡ insertion_number s t d r vs
  unfolding insertion_number
  insertion_refused x h = edit_refused false s t d false refl (insertion_of s t r vs) x h

  pub insertion_judged : 0 ≡ first_number false s t d → lowest (insertion_of s t r vs).checks ≡ insertion_number s t d r vs
  unfolding insertion_number
  insertion_judged h = edit_judged false s t d false refl (insertion_of s t r vs) h

-- the redone records
abbrev redoes : List ℕ → List ℕ → ℕ → List ℕ → List ℕ
redoes s t r vs = odd (held t) (leads is_reference (kinds_of s r) (bare vs))

planned : (s t : List ℕ) (r : ℕ) (vs : List ℕ) (c : Checked s t) → lowest (insertion_of s t r vs).checks ≡ 0 → Planned s t (insertion_of s t r vs) (new_record fields (decode t) r vs) (redoes s t r vs)
unfolding insertion_of
planned s t r vs c h =
    let a = accepted s t c r vs h in
    record {
      drafted = insertion_drafted (narrow s c.schema) fields_few (decode t) (checked_valid s t c) r vs h;
      changed = a.changed_are;
      known = odd_known t (leads is_reference (kinds_of s r) (bare vs));
      few = insertion_few s t c.schema r (bare vs) a.least a.most;
    }

clock_rises : (s t : List ℕ) (r : ℕ) (vs : List ℕ) → clock_at t + 1 ≡ (insertion_of s t r vs).clock
unfolding insertion_of insertion decode
clock_rises s t r vs = refl

module _ (s t d : List ℕ) (r : ℕ) (vs : List ℕ) (z : 0 ≡ insertion_number s t d r vs) where
  checked : Checked s t
  unfolding insertion_number
  checked = (accepted_entered false s t d (insertion_of s t r vs) z).checked

  own : lowest (insertion_of s t r vs).checks ≡ 0
  unfolding insertion_number
  own = own_passed false s t d (insertion_of s t r vs) z

  facts : Accepted s t r vs
  facts = accepted s t checked r vs own

  plan : Planned s t (insertion_of s t r vs) (new_record fields (decode t) r vs) (redoes s t r vs)
  plan = planned s t r vs checked own

  -- "the new label is clock + 1 with the own replica number"
  pub insertion_clock : clock_at t < largest_counter
  insertion_clock = facts.clock

  pub insertion_told_lem : (l : ℕ) → l ≡ new_label (decode t) → told 0 l ≡ told (insertion_number s t d r vs) (insertion_label s t d r vs)
  unfolding insertion_label insertion_of insertion
  insertion_told_lem l e = rw (sym z) (ap (λ (n : ℕ). told 0 n) e)

  module _ (m : List ℕ) (p : Picked t (odd (held t) (leads is_reference (kinds_of s r) (bare vs))) m) (l : most_records ≡ length m) where
    pub insertion_ready : ReadyToInsert s t d r vs m
    unfolding insertion_number
    insertion_ready =
        record {
          ready = draft_ready false s t d (insertion_of s t r vs) z (new_record fields (decode t) r vs) (redoes s t r vs) plan m p l;
          clock = facts.clock;
          least = facts.least;
          most = facts.known;
          count = facts.few;
        }

    -- the draft's words
    module _ (w : List ℕ) (q : w ≡ encode (draft_of t (clock_at t + 1) (new_record fields (decode t) r vs) m)) where
      drawn : w ≡ encode (draft_of t (insertion_of s t r vs).clock (new_record fields (decode t) r vs) m)
      drawn = q ∙ ap (λ (c : ℕ). encode (draft_of t c (new_record fields (decode t) r vs) m)) (clock_rises s t r vs)

      pub insertion_mergeable : Mergeable t w
      unfolding insertion_number
      insertion_mergeable = draft_mergeable false s t d (insertion_of s t r vs) z (new_record fields (decode t) r vs) (redoes s t r vs) plan m p l w drawn

      pub insertion_written : w ≡ insertion_delta s t d r vs
      unfolding insertion_delta insertion_number
      insertion_written = delta_written false s t d (insertion_of s t r vs) z (new_record fields (decode t) r vs) (redoes s t r vs) plan m p l w drawn

      pub insertion_done : (u : List ℕ) → u ≡ encode (merged (decode t) (decode w)) → u ≡ insertion_table s t d r vs
      unfolding insertion_table insertion_number
      insertion_done u g = table_written false s t d (insertion_of s t r vs) z (new_record fields (decode t) r vs) (redoes s t r vs) plan m p l w drawn u g

-- a refusal changes no word, and its label is 0
module _ (s t d : List ℕ) (r : ℕ) (vs : List ℕ) (x : Refusal) (h : refusal_number x ≡ insertion_number s t d r vs) where
  refused : insertion_number s t d r vs ≢ 0
  refused z = refused_above x (h ∙ z)

  pub insertion_unlabelled : told (refusal_number x) 0 ≡ told (insertion_number s t d r vs) (insertion_label s t d r vs)
  unfolding insertion_label
  insertion_unlabelled = ap (λ n. told n 0) h ∙ rw (ne_eqb (insertion_number s t d r vs) 0 refused)

  pub insertion_kept : (t ≡ insertion_table s t d r vs) × (d ≡ insertion_delta s t d r vs)
  unfolding insertion_table insertion_delta
  insertion_kept = (table_kept (insertion_number s t d r vs) t d (insertion_of s t r vs) refused, delta_kept (insertion_number s t d r vs) t d (insertion_of s t r vs) refused)
