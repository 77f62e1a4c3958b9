-- An accepted insertion: the words of its table afterwards.
-- Assumes nothing.
use Prim.Native.Nat.{ℕ, zero, suc, ◌+◌, ◌-◌, ◌/◌, ◌%◌, ◌≤◌, ◌<◌}
use mathlib.Core.Path.{◌≡◌, refl, sym, ◌∙◌, ap}
use mathlib.Core.Bool.{true, false, ◌&&◌}
use mathlib.Core.List.{List, [], ◌∷◌}
use mathlib.Core.Logic.{◌⊎◌, inl, inr}
use mathlib.Core.Option.{none}
use native.Mathlib.Omega.{arith}
use lib.Dec.{leb}
use lib.ListN.{length, get_or}
use borrow.Author.Tests.{eqb-false, leb-true, not-false as unnot}
use Rattle.crdt.specs.Labels.{largest_counter, is_label, counter_of}
use Rattle.crdt.specs.Cells.{Reg, reg, no_reg}
use Rattle.crdt.proofs.Tests.{test, and_left, and_right}
use Rattle.model.specs.Layout.{fields, relations, field_count, kind_at, replica_at, clock_at, used_at, flag_at}
use Rattle.model.specs.Lists.{only, all_of, lowest}
use Rattle.model.specs.Schemas.{Relation, no_relation, is_reference, relation_of, schema_of, relation_numbered}
use Rattle.model.specs.Records.{Rec, label_span, place, relation, label, has, own, at, in_order}
use Rattle.model.specs.Tables.{decode, record_of}
use Rattle.model.specs.Shown.{targets, references}
use Rattle.model.specs.Merge.{merged_records, merged}
use Rattle.model.specs.Edits.{delta_of, new_label, odd, redoing, spent, new_record, insertion}
use Rattle.model.specs.Calls.{insertion_of, insertion_number, insertion_label, insertion_table, edit_number, edit_table}
use Rattle.laws.proofs.Shown.{has_in}
use Rattle.laws.proofs.Join.{own_other}
use Rattle.laws.proofs.Order.{order_rising}
use Rattle.laws.proofs.Members.{order_rising_same}
use Rattle.laws.proofs.Merge.{new}
use Rattle.laws.proofs.Checks.{passed, numbered}
use Rattle.laws.proofs.Fields.{label_below, place_relation, place_label, new_label_lem, new_counter, values_length, stamped_by}
use Rattle.laws.proofs.Drafts.{Drafted, insertion_drafted}
use Rattle.wellformed.proofs.Ranges.{listed_length, listed_at}
use Rattle.wellformed.proofs.Follow.{record_at}
use Rattle.wellformed.proofs.Formed.{schema_length_lem}
use Rattle.convergence.proofs.Tables.{Good, good_valid, narrow, Left, edit_good, edit_left}
use Rattle.effects.specs.Effects.{key_at, next_label, Redone, Kept, Fresh, insertion_due, Inserted}
use Rattle.effects.proofs.Joins.{none_at, reg_none}
use Rattle.effects.proofs.Words.{used_is, record_is, Reads, reads}
use Rattle.effects.proofs.Positions.{merged_size, added_at, one_new, redone_old}
use Rattle.effects.proofs.Changes.{clock_is, replica_is, next_is, held_valid, redoes, Changed, after_records, after_clock, after_replica, after_size, after_changed}

-- the registers of the new record
stamped_at : (l : ℕ) (vs : List ℕ) (n j : ℕ) → j < length vs → get_or (stamped_by l vs n) j no_reg ≡ reg (get_or vs j 0) l
stamped_at l [] n j h = absurd (omega arith)
stamped_at l (v ∷ vs) n zero h = refl
stamped_at l (v ∷ vs) n (suc j) h = stamped_at l vs n j (omega arith)

stamped_past : (l : ℕ) (vs : List ℕ) (n j : ℕ) → length vs ≤ j → get_or (stamped_by l vs n) j no_reg ≡ no_reg
stamped_past l [] n j h = none_at n j
stamped_past l (v ∷ vs) n zero h = absurd (omega arith)
stamped_past l (v ∷ vs) n (suc j) h = stamped_past l vs n j (omega arith)

kinds_count : (s : List ℕ) (r : ℕ) → 1 ≤ r → r ≤ relations s → length (relation_numbered (schema_of s) r).kinds ≡ field_count s r
unfolding relation_numbered schema_of relation_of
kinds_count s r a b = ap (λ (q : Relation). length q.kinds) (listed_at (relations s) (relation_of s) r no_relation a b) ∙ listed_length (field_count s r) (kind_at s r)

-- what the checks say
record Checked (s t : List ℕ) (r : ℕ) (vs : List ℕ) : Type 0 where
  least : 1 ≤ r
  most : r ≤ relations s
  count : length vs ≡ field_count s r
  clock : clock_at t + 1 ≤ largest_counter
  free : spent (in_order (decode t).records) (odd (in_order (decode t).records) (targets (schema_of s) is_reference (new_record fields (decode t) r vs))) ≡ false

checked : (s t : List ℕ) (r : ℕ) (vs : List ℕ) → Good s t → lowest (insertion_of s t r vs).checks ≡ 0 → Checked s t r vs
unfolding insertion_of insertion all_of
checked s t r vs g h =
    let p = passed _ refl h in
    let σ = schema_of s in
    let rel = unnot (leb 1 r && leb r (length σ)) p.0 in
    let a : 1 ≤ r = leb-true 1 r (and_left (leb 1 r) _ rel) in
    let b : r ≤ length σ = leb-true r (length σ) (and_right (leb 1 r) _ rel) in
    let b' : r ≤ relations s = omega (arith, schema_length_lem s) in
    let n : (decode t).clock ≡ largest_counter → ⊥ = eqb-false _ _ p.1.1.1.1.1.0 in
    record {
      least = a;
      most = b';
      count = values_length _ vs (unnot _ p.1.0) ∙ kinds_count s r a b';
      clock = omega (arith, clock_is t, (good_valid s t g).clock);
      free = p.1.1.1.1.1.1.0;
    }

module _ (s t t' : List ℕ) (r : ℕ) (vs : List ℕ) (g : Good s t) (ck : Checked s t r vs) (l : Left s t' (merged (decode t) (delta_of fields (decode t) (insertion_of s t r vs)))) where
  x : Rec
  x = new_record fields (decode t) r vs

  ts : List ℕ
  ts = targets (schema_of s) is_reference x

  ch : (insertion_of s t r vs).changed ≡ x ∷ redoing fields (in_order (decode t).records) (odd (in_order (decode t).records) ts)
  unfolding insertion_of insertion x ts
  ch = refl

  -- the new label
  labelled : is_label (next_label t) ≡ true
  labelled = new_label_lem (clock_at t + 1) (replica_at t) (omega arith) ck.clock (rw (replica_is t) (good_valid s t g).replica)

  counter : counter_of (next_label t) ≡ clock_at t + 1
  counter = new_counter (clock_at t + 1) (replica_at t) (rw (replica_is t) (good_valid s t g).replica)

  x_key : x.key ≡ place r (next_label t)
  unfolding x new_record
  x_key = ap (place r) (next_is s t g ck.clock)

  x_relation : relation x ≡ r
  x_relation = ap (λ (k : ℕ). k / label_span) x_key ∙ place_relation r (next_label t) (label_below (next_label t) labelled)

  x_label : label x ≡ next_label t
  x_label = ap (λ (k : ℕ). k % label_span) x_key ∙ place_label r (next_label t) (label_below (next_label t) labelled)

  -- no old record has its key
  other : (y : Rec) → counter_of (label y) ≤ clock_at t → y.key ≡ x.key → ⊥
  other y h e =
      let q : label y ≡ next_label t = ap (λ (k : ℕ). k % label_span) e ∙ x_label in
      let z : counter_of (label y) ≡ clock_at t + 1 = ap counter_of q ∙ counter in
      omega arith

  unknown : has (decode t).records x.key ≡ false
  unknown = go (test (has (decode t).records x.key))
    where
      go : (has (decode t).records x.key ≡ true) ⊎ (has (decode t).records x.key ≡ false) → has (decode t).records x.key ≡ false
      go (inl p) =
          let q = has_in (decode t).records x.key p in
          absurd (other q.0 (rw (clock_is t) ((good_valid s t g).records q.0 q.1).counted) q.2)
      go (inr p) = p

  added : only (new (decode t).records) (in_order (in_order (x ∷ redoing fields (in_order (decode t).records) (odd (in_order (decode t).records) ts)))) ≡ x ∷ []
  added =
      let R = redoing fields (in_order (decode t).records) (odd (in_order (decode t).records) ts) in
      ap (only (new (decode t).records)) (order_rising_same (in_order (x ∷ R)) (order_rising (x ∷ R)))
      ∙ unfold in_order in one_new (decode t).records x (in_order R) unknown (redone_old fields (decode t).records ts)

  records_are : (decode t').records ≡ merged_records (decode t).records (in_order (x ∷ redoing fields (in_order (decode t).records) (odd (in_order (decode t).records) ts)))
  records_are = after_records s t t' g (insertion_of s t r vs) x (odd (in_order (decode t).records) ts) ch l

  used : used_at t' ≡ used_at t + 1
  used = omega (arith, used_is t, used_is t', ap length records_are, merged_size (decode t).records (in_order (x ∷ redoing fields (in_order (decode t).records) (odd (in_order (decode t).records) ts))), ap length added)

  new_at : record_at (decode t').records (used_at t + 1) ≡ x
  new_at = rw (used_is t) (ap (λ (q : List Rec). record_at q (length (decode t).records + 1)) records_are ∙ added_at (decode t).records _ x added)

  new_of : record_of t' (used_at t + 1) ≡ x
  new_of = sym (record_is t' (used_at t + 1) (omega arith) (omega (arith, used))) ∙ new_at

  new_reads : Reads t' (used_at t + 1) x
  new_reads = rw new_at at (reads s t' l.good (used_at t + 1) (omega arith) (omega (arith, used)))

  x_flag : x.cell.flag ≡ 0
  unfolding x new_record
  x_flag = refl

  x_regs : x.cell.regs ≡ stamped_by (next_label t) vs (fields - length vs)
  unfolding x new_record
  x_regs = ap (λ (n : ℕ). stamped_by n vs (fields - length vs)) (next_is s t g ck.clock)

  x_reg : (j : ℕ) → 1 ≤ j → j ≤ field_count s r → get_or x.cell.regs (j - 1) no_reg ≡ reg (get_or vs (j - 1) 0) (next_label t)
  x_reg j a b = rw x_regs (stamped_at (next_label t) vs (fields - length vs) (j - 1) (omega (arith, ck.count)))

  x_none : (j : ℕ) → field_count s r < j → get_or x.cell.regs (j - 1) no_reg ≡ no_reg
  x_none j a = rw x_regs (stamped_past (next_label t) vs (fields - length vs) (j - 1) (omega (arith, ck.count)))

  few : field_count s r ≤ fields
  few = omega (arith, narrow s g.sound r, kinds_count s r ck.least ck.most)

  fresh : Fresh s t' (used_at t + 1) r vs (next_label t)
  fresh =
      record {
        relation = new_reads.relation_of_lem ∙ x_relation;
        label = new_reads.label_of ∙ x_label;
        flag = new_reads.flag ∙ x_flag;
        values = λ j a b. new_reads.value j a (omega (arith, few)) ∙ ap (λ (h : Reg). h.value) (x_reg j a b);
        stamps = λ j a b. new_reads.stamp j a (omega (arith, few)) ∙ ap (λ (h : Reg). h.stamp) (x_reg j a b);
        no_values = λ j a b. new_reads.value j (omega arith) b ∙ ap (λ (h : Reg). h.value) (x_none j a);
        no_stamps = λ j a b. new_reads.stamp j (omega arith) b ∙ ap (λ (h : Reg). h.stamp) (x_none j a);
      }

  module _ (n : ℕ) (a : 1 ≤ n) (b : n ≤ used_at t) where
    changed : Changed t t' x (odd (in_order (decode t).records) ts) n
    changed = after_changed s t t' g (insertion_of s t r vs) x (odd (in_order (decode t).records) ts) ch l n a b

    not_new : own (key_at t n) x ≡ none
    not_new =
        let q = reads s t g n a b in
        own_other (key_at t n) x (λ e. other (record_at (decode t).records n) (held_valid s t g n a b).counted (sym q.key ∙ e))

    kept : Kept t t' n
    kept =
        record {
          named = changed.named;
          values = λ j p q. rw (not_new, reg_none) at (changed.value j p q);
          stamps = λ j p q. rw (not_new, reg_none) at (changed.stamp j p q);
        }

    flags : Redone (insertion_due s t t' n) (flag_at t n) (flag_at t' n)
    unfolding references ts insertion_due
    flags = rw new_of (redoes s t g n a b ts (flag_at t' n) (unfold x in ck.free) (rw not_new at changed.flag))

  raised : (insertion_of s t r vs).clock ≡ clock_at t + 1
  unfolding insertion_of insertion decode
  raised = refl

  inserted : Inserted s t t' r vs (next_label t)
  inserted =
      record {
        used = used;
        size = after_size s t t' g (insertion_of s t r vs) x (odd (in_order (decode t).records) ts) ch l;
        clock = omega (arith, after_clock s t t' g (insertion_of s t r vs) x (odd (in_order (decode t).records) ts) ch l, raised);
        replica = after_replica s t t' g (insertion_of s t r vs) x (odd (in_order (decode t).records) ts) ch l;
        label = refl;
        fresh = fresh;
        kept = kept;
        flags = flags;
      }

insertion_checks : (s t : List ℕ) (r : ℕ) (vs : List ℕ) → all_of numbered (insertion_of s t r vs).checks ≡ true
unfolding insertion_of insertion all_of
insertion_checks s t r vs = refl

insertion_draft : (s t : List ℕ) (r : ℕ) (vs : List ℕ) → Good s t → lowest (insertion_of s t r vs).checks ≡ 0 → Drafted fields (schema_of s) (decode t) (insertion_of s t r vs)
unfolding insertion_of
insertion_draft s t r vs g h = insertion_drafted (narrow s g.sound) (omega arith) (decode t) (good_valid s t g) r vs h

label_back : (s t d : List ℕ) (r : ℕ) (vs : List ℕ) → insertion_number s t d r vs ≡ 0 → new_label (decode t) ≡ next_label t → insertion_label s t d r vs ≡ next_label t
unfolding insertion_label
label_back s t d r vs h e = rw h (unfold insertion_of insertion in e)

label_next : (s t d : List ℕ) (r : ℕ) (vs : List ℕ) → insertion_number s t d r vs ≡ 0 → new_label (decode t) ≡ next_label t
unfolding insertion_number
label_next s t d r vs h =
    let g = edit_good false s t d (insertion_of s t r vs) (insertion_checks s t r vs) h in
    next_is s t g.0 (checked s t r vs g.0 g.1).clock

pub insertion_effect : (s t d : List ℕ) (r : ℕ) (vs : List ℕ) → insertion_number s t d r vs ≡ 0 → Inserted s t (insertion_table s t d r vs) r vs (insertion_label s t d r vs)
insertion_effect s t d r vs h = rw (label_back s t d r vs h (label_next s t d r vs h)) (go h)
  where
    go : insertion_number s t d r vs ≡ 0 → Inserted s t (insertion_table s t d r vs) r vs (next_label t)
    go q =
        unfold insertion_number insertion_table in (
        let g = edit_good false s t d (insertion_of s t r vs) (insertion_checks s t r vs) q in
        let l = edit_left false s t d (insertion_of s t r vs) g.0 (insertion_draft s t r vs g.0 g.1) q in
        inserted s t (edit_table (edit_number false s t d (insertion_of s t r vs)) t (insertion_of s t r vs)) r vs g.0 (checked s t r vs g.0 g.1) l.0
        )
