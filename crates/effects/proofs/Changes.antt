-- The words of a table after an edit that changed one record and redid others, against the words before.
-- Assumes nothing.
use Prim.Native.Nat.{ℕ, zero, suc, max, ◌+◌, ◌*◌, ◌-◌, ◌/◌, ◌%◌, ◌≤◌, ◌<◌}
use mathlib.Core.Path.{◌≡◌, refl, sym, ◌∙◌, ap}
use mathlib.Core.Bool.{false, cond, ◌&&◌}
use mathlib.Core.List.Memᴰ
use mathlib.Core.List.{List, [], ◌∷◌}
use native.Mathlib.Omega.{arith}
use lib.ListN.{length, get_or}
use Rattle.crdt.specs.Labels.{largest_counter}
use Rattle.crdt.specs.Flags.{largest_flag, is_odd, redone}
use Rattle.crdt.proofs.Tests.{and_left}
use Rattle.crdt.specs.Cells.{Reg, reg, no_reg, join_reg}
use Rattle.model.specs.Layout.{fields, header_words, record_words, capacity_of, replica_at, clock_at, used_at, flag_at, value_at, stamp_at}
use Rattle.model.specs.Schemas.{schema_of}
use Rattle.model.specs.Records.{Rec, label_span, relation, label, own, at, in_order}
use Rattle.model.specs.Tables.{Table, decode}
use Rattle.model.specs.Merge.{joined_with, merged_records, merged}
use Rattle.model.specs.Edits.{Edit, delta_of, new_label, flag_in, flag_of, odd, redoing, spent}
use Rattle.laws.proofs.Lists.{◌∈◌}
use Rattle.laws.proofs.Order.{at_order}
use Rattle.laws.proofs.Members.{at_member}
use Rattle.laws.proofs.Valid.{ValidRecord}
use Rattle.laws.proofs.Fields.{label_within_lem}
use Rattle.wellformed.proofs.Follow.{no_rec, record_at}
use Rattle.wellformed.proofs.Facts.{table_sized}
use Rattle.convergence.proofs.Tables.{Good, good_valid, Left}
use Rattle.effects.specs.Effects.{key_at, next_label, Redone, Named}
use Rattle.effects.proofs.Joins.{regs_in, among, changed_flag, changed_regs}
use Rattle.effects.proofs.Flags.{among_odd, not_spent, redone_law}
use Rattle.effects.proofs.Words.{used_is, Reads, reads}
use Rattle.effects.proofs.Positions.{old_at, merged_size}

pub at_in : (l : List Rec) (n : ℕ) (d : Rec) → n < length l → get_or l n d ∈ l
at_in [] n d h = absurd (omega arith)
at_in (x ∷ xs) zero d h = Memᴰ.head refl
at_in (x ∷ xs) (suc n) d h = Memᴰ.tail (at_in xs n d (omega arith))

-- the header's words and the value's
pub clock_is : (t : List ℕ) → clock_at t ≡ (decode t).clock
unfolding decode
clock_is t = refl

pub capacity_is : (t : List ℕ) → capacity_of t ≡ (decode t).capacity
unfolding decode
capacity_is t = refl

pub replica_is : (t : List ℕ) → replica_at t ≡ (decode t).replica
unfolding decode
replica_is t = refl

-- the new label, where the clock has a counter left
pub next_is : (s t : List ℕ) → Good s t → clock_at t + 1 ≤ largest_counter → new_label (decode t) ≡ next_label t
unfolding new_label decode
next_is s t g h = label_within_lem (clock_at t + 1) (replica_at t) (omega arith) h (rw (replica_is t) (good_valid s t g).replica)

-- record n of a good table: it is valid, and its flag is the one held under its key
module _ (s t : List ℕ) (g : Good s t) (n : ℕ) (a : 1 ≤ n) (b : n ≤ used_at t) where
  pub member : record_at (decode t).records n ∈ (decode t).records
  member = at_in (decode t).records (n - 1) no_rec (omega (arith, used_is t))

  pub held_valid : ValidRecord fields (schema_of s) (clock_at t) (record_at (decode t).records n)
  held_valid = rw (clock_is t) ((good_valid s t g).records _ member)

  own_flag : flag_of (in_order (decode t).records) (record_at (decode t).records n).key ≡ (record_at (decode t).records n).cell.flag
  unfolding flag_of
  own_flag = ap flag_in (at_order _ (decode t).records ∙ at_member (decode t).records (record_at (decode t).records n) (good_valid s t g).distinct member)

  pub flag_held : flag_of (in_order (decode t).records) (key_at t n) ≡ flag_at t n
  flag_held = let r = reads s t g n a b in ap (flag_of (in_order (decode t).records)) r.key ∙ own_flag ∙ sym r.flag

  pub flag_bound : flag_at t n ≤ largest_flag
  flag_bound = rw (reads s t g n a b).flag held_valid.flagged

  -- its flag afterwards, where only redoing changed it
  pub redoes : (l : List ℕ) (f' : ℕ) → spent (in_order (decode t).records) (odd (in_order (decode t).records) l) ≡ false
      → f' ≡ max (flag_at t n) (max 0 (cond (among (key_at t n) (odd (in_order (decode t).records) l)) (redone (flag_at t n)) 0))
      → Redone (is_odd (flag_at t n) && among (key_at t n) l) (flag_at t n) f'
  redoes l f' free h =
      let c = in_order (decode t).records in
      let e : among (key_at t n) (odd c l) ≡ (is_odd (flag_at t n) && among (key_at t n) l) = rw flag_held at (among_odd c (key_at t n) l) in
      let h' = rw e at h in
      redone_law (is_odd (flag_at t n) && among (key_at t n) l) (flag_at t n) f' (λ p. and_left (is_odd (flag_at t n)) _ p)
      (λ p. let z : flag_at t n ≡ largest_flag → ⊥ = λ q. not_spent c (key_at t n) (odd c l) free (e ∙ p) (flag_held ∙ q) in omega (arith, flag_bound)) h'

-- the words of record n before and after
pub record Changed (t t' : List ℕ) (x : Rec) (ks : List ℕ) (n : ℕ) : Type 0 where
  pub named : Named t t' n
  pub flag : flag_at t' n ≡ max (flag_at t n) (max (flag_in (own (key_at t n) x)) (cond (among (key_at t n) ks) (redone (flag_at t n)) 0))
  pub value : (j : ℕ) → 1 ≤ j → j ≤ fields → value_at t' n j ≡ (join_reg (reg (value_at t n j) (stamp_at t n j)) (get_or (regs_in (own (key_at t n) x)) (j - 1) no_reg)).value
  pub stamp : (j : ℕ) → 1 ≤ j → j ≤ fields → stamp_at t' n j ≡ (join_reg (reg (value_at t n j) (stamp_at t n j)) (get_or (regs_in (own (key_at t n) x)) (j - 1) no_reg)).stamp

module _ (s t t' : List ℕ) (g : Good s t) (e : Edit) (x : Rec) (ks : List ℕ) (ch : e.changed ≡ x ∷ redoing fields (in_order (decode t).records) ks)
    (l : Left s t' (merged (decode t) (delta_of fields (decode t) e))) where
  pub after_records : (decode t').records ≡ merged_records (decode t).records (in_order (x ∷ redoing fields (in_order (decode t).records) ks))
  unfolding merged delta_of
  after_records = ap (λ (v : Table). v.records) l.value ∙ ap (λ (q : List Rec). merged_records (decode t).records (in_order q)) ch

  pub after_clock : clock_at t' ≡ max (clock_at t) e.clock
  unfolding merged delta_of
  after_clock = clock_is t' ∙ ap (λ (v : Table). v.clock) l.value ∙ ap (λ (q : ℕ). max q e.clock) (sym (clock_is t))

  pub after_replica : replica_at t' ≡ replica_at t
  unfolding merged
  after_replica = replica_is t' ∙ ap (λ (v : Table). v.replica) l.value ∙ sym (replica_is t)

  pub after_size : length t' ≡ length t
  unfolding merged
  after_size =
      let n : capacity_of t' ≡ capacity_of t = capacity_is t' ∙ ap (λ (v : Table). v.capacity) l.value ∙ sym (capacity_is t) in
      (table_sized t' l.good.sized).size ∙ ap (λ (q : ℕ). header_words + record_words * q) n ∙ sym (table_sized t g.sized).size

  pub after_most : used_at t ≤ used_at t'
  after_most = omega (arith, used_is t, used_is t', ap length after_records, merged_size (decode t).records (in_order (x ∷ redoing fields (in_order (decode t).records) ks)))

  module _ (n : ℕ) (a : 1 ≤ n) (b : n ≤ used_at t) where
    D : List Rec
    D = in_order (x ∷ redoing fields (in_order (decode t).records) ks)

    after_at : record_at (decode t').records n ≡ joined_with D (record_at (decode t).records n)
    unfolding D
    after_at = ap (λ (q : List Rec). record_at q n) after_records ∙ old_at (decode t).records _ n a (omega (arith, used_is t))

    before : Reads t n (record_at (decode t).records n)
    before = reads s t g n a b

    after : Reads t' n (joined_with D (record_at (decode t).records n))
    after = rw after_at at (reads s t' l.good n a (omega (arith, after_most)))

    joined_key : (joined_with D (record_at (decode t).records n)).key ≡ (record_at (decode t).records n).key
    unfolding joined_with
    joined_key = refl

    joined_reg : (j : ℕ) → 1 ≤ j → j ≤ fields
        → get_or (joined_with D (record_at (decode t).records n)).cell.regs (j - 1) no_reg ≡ join_reg (reg (value_at t n j) (stamp_at t n j)) (get_or (regs_in (own (key_at t n) x)) (j - 1) no_reg)
    unfolding D
    joined_reg j c d =
        changed_regs fields (in_order (decode t).records) x ks (record_at (decode t).records n) (j - 1)
        ∙ rw (before.value j c d, before.stamp j c d, before.key)

    joined_flag : (joined_with D (record_at (decode t).records n)).cell.flag ≡ max (flag_at t n) (max (flag_in (own (key_at t n) x)) (cond (among (key_at t n) ks) (redone (flag_at t n)) 0))
    unfolding D
    joined_flag =
        changed_flag fields (in_order (decode t).records) x ks (record_at (decode t).records n)
        ∙ rw (own_flag s t g n a b, before.key, before.flag)

    pub after_changed : Changed t t' x ks n
    after_changed =
        record {
          named = record {
            relation = after.relation_of_lem ∙ ap (λ (k : ℕ). k / label_span) joined_key ∙ sym before.relation_of_lem;
            label = after.label_of ∙ ap (λ (k : ℕ). k % label_span) joined_key ∙ sym before.label_of;
          };
          flag = after.flag ∙ joined_flag;
          value = λ j c d. after.value j c d ∙ ap (λ (h : Reg). h.value) (joined_reg j c d);
          stamp = λ j c d. after.stamp j c d ∙ ap (λ (h : Reg). h.stamp) (joined_reg j c d);
        }
