-- What the rule of valid values says, part by part.
-- Assumes nothing.
use Prim.Native.Nat.{ℕ, ◌-◌, ◌≤◌}
use mathlib.Core.Path.{◌≡◌}
use mathlib.Core.Bool.{true, false}
use mathlib.Core.List.{List, [], ◌∷◌}
use mathlib.Core.Logic.{◌⊎◌, inl, inr}
use native.Mathlib.Omega.{arith}
use lib.Dec.{eqb, leb}
use lib.ListN.{length}
use borrow.Author.Tests.{leb-true, eqb-true}
use Rattle.crdt.proofs.Tests.{test}
use Rattle.crdt.specs.Labels.{largest_counter, is_replica, is_label, counter_of}
use Rattle.crdt.specs.Flags.{largest_flag}
use Rattle.model.specs.Layout.{most_records}
use Rattle.model.specs.Lists.{all_of}
use Rattle.model.specs.Schemas.{Relation}
use Rattle.model.specs.Records.{Rec, relation, label, has, distinct}
use Rattle.model.specs.Tables.{Table}
use Rattle.model.specs.Shown.{described}
use Rattle.model.specs.Valid.{valid, valid_record, valid_regs, regs_under}
use Rattle.wellformed.proofs.Ranges.{parts, all_at}
use Rattle.wellformed.proofs.Follow.{no_rec, record_at, position_some}

pub record ValidRecord (w : ℕ) (σ : List Relation) (clock : ℕ) (x : Rec) : Type 0 where
  pub above : 1 ≤ relation x
  pub known : relation x ≤ length σ
  pub labelled : is_label (label x) ≡ true
  pub flagged : x.cell.flag ≤ largest_flag
  pub sized : length x.cell.regs ≡ w
  pub ruled : valid_regs (described σ x).kinds x.cell.regs ≡ true
  pub counted : counter_of (label x) ≤ clock
  pub under : regs_under clock (described σ x).kinds x.cell.regs ≡ true

pub valid_record_lem : (w : ℕ) (σ : List Relation) (clock : ℕ) (x : Rec) → valid_record w σ clock x ≡ true → ValidRecord w σ clock x
unfolding valid_record
valid_record_lem w σ clock x h =
    let t =
    parts (leb 1 (relation x))
    (leb (relation x) (length σ) ∷ is_label (label x) ∷ leb x.cell.flag largest_flag ∷ eqb (length x.cell.regs) w
    ∷ valid_regs (described σ x).kinds x.cell.regs ∷ leb (counter_of (label x)) clock ∷ regs_under clock (described σ x).kinds x.cell.regs ∷ [])
    h in
    record {
      above = leb-true _ _ t.0;
      known = leb-true _ _ t.1.0;
      labelled = t.1.1.0;
      flagged = leb-true _ _ t.1.1.1.0;
      sized = eqb-true _ _ t.1.1.1.1.0;
      ruled = t.1.1.1.1.1.0;
      counted = leb-true _ _ t.1.1.1.1.1.1.0;
      under = t.1.1.1.1.1.1.1.0;
    }

pub record ValidTable (w : ℕ) (σ : List Relation) (v : Table) : Type 0 where
  pub replica : is_replica v.replica ≡ true
  pub clock : v.clock ≤ largest_counter
  pub room : length v.records ≤ v.capacity
  pub small : v.capacity ≤ most_records
  pub all : all_of (valid_record w σ v.clock) v.records ≡ true
  pub single : distinct v.records ≡ true

pub valid_table : (w : ℕ) (σ : List Relation) (v : Table) → valid w σ v ≡ true → ValidTable w σ v
unfolding valid
valid_table w σ v h =
    let t =
    parts (is_replica v.replica)
    (leb v.clock largest_counter ∷ leb (length v.records) v.capacity ∷ leb v.capacity most_records
    ∷ all_of (valid_record w σ v.clock) v.records ∷ distinct v.records ∷ [])
    h in
    record {
      replica = t.0;
      clock = leb-true _ _ t.1.0;
      room = leb-true _ _ t.1.1.0;
      small = leb-true _ _ t.1.1.1.0;
      all = t.1.1.1.1.0;
      single = t.1.1.1.1.1.0;
    }

module _ (w : ℕ) (σ : List Relation) (v : Table) (t : ValidTable w σ v) where
  pub record_valid : (i : ℕ) → 1 ≤ i → i ≤ length v.records → ValidRecord w σ v.clock (record_at v.records i)
  record_valid i a b = valid_record_lem w σ v.clock _ (all_at (valid_record w σ v.clock) v.records (i - 1) no_rec t.all (omega arith))

  -- no key is 0, since relations are counted from 1
  pub no_zero : has v.records 0 ≡ false
  no_zero = go (test (has v.records 0))
    where
      go : (has v.records 0 ≡ true) ⊎ (has v.records 0 ≡ false) → has v.records 0 ≡ false
      go (inl p) =
          let q = position_some 0 v.records p in
          let x = record_valid _ q.from_one q.within in
          absurd (omega (arith, x.above, q.keyed))
      go (inr p) = p
