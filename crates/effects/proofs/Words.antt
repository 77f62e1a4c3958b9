-- The words of a good table, read from the records of its value.
-- Assumes nothing.
use Prim.Native.Nat.{ℕ, ◌-◌, ◌≤◌}
use mathlib.Core.Path.{◌≡◌, refl, sym, ap}
use mathlib.Core.List.{List}
use lib.ListN.{length, get_or}
use Rattle.crdt.specs.Cells.{Reg, reg, no_reg}
use Rattle.model.specs.Layout.{fields, used_at, relation_at, label_at, flag_at, value_at, stamp_at}
use Rattle.model.specs.Records.{Rec, place, relation, label}
use Rattle.model.specs.Tables.{record_of, decode}
use Rattle.wellformed.proofs.Ranges.{listed_length, listed_at}
use Rattle.wellformed.proofs.Follow.{no_rec, record_at}
use Rattle.wellformed.proofs.Facts.{schema_sound, formed}
use Rattle.wellformed.proofs.Values.{relation_is, label_is}
use Rattle.convergence.proofs.Tables.{Good}

pub used_is : (t : List ℕ) → used_at t ≡ length (decode t).records
unfolding decode
used_is t = sym (listed_length (used_at t) (record_of t))

pub record_is : (t : List ℕ) (i : ℕ) → 1 ≤ i → i ≤ used_at t → record_at (decode t).records i ≡ record_of t i
unfolding decode
record_is t i a b = listed_at (used_at t) (record_of t) i no_rec a b

-- the words of record i, whose value is x
pub record Reads (t : List ℕ) (i : ℕ) (x : Rec) : Type 0 where
  pub key : place (relation_at t i) (label_at t i) ≡ x.key
  pub relation_of_lem : relation_at t i ≡ relation x
  pub label_of : label_at t i ≡ label x
  pub flag : flag_at t i ≡ x.cell.flag
  pub value : (j : ℕ) → 1 ≤ j → j ≤ fields → value_at t i j ≡ (get_or x.cell.regs (j - 1) no_reg).value
  pub stamp : (j : ℕ) → 1 ≤ j → j ≤ fields → stamp_at t i j ≡ (get_or x.cell.regs (j - 1) no_reg).stamp

module _ (s t : List ℕ) (g : Good s t) (i : ℕ) (a : 1 ≤ i) (b : i ≤ used_at t) where
  own : Reads t i (record_of t i)
  unfolding record_of
  own =
      let f = formed s t g.formed in
      let z = schema_sound s g.sound in
      record {
        key = refl;
        relation_of_lem = sym (relation_is s t z f i a b);
        label_of = sym (label_is s t z f i a b);
        flag = refl;
        value = λ j c d. ap (λ (h : Reg). h.value) (sym (listed_at fields (λ n. reg (value_at t i n) (stamp_at t i n)) j no_reg c d));
        stamp = λ j c d. ap (λ (h : Reg). h.stamp) (sym (listed_at fields (λ n. reg (value_at t i n) (stamp_at t i n)) j no_reg c d));
      }

  pub reads : Reads t i (record_at (decode t).records i)
  reads = rw (record_is t i a b) own
