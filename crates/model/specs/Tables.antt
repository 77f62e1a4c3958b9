-- A table as a value, the words of it, and its contents (document 01, "Table" and "Runs").
-- Assumes nothing.
use Rattle.std.specs.Prelude.{ℕ, ◌*◌, ◌-◌, Bool, List, [], ◌∷◌, ◌++◌, map, eqb, length, replicate}
use Rattle.crdt.specs.Cells.{Reg, reg, Cell}
use Rattle.model.specs.Layout.{fields, most_relations, zero_words, record_words, capacity_of, replica_at, clock_at, used_at, relation_at, label_at, flag_at, value_at, stamp_at}
use Rattle.model.specs.Lists.{listed, only}
use Rattle.model.specs.Records.{Rec, place, relation, label, in_order, least_above, position}

-- Capacity N, replica, clock, and the records of positions 1 to used.
pub record Table : Type 0 where
  pub capacity : ℕ
  pub replica : ℕ
  pub clock : ℕ
  pub records : List Rec

-- Record i of a table's words.
unfoldable pub record_of : List ℕ → ℕ → Rec
record_of t i =
    record {
      key = place (relation_at t i) (label_at t i);
      cell = record { flag = flag_at t i; regs = listed fields (λ j. reg (value_at t i j) (stamp_at t i j)) };
    }

-- The value of a table's words.
unfoldable pub decode : List ℕ → Table
decode t =
    record {
      capacity = capacity_of t;
      replica = replica_at t;
      clock = clock_at t;
      records = listed (used_at t) (record_of t);
    }

-- "Records are chained by the next index, and zero ends the chain", "with strictly rising labels": the position of the record of relation r
-- with the least key above k.
unfoldable pub follower : List Rec → ℕ → ℕ → ℕ
follower s r k = position (least_above k (only (λ (x : Rec). eqb (relation x) r) s)) s

-- "next, relation, label, flag", twelve values, twelve stamps
unfoldable pub encode_record : List Rec → Rec → List ℕ
encode_record s x =
    follower s (relation x) x.key ∷ relation x ∷ label x ∷ x.cell.flag
    ∷ (map (λ (g : Reg). g.value) x.cell.regs ++ map (λ (g : Reg). g.stamp) x.cell.regs)

unfoldable pub encode_records : List Rec → List Rec → List ℕ
encode_records s [] = []
encode_records s (x ∷ xs) = encode_record s x ++ encode_records s xs

-- "0 replica, 1 clock, 2 used count, 3 zero, 4 to 11 the first record of relations 1 to 8, 12 to 15 zero"
unfoldable pub encode_header : Table → List ℕ
encode_header v =
    v.replica ∷ v.clock ∷ length v.records ∷ 0 ∷ (listed most_relations (λ r. follower v.records r 0) ++ replicate zero_words 0)

-- The words of a table's value: "words above the used records are zero".
unfoldable pub encode : Table → List ℕ
encode v =
    encode_header v ++ (encode_records v.records v.records ++ replicate (record_words * (v.capacity - length v.records)) 0)

-- "The contents of a table are its clock and, for each relation and label it holds, that record's flag, values and stamps": in list order.
pub record Contents : Type 0 where
  pub clock : ℕ
  pub records : List Rec

unfoldable pub contents : List ℕ → Contents
contents t = record { clock = (decode t).clock; records = in_order (decode t).records }
