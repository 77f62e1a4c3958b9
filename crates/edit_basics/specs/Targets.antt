-- What an edit's checks read: the kinds of a relation, values as registers, and a table that was judged.
-- Assumes nothing.
use Rattle.std.specs.Prelude.{ℕ, ◌+◌, ◌*◌, ◌-◌, ◌≤◌, ◌≡◌, Bool, true, ◌&&◌, List, map, eqb, get_or}
use Rattle.crdt.specs.Cells.{Reg, reg}
use Rattle.model.specs.Layout.{fields, used_at, relation_at, field_count, kind_at}
use Rattle.model.specs.Lists.{listed}
use Rattle.model.specs.Schemas.{Relation, schema_of}
use Rattle.model.specs.Records.{Rec, in_order}
use Rattle.model.specs.Tables.{decode}
use Rattle.judged.specs.Checked.{Checked}

-- The kinds of relation r.
abbrev pub kinds_of : List ℕ → ℕ → List ℕ
kinds_of s r = listed (field_count s r) (kind_at s r)

-- Values as registers: where references lead is told by the values alone.
abbrev pub bare : List ℕ → List Reg
bare vs = map (λ (v : ℕ). reg v 0) vs

-- The records of a table in list order.
abbrev pub held : List ℕ → List Rec
held t = in_order (decode t).records

-- Record i of a judged table.
pub record Placed (s t : List ℕ) (i : ℕ) : Type 0 where
  pub checked : Checked s t
  pub least : 1 ≤ i
  pub most : i ≤ used_at t

-- Field j of record i is a reference of a chosen kind, and was resolved to p in the array a.
abbrev pub meets : (ℕ → Bool) → List ℕ → List ℕ → List ℕ → ℕ → ℕ → ℕ → Bool
meets q s t a i p j = q (kind_at s (relation_at t i) j) && eqb (get_or a (fields * (i - 1) + (j - 1)) 0) p
