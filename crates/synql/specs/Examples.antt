-- Two tables on which document 01 and the paper's compensation differ. Relation 1 is a group (name), relation 2 a cow (tag, group by abort).
-- Assumes nothing.
use Rattle.std.specs.Prelude.{ℕ, List, [], ◌∷◌}
use Rattle.crdt.specs.Labels.{label_of}
use Rattle.crdt.specs.Cells.{reg, no_reg}
use Rattle.model.specs.Schemas.{Relation}
use Rattle.model.specs.Records.{Rec, place}

abbrev pub herd : List Relation
herd = record { kinds = 1 ∷ []; key1 = 0; key2 = 0 } ∷ record { kinds = 1 ∷ 17 ∷ []; key1 = 0; key2 = 0 } ∷ []

-- The labels 1.1, 2.1 and 3.1.
abbrev pub first : ℕ
first = label_of 1 1

abbrev pub second : ℕ
second = label_of 2 1

abbrev pub third : ℕ
third = label_of 3 1

-- A group with an odd flag.
abbrev pub group : Rec
group = record { key = place 1 first; cell = record { flag = 1; regs = reg 12 first ∷ no_reg ∷ [] } }

-- A cow of the group.
abbrev pub cow : Rec
cow = record { key = place 2 second; cell = record { flag = 0; regs = reg 40 second ∷ reg first second ∷ [] } }

-- An incomplete cow: the update of her group arrived before her insertion.
abbrev pub incomplete : Rec
incomplete = record { key = place 2 third; cell = record { flag = 0; regs = no_reg ∷ reg first third ∷ [] } }

-- A cow without a group.
abbrev pub loose : Rec
loose = record { key = place 2 third; cell = record { flag = 0; regs = reg 41 third ∷ reg 0 third ∷ [] } }
