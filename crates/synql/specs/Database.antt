-- The paper's replicated state of records.
-- Assumes nothing.
use Rattle.std.specs.Prelude.{ℕ, ◌-◌, Bool, cond, ◌&&◌, List, ◌≡◌, eqb, ltb, leb, get_or, length}
use Rattle.std.proofs.Math.Option.{Option, none, some}
use Rattle.crdt.specs.Cells.{Reg, no_reg, Cell}
use Rattle.model.specs.Records.{Rec, label_span, place, at}
use Rattle.model.specs.Lists.{some_of}
use Rattle.model.specs.Schemas.{Relation, leads_to, relation_numbered}
use Rattle.synql.specs.Synql.{Map, Tuple, RDb, ForeignKeys}

-- A register with stamp none is not in the map.
unfoldable pub stamped_reg : Reg → Option Reg
stamped_reg g = cond (eqb g.stamp 0) none (some g)

unfoldable pub field_map : List Reg → Map Reg
field_map gs f = cond (eqb f 0) none (stamped_reg (get_or gs (f - 1) no_reg))

unfoldable pub tuple_of : Cell → Tuple
tuple_of c = record { fields = field_map c.regs; flag = c.flag }

abbrev pub tuple_opt : Option Cell → Option Tuple
tuple_opt none = none
tuple_opt (some c) = some (tuple_of c)

-- The state that records hold: relation, label, fields and flag. A label is below label_span.
unfoldable pub database : List Rec → RDb
database c r l = cond (ltb l label_span) (tuple_opt (at (place r l) c)) none

-- The values of an insertion as a map.
unfoldable pub values_map : List ℕ → Map ℕ
values_map vs f = cond (leb 1 f && leb f (length vs)) (some (get_or vs (f - 1) 0)) none

-- The foreign keys of a schema, of the chosen kinds. Fields are counted from 1.
unfoldable pub foreign_keys : List Relation → (ℕ → Bool) → ForeignKeys
foreign_keys σ p r f =
    let k = get_or (relation_numbered σ r).kinds (f - 1) 0 in
    cond (leb 1 f && leb f (length (relation_numbered σ r).kinds) && p k) (some (leads_to k)) none

-- What values refer to, of the chosen kinds: field f of a tuple of relation r with these values refers to the tuple u of relation q.
abbrev pub refers_to : List Relation → (ℕ → Bool) → ℕ → Map ℕ → ℕ → ℕ → ℕ → Type 0
refers_to σ p r vs f q u = (foreign_keys σ p r f ≡ some q) × (vs f ≡ some u)

-- The tuples of the keys.
abbrev pub chosen : List ℕ → ℕ → ℕ → Bool
chosen ks r l = ltb l label_span && some_of (λ k. eqb (place r l) k) ks
