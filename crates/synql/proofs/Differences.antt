-- Where document 01 departs from the paper's compensation, on examples: only complete records keep a target, and the new target of an update is redone.
-- Assumes nothing.
use Prim.Native.Nat.{ℕ, ◌<◌}
use mathlib.Core.Path.{◌≡◌, refl, ap}
use mathlib.Core.List.{List, [], ◌∷◌}
use mathlib.Core.Option.{Option, none, some}
use native.Mathlib.Omega.{arith}
use Rattle.crdt.specs.Cells.{join_opt}
use Rattle.model.specs.Lists.{only, some_of}
use Rattle.model.specs.Schemas.{is_reference, is_abort, relation_numbered}
use Rattle.model.specs.Records.{Rec, place, relation, label, own, at}
use Rattle.model.specs.Shown.{described, stamped, complete, live, leads, targets, references}
use Rattle.model.specs.Edits.{flag_of, odd, supported, leading, update_redoes, deletion_redoes}
use Rattle.synql.specs.Synql.{ReadTuple, read, Referenced, ReferencedBy, CaseOne}
use Rattle.synql.specs.Database.{stamped_reg, field_map, tuple_of, database, foreign_keys}
use Rattle.synql.specs.Examples.{herd, first, second, third, group, cow, incomplete, loose}

-- "a complete even record": the group's other cow is incomplete. The paper redoes the group when the cow is deleted, document 01 does not.
pub complete_differs : (deletion_redoes herd (group ∷ cow ∷ incomplete ∷ []) cow ≡ [])
    × CaseOne (foreign_keys herd is_reference) (database (group ∷ cow ∷ incomplete ∷ [])) (Referenced (foreign_keys herd is_abort) (database (group ∷ cow ∷ incomplete ∷ [])) 2 second) 2 second 1 first
unfolding deletion_redoes odd only some_of supported live complete stamped described references targets leads relation_numbered flag_of at own join_opt stamped_reg field_map tuple_of database foreign_keys
complete_differs = (
  refl,
  record {
    referenced = (2, (_, refl, refl, refl));
    marked = (_, refl, refl);
    also = record { relation = 2; tuple = third; field = 2; holds = _; another = λ (a, b). absurd (omega (arith, b)); present = refl; unmarked = refl; refers = refl; value = refl };
  },
)

-- a reference that is read as empty is no label
second_value : Option ReadTuple → ℕ
second_value none = 0
second_value (some x) = number (x.values 2)
  where
    number : Option ℕ → ℕ
    number none = 0
    number (some n) = n

empty : (x : ReadTuple) → read (database (group ∷ loose ∷ [])) 2 third ≡ some x → x.values 2 ≡ some first → ⊥
unfolding second_value at own join_opt stamped_reg field_map tuple_of database
empty x p e =
    let zero : 0 ≡ second_value (some x) = ap second_value p in
    let one : second_value (some x) ≡ first = ap (λ (o : Option ℕ). second_value (some (record { values = λ _. o; deleted = x.deleted }))) e in
    absurd (omega (arith, zero, one))

-- "For references the new target is redone if odd": the cow without a group comes into the group. Document 01 redoes it; case (i) speaks of the old
-- target, and there is none.
pub new_target_differs : (update_redoes herd (group ∷ loose ∷ []) loose 17 0 first ≡ place 1 first ∷ [])
    × (CaseOne (foreign_keys herd is_reference) (database (group ∷ loose ∷ [])) (ReferencedBy (foreign_keys herd is_abort) (database (group ∷ loose ∷ [])) 2 third 2) 2 third 1 first → ⊥)
unfolding update_redoes odd only some_of leading relation_numbered flag_of at own join_opt stamped_reg field_map tuple_of database foreign_keys
new_target_differs = (refl, λ k. empty k.referenced.0 k.referenced.1 k.referenced.3)
