-- Insertion, update and deletion on table values: checks 5 to 13, the changed records, and the new clock (document 01, "Merge and edits" and
-- "What a call hands back"). The number of fields of a record is the parameter w.
-- Assumes nothing.
use Rattle.std.specs.Prelude.{ℕ, suc, ◌+◌, ◌-◌, Bool, true, false, cond, ◌||◌, ◌&&◌, not, List, [], ◌∷◌, ◌++◌, map, eqb, leb, length, get_or, set, replicate}
use Rattle.std.proofs.Math.Option.{Option, none, some}
use Rattle.crdt.specs.Labels.{largest_counter, label_within, is_label}
use Rattle.crdt.specs.Flags.{largest_flag, is_odd, deleted, redone}
use Rattle.crdt.specs.Cells.{Reg, reg, no_reg, Cell}
use Rattle.model.specs.Lists.{only, some_of, all_of, Check, check}
use Rattle.model.specs.Schemas.{Relation, is_reference, is_abort, leads_to, relation_numbered, names}
use Rattle.model.specs.Records.{Rec, place, relation, has, at, in_order}
use Rattle.model.specs.Tables.{Table}
use Rattle.model.specs.Shown.{described, targets, references, conflict_on, conflict, live, standing, shown}
use Rattle.model.specs.Merge.{merged}

-- An edit of a table: its checks from 5 on, the changed records, the new clock, and the new label (0 where there is none).
pub record Edit : Type 0 where
  pub checks : List Check
  pub changed : List Rec
  pub clock : ℕ
  pub label : ℕ

-- "a delta, which is itself a table" with N = 13 (F-7), "holds the replica number, the new clock, and only the changed records, in list order from 1".
-- Changes of one record are joined.
unfoldable pub delta_of : ℕ → Table → Edit → Table
delta_of w v e = record { capacity = w + 1; replica = v.replica; clock = e.clock; records = in_order e.changed }

-- "The own table afterwards equals its merge with the delta."
unfoldable pub edited_by : ℕ → Table → Edit → Table
edited_by w v e = merged v (delta_of w v e)

-- "the new label is clock + 1 with the own replica number"; 0 where the clock is the largest counter, which check 12 refuses.
unfoldable pub new_label : Table → ℕ
new_label v = label_within (v.clock + 1) v.replica

abbrev pub flag_in : Option Cell → ℕ
flag_in none = 0
flag_in (some c) = c.flag

-- The flag that records hold under a key, 0 where they hold none.
unfoldable pub flag_of : List Rec → ℕ → ℕ
flag_of c k = flag_in (at k c)

-- A changed record with "unchanged registers none".
unfoldable pub flag_only : ℕ → ℕ → ℕ → Rec
flag_only w k f = record { key = k; cell = record { flag = f; regs = replicate w no_reg } }

-- Of the keys, those whose record has an odd flag.
unfoldable pub odd : List Rec → List ℕ → List ℕ
odd c ks = only (λ k. is_odd (flag_of c k)) ks

-- The changes by redoing the records of the keys. A key that occurs twice is redone once, since both changes are the same.
unfoldable pub redoing : ℕ → List Rec → List ℕ → List Rec
redoing w c ks = map (λ k. flag_only w k (redone (flag_of c k))) ks

-- "a flag to be redone is 65,535"
unfoldable pub spent : List Rec → List ℕ → Bool
spent c ks = some_of (λ k. eqb (flag_of c k) largest_flag) ks

-- "a complete even record other than the updated one references it"; of a deletion "the deleted record not counting". Both kinds of reference count.
unfoldable pub supported : List Relation → List Rec → ℕ → ℕ → Bool
supported σ c but k = some_of (λ (y : Rec). not (eqb y.key but) && live σ y && references σ is_reference k y) c

-- "reference neither 0 nor a label", of a value under a kind
abbrev pub value_rule : ℕ → ℕ → Bool
value_rule k v = not (is_reference k) || eqb v 0 || is_label v

-- "wrong value count, reference neither 0 nor a label", of all values
unfoldable pub values_rule : List ℕ → List ℕ → Bool
values_rule [] [] = true
values_rule [] (v ∷ vs) = false
values_rule (k ∷ ks) [] = false
values_rule (k ∷ ks) (v ∷ vs) = value_rule k v && values_rule ks vs

-- The new record: the new label "stamps all fields"; its flag is 0.
unfoldable pub new_record : ℕ → Table → ℕ → List ℕ → Rec
new_record w v r vs =
    record {
      key = place r (new_label v);
      cell = record { flag = 0; regs = map (λ x. reg x (new_label v)) vs ++ replicate (w - length vs) no_reg };
    }

-- "Insertion: .. the clock rises by 1. Each target with an odd flag is redone, once however often it is referenced."
unfoldable pub insertion : ℕ → List Relation → Table → ℕ → List ℕ → Edit
insertion w σ v r vs =
    let c = in_order v.records in
    let x = new_record w v r vs in
    let ks = targets σ is_reference x in
    record {
      checks =
          check 5 (not (leb 1 r && leb r (length σ)))
          ∷ check 7 (not (values_rule (relation_numbered σ r).kinds vs))
          ∷ check 8 (not (all_of (has (shown σ c)) ks))
          ∷ check 9 (some_of (λ (y : Rec). conflict σ y x) (standing σ c))
          ∷ check 11 (eqb (length v.records) v.capacity)
          ∷ check 12 (eqb v.clock largest_counter)
          ∷ check 13 (spent c (odd c ks)) ∷ [];
      changed = x ∷ redoing w c (odd c ks);
      clock = v.clock + 1;
      label = new_label v;
    }

-- The record at a position, counted from 1.
unfoldable pub record_at : Table → ℕ → Rec
record_at v i = get_or v.records (i - 1) (record { key = 0; cell = record { flag = 0; regs = [] } })

-- The register of field f, counted from 1.
unfoldable pub register_at : Rec → ℕ → Reg
register_at x f = get_or x.cell.regs (f - 1) no_reg

-- The record with another register in field f.
unfoldable pub with_register : Rec → ℕ → Reg → Rec
with_register x f g = record { key = x.key; cell = record { flag = x.cell.flag; regs = set x.cell.regs (f - 1) g } }

-- The key that value v leads to under kind k, where that is a nonempty reference of the chosen kinds.
unfoldable pub leading : (ℕ → Bool) → ℕ → ℕ → List ℕ
leading p k v = cond (p k && not (eqb v 0)) (place (leads_to k) v ∷ []) []

-- "For references the new target is redone if odd. Then the old target, if different and reached by abort, is redone if it is odd and a
-- complete even record other than the updated one references it." The condition "reads all flags as the call found them".
unfoldable pub update_redoes : List Relation → List Rec → Rec → ℕ → ℕ → ℕ → List ℕ
update_redoes σ c x k old new =
    odd c (leading is_reference k new ++ only (λ t. not (eqb old new) && supported σ c x.key t) (leading is_abort k old))

-- "another standing record would conflict on a key that names the field": z of the records other than the updated y, d its relation
unfoldable pub update_conflict : List Relation → Relation → ℕ → Rec → Rec → Bool
update_conflict σ d f z y =
    not (eqb z.key y.key) && eqb (relation z) (relation y)
    && (names d.key1 f && conflict_on σ d.key1 z y || names d.key2 f && conflict_on σ d.key2 z y)

-- "Update of one field of a shown record: new stamp as above."
unfoldable pub update : ℕ → List Relation → Table → ℕ → ℕ → ℕ → Edit
update w σ v i f new =
    let c = in_order v.records in
    let x = record_at v i in
    let d = described σ x in
    let k = get_or d.kinds (f - 1) 0 in
    let g = reg new (new_label v) in
    let y = with_register x f g in
    let ks = update_redoes σ c x k (register_at x f).value new in
    record {
      checks =
          check 6 (not (has (shown σ c) x.key))
          ∷ check 7 (not (leb 1 f && leb f (length d.kinds) && value_rule k new))
          ∷ check 8 (not (all_of (has (shown σ c)) (leading is_reference k new)))
          ∷ check 9 (some_of (λ (z : Rec). update_conflict σ d f z y) (standing σ c))
          ∷ check 12 (eqb v.clock largest_counter)
          ∷ check 13 (spent c ks) ∷ [];
      changed = with_register (flag_only w x.key 0) f g ∷ redoing w c ks;
      clock = v.clock + 1;
      label = new_label v;
    }

-- "Each abort target other than itself is redone, once, under the same condition, the deleted record not counting."
unfoldable pub deletion_redoes : List Relation → List Rec → Rec → List ℕ
deletion_redoes σ c x = odd c (only (λ t. not (eqb t x.key) && supported σ c x.key t) (targets σ is_abort x))

-- "Deletion of a shown record: its flag is raised, the clock stays."
unfoldable pub deletion : ℕ → List Relation → Table → ℕ → Edit
deletion w σ v i =
    let c = in_order v.records in
    let x = record_at v i in
    let ks = deletion_redoes σ c x in
    record {
      checks =
          check 6 (not (has (shown σ c) x.key))
          ∷ check 10 (some_of (λ (y : Rec). not (eqb y.key x.key) && references σ is_abort x.key y) (standing σ c))
          ∷ check 13 (spent c ks) ∷ [];
      changed = flag_only w x.key (deleted x.cell.flag) ∷ redoing w c ks;
      clock = v.clock;
      label = 0;
    }
