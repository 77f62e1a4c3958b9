-- What an accepted edit does to the words of its table, apart from the delta (document 01, "Merge and edits"). t are the words before, t' those
-- after. Each record's words but its next are told here: a table that passes the table check has no other words left free (proofs/Settled).
-- Assumes nothing.
use Rattle.std.specs.Prelude.{ℕ, ◌+◌, ◌-◌, ◌≤◌, ◌<◌, ◌≡◌, Bool, true, false, ◌||◌, ◌&&◌, not, List, eqb, length, get_or}
use Rattle.crdt.specs.Labels.{label_of}
use Rattle.crdt.specs.Flags.{is_odd, is_even}
use Rattle.model.specs.Layout.{fields, field_count, kind_at, replica_at, clock_at, used_at, relation_at, label_at, flag_at, value_at, stamp_at}
use Rattle.model.specs.Lists.{any}
use Rattle.model.specs.Schemas.{is_reference, is_abort, leads_to, schema_of}
use Rattle.model.specs.Records.{place}
use Rattle.model.specs.Tables.{record_of}
use Rattle.model.specs.Shown.{references, live}

-- Relation and label of record i as one number.
abbrev pub key_at : List ℕ → ℕ → ℕ
key_at t i = place (relation_at t i) (label_at t i)

-- "the new label is clock + 1 with the own replica number"
abbrev pub next_label : List ℕ → ℕ
next_label t = label_of (clock_at t + 1) (replica_at t)

-- "a complete even record other than" record i "references" record n; both kinds of reference count
unfoldable pub held_beside : List ℕ → List ℕ → ℕ → ℕ → Bool
held_beside s t i n =
    any (used_at t) (λ m. not (eqb m i) && live (schema_of s) (record_of t m) && references (schema_of s) is_reference (key_at t n) (record_of t m))

-- A flag f before and f' after: "redoing adds 1 to an odd flag", "otherwise neither alters it".
pub record Redone (due : Bool) (f f' : ℕ) : Type 0 where
  pub odd : due ≡ true → is_odd f ≡ true
  pub raised : due ≡ true → f' ≡ f + 1
  pub even : due ≡ true → is_even f' ≡ true
  pub kept : due ≡ false → f' ≡ f

-- "old positions remain": record i has the same relation and label.
pub record Named (t t' : List ℕ) (i : ℕ) : Type 0 where
  pub relation : relation_at t' i ≡ relation_at t i
  pub label : label_at t' i ≡ label_at t i

-- Record i has the same relation, label, values and stamps.
pub record Kept (t t' : List ℕ) (i : ℕ) : Type 0 where
  pub named : Named t t' i
  pub values : (j : ℕ) → 1 ≤ j → j ≤ fields → value_at t' i j ≡ value_at t i j
  pub stamps : (j : ℕ) → 1 ≤ j → j ≤ fields → stamp_at t' i j ≡ stamp_at t i j

-- The new record of an insertion, at position i.
pub record Fresh (s t' : List ℕ) (i r : ℕ) (vs : List ℕ) (l : ℕ) : Type 0 where
  -- the relation asked for, the new label, a flag that no deletion has raised, and the values given
  pub relation : relation_at t' i ≡ r
  pub label : label_at t' i ≡ l
  pub flag : flag_at t' i ≡ 0
  pub values : (j : ℕ) → 1 ≤ j → j ≤ field_count s r → value_at t' i j ≡ get_or vs (j - 1) 0
  -- "it stamps all fields"
  pub stamps : (j : ℕ) → 1 ≤ j → j ≤ field_count s r → stamp_at t' i j ≡ l
  -- "unused fields are zero"
  pub no_values : (j : ℕ) → field_count s r < j → j ≤ fields → value_at t' i j ≡ 0
  pub no_stamps : (j : ℕ) → field_count s r < j → j ≤ fields → stamp_at t' i j ≡ 0

-- "Each target with an odd flag is redone": the new record references record n.
unfoldable pub insertion_due : List ℕ → List ℕ → List ℕ → ℕ → Bool
insertion_due s t t' n = is_odd (flag_at t n) && references (schema_of s) is_reference (key_at t n) (record_of t' (used_at t + 1))

-- An insertion into relation r; l is the label handed back.
pub record Inserted (s t t' : List ℕ) (r : ℕ) (vs : List ℕ) (l : ℕ) : Type 0 where
  -- N stays
  pub size : length t' ≡ length t
  -- "others are added at used + 1 onward"
  pub used : used_at t' ≡ used_at t + 1
  -- "the clock rises by 1"
  pub clock : clock_at t' ≡ clock_at t + 1
  -- "the own replica number and old positions remain"
  pub replica : replica_at t' ≡ replica_at t
  -- "the new label is clock + 1 with the own replica number"
  pub label : l ≡ next_label t
  -- "and it stamps all fields"
  pub fresh : Fresh s t' (used_at t + 1) r vs l
  -- "old positions remain"
  pub kept : (n : ℕ) → 1 ≤ n → n ≤ used_at t → Kept t t' n
  -- "Each target with an odd flag is redone, once however often it is referenced."
  pub flags : (n : ℕ) → 1 ≤ n → n ≤ used_at t → Redone (insertion_due s t t' n) (flag_at t n) (flag_at t' n)

-- Under kind k value v references record n, where p chooses the kinds.
unfoldable pub leads_at : (ℕ → Bool) → ℕ → ℕ → List ℕ → ℕ → Bool
leads_at p k v t n = p k && not (eqb v 0) && eqb (key_at t n) (place (leads_to k) v)

-- "For references the new target is redone if odd. Then the old target, if different and reached by abort, is redone if it is odd and a
-- complete even record other than the updated one references it."
unfoldable pub update_due : List ℕ → List ℕ → ℕ → ℕ → ℕ → ℕ → Bool
update_due s t i f new n =
    let k = kind_at s (relation_at t i) f in
    is_odd (flag_at t n) && (leads_at is_reference k new t n || not (eqb (value_at t i f) new) && held_beside s t i n && leads_at is_abort k (value_at t i f) t n)

-- An update of field f of record i to new.
pub record Updated (s t t' : List ℕ) (i f new : ℕ) : Type 0 where
  -- N stays
  pub size : length t' ≡ length t
  -- no record is added
  pub used : used_at t' ≡ used_at t
  -- "new stamp as above": the clock rises by 1
  pub clock : clock_at t' ≡ clock_at t + 1
  -- "the own replica number and old positions remain"
  pub replica : replica_at t' ≡ replica_at t
  -- "Update of one field of a shown record: new stamp as above."
  pub value : value_at t' i f ≡ new
  pub stamp : stamp_at t' i f ≡ next_label t
  -- "old positions remain"
  pub named : (n : ℕ) → 1 ≤ n → n ≤ used_at t → Named t t' n
  -- "of one field": every other value and stamp is as before
  pub values : (n j : ℕ) → 1 ≤ n → n ≤ used_at t → 1 ≤ j → j ≤ fields → ((n ≡ i) × (j ≡ f) → ⊥) → value_at t' n j ≡ value_at t n j
  pub stamps : (n j : ℕ) → 1 ≤ n → n ≤ used_at t → 1 ≤ j → j ≤ fields → ((n ≡ i) × (j ≡ f) → ⊥) → stamp_at t' n j ≡ stamp_at t n j
  -- "the new target is redone if odd. Then the old target .."
  pub flags : (n : ℕ) → 1 ≤ n → n ≤ used_at t → Redone (update_due s t i f new n) (flag_at t n) (flag_at t' n)

-- "Each abort target other than itself is redone, once, under the same condition, the deleted record not counting."
unfoldable pub deletion_due : List ℕ → List ℕ → ℕ → ℕ → Bool
deletion_due s t i n = is_odd (flag_at t n) && (held_beside s t i n && references (schema_of s) is_abort (key_at t n) (record_of t i))

-- A deletion of record i.
pub record Deleted (s t t' : List ℕ) (i : ℕ) : Type 0 where
  -- N stays
  pub size : length t' ≡ length t
  -- no record is added
  pub used : used_at t' ≡ used_at t
  -- "the clock stays"
  pub clock : clock_at t' ≡ clock_at t
  -- "the own replica number and old positions remain"
  pub replica : replica_at t' ≡ replica_at t
  -- "old positions remain", and so do all values and stamps
  pub kept : (n : ℕ) → 1 ≤ n → n ≤ used_at t → Kept t t' n
  -- "Deletion of a shown record: its flag is raised": "Deleting adds 1 to an even flag", and it was even
  pub even : is_even (flag_at t i) ≡ true
  pub raised : flag_at t' i ≡ flag_at t i + 1
  pub odd : is_odd (flag_at t' i) ≡ true
  -- "Each abort target other than itself is redone, once, under the same condition"
  pub flags : (n : ℕ) → 1 ≤ n → n ≤ used_at t → (n ≡ i → ⊥) → Redone (deletion_due s t i n) (flag_at t n) (flag_at t' n)
