-- Document 004 (Ignat, Elvinger, Ba: Synql), figures 14 to 17, the four steps of section 3 and the two compensation cases, as the paper writes them.
-- Labeled timestamps are numbers, ordered as the paper orders them: by timestamp, then by replica identifier.
-- Assumes nothing.
use Rattle.std.specs.Prelude.{ℕ, ◌+◌, max, ◌<◌, ◌≡◌, Bool, true, false, cond, ◌&&◌, ◌↔◌, eqb, ltb}
use Rattle.std.proofs.Math.Option.{Option, none, some}
use Rattle.crdt.specs.Flags.{is_odd}
use Rattle.crdt.specs.Cells.{Reg, reg}

-- Figure 14. (1) "LWWReg = Value × ℕ_I": the record `Reg`, a value and a stamp.
-- (2) "rd(⟨v, t⟩) = v"
abbrev pub rd : Reg → ℕ
rd g = g.value

-- (3) "wr_t(v) = ⟨v, t⟩"
abbrev pub wr : ℕ → ℕ → Reg
wr t v = reg v t

-- (4) "⟨v, t⟩ ⊔ ⟨v', t'⟩ = ⟨v, t⟩ if t > t' else ⟨v', t'⟩"
unfoldable pub join_lWW : Reg → Reg → Reg
join_lWW a b = cond (ltb b.stamp a.stamp) a b

-- Figure 15. (5) "CLFlag = ℕ". (6) "enabled(n) = odd(n)": an enabled flag marks a deletion.
abbrev pub enabled : ℕ → Bool
enabled n = is_odd n

-- (7) "enable(n) = n if enabled(n) else n + 1"
unfoldable pub enable : ℕ → ℕ
enable n = cond (enabled n) n (n + 1)

-- (8) "disable(n) = n + 1 if enabled(n) else n"
unfoldable pub disable : ℕ → ℕ
disable n = cond (enabled n) (n + 1) n

-- (9) "n ⊔ n' = max(n, n')"
abbrev pub join_flag : ℕ → ℕ → ℕ
join_flag n m = max n m

-- Figure 16. Maps are partial functions; "each map is extended to a total function that returns the bottom element ⊥": none.
abbrev pub Map : Type 0 → Type 0
Map A = ℕ → Option A

unfoldable pub join_bottom : {A : Type 0} → (A → A → A) → Option A → Option A → Option A
join_bottom j none y = y
join_bottom j (some a) none = some a
join_bottom j (some a) (some b) = some (j a b)

-- (11) "m ⊔ m' = { k ↦ m⊥(k) ⊔ m'⊥(k) | k ∈ dom(m) ∪ dom(m') }"
abbrev pub join_map : {A : Type 0} → (A → A → A) → Map A → Map A → Map A
join_map j m n k = join_bottom j (m k) (n k)

-- Figure 17. (12) "RDb = Rel ⇀ ℕ_I ⇀ (Fields(r) ⇀ LWWReg) × CLFlag": a tuple's fields, counted from 1, and its flag.
pub record Tuple : Type 0 where
  pub fields : Map Reg
  pub flag : ℕ

abbrev pub RDb : Type 0
RDb = ℕ → ℕ → Option Tuple

-- (10) "⟨a, b⟩ ⊔ ⟨a', b'⟩ = ⟨a ⊔ a', b ⊔ b'⟩", over a join j of registers
abbrev pub join_tuple : (Reg → Reg → Reg) → Tuple → Tuple → Tuple
join_tuple j a b = record { fields = join_map j a.fields b.fields; flag = join_flag a.flag b.flag }

abbrev pub join_db : (Reg → Reg → Reg) → RDb → RDb → RDb
join_db j m n r t = join_bottom (join_tuple j) (m r t) (n r t)

-- (13) "read": the registers, by (2), and the flags, by (6), evaluated
pub record ReadTuple : Type 0 where
  pub values : Map ℕ
  pub deleted : Bool

abbrev pub rd_opt : Option Reg → Option ℕ
rd_opt none = none
rd_opt (some g) = some (rd g)

abbrev pub read_tuple : Option Tuple → Option ReadTuple
read_tuple none = none
read_tuple (some x) = some (record { values = λ f. rd_opt (x.fields f); deleted = enabled x.flag })

abbrev pub read : RDb → ℕ → ℕ → Option ReadTuple
read db r t = read_tuple (db r t)

-- the map with one tuple, "r ↦ t ↦ x"
unfoldable pub single : ℕ → ℕ → Tuple → RDb
single r t x q u = cond (eqb q r && eqb u t) (some x) none

abbrev pub no_fields : Map Reg
no_fields f = none

-- (14) "ins_t(db, r, {f ↦ v}) = r ↦ t ↦ ⟨{f ↦ wr_t(v)}, ⊥⟩": the values as a map
abbrev pub wr_opt : ℕ → Option ℕ → Option Reg
wr_opt t none = none
wr_opt t (some v) = some (wr t v)

abbrev pub ins : ℕ → ℕ → Map ℕ → RDb
ins t r vs = single r t (record { fields = λ f. wr_opt t (vs f); flag = 0 })

-- (15) "del_t(db, r, t') = r ↦ t' ↦ ⟨⊥, enable(delFlag)⟩ where ⟨_, delFlag⟩ = db(r)(t')"
abbrev pub flag_in : Option Tuple → ℕ
flag_in none = 0
flag_in (some x) = x.flag

abbrev pub del : RDb → ℕ → ℕ → RDb
del db r t = single r t (record { fields = no_fields; flag = enable (flag_in (db r t)) })

-- (16) "update_t(db, r, t', f, v) = r ↦ t' ↦ ⟨f ↦ wr_t(v), ⊥⟩"
abbrev pub updated : ℕ → ℕ → ℕ → ℕ → ℕ → RDb
updated t r u f v = single r u (record { fields = λ g. cond (eqb g f) (some (wr t v)) none; flag = 0 })

-- Compensation: it "marks all tuples that are referenced .. as non-deleted", "by incrementing the delete flag": of the chosen tuples, disable(delFlag).
unfoldable pub compensation : RDb → (ℕ → ℕ → Bool) → RDb
compensation db chosen r t = cond (chosen r t) (some (record { fields = no_fields; flag = disable (flag_in (db r t)) })) none

-- "A compensation is applied in two cases": which tuples it marks as non-deleted. The foreign keys of a schema are given by relation and field: the
-- relation referred to, none where the field is no foreign key. What is asked of the database is asked of what (13) reads.
abbrev pub ForeignKeys : Type 0
ForeignKeys = ℕ → ℕ → Option ℕ

-- The tuple u of relation q, marked as deleted.
abbrev pub MarkedDeleted : RDb → ℕ → ℕ → Type 0
MarkedDeleted db q u = (x : ReadTuple) × (read db q u ≡ some x) × (x.deleted ≡ true)

-- The tuple u of relation q is referenced by field f of the tuple t of relation r.
abbrev pub ReferencedBy : ForeignKeys → RDb → ℕ → ℕ → ℕ → ℕ → ℕ → Type 0
ReferencedBy keys db r t f q u = (x : ReadTuple) × (read db r t ≡ some x) × (keys r f ≡ some q) × (x.values f ≡ some u)

-- The same by some field.
abbrev pub Referenced : ForeignKeys → RDb → ℕ → ℕ → ℕ → ℕ → Type 0
Referenced keys db r t q u = (f : ℕ) × ReferencedBy keys db r t f q u

-- "also referenced by a tuple not marked as deleted": by another than the tuple t of relation r, whose reference it is (figures 20 and 21).
pub record AlsoReferenced (keys : ForeignKeys) (db : RDb) (r t q u : ℕ) : Type 0 where
  pub relation : ℕ
  pub tuple : ℕ
  pub field : ℕ
  pub holds : ReadTuple
  pub another : (relation ≡ r) × (tuple ≡ t) → ⊥
  pub present : read db relation tuple ≡ some holds
  pub unmarked : holds.deleted ≡ false
  pub refers : keys relation field ≡ some q
  pub value : holds.values field ≡ some u

-- (i) "the deletion or the update of a foreign key that uses an abort semantic": "all tuples that are referenced by the reference .. if those tuples are
-- also referenced by a tuple not marked as deleted". The reference is that of the tuple t of relation r.
pub record CaseOne (keys : ForeignKeys) (db : RDb) (reference : ℕ → ℕ → Type 0) (r t q u : ℕ) : Type 0 where
  pub referenced : reference q u
  pub marked : MarkedDeleted db q u
  pub also : AlsoReferenced keys db r t q u

-- (ii) "the insertion of a tuple which references another tuple marked as deleted but present in the database state": all tuples referenced by it.
pub record CaseTwo (db : RDb) (reference : ℕ → ℕ → Type 0) (q u : ℕ) : Type 0 where
  pub referenced : reference q u
  pub marked : MarkedDeleted db q u

-- The four steps, over any type of tuples: which are in the replicated state, which are marked as deleted, the identifier of a tuple, the identifiers
-- that it references with abort semantic and at all, which conflict, and which is older.
module _ {X : Type 0} (In marked : X → Type 0) (key : X → ℕ) (aborts refers : X → ℕ → Type 0) (conflicts older : X → X → Type 0) where
  -- "1. Remove all replicated tuples marked as deleted." "2. Add replicated tuples transitively referenced by a tuple that is not marked as deleted
  -- and has an abort semantic upon the deletion of the referenced tuple."
  pub data Stands : X → Type 0 where
    unmarked : (x : X) → In x → (marked x → ⊥) → Stands x
    hop : (y x : X) → Stands y → aborts y (key x) → In x → Stands x

  -- "3. For all set of replicated tuples that have at least one conflicting unique key, keep the oldest (according to their identifiers) one and
  -- remove others." Document 02, F-5: "The comparison with document 004 uses this reading of its step 3." K is what step 3 keeps: each that stands
  -- and conflicts with no older one that step 3 keeps.
  abbrev pub Step3 : (X → Type 0) → Type 0
  Step3 K = (x : X) → K x ↔ (Stands x × ((y : X) → K y → conflicts y x → older y x → ⊥))

  module _ (K : X → Type 0) where
    -- "4. Remove all replicated tuples that transitively reference at least one replicated tuple not present in the computed state."
    pub data Lost : X → Type 0 where
      missing : (x : X) (k : ℕ) → refers x k → ((y : X) → K y → key y ≡ k → ⊥) → Lost x
      through : (x y : X) → refers x (key y) → K y → Lost y → Lost x

    abbrev pub Computed : X → Type 0
    Computed x = K x × (Lost x → ⊥)
