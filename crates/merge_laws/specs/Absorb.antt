-- Taking in the records of another table one by one (document 01, "Merge and edits"): what the steps of a merge promise.
-- Assumes nothing.
use Rattle.std.specs.Prelude.{ℕ, zero, suc, ◌+◌, ◌-◌, ◌≤◌, ◌<◌, max, ◌≡◌, Bool, true, false, cond, ◌&&◌, ◌||◌, not, List, [], ◌∷◌, ◌++◌, eqb, ltb, length, get_or, set, replicate}
use Rattle.crdt.specs.Flags.{largest_flag}
use Rattle.crdt.specs.Cells.{reg, no_reg, join_reg, reg_changed, Cell, join_cell}
use Rattle.model.specs.Layout.{fields, most_relations, most_records, used_word, first_words, head_words, word, base, used_at, relation_at, label_at, flag_at, value_at, stamp_at}
use Rattle.model.specs.Lists.{only}
use Rattle.model.specs.Records.{Rec, place, relation, label, label_span, has, in_order, distinct, position}
use Rattle.model.specs.Tables.{Table, decode, encode}
use Rattle.model.specs.Merge.{merged_records, changes}

abbrev pub no_rec : Rec
no_rec = record { key = 0; cell = record { flag = 0; regs = [] } }

-- The record of position p, from 1.
abbrev pub nth : List Rec → ℕ → Rec
nth s p = get_or s (p - 1) no_rec

-- The records of a table's words, by position.
abbrev pub records_in : List ℕ → List Rec
records_in t = (decode t).records

abbrev pub with_records : Table → List Rec → Table
with_records v s = record { capacity = v.capacity; replica = v.replica; clock = v.clock; records = s }

abbrev pub with_clock : Table → ℕ → Table
with_clock v c = record { capacity = v.capacity; replica = v.replica; clock = c; records = v.records }

-- The record of key k with flag 0 and no stamps.
unfoldable pub blank : ℕ → Rec
blank k = record { key = k; cell = record { flag = 0; regs = replicate fields no_reg } }

-- Records with one of key k: added at the end where there is none.
unfoldable pub spaced : List Rec → ℕ → List Rec
spaced s k = cond (has s k) s (s ++ (blank k ∷ []))

-- The cell of the record of position p becomes c.
unfoldable pub celled : List Rec → ℕ → Cell → List Rec
celled s p c = set s (p - 1) (record { key = (nth s p).key; cell = c })

-- Record y joined into the record of position p.
unfoldable pub joined_at : List Rec → ℕ → Rec → List Rec
joined_at s p y = celled s p (join_cell (nth s p).cell y.cell)

-- Record y taken in: joined into the record of its key, which is added where there is none.
unfoldable pub absorb : List Rec → Rec → List Rec
absorb s y = joined_at (spaced s y.key) (position y.key (spaced s y.key)) y

-- The records above key k, in list order.
unfoldable pub beyond : ℕ → List Rec → List Rec
beyond k o = only (λ (x : Rec). ltb k x.key) (in_order o)

-- How many records above key k of o are not in s.
unfoldable pub missing : List Rec → ℕ → List Rec → ℕ
missing s k o = length (only (λ (y : Rec). not (has s y.key)) (beyond k o))

-- How many records of a chain are left at position i.
unfoldable pub ahead : List Rec → ℕ → ℕ
ahead s i = cond (eqb i 0) 0 (suc (length (only (λ (x : Rec). ltb (nth s i).key x.key) s)))

-- What a merge needs of a record: a relation of 1 to 8, a label, a flag, a register for each field.
pub record SoundRecord (x : Rec) : Type 0 where
  pub least : 1 ≤ relation x
  pub most : relation x ≤ most_relations
  pub labelled : 1 ≤ label x
  pub flagged : x.cell.flag ≤ largest_flag
  pub wide : length x.cell.regs ≡ fields

-- What a merge needs of a table's value.
pub record SoundTable (v : Table) : Type 0 where
  pub room : length v.records ≤ v.capacity
  pub most : v.capacity ≤ most_records
  pub sound : (i : ℕ) → 1 ≤ i → i ≤ length v.records → SoundRecord (nth v.records i)
  pub single : distinct v.records ≡ true

-- What a merge needs of a table's words: they are the words of their value.
pub record Whole (t : List ℕ) : Type 0 where
  pub words : encode (decode t) ≡ t
  pub value : SoundTable (decode t)

-- Word a is a link of relation r, and the records before it have labels below l: the first word of the relation, or the next word of one of
-- its records.
pub data Linked (s : List Rec) (r l : ℕ) : ℕ → Type 0 where
  first : Linked s r l (first_words + (r - 1))
  next : (p : ℕ) → 1 ≤ p → p ≤ length s → relation (nth s p) ≡ r → label (nth s p) < l → Linked s r l (base p)

-- The record that word a leads to has a label below l.
unfoldable pub precedes : List ℕ → ℕ → ℕ → Bool
precedes t a l = ltb 0 (word t a) && ltb (label_at t (word t a)) l

-- The record that word a leads to has label l.
unfoldable pub meets : List ℕ → ℕ → ℕ → Bool
meets t a l = ltb 0 (word t a) && eqb (label_at t (word t a)) l

-- Word a is the link of relation r where label l belongs.
pub record Sought (t : List ℕ) (r l a : ℕ) : Type 0 where
  pub linked : Linked (decode t).records r l a
  pub stops : precedes t a l ≡ false

-- A walk to label l may begin at word a.
pub record Seekable (t : List ℕ) (l a : ℕ) : Type 0 where
  pub whole : Whole t
  pub relation : ℕ
  pub least : 1 ≤ relation
  pub most : relation ≤ most_relations
  pub linked : Linked (decode t).records relation l a

-- Label l of relation r was sought, and if there is no such record there is room for it.
pub record Open (t : List ℕ) (r l a : ℕ) : Type 0 where
  pub whole : Whole t
  pub least : 1 ≤ r
  pub most : r ≤ most_relations
  pub labelled : 1 ≤ l
  pub below : l < label_span
  pub sought : Sought t r l a
  pub room : has (decode t).records (place r l) ≡ false → length (decode t).records < (decode t).capacity

-- Record j of table b may be taken into table t at word a.
pub record Takeable (t b : List ℕ) (j a : ℕ) : Type 0 where
  pub own : Whole t
  pub other : Whole b
  pub least : 1 ≤ j
  pub most : j ≤ length (decode b).records
  pub sought : Sought t (relation_at b j) (label_at b j) a
  pub room : has (decode t).records (nth (decode b).records j).key ≡ false → length (decode t).records < (decode t).capacity

-- The chain of relation r of table b may be taken into table t.
pub record Chained (t b : List ℕ) (r : ℕ) : Type 0 where
  pub own : Whole t
  pub other : Whole b
  pub least : 1 ≤ r
  pub most : r ≤ most_relations
  pub room : length (merged_records (decode t).records (beyond (place r 0) (decode b).records)) ≤ (decode t).capacity

-- A record of relation r and label l added at the end of table t, and linked in at word a.
unfoldable pub added : List ℕ → ℕ → ℕ → ℕ → List ℕ
added t a r l =
    let u = used_at t + 1 in
    set (set (set (set (set t (base u) (word t a)) (base u + 1) r) (base u + 2) l) used_word u) a u

-- Field j of record p of table t joined with that of record i of table b; fields 1 to n; the flag; the whole record.
unfoldable pub field_joined : List ℕ → ℕ → List ℕ → ℕ → ℕ → List ℕ
field_joined t p b i j =
    let g = join_reg (reg (value_at t p j) (stamp_at t p j)) (reg (value_at b i j) (stamp_at b i j)) in
    set (set t (base p + (head_words - 1) + j) g.value) (base p + (head_words - 1) + fields + j) g.stamp

unfoldable pub fields_joined : ℕ → List ℕ → ℕ → List ℕ → ℕ → List ℕ
fields_joined zero t p b i = t
fields_joined (suc n) t p b i = field_joined (fields_joined n t p b i) p b i (suc n)

unfoldable pub flag_joined : List ℕ → ℕ → List ℕ → ℕ → List ℕ
flag_joined t p b i = set t (base p + 3) (max (flag_at t p) (flag_at b i))

unfoldable pub record_joined : List ℕ → ℕ → List ℕ → ℕ → List ℕ
record_joined t p b i = fields_joined fields (flag_joined t p b i) p b i

-- Whether that changes field j; a field of 1 to n; the flag; the record.
unfoldable pub field_changed : List ℕ → ℕ → List ℕ → ℕ → ℕ → Bool
field_changed t p b i j = let g = reg (value_at t p j) (stamp_at t p j) in reg_changed g (join_reg g (reg (value_at b i j) (stamp_at b i j)))

unfoldable pub fields_changed : ℕ → List ℕ → ℕ → List ℕ → ℕ → Bool
fields_changed zero t p b i = false
fields_changed (suc n) t p b i = fields_changed n t p b i || field_changed (fields_joined n t p b i) p b i (suc n)

unfoldable pub flag_changed : List ℕ → ℕ → List ℕ → ℕ → Bool
flag_changed t p b i = not (eqb (flag_at t p) (max (flag_at t p) (flag_at b i)))

unfoldable pub record_changed : List ℕ → ℕ → List ℕ → ℕ → Bool
record_changed t p b i = flag_changed t p b i || fields_changed fields (flag_joined t p b i) p b i

-- Table t became t': the records of o above key k were still to be taken in, and now those above k' are. Nothing but records changed, n of them so
-- far: with those that the rest still changes they are all.
pub record Taken (t t' : List ℕ) (o : List Rec) (k k' n : ℕ) : Type 0 where
  pub whole : Whole t'
  pub kept : decode t' ≡ with_records (decode t) (decode t').records
  pub same : merged_records (decode t').records (beyond k' o) ≡ merged_records (decode t).records (beyond k o)
  pub count : n + changes (decode t').records (merged_records (decode t').records (beyond k' o)) ≡ changes (decode t).records (merged_records (decode t).records (beyond k o))

-- What merging table b into table t needs: both are whole, and there is room.
pub record Mergeable (t b : List ℕ) : Type 0 where
  pub own : Whole t
  pub other : Whole b
  pub room : length (merged_records (decode t).records (decode b).records) ≤ (decode t).capacity
