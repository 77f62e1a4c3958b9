-- The layout of schemas and tables (document 01, "Schema" and "Table", with the figures of document 02, F-7: "records become 28 words (four, twelve
-- values, twelve stamps), schemas 129 words with blocks of 16").
-- Each number of the layout stands here and nowhere else.
-- Assumes nothing.
use Rattle.std.specs.Prelude.{ℕ, ◌+◌, ◌*◌, ◌-◌, ◌/◌, List, length, get_or}

-- "words of 64 bits"
abbrev pub word_bytes : ℕ
word_bytes = 8

-- F-7: "F may be 1 to 12", "twelve values, twelve stamps", "twelve kinds"
abbrev pub fields : ℕ
fields = 12

-- "the number of relations R, 1 to 8"
abbrev pub most_relations : ℕ
most_relations = 8

-- "a key names at least one and at most four fields"
abbrev pub most_key_fields : ℕ
most_key_fields = 4

-- F-7: "blocks of 16 (count, twelve kinds, two masks, zero)"
abbrev pub block_words : ℕ
block_words = fields + 4

-- F-7: "schemas 129 words": the number of relations, then eight blocks
abbrev pub schema_words : ℕ
schema_words = 1 + most_relations * block_words

-- The header's words: "0 replica, 1 clock, 2 used count, 3 zero, 4 to 11 the first record of relations 1 to 8, 12 to 15 zero"
abbrev pub header_words : ℕ
header_words = 16

-- The words of a record before its values: "next, relation, label, flag"
abbrev pub head_words : ℕ
head_words = 4

-- F-7: "records become 28 words (four, twelve values, twelve stamps)"
abbrev pub record_words : ℕ
record_words = head_words + 2 * fields

-- "N from 0 to 4,096"
abbrev pub most_records : ℕ
most_records = 4096

-- F-7: "deltas have N = 13": the edited record, and a target for each field
abbrev pub delta_records : ℕ
delta_records = fields + 1

-- F-7: "deltas have N = 13 and 380 words"
abbrev pub delta_words : ℕ
delta_words = header_words + record_words * delta_records

-- Word k of a slice; 0 past its end.
unfoldable pub word : List ℕ → ℕ → ℕ
word t k = get_or t k 0

-- Where block r of a schema begins.
unfoldable pub block : ℕ → ℕ
block r = 1 + block_words * (r - 1)

-- A schema's words: R, and of relation r the field count, the kind of field j, and key mask m (1 or 2).
unfoldable pub relations : List ℕ → ℕ
relations s = word s 0

unfoldable pub field_count : List ℕ → ℕ → ℕ
field_count s r = word s (block r)

unfoldable pub kind_at : List ℕ → ℕ → ℕ → ℕ
kind_at s r j = word s (block r + j)

unfoldable pub mask_at : List ℕ → ℕ → ℕ → ℕ
mask_at s r m = word s (block r + fields + m)

-- "Record i begins at word 16 + 20(i − 1)", with 28 words a record
unfoldable pub base : ℕ → ℕ
base i = header_words + record_words * (i - 1)

-- N of a table
unfoldable pub capacity_of : List ℕ → ℕ
capacity_of t = (length t - header_words) / record_words

-- The header
abbrev pub replica_word : ℕ
replica_word = 0

abbrev pub clock_word : ℕ
clock_word = 1

abbrev pub used_word : ℕ
used_word = 2

abbrev pub zero_word : ℕ
zero_word = 3

abbrev pub first_words : ℕ
first_words = 4

-- "12 to 15 zero"
abbrev pub zero_words : ℕ
zero_words = header_words - (first_words + most_relations)

unfoldable pub replica_at : List ℕ → ℕ
replica_at t = word t replica_word

unfoldable pub clock_at : List ℕ → ℕ
clock_at t = word t clock_word

unfoldable pub used_at : List ℕ → ℕ
used_at t = word t used_word

-- "4 to 11 the first record of relations 1 to 8"
unfoldable pub first_at : List ℕ → ℕ → ℕ
first_at t r = word t (first_words + (r - 1))

-- A record's words: "next, relation, label, flag", twelve values, twelve stamps. Fields are counted from 1.
unfoldable pub next_at : List ℕ → ℕ → ℕ
next_at t i = word t (base i)

unfoldable pub relation_at : List ℕ → ℕ → ℕ
relation_at t i = word t (base i + 1)

unfoldable pub label_at : List ℕ → ℕ → ℕ
label_at t i = word t (base i + 2)

unfoldable pub flag_at : List ℕ → ℕ → ℕ
flag_at t i = word t (base i + 3)

unfoldable pub value_at : List ℕ → ℕ → ℕ → ℕ
value_at t i j = word t (base i + (head_words - 1) + j)

unfoldable pub stamp_at : List ℕ → ℕ → ℕ → ℕ
stamp_at t i j = word t (base i + (head_words - 1) + fields + j)
