-- The list program's whole text for an input (document 01: "The list program reads schema, then table, as little-endian words on standard input";
-- document 02, F-7: "The list program takes N up to 200").
-- Assumes nothing.
use Rattle.std.specs.Prelude.{ℕ, ◌+◌, ◌*◌, ◌%◌, Bool, cond, ◌&&◌, List, eqb, leb, length, take, drop, replicate}
use Rattle.model.specs.Layout.{word_bytes, fields, schema_words, header_words, record_words, capacity_of}
use Rattle.model.specs.Calls.{schema_length, table_length, marks_number, marks_count, shown_list}
use Rattle.codec.specs.Bytes.{words_of}
use Rattle.list_text.specs.Text.{refused_text, shown_text}

-- F-7: "N up to 200"
abbrev pub most_listed : ℕ
most_listed = 200

abbrev pub most_words : ℕ
most_words = schema_words + header_words + record_words * most_listed

-- The bytes of the longest input that is no refusal.
abbrev pub most_bytes : ℕ
most_bytes = word_bytes * most_words

-- "reads schema, then table"
abbrev pub schema_in : List ℕ → List ℕ
schema_in b = take schema_words (words_of b)

abbrev pub table_in : List ℕ → List ℕ
table_in b = drop schema_words (words_of b)

-- "a whole schema and then a whole table with N at most" 200
unfoldable pub is_whole : List ℕ → Bool
is_whole b =
    eqb (length b % word_bytes) 0 && schema_length (schema_in b) && table_length (table_in b) && leb (capacity_of (table_in b)) most_listed

-- The text for a schema and a table: the list, or the refusal of the marks.
unfoldable pub answer_text : List ℕ → List ℕ → List ℕ
answer_text s t =
    let zeros : List ℕ = replicate (capacity_of t) 0 in
    cond (eqb (marks_number s t zeros) 0) (shown_text s (marks_count s t zeros) (shown_list s t)) (refused_text (marks_number s t zeros))

-- "input that isn't a whole schema and then a whole table with N at most" 200 "gives 1"
unfoldable pub list_text : List ℕ → List ℕ
list_text b = cond (is_whole b) (answer_text (schema_in b) (table_in b)) (refused_text 1)

-- A line has at most 50 characters for each field, its beginning counted in, and a text has a line for each record that the walk gives and one before
-- them.
abbrev pub line_bytes : ℕ
line_bytes = 50 * fields

abbrev pub most_text : ℕ
most_text = line_bytes * (most_listed + 2)
