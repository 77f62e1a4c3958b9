-- The figures of twelve fields (document 02, F-7), as data: written out here, as the request has them.
-- Assumes nothing.
use Rattle.std.specs.Prelude.{Bool, ◌&&◌, eqb}
use Rattle.model.specs.Layout.{fields, most_relations, most_key_fields, most_records, block_words, schema_words, header_words, record_words, delta_records, delta_words}

-- "F may be 1 to 12, records become 28 words (four, twelve values, twelve stamps), schemas 129 words with blocks of 16 (count, twelve kinds, two
-- masks, zero), deltas have N = 13 and 380 words." What the request does not name stays.
unfoldable pub twelve_fields : Bool
twelve_fields =
    eqb fields 12 && eqb record_words 28 && eqb schema_words 129 && eqb block_words 16 && eqb delta_records 13 && eqb delta_words 380
    && eqb most_relations 8 && eqb most_key_fields 4 && eqb most_records 4096 && eqb header_words 16
