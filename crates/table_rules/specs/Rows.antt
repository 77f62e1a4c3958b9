-- The rules of a record by its own words alone, with its counters: what one pass over a record's words tests.
-- Assumes nothing.
use Rattle.std.specs.Prelude.{ℕ, ◌+◌, ◌-◌, Bool, cond, ◌||◌, ◌&&◌, not, List, eqb, leb}
use Rattle.crdt.specs.Labels.{is_label, counter_of}
use Rattle.crdt.specs.Flags.{largest_flag}
use Rattle.model.specs.Layout.{head_words, word, relations}
use Rattle.model.specs.Shapes.{count_in, kind_in}
use Rattle.model.specs.Lists.{each}
use Rattle.model.specs.Schemas.{is_reference}
use Rattle.model.specs.WellFormed.{field_rule}

-- a label whose counter is none above the clock
unfoldable pub label_under : ℕ → ℕ → Bool
label_under clock x = is_label x && leb (counter_of x) clock

-- the counters of a field's stamp, and of its value where that is a reference
unfoldable pub counters_under : ℕ → ℕ → ℕ → ℕ → Bool
counters_under clock kind value stamp = leb (counter_of stamp) clock && (not (is_reference kind) || leb (counter_of value) clock)

-- field j, where there are count fields, with its counters
unfoldable pub field_placed : ℕ → ℕ → ℕ → ℕ → ℕ → ℕ → Bool
field_placed clock count j kind value stamp =
    cond (leb j count) (field_rule kind value stamp) (eqb value 0 && eqb stamp 0) && counters_under clock kind value stamp

-- fields 1 to n of row x, which has w, under block b
unfoldable pub fields_good_to : ℕ → ℕ → ℕ → List ℕ → List ℕ → Bool
fields_good_to w n clock b x =
    each n (λ j. field_placed clock (word b 0) j (word b j) (word x (head_words - 1 + j)) (word x (head_words - 1 + w + j)))

-- row x of w fields under schema s
unfoldable pub row_good : ℕ → List ℕ → ℕ → List ℕ → Bool
row_good w s clock x =
    leb 1 (word x 1) && leb (word x 1) (relations s) && label_under clock (word x 2) && leb (word x 3) largest_flag
    && each w (λ j. field_placed clock (count_in w s (word x 1)) j (kind_in w s (word x 1) j) (word x (head_words - 1 + j)) (word x (head_words - 1 + w + j)))
