-- The words of the list program's input (document 01: "reads schema, then table, as little-endian words on standard input").
-- Assumes nothing.
use Rattle.std.specs.Prelude.{ℕ, ◌+◌, ◌*◌, ◌/◌, List, length, get_or}
use Rattle.model.specs.Layout.{word_bytes}
use Rattle.model.specs.Lists.{from}

-- The little-endian word whose bytes begin at `at`.
abbrev pub word_at : List ℕ → ℕ → ℕ
word_at b at =
    get_or b at 0 + 256 * (get_or b (at + 1) 0 + 256 * (get_or b (at + 2) 0 + 256 * (get_or b (at + 3) 0 + 256 * (get_or b (at + 4) 0
    + 256 * (get_or b (at + 5) 0 + 256 * (get_or b (at + 6) 0 + 256 * get_or b (at + 7) 0))))))

-- Every whole word of the bytes, in order.
unfoldable pub words_of : List ℕ → List ℕ
words_of b = from 0 (length b / word_bytes) (λ k. word_at b (word_bytes * k))
