-- Schemas (document 01, "Schema", with the figures of document 02, F-7).
-- Assumes nothing.
use Rattle.std.specs.Prelude.{ℕ, ◌+◌, ◌-◌, ◌/◌, ◌%◌, ◌^◌, Bool, cond, ◌||◌, ◌&&◌, not, List, [], eqb, ltb, leb, get_or}
use Rattle.std.specs.Int.Count.{ones}
use Rattle.model.specs.Layout.{fields, most_relations, most_key_fields, block, block_words, word, relations, field_count, kind_at, mask_at}
use Rattle.model.specs.Lists.{each, listed}

-- "Kind 1 is a plain value; 16 + r is a reference to relation r with abort; 32 + r is one with propagation"
abbrev pub plain : ℕ
plain = 1

abbrev pub abort_kinds : ℕ
abort_kinds = 16

abbrev pub propagation_kinds : ℕ
propagation_kinds = 32

abbrev pub is_reference : ℕ → Bool
is_reference k = leb abort_kinds k

abbrev pub is_abort : ℕ → Bool
is_abort k = leb abort_kinds k && ltb k propagation_kinds

-- The relation that a reference of kind k leads to.
abbrev pub leads_to : ℕ → ℕ
leads_to k = k % abort_kinds

-- "r is 1 to R"
abbrev pub kind_rule : ℕ → ℕ → Bool
kind_rule R k = eqb k plain || leb (abort_kinds + 1) k && leb k (abort_kinds + R) || leb (propagation_kinds + 1) k && leb k (propagation_kinds + R)

-- "Mask 0 is no key; otherwise a key names at least one and at most four fields, all within F." Bit 0 is field 1.
abbrev pub mask_rule : ℕ → ℕ → Bool
mask_rule F m = eqb m 0 || leb 1 (ones m) && leb (ones m) most_key_fields && ltb m (2 ^ F)

-- "F may be 1 to 12" (F-7), "kinds above F are 0", and the block ends with "a zero".
unfoldable pub block_rule : List ℕ → ℕ → Bool
block_rule s r =
    leb 1 (field_count s r) && leb (field_count s r) fields
    && each fields (λ j. cond (leb j (field_count s r)) (kind_rule (relations s) (kind_at s r j)) (eqb (kind_at s r j) 0))
    && mask_rule (field_count s r) (mask_at s r 1) && mask_rule (field_count s r) (mask_at s r 2)
    && eqb (mask_at s r 3) 0

-- "Blocks above R .. are 0": word j of block r, j from 1
unfoldable pub empty_block : List ℕ → ℕ → Bool
empty_block s r = each block_words (λ j. eqb (word s (block r + (j - 1))) 0)

-- "Word 0 is the number of relations R, 1 to 8." A schema that breaks any rule of the section is broken.
unfoldable pub broken : List ℕ → Bool
broken s =
    not (leb 1 (relations s) && leb (relations s) most_relations
    && each most_relations (λ r. cond (leb r (relations s)) (block_rule s r) (empty_block s r)))

-- A relation: the kinds of its F fields and its two key masks.
pub record Relation : Type 0 where
  pub kinds : List ℕ
  pub key1 : ℕ
  pub key2 : ℕ

abbrev pub no_relation : Relation
no_relation = record { kinds = []; key1 = 0; key2 = 0 }

unfoldable pub relation_of : List ℕ → ℕ → Relation
relation_of s r = record { kinds = listed (field_count s r) (kind_at s r); key1 = mask_at s r 1; key2 = mask_at s r 2 }

-- The value of a schema's words: relations 1 to R.
unfoldable pub schema_of : List ℕ → List Relation
schema_of s = listed (relations s) (relation_of s)

unfoldable pub relation_numbered : List Relation → ℕ → Relation
relation_numbered σ r = get_or σ (r - 1) no_relation

-- The mask names field f: "bit 0 is field 1".
abbrev pub names : ℕ → ℕ → Bool
names m f = eqb (m / 2 ^ (f - 1) % 2) 1
