-- With twelve fields the words and rules of Shapes are the library's.
-- Assumes nothing.
use Prim.Native.Nat.{ℕ, zero, suc, ◌+◌}
use mathlib.Core.Path.{◌≡◌, refl, ap}
use mathlib.Core.Bool.{Bool, ◌&&◌}
use mathlib.Core.List.{List, [], ◌∷◌}
use Rattle.model.specs.Layout.{fields, most_relations, base, block, capacity_of, used_at, first_at, next_at, relation_at, label_at, flag_at, value_at, stamp_at}
use Rattle.model.specs.Layout.{field_count, kind_at, mask_at}
use Rattle.model.specs.Schemas.{block_rule, empty_block, broken}
use Rattle.model.specs.WellFormed.{header_rules, record_rules, counters_rule, chain_from, chain_of, chain_step, rises, chains_rise, on_chain, rest_zero, well_formed}
use Rattle.model.specs.Calls.{schema_length, table_length}
use Rattle.model.specs.Shapes.{block_in, count_in, kind_in, mask_in, base_in, capacity_in, next_in, relation_in, label_in, flag_in, value_in, stamp_in}
use Rattle.model.specs.Shapes.{schema_length_in, table_length_in, block_rule_in, empty_block_in, broken_in, header_rules_in, record_rules_in, counters_rule_in}
use Rattle.model.specs.Shapes.{chain_from_in, chain_in, chain_step_in, rises_in, chains_rise_in, on_chain_in, rest_zero_in, well_formed_in}
use Rattle.layout.proofs.Each.{each_ext}
use Rattle.shape_laws.proofs.Rows.{any_ext}

pub schema_length_same : (s : List ℕ) → schema_length_in fields s ≡ schema_length s
unfolding schema_length_in schema_length
schema_length_same s = refl

pub table_length_same : (t : List ℕ) → table_length_in fields t ≡ table_length t
unfolding table_length_in table_length capacity_in capacity_of
table_length_same t = refl

pub broken_same : (s : List ℕ) → broken_in fields s ≡ broken s
unfolding broken_in broken block_rule_in block_rule empty_block_in empty_block count_in kind_in mask_in block_in field_count kind_at mask_at block
broken_same s = refl

pub header_same : (t : List ℕ) → header_rules_in fields t ≡ header_rules t
unfolding header_rules_in header_rules capacity_in capacity_of
header_same t = refl

unfoldable record_words_lem : Unit {0}
unfolding base_in base relation_in label_in flag_in value_in stamp_in relation_at label_at flag_at value_at stamp_at
record_words_lem = tt

pub record_same : (s t : List ℕ) (i : ℕ) → (record_rules_in fields s t i && counters_rule_in fields s t i) ≡ (record_rules s t i && counters_rule s t i)
unfolding record_words_lem record_rules_in record_rules counters_rule_in counters_rule block_in block count_in kind_in field_count kind_at
record_same s t i = refl

from_same : (n : ℕ) (t : List ℕ) (i : ℕ) → chain_from_in fields n t i ≡ chain_from n t i
unfolding chain_from_in chain_from next_in next_at base_in base
from_same zero t i = refl
from_same (suc n) t zero = refl
from_same (suc n) t (suc i) = ap (λ (l : List ℕ). suc i ∷ l) (from_same n t _)

pub chain_same : (t : List ℕ) (r : ℕ) → chain_in fields t r ≡ chain_of t r
unfolding chain_in chain_of
chain_same t r = from_same (used_at t + 1) t (first_at t r)

pub step_same : (t : List ℕ) (r low i : ℕ) → chain_step_in fields t r low i ≡ chain_step t r low i
unfolding chain_step_in chain_step next_in next_at relation_in relation_at label_in label_at base_in base
step_same t r low i = refl

pub rises_same : (t : List ℕ) (r low : ℕ) (l : List ℕ) → rises_in fields t r low l ≡ rises t r low l
unfolding rises_in rises chain_step_in chain_step next_in next_at relation_in relation_at label_in label_at base_in base
rises_same t r low [] = refl
rises_same t r low (i ∷ is) = ap (λ (b : Bool). chain_step t r low i && b) (rises_same t r (label_at t i) is)

pub on_same : (t : List ℕ) (i : ℕ) → on_chain_in fields t i ≡ on_chain t i
unfolding on_chain_in on_chain
on_same t i = any_ext most_relations _ _ (λ r a b. rw (chain_same t r))

pub rest_same : (t : List ℕ) → rest_zero_in fields t ≡ rest_zero t
unfolding rest_zero_in rest_zero base_in base
rest_same t = refl

pub rise_same : (t : List ℕ) → chains_rise_in fields t ≡ chains_rise t
unfolding chains_rise_in chains_rise
rise_same t = each_ext most_relations _ _ (λ r a b. rw (chain_same t r) (rises_same t r 0 (chain_of t r)))

pub formed_same : (s t : List ℕ) → well_formed_in fields s t ≡ well_formed s t
unfolding well_formed_in well_formed
formed_same s t =
    let records = each_ext (used_at t) _ _ (λ i a b. record_same s t i) in
    let chained = each_ext (used_at t) _ _ (λ i a b. on_same t i) in
    rw (header_same t, rest_same t, records, chained, rise_same t)
