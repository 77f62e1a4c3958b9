-- The rules of a table's header, first indices and end, and the answers of the calls, in the forms in which the functions ask for them.
-- Assumes nothing.
use Prim.Native.Nat.{ℕ, suc, ◌+◌, ◌-◌, ◌≤◌, ◌<◌}
use mathlib.Core.Path.{◌≡◌, refl, sym, ◌∙◌}
use mathlib.Core.Bool.{Bool, true, false, cond, ◌&&◌, ◌||◌, not, and-true, and_assoc}
use mathlib.Core.List.{List, []}
use native.Mathlib.Omega.{arith}
use native.Mathlib.Numerals.{add-one}
use lib.Dec.{leb, eqb}
use lib.ListN.{length, get_or, set, take, drop, replicate, drop_of_length-le}
use lib.Seq.{drop-cons}
use borrow.Author.Tests.{leb-true}
use Rattle.crdt.proofs.Tests.{clash, and_left, and_right}
use Rattle.crdt.specs.Labels.{largest_counter, is_replica}
use Rattle.model.specs.Layout.{fields, most_relations, first_words, zero_word, zero_words, head_words, replica_word, word, base, relations, replica_at, clock_at, used_at, first_at}
use Rattle.model.specs.Lists.{each, all_of, lowest}
use Rattle.model.specs.Schemas.{broken}
use Rattle.model.specs.Shapes.{base_in, capacity_in, block_rule_in, empty_block_in, broken_in, header_rules_in, record_rules_in, counters_rule_in}
use Rattle.model.specs.Shapes.{chains_rise_in, on_chain_in, rest_zero_in, well_formed_in}
use Rattle.shape_laws.proofs.Spelled.{sized_in}
use Rattle.model.specs.Layout.{most_records}
use Rattle.model.specs.Shapes.{schema_length_in, table_length_in}
use borrow.Author.Tests.{eqb-true}
use Prim.Native.Nat.{◌*◌}
use Rattle.model.specs.WellFormed.{firsts_rule, empty_above, well_formed}
use Rattle.model.specs.Calls.{schema_length, table_length, bad_index, table_number, start_number, start_table, values_number, values_part, values_first}
use Rattle.layout.proofs.Each.{each_more, each_up}

-- the zeros that end the header, one more
pub zeros_more : (good : Bool) (t : List ℕ) (j x : ℕ) → x ≡ word t (first_words + most_relations + j)
    → good ≡ each j (λ k. eqb (word t (first_words + most_relations + (k - 1))) 0) → (good && eqb x 0) ≡ each (j + 1) (λ k. eqb (word t (first_words + most_relations + (k - 1))) 0)
zeros_more good t j x f g =
    let z : first_words + most_relations + j ≡ first_words + most_relations + (j + 1 - 1) = omega arith in each_more good (eqb x 0) j _ g (rw (f, z))

-- the header of a table of w fields
module _ (w : ℕ) (t : List ℕ) where
  pub header_tested : (replica clock used capacity x : ℕ) (zeros : Bool) → replica ≡ replica_at t → clock ≡ clock_at t → used ≡ used_at t → capacity ≡ capacity_in w t
      → x ≡ word t zero_word → zeros ≡ each zero_words (λ k. eqb (word t (first_words + most_relations + (k - 1))) 0)
      → (is_replica replica && leb clock largest_counter && leb used capacity && eqb x 0 && zeros) ≡ header_rules_in w t
  unfolding header_rules_in
  header_tested replica clock used capacity x zeros a b c d e f = rw (a, b, c, d, e, f)

  pub record Header : Type 0 where
    pub clock : clock_at t ≤ largest_counter
    pub used : used_at t ≤ capacity_in w t

  pub header_says : header_rules_in w t ≡ true → Header
  unfolding header_rules_in
  header_says e =
      let a = and_left (is_replica (replica_at t) && leb (clock_at t) largest_counter && leb (used_at t) (capacity_in w t) && eqb (word t zero_word) 0) _ e in
      let b = and_left (is_replica (replica_at t) && leb (clock_at t) largest_counter && leb (used_at t) (capacity_in w t)) (eqb (word t zero_word) 0) a in
      let c = and_left (is_replica (replica_at t) && leb (clock_at t) largest_counter) (leb (used_at t) (capacity_in w t)) b in
      record {
        clock = leb-true (clock_at t) largest_counter (and_right (is_replica (replica_at t)) (leb (clock_at t) largest_counter) c);
        used = leb-true (used_at t) (capacity_in w t) (and_right (is_replica (replica_at t) && leb (clock_at t) largest_counter) (leb (used_at t) (capacity_in w t)) b);
      }

-- first indices, one more
pub firsts_more : (good : Bool) (t : List ℕ) (r x used : ℕ) → 1 ≤ r → x ≡ first_at t r → used ≡ used_at t → good ≡ each (r - 1) (λ q. leb (first_at t q) (used_at t))
    → (good && leb x used) ≡ each (r + 1 - 1) (λ q. leb (first_at t q) (used_at t))
firsts_more good t r x used h e f g = each_up good (leb x used) r _ h g (rw (e, f))

pub above_more : (good : Bool) (s t : List ℕ) (r x most : ℕ) → 1 ≤ r → x ≡ first_at t r → most ≡ relations s
    → good ≡ each (r - 1) (λ q. leb q (relations s) || eqb (first_at t q) 0)
    → (good && (leb r most || eqb x 0)) ≡ each (r + 1 - 1) (λ q. leb q (relations s) || eqb (first_at t q) 0)
above_more good s t r x most h e f g = each_up good (leb r most || eqb x 0) r _ h g (rw (e, f))

-- the words above the used records
module _ (w : ℕ) (t : List ℕ) where
  pub rest_first : (used k : ℕ) → used ≡ used_at t → k ≡ base_in w (used + 1) → (true && all_of (λ x. eqb x 0) (drop k t)) ≡ rest_zero_in w t
  unfolding rest_zero_in
  rest_first used k e f = rw (f, e)

module _ (t : List ℕ) where
  pub rest_next : (good : Bool) (k : ℕ) {y : Bool} → k < length t → (good && all_of (λ x. eqb x 0) (drop k t)) ≡ y
      → ((good && eqb (get_or t k 0) 0) && all_of (λ x. eqb x 0) (drop (k + 1) t)) ≡ y
  unfolding all_of
  rest_next good k h e =
      rw (add-one k) (and_assoc good (eqb (get_or t k 0) 0) (all_of (λ x. eqb x 0) (drop (suc k) t)) ∙ (rw (drop-cons t k 0 h) at e))

  pub rest_last : (good : Bool) (k : ℕ) {y : Bool} → length t ≤ k → (good && all_of (λ x. eqb x 0) (drop k t)) ≡ y → good ≡ y
  unfolding all_of
  rest_last good k h e = sym (and-true good) ∙ (rw (drop_of_length-le t h) at e)

-- a schema that isn't broken
pub sound_in : (w : ℕ) (s : List ℕ) → broken_in w s ≡ false → relations s ≤ most_relations
unfolding broken_in
sound_in w s e =
    let b = leb 1 (relations s) && leb (relations s) most_relations in
    let rest = each most_relations (λ r. cond (leb r (relations s)) (block_rule_in w s r) (empty_block_in w s r)) in
    leb-true (relations s) most_relations (and_right (leb 1 (relations s)) (leb (relations s) most_relations) (and_left b rest (kept (b && rest) e)))
  where
    kept : (x : Bool) → not x ≡ false → x ≡ true
    kept true h = refl
    kept false h = clash refl h

-- what bounds the records that are read, where the header's words lie in their ranges
pub record Ready (w : ℕ) (s t : List ℕ) : Type 0 where
  pub long : length s ≡ 1 + most_relations * (w + 4)
  pub related : relations s ≤ most_relations
  pub clocked : clock_at t ≤ largest_counter
  pub stored : used_at t ≤ capacity_in w t
  pub few : used_at t ≤ most_records

pub ready : (w : ℕ) (s t : List ℕ) → schema_length_in w s ≡ true → table_length_in w t ≡ true → broken_in w s ≡ false → header_rules_in w t ≡ true → Ready w s t
unfolding schema_length_in
ready w s t a b c d =
    let h = header_says w t d in
    let z = sized_in w t b in
    record {
      long = eqb-true (length s) (1 + most_relations * (w + 4)) a;
      related = sound_in w s c;
      clocked = h.clock;
      stored = h.used;
      few = omega (arith, h.used, z.most);
    }

-- the ways out of well_formed_in
module _ (w : ℕ) (s t : List ℕ) where
  pub formed_header : (x : Bool) → x ≡ header_rules_in w t → x ≡ false → false ≡ well_formed_in w s t
  unfolding well_formed_in
  formed_header x e f = rw (← e, f)

  pub formed_tested : (h f a c z : Bool) → h ≡ header_rules_in w t → h ≡ true → f ≡ firsts_rule t → a ≡ empty_above s t
      → c ≡ (each (used_at t) (λ i. record_rules_in w s t i && counters_rule_in w s t i) && chains_rise_in w t && each (used_at t) (on_chain_in w t))
      → z ≡ rest_zero_in w t → (f && a && c && z) ≡ well_formed_in w s t
  unfolding well_formed_in
  formed_tested h f a c z e₁ e₂ e₃ e₄ e₅ e₆ =
      rw (← e₁, e₂, e₅, ← e₃, ← e₄, ← e₆)
      (regroup f a (each (used_at t) (λ i. record_rules_in w s t i && counters_rule_in w s t i)) (chains_rise_in w t) (each (used_at t) (on_chain_in w t)) z)
    where
      regroup : (f a r c o z : Bool) → (f && a && (r && c && o) && z) ≡ (true && f && a && r && c && o && z)
      regroup true true r c o z = refl
      regroup true false r c o z = refl
      regroup false a r c o z = refl

module _ (s t : List ℕ) where
  -- the answers of the table check
  pub table_length_lem : (x : Bool) → x ≡ (schema_length s && table_length t) → x ≡ false → 1 ≡ table_number s t
  unfolding table_number lowest
  table_length_lem x e f = rw (← e, f)

  module _ (x : Bool) (e : x ≡ (schema_length s && table_length t)) (f : x ≡ true) where
    pub lengths : (schema_length s ≡ true) × (table_length t ≡ true)
    lengths = (and_left (schema_length s) (table_length t) (sym e ∙ f), and_right (schema_length s) (table_length t) (sym e ∙ f))

    pub table_broken : (y : Bool) → y ≡ broken s → y ≡ true → 2 ≡ table_number s t
    unfolding table_number lowest
    table_broken y g h = rw (← e, f, ← g, h)

    pub table_ill : (y z : Bool) → y ≡ broken s → y ≡ false → z ≡ well_formed s t → z ≡ false → 3 ≡ table_number s t
    unfolding table_number lowest
    table_ill y z g h k l = rw (← e, f, ← g, h, ← k, l)

    pub table_good : (y z : Bool) → y ≡ broken s → y ≡ false → z ≡ well_formed s t → z ≡ true → 0 ≡ table_number s t
    unfolding table_number lowest
    table_good y z g h k l = rw (← e, f, ← g, h, ← k, l)

-- the answers of starting, and the table afterwards
module _ (t : List ℕ) (replica : ℕ) (x : Bool) (e : x ≡ table_length t) where
  pub start_length : x ≡ false → (1 ≡ start_number t replica) × (t ≡ start_table t replica)
  unfolding start_table start_number lowest
  start_length f = (rw (← e, f), rw (← e, f))

  pub start_replica : x ≡ true → is_replica replica ≡ false → (5 ≡ start_number t replica) × (t ≡ start_table t replica)
  unfolding start_table start_number lowest
  start_replica f g = (rw (← e, f, g), rw (← e, f, g))

  pub start_done : (z u : List ℕ) → x ≡ true → is_replica replica ≡ true → z ≡ replicate (length t) 0 → u ≡ set z replica_word replica
      → (0 ≡ start_number t replica) × (u ≡ start_table t replica)
  unfolding start_table start_number lowest
  start_done z u f g h k = (rw (← e, f, g), rw (← e, f, g, k, h))

-- the part that values gives
module _ (t : List ℕ) (i : ℕ) (x : Bool) (e : x ≡ table_length t) where
  pub values_length : x ≡ false → [] ≡ values_part t i
  unfolding values_part values_number lowest
  values_length f = rw (← e, f)

  pub values_index : (y : Bool) → x ≡ true → y ≡ bad_index t i → y ≡ true → [] ≡ values_part t i
  unfolding values_part values_number lowest
  values_index y f g h = rw (← e, f, ← g, h)

  pub values_given : (y : Bool) → x ≡ true → y ≡ bad_index t i → y ≡ false → take fields (drop (base i + head_words) t) ≡ values_part t i
  unfolding values_part values_number lowest
  values_given y f g h = rw (← e, f, ← g, h)

  -- and where it begins
  pub first_length : x ≡ false → 0 ≡ values_first t i
  unfolding values_first values_number lowest
  first_length f = rw (← e, f)

  pub first_index_lem : (y : Bool) → x ≡ true → y ≡ bad_index t i → y ≡ true → 0 ≡ values_first t i
  unfolding values_first values_number lowest
  first_index_lem y f g h = rw (← e, f, ← g, h)

  pub first_given : (y : Bool) → x ≡ true → y ≡ bad_index t i → y ≡ false → base i + head_words ≡ values_first t i
  unfolding values_first values_number lowest
  first_given y f g h = rw (← e, f, ← g, h)
