-- Words of a form by its number of fields w: how large the numbers grow, and where they stand.
-- Assumes nothing.
use Prim.Native.Nat.{ℕ, suc, ◌+◌, ◌*◌, ◌-◌, ◌/◌, ◌≤◌, ◌<◌, ◌^◌}
use mathlib.Core.Path.{◌≡◌, ◌∙◌, sym}
use mathlib.Core.List.{List}
use native.Mathlib.Omega.{arith}
use native.Mathlib.Nat.{mul-suc, mul-le-mul_left, mul_comm}
use lib.ListN.{length}
use Rattle.std.proofs.lemmas.Nat.{mul-le}
use Rattle.std.proofs.Math.Nat.{div-mul-le_self}
use Rattle.model.specs.Layout.{fields, most_relations, header_words, head_words, word}
use Rattle.model.specs.Shapes.{block_in, base_in, capacity_in}
use Rattle.layout.proofs.Words.{word_past}

-- no less than with no field, and no more than with all of them
pub base_least : (w i : ℕ) → header_words + 4 * (i - 1) ≤ base_in w i
unfolding base_in
base_least w i = omega (arith, mul-le 4 (i - 1) (4 + 2 * w) (i - 1) (omega arith) (omega arith))

pub base_bound : (w i : ℕ) → w ≤ fields → base_in w i ≤ header_words + 28 * (i - 1)
unfolding base_in
base_bound w i h = omega (arith, mul-le (4 + 2 * w) (i - 1) 28 (i - 1) (omega arith) (omega arith))

pub block_least : (w r : ℕ) → 1 + 4 * (r - 1) ≤ block_in w r
unfolding block_in
block_least w r = omega (arith, mul-le 4 (r - 1) (w + 4) (r - 1) (omega arith) (omega arith))

pub block_bound : (w r : ℕ) → w ≤ fields → block_in w r ≤ 1 + 16 * (r - 1)
unfolding block_in
block_bound w r h = omega (arith, mul-le (w + 4) (r - 1) 16 (r - 1) (omega arith) (omega arith))

-- a record or a block whose number is above 2^58
pub record_far_in : (w : ℕ) (t : List ℕ) (i part j : ℕ) → length t ≤ 2 ^ 60 → 2 ^ 58 < i → 0 ≡ word t (base_in w i + part + j)
record_far_in w t i part j h g = word_past t _ (omega (arith, base_least w i))

pub block_far_in : (w : ℕ) (s : List ℕ) (r part j : ℕ) → length s ≤ 2 ^ 60 → 2 ^ 58 < r → 0 ≡ word s (block_in w r + part + j)
block_far_in w s r part j h g = word_past s _ (omega (arith, block_least w r))

-- a record within the capacity lies in the table, and the block of a relation in the schema
step_back : (k i : ℕ) → 1 ≤ i → k * (i - 1) + k ≡ k * i
step_back k i h =
    let e : suc (i - 1) ≡ i = omega arith in
    sym (mul-suc k (i - 1)) ∙ rw e

pub record InsideIn (w : ℕ) (t : List ℕ) (i : ℕ) : Type 0 where
  pub small : 4 * i ≤ length t
  pub within : base_in w i + (head_words + 2 * w) ≤ length t

pub inside_in : (w : ℕ) (t : List ℕ) (i : ℕ) → 1 ≤ i → i ≤ capacity_in w t → InsideIn w t i
unfolding capacity_in base_in
inside_in w t i h g =
    let k = head_words + 2 * w in
    let a : k * i ≤ k * ((length t - header_words) / k) = mul-le-mul_left k g in
    let b : (length t - header_words) / k * k ≤ length t - header_words = div-mul-le_self (length t - header_words) k in
    let c : k * ((length t - header_words) / k) ≡ (length t - header_words) / k * k = mul_comm k ((length t - header_words) / k) in
    let d : 4 * i ≤ k * i = mul-le 4 i k i (omega arith) (omega arith) in
    let e = step_back k i h in
    record { small = omega arith; within = omega arith }

pub block_inside : (w r : ℕ) → r ≤ most_relations → block_in w r + (w + 4) ≤ 1 + most_relations * (w + 4)
unfolding block_in
block_inside w r h = omega (arith, mul-le (w + 4) (r - 1) (w + 4) 7 (omega arith) (omega arith))
