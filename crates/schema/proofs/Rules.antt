-- The rules of a schema in the forms in which the functions ask for them.
-- Assumes nothing.
use Prim.Native.Nat.{ℕ, ◌+◌, ◌*◌, ◌-◌, ◌%◌, ◌^◌, ◌≤◌, ◌<◌}
use mathlib.Core.Path.{◌≡◌}
use mathlib.Core.Bool.{Bool, true, false, cond, ◌&&◌, not, and-false}
use mathlib.Core.List.{List}
use native.Mathlib.Omega.{arith}
use native.Mathlib.Nat.{one-mul, mod-eq_of_lt}
use lib.Pow.{pow-lt}
use lib.Dec.{leb, eqb}
use borrow.Author.Tests.{lt-leb, le-leb}
use Rattle.model.specs.Layout.{fields, most_relations, word, relations}
use Rattle.model.specs.Shapes.{block_in, count_in, kind_in, mask_in, block_rule_in, empty_block_in, broken_in}
use Rattle.model.specs.Lists.{each}
use Rattle.model.specs.Schemas.{kind_rule, mask_rule, broken}
use Rattle.model.specs.Lists.{lowest}
use Rattle.model.specs.Calls.{schema_length, schema_number}
use Rattle.layout.proofs.Each.{each_more}

-- 1 moved up by at most as many digits as a record has fields
pub power : (n : ℕ) → n ≤ fields → (1 * 2 ^ n) % 18446744073709551616 ≡ 2 ^ n
power n h = let p = pow-lt {i = n} {j = 64} (omega arith) in rw (one-mul (2 ^ n)) (mod-eq_of_lt p)

-- one of two tests, by the order of two numbers
module _ {x : Bool} (j n : ℕ) (a b : Bool) where
  pub upto : j ≤ n → x ≡ a → x ≡ cond (leb j n) a b
  upto h e = rw (le-leb j n h) e

  pub above : n < j → x ≡ b → x ≡ cond (leb j n) a b
  above h e = rw (lt-leb j n h) e

-- of a schema of w fields
module _ (w : ℕ) (s : List ℕ) where
  -- a block of too few or too many fields, and any other
  module _ (r count : ℕ) (e : count ≡ count_in w s r) where
    pub block_low : count < 1 → false ≡ block_rule_in w s r
    unfolding block_rule_in
    block_low h = rw (← e, lt-leb 1 count h)

    pub block_high : w < count → false ≡ block_rule_in w s r
    unfolding block_rule_in
    block_high h = rw (← e, lt-leb count w h, and-false)

    pub block_tested : (kinds key1 key2 : Bool) (m1 m2 m3 : ℕ) → 1 ≤ count → count ≤ w
        → kinds ≡ each w (λ j. cond (leb j (count_in w s r)) (kind_rule (relations s) (kind_in w s r j)) (eqb (kind_in w s r j) 0))
        → m1 ≡ mask_in w s r 1 → m2 ≡ mask_in w s r 2 → m3 ≡ mask_in w s r 3 → key1 ≡ mask_rule count m1 → key2 ≡ mask_rule count m2
        → (kinds && key1 && key2 && eqb m3 0) ≡ block_rule_in w s r
    unfolding block_rule_in
    block_tested kinds key1 key2 m1 m2 m3 h g p f1 f2 f3 q1 q2 = rw (p, q1, q2, f1, f2, f3, ← e, le-leb 1 count h, le-leb count w g)

  -- word j + 1 of an empty block
  pub empty_more : (good : Bool) (r j from x : ℕ) → from ≡ block_in w r → x ≡ word s (from + j)
      → good ≡ each j (λ k. eqb (word s (block_in w r + (k - 1))) 0) → (good && eqb x 0) ≡ each (j + 1) (λ k. eqb (word s (block_in w r + (k - 1))) 0)
  empty_more good r j from x e f g = let z : from + j ≡ block_in w r + (j + 1 - 1) = omega arith in each_more good (eqb x 0) j _ g (rw (f, z))

  -- the number of relations out of range, and in it
  module _ (most : ℕ) (e : most ≡ relations s) where
    pub broken_low : most < 1 → true ≡ broken_in w s
    unfolding broken_in
    broken_low h = rw (← e, lt-leb 1 most h)

    pub broken_high : most_relations < most → true ≡ broken_in w s
    unfolding broken_in
    broken_high h = rw (← e, lt-leb most most_relations h, and-false)

    pub broken_tested : (good : Bool) → 1 ≤ most → most ≤ most_relations
        → good ≡ each most_relations (λ r. cond (leb r (relations s)) (block_rule_in w s r) (empty_block_in w s r)) → not good ≡ broken_in w s
    unfolding broken_in
    broken_tested good h g p = rw (p, ← e, le-leb 1 most h, le-leb most most_relations g)

  -- a kind in its place, of the schema's own words
  pub kind_at_place : {x : Bool} (r j most count kind : ℕ) → most ≡ relations s → count ≡ count_in w s r → kind ≡ kind_in w s r j
      → x ≡ cond (leb j count) (kind_rule most kind) (eqb kind 0)
      → x ≡ cond (leb j (count_in w s r)) (kind_rule (relations s) (kind_in w s r j)) (eqb (kind_in w s r j) 0)
  kind_at_place r j most count kind e f g p = rw (e, f, g) at p

-- the answers
pub check_length : (s : List ℕ) → schema_length s ≡ false → 1 ≡ schema_number s
unfolding schema_number lowest
check_length s e = rw e

pub check_broken : (s : List ℕ) → schema_length s ≡ true → broken s ≡ true → 2 ≡ schema_number s
unfolding schema_number lowest
check_broken s e f = rw (e, f)

pub check_good : (s : List ℕ) → schema_length s ≡ true → broken s ≡ false → 0 ≡ schema_number s
unfolding schema_number lowest
check_good s e f = rw (e, f)
