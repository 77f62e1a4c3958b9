-- The cases of a register's join, and the limits of a label, over plain numbers.
-- Assumes nothing.
use Prim.Native.Nat.{ℕ, ◌<◌, ◌≤◌}
use mathlib.Core.Path.{◌≡◌, ◌∙◌, sym, ap}
use mathlib.Core.Bool.{true, ◌&&◌, cond}
use Rattle.std.specs.Ordering.{is_lt, ordering_then, nat_cmp}
use native.Mathlib.Omega.{arith}
use lib.Dec.{leb}
use borrow.Author.Tests.{lt-ltb, le-ltb, le-leb, lt-leb, eq-eqb, ne_eqb, leb-true}
use Rattle.crdt.specs.Labels.{is_counter, is_replica, largest_counter, largest_replica}
use Rattle.crdt.proofs.Tests.{and_left, and_right, Tri, low, same, high, tri}
use Rattle.crdt.specs.Cells.{reg, up_to, join_reg}

module _ (va sa vb sb : ℕ) where
  pub join_later : sa < sb → reg vb sb ≡ join_reg (reg va sa) (reg vb sb)
  unfolding join_reg up_to
  join_later h = rw (lt-ltb sa sb h)

  pub join_earlier : sb < sa → reg va sa ≡ join_reg (reg va sa) (reg vb sb)
  unfolding join_reg up_to
  join_earlier h =
      let l : sb ≤ sa = omega arith in
      let n : sa ≡ sb → ⊥ = omega arith in
      rw (le-ltb sa sb l, ne_eqb sa sb n)

  pub join_tie_up : sa ≡ sb → va ≤ vb → reg vb sb ≡ join_reg (reg va sa) (reg vb sb)
  unfolding join_reg up_to
  join_tie_up e h =
      let l : sb ≤ sa = omega arith in
      rw (le-ltb sa sb l, eq-eqb sa sb e, le-leb va vb h)

  pub join_tie_down : sa ≡ sb → vb < va → reg va sa ≡ join_reg (reg va sa) (reg vb sb)
  unfolding join_reg up_to
  join_tie_down e h =
      let l : sb ≤ sa = omega arith in
      rw (le-ltb sa sb l, eq-eqb sa sb e, lt-leb va vb h)

-- what the test of a label's parts says
pub within : (c r : ℕ) → (is_counter c && is_replica r) ≡ true → (c ≤ largest_counter) × (r ≤ largest_replica)
within c r h =
    let p = and_left (is_counter c) (is_replica r) h in
    let q = and_right (is_counter c) (is_replica r) h in
    (leb-true c largest_counter (and_right (leb 1 c) (leb c largest_counter) p), leb-true r largest_replica (and_right (leb 1 r) (leb r largest_replica) q))

-- the larger of two registers in the order of their fields
pub join_larger : (va sa vb sb : ℕ) → cond (is_lt (ordering_then (nat_cmp sb sa) (nat_cmp vb va))) (reg va sa) (reg vb sb) ≡ join_reg (reg va sa) (reg vb sb)
join_larger va sa vb sb = stamps (tri sa sb)
  where
    values : Tri va vb → sa ≡ sb → cond (is_lt (ordering_then (nat_cmp sb sa) (nat_cmp vb va))) (reg va sa) (reg vb sb) ≡ join_reg (reg va sa) (reg vb sb)
    values (low h) e =
        rw (le-ltb sb sa (omega arith), eq-eqb sb sa (sym e), le-ltb vb va (omega arith), ne_eqb vb va (λ q. omega arith)) (join_tie_up va sa vb sb e (omega arith))
    values (same q) e = rw (le-ltb sb sa (omega arith), eq-eqb sb sa (sym e), le-ltb vb va (omega arith), eq-eqb vb va (sym q)) (join_tie_up va sa vb sb e (omega arith))
    values (high h) e = rw (le-ltb sb sa (omega arith), eq-eqb sb sa (sym e), lt-ltb vb va h) (join_tie_down va sa vb sb e h)

    stamps : Tri sa sb → cond (is_lt (ordering_then (nat_cmp sb sa) (nat_cmp vb va))) (reg va sa) (reg vb sb) ≡ join_reg (reg va sa) (reg vb sb)
    stamps (low h) = let l : sa ≤ sb = omega arith in let n : sb ≡ sa → ⊥ = omega arith in rw (le-ltb sb sa l, ne_eqb sb sa n) (join_later va sa vb sb h)
    stamps (same q) = values (tri va vb) q
    stamps (high h) = rw (lt-ltb sb sa h) (join_earlier va sa vb sb h)
