-- The records that the own table lacks, counted chain by chain, in the forms in which the code asks for them.
-- Assumes nothing.
use Prim.Native.Nat.{ℕ, ◌+◌, ◌≤◌, ◌<◌}
use mathlib.Core.Path.{◌≡◌, refl, ◌∙◌}
use mathlib.Core.Bool.{Bool, true, false, cond, not}
use Rattle.std.specs.Int.{from_bool}
use mathlib.Core.List.{List}
use native.Mathlib.Omega.{arith}
use lib.ListN.{length}
use Rattle.model.specs.Layout.{most_relations, used_at, next_at, label_at}
use Rattle.model.specs.Records.{place}
use Rattle.model.specs.Merge.{merged_records}
use Rattle.merge_laws.specs.Absorb.{records_in, missing, Whole, meets, Seekable}
use Rattle.merge_laws.proofs.Walk.{used_is}
use Rattle.merge_laws.proofs.Chain.{Counting, count_end, count_seek, count_on, count_linked, merged_missing, missing_none}
use Rattle.merge_seek.proofs.Forms.{Seeks, sought_at}

-- one record
pub absent_is : (b c : Bool) (n : ℕ) → b ≡ c → n ≡ from_bool (not b) → n ≡ cond c 0 1
absent_is true c n e h = h ∙ rw (← e) refl
absent_is false c n e h = h ∙ rw (← e) refl

-- all chains
pub count_all : (t b : List ℕ) (wt : Whole t) (wb : Whole b) (n r : ℕ) → r ≤ most_relations + 1 → most_relations < r → n + missing (records_in t) (place r 0) (records_in b) ≡ missing (records_in t) (place 1 0) (records_in b)
    → used_at t + n ≡ length (merged_records (records_in t) (records_in b))
count_all t b wt wb n r h p e =
    let q : r ≡ most_relations + 1 = omega arith in
    let z : n + missing (records_in t) (place (most_relations + 1) 0) (records_in b) ≡ missing (records_in t) (place 1 0) (records_in b) = rw q at e in
    omega (arith, used_is t wt, missing_none (records_in t) b wb, merged_missing (records_in t) b wb)

-- a chain counted
module _ (t b : List ℕ) (wt : Whole t) (wb : Whole b) (r : ℕ) (r₁ : 1 ≤ r) (r₂ : r ≤ most_relations) (j a n : ℕ) (g : Counting t b r j a n) where
  pub count_seeks : (l : ℕ) → 0 < j → l ≡ label_at b j → Seekable t l a
  count_seeks l p e = rw e (count_seek t b wt wb r r₁ r₂ j a n g p)

  pub count_turn : 0 < j → (l l' a' x j' : ℕ) → l ≡ label_at b j → Seeks t l a a' → l' ≡ label_at b j → x ≡ cond (meets t a' l') 0 1 → j' ≡ next_at b j → Counting t b r j' a' (n + x)
  count_turn p l l' a' x j' e s d c h = count_on t b wt wb r r₁ r₂ j a n g p a' j' (n + x) (sought_at t b r j a l a' r₁ r₂ e (count_linked t b wt wb r r₁ r₂ j a n g p) s) h (rw (c, d))

  pub count_done : j ≤ 0 → n + missing (records_in t) (place (r + 1) 0) (records_in b) ≡ missing (records_in t) (place r 0) (records_in b)
  count_done p = count_end t b wt wb r r₁ r₂ j a n g (omega arith)

small : (x : ℕ) (c : Bool) → x ≡ cond c 0 1 → x ≤ 1
small x true e = omega arith
small x false e = omega arith

pub absent_small : (x : ℕ) (t : List ℕ) (a l : ℕ) → x ≡ cond (meets t a l) 0 1 → x ≤ 1
absent_small x t a l e = small x (meets t a l) e
