-- The record to edit: its index is one of 1 to used, and no other record has its key.
-- Assumes nothing.
use Prim.Native.Nat.{ℕ, ◌≤◌}
use mathlib.Core.Path.{◌≡◌, sym, ◌∙◌}
use mathlib.Core.Bool.{Bool, true, false, ◌||◌, ◌&&◌, not}
use mathlib.Core.List.{List, ◌∷◌}
use native.Mathlib.Omega.{arith}
use lib.Dec.{eqb, ltb}
use borrow.Author.Tests.{eqb-false, ltb-false}
use Rattle.crdt.proofs.Tests.{or_false}
use Rattle.model.specs.Layout.{capacity_of, used_at}
use Rattle.model.specs.Lists.{all_of, check}
use Rattle.model.specs.Schemas.{broken}
use Rattle.model.specs.Tables.{decode, record_of}
use Rattle.model.specs.WellFormed.{well_formed}
use Rattle.model.specs.Calls.{schema_length, table_length, delta_length, bad_index, edit_number}
use Rattle.model.specs.Edits as edits
use Rattle.laws.proofs.Valid.{true_distinct}
use Rattle.laws.proofs.Checks.{numbered, passed}
use Rattle.wellformed.proofs.Follow.{record_at, same_position}
use Rattle.convergence.proofs.Tables.{Good, good_valid}
use Rattle.effects.specs.Effects.{key_at}
use Rattle.effects.proofs.Words.{used_is, record_is, reads}

-- an accepted edit had a good index
pub index_good : (index : Bool) (s t d : List ℕ) (e : edits.Edit) → all_of numbered e.checks ≡ true → edit_number index s t d e ≡ 0 → index ≡ false
unfolding edit_number all_of
index_good index s t d e m h =
    let p = passed (check 1 (not (schema_length s && table_length t && delta_length d) || index) ∷ check 2 (broken s) ∷ check 3 (not (well_formed s t)) ∷ e.checks) m h in
    (or_false (not (schema_length s && table_length t && delta_length d)) index p.0).1

pub index_bounds : (t : List ℕ) (i : ℕ) → bad_index t i ≡ false → (1 ≤ i) × (i ≤ used_at t)
unfolding bad_index
index_bounds t i h =
    let p = (or_false (eqb i 0 || ltb (used_at t) i) (ltb (capacity_of t) i) h).0 in
    let q = or_false (eqb i 0) (ltb (used_at t) i) p in
    let n : i ≡ 0 → ⊥ = eqb-false i 0 q.0 in
    (omega arith, ltb-false (used_at t) i q.1)

-- the record of an index, and its key
module _ (s t : List ℕ) (g : Good s t) where
  pub edit_record : (i : ℕ) → 1 ≤ i → i ≤ used_at t → edits.record_at (decode t) i ≡ record_of t i
  unfolding edits.record_at
  edit_record i a b = record_is t i a b

  pub other_key : (n i : ℕ) → 1 ≤ n → n ≤ used_at t → 1 ≤ i → i ≤ used_at t → (n ≡ i → ⊥) → key_at t n ≡ key_at t i → ⊥
  other_key n i a b a' b' h e =
      let u = used_is t in
      h (same_position n i (decode t).records (true_distinct _ (good_valid s t g).distinct) a (omega arith) a' (omega arith) (sym (reads s t g n a b).key ∙ e ∙ (reads s t g i a' b').key))
