-- The records that are due to be redone are those of the keys that the definitions of the edits redo.
-- Assumes nothing.
use Prim.Native.Nat.{ℕ, ◌+◌, ◌≤◌}
use mathlib.Core.Path.{◌≡◌, ◌∙◌, ap}
use mathlib.Core.Bool.{Bool, ◌&&◌}
use mathlib.Core.List.{List}
use Rattle.crdt.specs.Flags.{is_odd}
use Rattle.model.specs.Layout.{used_at, kind_at, relation_at, flag_at, value_at}
use Rattle.model.specs.Schemas.{is_reference, schema_of}
use Rattle.model.specs.Records.{in_order}
use Rattle.model.specs.Tables.{decode, record_of}
use Rattle.model.specs.Shown.{targets, references}
use Rattle.model.specs.Edits.{odd, update_redoes, deletion_redoes}
use Rattle.convergence.proofs.Tables.{Good}
use Rattle.effects.specs.Effects.{key_at, insertion_due, update_due, deletion_due}
use Rattle.effects.proofs.Joins.{among}
use Rattle.effects.proofs.Flags.{among_odd}
use Rattle.effects.proofs.Changes.{flag_held}
use Rattle.effects.proofs.Indices.{other_key}
use Rattle.effects.proofs.Update as upd
use Rattle.effects.proofs.Deletion as del

module _ (s t : List ℕ) (g : Good s t) (n : ℕ) (a : 1 ≤ n) (b : n ≤ used_at t) where
  odd_among : (l : List ℕ) → among (key_at t n) (odd (in_order (decode t).records) l) ≡ (is_odd (flag_at t n) && among (key_at t n) l)
  odd_among l = among_odd (in_order (decode t).records) (key_at t n) l ∙ rw (flag_held s t g n a b)

  pub insertion_keys : (t' : List ℕ) → among (key_at t n) (odd (in_order (decode t).records) (targets (schema_of s) is_reference (record_of t' (used_at t + 1)))) ≡ insertion_due s t t' n
  unfolding insertion_due references
  insertion_keys t' = odd_among _

  pub update_keys : (i f new : ℕ) → 1 ≤ i → i ≤ used_at t
      → among (key_at t n) (update_redoes (schema_of s) (in_order (decode t).records) (record_of t i) (kind_at s (relation_at t i) f) (value_at t i f) new) ≡ update_due s t i f new n
  unfolding update_due update_redoes
  update_keys i f new c d =
      unfold upd.aims record_of in odd_among (upd.aims s t i new (kind_at s (relation_at t i) f) (value_at t i f))
      ∙ ap (λ (q : Bool). is_odd (flag_at t n) && q) (upd.aim_is s t g i new (kind_at s (relation_at t i) f) (value_at t i f) n c d)

  pub deletion_keys : (i : ℕ) → 1 ≤ i → i ≤ used_at t → (n ≡ i → ⊥)
      → among (key_at t n) (deletion_redoes (schema_of s) (in_order (decode t).records) (record_of t i)) ≡ deletion_due s t i n
  unfolding deletion_due deletion_redoes
  deletion_keys i c d h =
      unfold del.aims record_of in odd_among (del.aims s t i)
      ∙ ap (λ (q : Bool). is_odd (flag_at t n) && q) (del.aim_is s t g i n c d (other_key s t g n i a b c d h))
