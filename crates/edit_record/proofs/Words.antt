-- The words of a delta after stores.
-- Assumes nothing.
use Prim.Native.Nat.{ℕ, ◌+◌, ◌*◌, ◌-◌}
use mathlib.Core.Path.{◌≡◌, refl, ◌∙◌, ap}
use mathlib.Core.Bool.{Bool, true, false, cond, ◌||◌, ◌&&◌}
use mathlib.Core.List.{List, []}
use lib.Dec.{eqb, ltb}
use lib.ListN.{length, set, replicate}
use Rattle.crdt.specs.Labels.{label_within}
use Rattle.crdt.specs.Flags.{redone}
use Rattle.model.specs.Layout.{delta_records, delta_words, used_word, first_words, header_words, record_words, replica_word, clock_word, base, replica_at, clock_at, used_at, relation_at, label_at, flag_at}
use Rattle.model.specs.Tables.{decode, encode}
use Rattle.model.specs.Edits.{new_label}
use Rattle.wellformed.proofs.Words.{start_encodes, clock_words}
use Rattle.edit_record.specs.Record.{link_of, appended, marked, stepped}

-- the empty delta
pub empty_words : (d : List ℕ) (r c : ℕ) → d ≡ replicate (header_words + record_words * delta_records) 0 → set (set d replica_word r) clock_word c ≡ encode (record { capacity = delta_records; replica = r; clock = c; records = [] })
empty_words d r c e = ap (λ (l : List ℕ). set (set l replica_word r) clock_word c) e ∙ ap (λ (l : List ℕ). set l clock_word c) (start_encodes delta_records r) ∙ clock_words _ c

pub begun : (d d₁ d₂ d₃ : List ℕ) (r c : ℕ) → length d ≡ delta_words → d₁ ≡ replicate (length d) 0 → d₂ ≡ set d₁ replica_word r → d₃ ≡ set d₂ clock_word c → d₃ ≡ encode (record { capacity = delta_records; replica = r; clock = c; records = [] })
begun d d₁ d₂ d₃ r c l e f g = g ∙ ap (λ (q : List ℕ). set q clock_word c) f ∙ empty_words d₁ r c (e ∙ ap (λ (n : ℕ). replicate n 0) l)

-- a record appended
pub link_yes : (d : List ℕ) (r u q a : ℕ) → u ≡ used_at d → q ≡ relation_at d u → (ltb 0 u && eqb q r) ≡ true → a ≡ base u → a ≡ link_of d r
unfolding link_of
link_yes d r u q a e f t b = let z : (ltb 0 (used_at d) && eqb (relation_at d (used_at d)) r) ≡ true = rw (← e) (rw (← f) t) in rw z (b ∙ ap base e)

pub link_no : (d : List ℕ) (r u q : ℕ) → u ≡ used_at d → q ≡ relation_at d u → (ltb 0 u && eqb q r) ≡ false → first_words + (r - 1) ≡ link_of d r
unfolding link_of
link_no d r u q e f t = let z : (ltb 0 (used_at d) && eqb (relation_at d (used_at d)) r) ≡ false = rw (← e) (rw (← f) t) in rw z refl

pub appended_is : (d d₁ d₂ d₃ d₄ d₅ : List ℕ) (r l f a u b : ℕ) → a ≡ link_of d r → u ≡ used_at d → b ≡ base (u + 1) → d₁ ≡ set d (b + 1) r → d₂ ≡ set d₁ (b + 2) l → d₃ ≡ set d₂ (b + 3) f
    → d₄ ≡ set d₃ used_word (u + 1) → d₅ ≡ set d₄ a (u + 1) → d₅ ≡ appended d r l f
unfolding appended
appended_is d d₁ d₂ d₃ d₄ d₅ r l f a u b e₁ e₂ e₃ e₄ e₅ e₆ e₇ e₈ =
    let z : b ≡ base (used_at d + 1) = e₃ ∙ ap (λ (n : ℕ). base (n + 1)) e₂ in
    rw (e₈, e₇, e₆, e₅, e₄, e₁, e₂, z) refl

-- one record of the walk
pub stepped_yes : (t m : List ℕ) (e : ℕ) (d d' : List ℕ) (i : ℕ) (b : Bool) (r l f : ℕ) → b ≡ marked m i → (b || eqb i e) ≡ true → r ≡ relation_at t i → l ≡ label_at t i → f ≡ cond b (redone (flag_at t i)) 0
    → d' ≡ appended d r l f → d' ≡ stepped t m e d i
unfolding stepped
stepped_yes t m e d d' i b r l f p q x y z w =
    let h : (marked m i || eqb i e) ≡ true = rw (← p) q in
    rw h (w ∙ rw (x, y, z, p) refl)

pub stepped_no : (t m : List ℕ) (e : ℕ) (d : List ℕ) (i : ℕ) (b : Bool) → b ≡ marked m i → (b || eqb i e) ≡ false → d ≡ stepped t m e d i
unfolding stepped
stepped_no t m e d i b p q = let h : (marked m i || eqb i e) ≡ false = rw (← p) q in rw h refl

-- the label of a new record
pub label_now : (t : List ℕ) (c r : ℕ) → c ≡ clock_at t → r ≡ replica_at t → label_within (c + 1) r ≡ new_label (decode t)
unfolding new_label decode
label_now t c r x y = rw (x, y) refl
