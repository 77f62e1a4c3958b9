-- Words pasted one behind the other, and the row and the block made of them.
-- Assumes nothing.
use Prim.Native.Nat.{ℕ, suc, ◌+◌, ◌*◌, ◌-◌, ◌≤◌, ◌<◌}
use mathlib.Core.Path.{◌≡◌, sym, ◌∙◌, ap}
use mathlib.Core.Bool.{cond}
use mathlib.Core.List.{List, [], ◌∷◌, ◌++◌, append_assoc, append-nil}
use native.Mathlib.Omega.{arith}
use lib.Dec.{leb}
use lib.ListN.{length, get_or, set, take, drop, length-drop, drop_of_length-le}
use lib.Seq.{paste, paste-suc, length-paste, take-paste, take_all, drop-drop, drop-cons}
use borrow.Author.Tests.{le-leb, lt-leb}
use borrow.Rule.Slice.PartMut.{put_mid}
use Rattle.model.specs.Layout.{head_words, word}
use Rattle.model.specs.Shapes.{fields_turned}
use Rattle.shape_laws.proofs.Turned.{fields_length, fields_at}
use Rattle.shape_turn.specs.Rows.{fields_after, row_turned, block_turned}

-- a word more of what is pasted
pub word_pasted : (to₀ to s : List ℕ) (b j x : ℕ) → b + j < length to₀ → j < length s → x ≡ get_or s j 0 → to ≡ paste to₀ b s j → set to (b + j) x ≡ paste to₀ b s (j + 1)
word_pasted to₀ to s b j x h g f e = let z : j + 1 ≡ suc j = omega arith in rw (e, z, f) (paste-suc to₀ b s j 0 h g)

-- one field
pub field_is : (t : List ℕ) (p v j : ℕ) → j ≤ v → get_or t (p + j) 0 ≡ cond (leb j v) (word t (p + j)) 0
unfolding word
field_is t p v j h = rw (le-leb j v h)

pub field_none : (t : List ℕ) (p v j : ℕ) → v < j → ◌≡◌ {A = ℕ} 0 (cond (leb j v) (word t (p + j)) 0)
field_none t p v j h = rw (lt-leb j v h)

-- fields
module _ (v w : ℕ) (t : List ℕ) (p : ℕ) where
  pub after_length : length (fields_after v w t p) ≡ w
  unfolding fields_after
  after_length = fields_length v w _

  after_at : (j : ℕ) → j < w → get_or (fields_after v w t p) j 0 ≡ cond (leb (j + 1) v) (word t (p + (j + 1))) 0
  unfolding fields_after
  after_at j h =
      let z : j + 1 - 1 ≡ j = omega arith in
      ap (λ (k : ℕ). get_or (fields_turned v w (λ i. word t (p + i))) k 0) (sym z) ∙ fields_at v w (λ i. word t (p + i)) (j + 1) (omega arith) (omega arith)

  pub field_turn : (to₀ to : List ℕ) (b j x : ℕ) → b + w ≤ length to₀ → j < w → x ≡ cond (leb (j + 1) v) (word t (p + (j + 1))) 0 → to ≡ paste to₀ b (fields_after v w t p) j
      → set to (b + j) x ≡ paste to₀ b (fields_after v w t p) (j + 1)
  field_turn to₀ to b j x h g f e = word_pasted to₀ to (fields_after v w t p) b j x (omega arith) (omega (arith, after_length)) (f ∙ sym (after_at j g)) e

-- three parts that are the whole
pub three_parts : (r₀ r₁ r₂ r₃ x y z : List ℕ) (a b c : ℕ) → length r₀ ≡ a + b + c → a ≤ length x → b ≤ length y → c ≤ length z
    → r₁ ≡ paste r₀ 0 x a → r₂ ≡ paste r₁ a y b → r₃ ≡ paste r₂ (a + b) z c → r₃ ≡ take a x ++ take b y ++ take c z
three_parts r₀ r₁ r₂ r₃ x y z a b c l m n o e₁ e₂ e₃ =
    let l₁ : length r₁ ≡ a + b + c = rw e₁ (length-paste r₀ 0 x a (omega (arith, l)) m) ∙ l in
    let l₂ : length r₂ ≡ a + b + c = rw e₂ (length-paste r₁ a y b (omega (arith, l₁)) n) ∙ l₁ in
    let q : a ≡ 0 + a = omega arith in
    let t₁ : take a r₁ ≡ take a x = ap (λ (k : ℕ). take k r₁) q ∙ rw e₁ (take-paste r₀ 0 x a (omega arith) m) in
    let t₂ : take (a + b) r₂ ≡ take a x ++ take b y = rw e₂ (take-paste r₁ a y b (omega (arith, l₁)) n ∙ ap (λ (k : List ℕ). k ++ take b y) t₁) in
    e₃ ∙ ap (λ (k : List ℕ). take (a + b) r₂ ++ take c z ++ k) (drop_of_length-le r₂ {i = a + b + c} (omega (arith, l₂)))
    ∙ append-nil (take (a + b) r₂ ++ take c z) ∙ ap (λ (k : List ℕ). k ++ take c z) t₂

-- the words from p on
from_drop : (t : List ℕ) (p n : ℕ) → p < length t → take (suc n) (drop p t) ≡ word t p ∷ take n (drop (p + 1) t)
unfolding word
from_drop t p n h = let z : p + 1 ≡ suc p = omega arith in rw (z, drop-cons t p 0 h)

four : (t : List ℕ) (p : ℕ) → p + 4 ≤ length t → take 4 (drop p t) ≡ word t p ∷ word t (p + 1) ∷ word t (p + 2) ∷ word t (p + 3) ∷ []
four t p h =
    let y : p + 1 + 1 ≡ p + 2 = omega arith in
    let z : p + 2 + 1 ≡ p + 3 = omega arith in
    from_drop t p 3 (omega arith)
    ∙ ap (λ (l : List ℕ). word t p ∷ l) (from_drop t (p + 1) 2 (omega arith)
    ∙ ap (λ (l : List ℕ). word t (p + 1) ∷ l) (rw y (from_drop t (p + 2) 1 (omega arith)
    ∙ ap (λ (l : List ℕ). word t (p + 2) ∷ l) (rw z (from_drop t (p + 3) 0 (omega arith))))))

three : (t : List ℕ) (p : ℕ) → p + 4 ≤ length t → take 3 (drop (p + 1) t) ≡ word t (p + 1) ∷ word t (p + 2) ∷ word t (p + 3) ∷ []
three t p h =
    let y : p + 1 + 1 ≡ p + 2 = omega arith in
    let z : p + 2 + 1 ≡ p + 3 = omega arith in
    from_drop t (p + 1) 2 (omega arith)
    ∙ ap (λ (l : List ℕ). word t (p + 1) ∷ l) (rw y (from_drop t (p + 2) 1 (omega arith)
    ∙ ap (λ (l : List ℕ). word t (p + 2) ∷ l) (rw z (from_drop t (p + 3) 0 (omega arith)))))

module _ (v w : ℕ) (t : List ℕ) (p : ℕ) (r₀ r₁ r₂ r₃ : List ℕ) where
  pub row_made : p + (head_words + 2 * v) ≤ length t → length r₀ ≡ head_words + 2 * w → r₁ ≡ paste r₀ 0 (drop p t) head_words
      → r₂ ≡ paste r₁ head_words (fields_after v w t (p + (head_words - 1))) w → r₃ ≡ paste r₂ (head_words + w) (fields_after v w t (p + (head_words - 1) + v)) w
      → r₃ ≡ row_turned v w t p
  unfolding row_turned
  row_made h l e₁ e₂ e₃ =
      let values = fields_after v w t (p + (head_words - 1)) in
      let stamps = fields_after v w t (p + (head_words - 1) + v) in
      let a = after_length v w t (p + (head_words - 1)) in
      let b = after_length v w t (p + (head_words - 1) + v) in
      three_parts r₀ r₁ r₂ r₃ (drop p t) values stamps head_words w w (omega (arith, l)) (omega (arith, h, length-drop p t)) (omega (arith, a)) (omega (arith, b)) e₁ e₂ e₃
      ∙ rw (four t p (omega arith), take_all w values (omega (arith, a)), take_all w stamps (omega (arith, b)))

  pub block_made : p + (v + 4) ≤ length t → length r₀ ≡ w + 4 → r₁ ≡ paste r₀ 0 (drop p t) 1 → r₂ ≡ paste r₁ 1 (fields_after v w t p) w
      → r₃ ≡ paste r₂ (w + 1) (drop (p + v + 1) t) 3 → r₃ ≡ block_turned v w t p
  unfolding block_turned
  block_made h l e₁ e₂ e₃ =
      let kinds = fields_after v w t p in
      let a = after_length v w t p in
      let z : w + 1 ≡ 1 + w = omega arith in
      three_parts r₀ r₁ r₂ r₃ (drop p t) kinds (drop (p + v + 1) t) 1 w 3 (omega (arith, l)) (omega (arith, h, length-drop p t)) (omega (arith, a))
      (omega (arith, h, length-drop (p + v + 1) t)) e₁ e₂ (rw z at e₃)
      ∙ rw (from_drop t p 0 (omega arith), take_all w kinds (omega (arith, a)), three t (p + v) (omega arith))

-- a part written
pub part_written : (d r x : List ℕ) (a b n m : ℕ) → a ≡ b → m ≡ b + n → x ≡ r → length r ≡ n → put_mid a (m - a) d x ≡ paste d b r n
part_written d r x a b n m e g f l =
    let z : m - a ≡ n = omega arith in
    rw (z, e, f)
    (ap (λ (y : List ℕ). take b d ++ (r ++ y)) (drop-drop n b d) ∙ sym (append_assoc (take b d) r (drop (b + n) d))
    ∙ sym (ap (λ (y : List ℕ). take b d ++ y ++ drop (b + n) d) (take_all n r (omega (arith, l)))))
