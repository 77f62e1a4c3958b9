-- The words of bytes.
-- Assumes nothing.
use Prim.Native.Nat.{ℕ, zero, suc, ◌+◌, ◌*◌, ◌-◌, ◌/◌, ◌%◌, ◌<◌, ◌≤◌}
use mathlib.Core.Path.{◌≡◌, refl, sym, ap, ◌∙◌}
use mathlib.Core.List.{List, ◌++◌}
use native.Mathlib.Omega.{arith}
use lib.ListN.{length, get_or, take, length-append}
use lib.Seq.{ext_get_or, length-take-le, take_at}
use Rattle.model.specs.Lists.{from}
use Rattle.model.specs.Layout.{word_bytes}
use Rattle.codec.specs.Bytes.{word_at, words_of}

module _ (f : ℕ → ℕ) where
  from_length : (i n : ℕ) → length (from i n f) ≡ n
  unfolding from
  from_length i zero = refl
  from_length i (suc n) = ap suc (from_length (suc i) n)

  from_at : (i n k : ℕ) → k < n → get_or (from i n f) k 0 ≡ f (i + k)
  unfolding from
  from_at i zero k h = absurd (omega arith)
  from_at i (suc n) zero h = ap f (omega arith)
  from_at i (suc n) (suc k) h = from_at (suc i) n k (omega arith) ∙ ap f (omega arith)

pub words_length : (b : List ℕ) → length (words_of b) ≡ length b / word_bytes
unfolding words_of
words_length b = from_length (λ k. word_at b (word_bytes * k)) 0 (length b / word_bytes)

pub decoded : (b w : List ℕ) → length b ≡ word_bytes * length w → ((k : ℕ) → k < length w → get_or w k 0 ≡ word_at b (word_bytes * k)) → w ≡ words_of b
unfolding words_of
decoded b w e h =
    let n : length b / word_bytes ≡ length w = omega arith in
    ext_get_or 0 w (words_of b) (sym n ∙ sym (words_length b))
    (λ i l. h i l ∙ ap (λ (k : ℕ). word_at b (word_bytes * k)) (omega arith) ∙ sym (from_at (λ k. word_at b (word_bytes * k)) 0 (length b / word_bytes) i (omega arith)))

-- the words at the beginning of a slice
pub load_room : (b w : List ℕ) → length b % word_bytes ≡ 0 → length b ≤ word_bytes * length w → length b ≡ word_bytes * length (take (length b / word_bytes - 0) w)
load_room b w h l =
    let n = length b / word_bytes in
    let k : n - 0 ≡ n = omega arith in
    let e : length (take n w) ≡ n = length-take-le n w (omega arith) in
    rw k (omega arith)

pub load_words : (b d w : List ℕ) → length b % word_bytes ≡ 0 → d ≡ words_of b → (length b / word_bytes ≤ length (d ++ w)) × (take (length b / word_bytes) (d ++ w) ≡ words_of b)
load_words b d w h e =
    let n = length b / word_bytes in
    let k : length d ≡ n = ap length e ∙ words_length b in
    (omega (arith, length-append d w), take_at d w n k ∙ e)
