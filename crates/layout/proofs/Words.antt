-- Words of a slice by what they mean: the forms in which the accessors ask for them.
-- Assumes nothing.
use Prim.Native.Nat.{ℕ, min, ◌+◌, ◌-◌, ◌≤◌, ◌<◌, ◌^◌}
use mathlib.Core.Path.{◌≡◌, sym, ◌∙◌}
use mathlib.Core.List.{List}
use native.Mathlib.Omega.{arith}
use native.Mathlib.Nat.{add-sub_cancel_left}
use lib.ListN.{length, take, drop, get_or-eq_default}
use lib.Seq.{get_or-take, get_or-drop}
use Rattle.crdt.proofs.Tests.{Tri, low, same, high, tri}
use Rattle.model.specs.Layout.{first_words, word, first_at}

-- a word past the end is 0
pub word_past : (t : List ℕ) (k : ℕ) → length t ≤ k → 0 ≡ word t k
unfolding word
word_past t k h = sym (get_or-eq_default t 0 h)

-- the word of a first index, and the end where the sum would not fit
pub first_word : (t : List ℕ) (r n k x : ℕ) → length t ≤ 2 ^ 60 → n ≡ r - 1 → k ≡ min (4 + n) 18446744073709551615 → x ≡ word t k → x ≡ first_at t r
unfolding first_at
first_word t r n k x h e f g = go (tri (4 + n) 18446744073709551615)
  where
    here : k ≡ first_words + (r - 1) → x ≡ word t (first_words + (r - 1))
    here z = rw z at g

    go : Tri (4 + n) 18446744073709551615 → x ≡ word t (first_words + (r - 1))
    go (low l) = here (omega (arith, f))
    go (same l) = here (omega (arith, f))
    go (high l) = g ∙ sym (word_past t k (omega (arith, f))) ∙ word_past t _ (omega arith)

module _ (t : List ℕ) (a x : ℕ) where
  pub word_at : (b : ℕ) → a ≡ b → x ≡ word t a → x ≡ word t b
  word_at b e h = rw e at h

-- a word of a part
pub word_part : (l : List ℕ) (a n k : ℕ) → k < n → word (take n (drop a l)) k ≡ word l (a + k)
unfolding word
word_part l a n k h = rw (get_or-take, get_or-drop)

-- a part that starts at a and ends n words on
pub part_at : (l : List ℕ) (a b n : ℕ) → a ≡ b → take (a + n - a) (drop a l) ≡ take n (drop b l)
part_at l a b n e = rw (add-sub_cancel_left, e)
