-- A number's digits: one more is asked for without effect, and the last one is set apart.
-- Assumes nothing.
use Prim.Native.Nat.{ℕ, zero, suc, ◌*◌, ◌/◌, ◌^◌, ◌≤◌, ◌<◌}
use mathlib.Core.Path.{◌≡◌, sym, ap, ◌∙◌}
use mathlib.Core.Bool.{true, false}
use mathlib.Core.Logic.{◌⊎◌, inl, inr}
use mathlib.Core.List.{List, [], ◌∷◌, ◌++◌}
use native.Mathlib.Omega.{arith}
use native.Mathlib.Nat.{pow-suc}
use lib.Dec.{ltb}
use borrow.Author.Tests.{lt-ltb, le-ltb, ltb-true, ltb-false}
use Rattle.crdt.proofs.Tests.{test}
use Rattle.list_text.specs.Text.{digit, digits, decimal_text}
use Rattle.list_text.specs.declared.Out.{Out}
use Rattle.list_text.specs.Written.{Written}
use Rattle.list_text.proofs.Laying.{then, as_written}

module _ (k n : ℕ) where
  digits_one : n < 10 → digits (suc k) n ≡ digit n ∷ []
  unfolding digits
  digits_one h = rw (lt-ltb n 10 h)

  digits_last : 10 ≤ n → digits (suc k) n ≡ digits k (n / 10) ++ (digit n ∷ [])
  unfolding digits
  digits_last h = rw (le-ltb n 10 h)

  power : n < 10 ^ suc k → n < 10 ^ k * 10
  power h = rw (pow-suc 10 k) at h

more_step : (k n : ℕ) → ((m : ℕ) → m < 10 ^ k → 1 ≤ k → digits (suc k) m ≡ digits k m) → n < 10 ^ k * 10
    → (ltb n 10 ≡ true) ⊎ (ltb n 10 ≡ false) → digits (suc (suc k)) n ≡ digits (suc k) n
more_step k n rec h (inl p) = digits_one (suc k) n (ltb-true n 10 p) ∙ sym (digits_one k n (ltb-true n 10 p))
more_step zero n rec h (inr p) = absurd (omega (arith, ltb-false n 10 p))
more_step (suc j) n rec h (inr p) =
    digits_last (suc (suc j)) n (ltb-false n 10 p)
    ∙ ap (λ (l : List ℕ). l ++ (digit n ∷ [])) (rec (n / 10) (omega arith) (omega arith))
    ∙ sym (digits_last (suc j) n (ltb-false n 10 p))

digits_more : (k n : ℕ) → n < 10 ^ k → 1 ≤ k → digits (suc k) n ≡ digits k n
digits_more zero n h l = absurd (omega arith)
digits_more (suc k) n h l = more_step k n (λ m h l. digits_more k m h l) (power k n h) (test (ltb n 10))

pub decimal_one : (n : ℕ) → n < 10 → decimal_text n ≡ digit n ∷ []
unfolding decimal_text
decimal_one n h = digits_one 19 n h

pub decimal_last : (n : ℕ) → 10 ≤ n → n < 2 ^ 64 → decimal_text n ≡ decimal_text (n / 10) ++ (digit n ∷ [])
unfolding decimal_text
decimal_last n h l = digits_last 19 n h ∙ ap (λ (x : List ℕ). x ++ (digit n ∷ [])) (sym (digits_more 19 (n / 10) (omega arith) (omega arith)))

pub placed_one : {a b : Out} (n d : ℕ) → n < 10 → d ≡ digit n → Written a b (d ∷ []) → Written a b (decimal_text n)
placed_one n d h e p = as_written (ap (λ (x : ℕ). x ∷ []) e ∙ sym (decimal_one n h)) p

pub placed_last : {a b c : Out} (n d : ℕ) → 10 ≤ n → n < 2 ^ 64 → d ≡ digit n → Written a b (decimal_text (n / 10))
    → Written b c (d ∷ []) → Written a c (decimal_text n)
placed_last n d h l e p q =
    as_written (ap (λ (x : ℕ). decimal_text (n / 10) ++ (x ∷ [])) e ∙ sym (decimal_last n h l)) (then (decimal_text (n / 10)) (d ∷ []) p q)
