-- The texts of labels, values and records, of their parts.
-- Assumes nothing.
use Prim.Native.Nat.{ℕ, suc, ◌+◌, ◌-◌, ◌≤◌, ◌<◌}
use mathlib.Core.Path.{◌≡◌, refl, sym, ap, ◌∙◌}
use mathlib.Core.List.{List, [], ◌∷◌, ◌++◌}
use native.Mathlib.Omega.{arith}
use native.Mathlib.Numerals.{add-one}
use borrow.Author.Tests.{eq-eqb, ne_eqb, le-leb, lt-leb}
use Rattle.crdt.specs.Labels.{counter_of, replica_of}
use Rattle.model.specs.Layout.{field_count, kind_at, relation_at, label_at, value_at}
use Rattle.model.specs.Lists.{from, listed}
use Rattle.model.specs.Schemas.{abort_kinds}
use Rattle.model.specs.Calls.{entry_at}
use Rattle.list_text.specs.Text.{space, newline, dash, dot, decimal_text, label_text, reference_text, value_text, values_text, line_text, told_text}
use Rattle.list_text.specs.declared.Out.{Out}
use Rattle.list_text.specs.Written.{Written}
use Rattle.list_text.proofs.Laying.{then, as_written, Leads, leads_on_lem, leads_as, leads_end}

module _ {a b c d : Out} where
  pub placed_label : (x k m : ℕ) → k ≡ counter_of x → m ≡ replica_of x → Written a b (decimal_text k) → Written b c (dot ∷ [])
      → Written c d (decimal_text m) → Written a d (label_text x)
  unfolding label_text
  placed_label x k m e f p q s =
      as_written (ap (λ (y : ℕ). decimal_text y ++ (dot ∷ decimal_text m)) e ∙ ap (λ (y : ℕ). decimal_text (counter_of x) ++ (dot ∷ decimal_text y)) f)
      (then (decimal_text k) (dot ∷ decimal_text m) p (then (dot ∷ []) (decimal_text m) q s))

  pub placed_head : (k x : ℕ) → Written a b (decimal_text k) → Written b c (space ∷ []) → Written c d (label_text x)
      → Written a d (decimal_text k ++ (space ∷ label_text x))
  placed_head k x p q s = then (decimal_text k) (space ∷ label_text x) p (then (space ∷ []) (label_text x) q s)

  pub placed_told : (w : List ℕ) (n : ℕ) → Written a b w → Written b c (decimal_text n) → Written c d (newline ∷ [])
      → Written a d (told_text w n)
  unfolding told_text
  placed_told w n p q s = then w (decimal_text n ++ (newline ∷ [])) p (then (decimal_text n) (newline ∷ []) q s)

  -- the line of a record
  pub placed_line : (s t : List ℕ) (i k l : ℕ) → k ≡ relation_at t i → l ≡ label_at t i → Written a b (decimal_text k ++ (space ∷ label_text l))
      → Written b c (values_text (listed (field_count s k) (kind_at s k)) (listed (field_count s k) (value_at t i)))
      → Written c d (newline ∷ []) → Written a d (line_text s (entry_at s t i))
  unfolding line_text entry_at
  placed_line s t i k l e f p q u =
      let vs : List ℕ = values_text (listed (field_count s k) (kind_at s k)) (listed (field_count s k) (value_at t i)) in
      as_written
      (ap (λ (y : ℕ). (decimal_text y ++ (space ∷ label_text l)) ++ (values_text (listed (field_count s y) (kind_at s y)) (listed (field_count s y) (value_at t i)) ++ (newline ∷ []))) e
      ∙ ap (λ (y : ℕ). (decimal_text (relation_at t i) ++ (space ∷ label_text y))
      ++ (values_text (listed (field_count s (relation_at t i)) (kind_at s (relation_at t i))) (listed (field_count s (relation_at t i)) (value_at t i)) ++ (newline ∷ []))) f)
      (then (decimal_text k ++ (space ∷ label_text l)) (vs ++ (newline ∷ [])) p (then vs (newline ∷ []) q u))

module _ {a b : Out} where
  pub placed_empty : (x : ℕ) → x ≡ 0 → Written a b (dash ∷ []) → Written a b (reference_text x)
  unfolding reference_text
  placed_empty x e p = rw (eq-eqb x 0 e) p

  pub placed_reference : (x : ℕ) → (x ≡ 0 → ⊥) → Written a b (label_text x) → Written a b (reference_text x)
  unfolding reference_text
  placed_reference x n p = rw (ne_eqb x 0 n) p

  pub placed_plain : (k x : ℕ) → k < abort_kinds → Written a b (decimal_text x) → Written a b (value_text k x)
  unfolding value_text
  placed_plain k x h p = rw (lt-leb abort_kinds k h) p

  pub placed_kind : (k x : ℕ) → abort_kinds ≤ k → Written a b (reference_text x) → Written a b (value_text k x)
  unfolding value_text
  placed_kind k x h p = rw (le-leb abort_kinds k h) p

-- The values that are still to be written after j of n, with the kinds f and the values g.
module _ (f g : ℕ → ℕ) where
  unfoldable pub ahead : ℕ → ℕ → List ℕ
  ahead a n = values_text (from a n f) (from a n g)

  abbrev pub rest : ℕ → ℕ → List ℕ
  rest n j = ahead (j + 1) (n - j)

  ahead_more : (a n : ℕ) → ahead a (suc n) ≡ (space ∷ value_text (f a) (g a)) ++ ahead (suc a) n
  unfolding ahead from values_text
  ahead_more a n = refl

  ahead_none : (a : ℕ) → ahead a 0 ≡ []
  unfolding ahead from values_text
  ahead_none a = refl

  pub rest_start : (n : ℕ) → values_text (listed n f) (listed n g) ≡ rest n 0
  unfolding ahead listed
  rest_start n = let e : n - 0 ≡ n = omega arith in rw e

  rest_turn : (n j : ℕ) → j < n → rest n j ≡ (space ∷ value_text (f (j + 1)) (g (j + 1))) ++ rest n (j + 1)
  rest_turn n j h =
      let e : n - j ≡ suc (n - (j + 1)) = omega arith in
      ap (λ (k : ℕ). ahead (j + 1) k) e ∙ ahead_more (j + 1) (n - (j + 1))
      ∙ ap (λ (k : ℕ). (space ∷ value_text (f (j + 1)) (g (j + 1))) ++ ahead k (n - (j + 1))) (sym (add-one (j + 1)))

  module _ {a b : Out} {x : List ℕ} (n j : ℕ) where
    pub values_on : {c : Out} → j < n → (k v : ℕ) → k ≡ f (j + 1) → v ≡ g (j + 1) → Leads a x b (rest n j) → Written b c (space ∷ value_text k v)
        → Leads a x c (rest n (j + 1))
    values_on h k v d e l p =
        leads_on_lem (space ∷ value_text (f (j + 1)) (g (j + 1))) (rest n (j + 1)) (leads_as (rest_turn n j h) l)
        (as_written (ap (λ (y : ℕ). space ∷ value_text y v) d ∙ ap (λ (y : ℕ). space ∷ value_text (f (j + 1)) y) e) p)

    pub values_end : n ≤ j → Leads a x b (rest n j) → Written a b x
    values_end h l =
        let e : n - j ≡ 0 = omega arith in leads_end (leads_as (ap (λ (k : ℕ). ahead (j + 1) k) e ∙ ahead_none (j + 1)) l)
