-- The values that a call is lent, field by field: the rule of values, and where their references lead.
-- Assumes nothing.
use Prim.Native.Nat.{ℕ, zero, suc, ◌+◌, ◌-◌, ◌≤◌, ◌<◌}
use mathlib.Core.Path.{◌≡◌, refl, sym, ◌∙◌, ap}
use mathlib.Core.Bool.{Bool, true, false, cond, ◌||◌, ◌&&◌, not}
use mathlib.Core.List.{List, [], ◌∷◌, ◌++◌, map}
use native.Mathlib.Omega.{arith}
use native.Mathlib.Nat.{sub-zero}
use native.Mathlib.Numerals.{add-one}
use lib.Dec.{eqb}
use lib.ListN.{length, get_or, drop, drop_of_length-le}
use lib.Seq.{drop-cons}
use Rattle.crdt.proofs.Tests.{and_left, and_right}
use Rattle.crdt.specs.Cells.{Reg, reg, no_reg}
use Rattle.model.specs.Layout.{field_count, kind_at}
use Rattle.model.specs.Lists.{from, listed, some_of, all_of}
use Rattle.model.specs.Schemas.{is_reference}
use Rattle.model.specs.Shown.{leads}
use Rattle.model.specs.Edits.{value_rule, values_rule, leading}
use Rattle.laws.proofs.Fields.{stamped_by, values_length}
use Rattle.wellformed.proofs.Ranges.{listed_length, all_append}
use Rattle.edit_basics.specs.Targets.{kinds_of, bare}
use Rattle.edit_basics.proofs.Turns.{some_append, not_so}

pick : (b : Bool) (k : ℕ) (r : List ℕ) → cond b (k ∷ r) r ≡ cond b (k ∷ []) [] ++ r
pick true k r = refl
pick false k r = refl

lead_cons : (p : ℕ → Bool) (k : ℕ) (ks : List ℕ) (g : Reg) (gs : List Reg) → leads p (k ∷ ks) (g ∷ gs) ≡ leading p k g.value ++ leads p ks gs
unfolding leads leading
lead_cons p k ks g gs = pick (p k && not (eqb g.value 0)) _ (leads p ks gs)

-- one value for each field
pub values_fit : (s : List ℕ) (r : ℕ) (vs : List ℕ) → values_rule (kinds_of s r) vs ≡ true → length vs ≡ field_count s r
values_fit s r vs h = values_length (kinds_of s r) vs h ∙ listed_length (field_count s r) (kind_at s r)

pub wrong_count : (s : List ℕ) (r : ℕ) (vs : List ℕ) → (length vs ≡ field_count s r → ⊥) → false ≡ values_rule (kinds_of s r) vs
wrong_count s r vs n = sym (not_so _ (λ h. n (values_fit s r vs h)))

-- where references lead is told by the values alone
pub leads_stamped : (p : ℕ → Bool) (l : ℕ) (ks vs : List ℕ) (n : ℕ) → length vs ≡ length ks → leads p ks (stamped_by l vs n) ≡ leads p ks (bare vs)
unfolding leads
leads_stamped p l [] vs n e = refl
leads_stamped p l (k ∷ ks) [] n e = absurd (omega arith)
leads_stamped p l (k ∷ ks) (v ∷ vs) n e =
    let h : length vs ≡ length ks = omega arith in
    rw (leads_stamped p l ks vs n h)

-- from field j + 1 on
module _ (kind : ℕ → ℕ) (F : ℕ) (vs : List ℕ) where
  unfoldable pub rules : ℕ → Bool
  rules j = values_rule (from (j + 1) (F - j) kind) (drop j vs)

  pub rules_start : values_rule (listed F kind) vs ≡ rules 0
  unfolding rules listed
  rules_start = rw (sub-zero F)

  rules_step : (j : ℕ) → j < F → j < length vs → rules j ≡ (value_rule (kind (j + 1)) (get_or vs j 0) && rules (j + 1))
  unfolding rules values_rule from
  rules_step j h p =
      let e : F - j ≡ suc (F - (j + 1)) = omega arith in
      rw (e, drop-cons vs j 0 p, add-one (j + 1), add-one j)

  pub rules_end : (j : ℕ) → F ≤ j → length vs ≤ j → rules j ≡ true
  unfolding rules values_rule from
  rules_end j h p = let e : F - j ≡ 0 = omega arith in rw (e, drop_of_length-le vs p)

  unfoldable pub ahead : ℕ → List ℕ
  ahead j = leads is_reference (from (j + 1) (F - j) kind) (bare (drop j vs))

  pub ahead_start : leads is_reference (listed F kind) (bare vs) ≡ ahead 0
  unfolding ahead listed
  ahead_start = rw (sub-zero F)

  ahead_step : (j : ℕ) → j < F → j < length vs → ahead j ≡ leading is_reference (kind (j + 1)) (get_or vs j 0) ++ ahead (j + 1)
  unfolding ahead from
  ahead_step j h p =
      let e : F - j ≡ suc (F - (j + 1)) = omega arith in
      rw (e, drop-cons vs j 0 p, add-one (j + 1), add-one j) (lead_cons is_reference (kind (suc j)) _ (reg (get_or vs j 0) 0) _)

  pub ahead_end : (j : ℕ) → F ≤ j → ahead j ≡ []
  unfolding ahead leads from
  ahead_end j h = let e : F - j ≡ 0 = omega arith in rw e

  -- a turn at field j + 1, of kind k
  module _ (j k : ℕ) (h : j < F) (p : j < length vs) (e : k ≡ kind (j + 1)) where
    here : rules j ≡ (value_rule k (get_or vs j 0) && rules (j + 1))
    here = rw e (rules_step j h p)

    leads_here : ahead j ≡ leading is_reference k (get_or vs j 0) ++ ahead (j + 1)
    leads_here = rw e (ahead_step j h p)

    pub rule_now : rules j ≡ true → value_rule k (get_or vs j 0) ≡ true
    rule_now q = and_left (value_rule k (get_or vs j 0)) (rules (j + 1)) (sym here ∙ q)

    pub rule_next : rules j ≡ true → rules (j + 1) ≡ true
    rule_next q = and_right (value_rule k (get_or vs j 0)) (rules (j + 1)) (sym here ∙ q)

    module _ (z x : Bool) where
      pub rules_stop : z ≡ rules j → x ≡ value_rule k (get_or vs j 0) → x ≡ false → false ≡ z
      rules_stop i f n = sym (i ∙ here ∙ ap (λ (b : Bool). b && rules (j + 1)) (sym f ∙ n))

      pub rules_go : z ≡ rules j → x ≡ value_rule k (get_or vs j 0) → x ≡ true → z ≡ rules (j + 1)
      rules_go i f n = i ∙ here ∙ ap (λ (b : Bool). b && rules (j + 1)) (sym f ∙ n)

      module _ (q : ℕ → Bool) where
        all_here : all_of q (ahead j) ≡ (all_of q (leading is_reference k (get_or vs j 0)) && all_of q (ahead (j + 1)))
        all_here = ap (all_of q) leads_here ∙ all_append q (leading is_reference k (get_or vs j 0)) (ahead (j + 1))

        some_here : some_of q (ahead j) ≡ (some_of q (leading is_reference k (get_or vs j 0)) || some_of q (ahead (j + 1)))
        some_here = ap (some_of q) leads_here ∙ some_append q (leading is_reference k (get_or vs j 0)) (ahead (j + 1))

        pub all_stop : z ≡ all_of q (ahead j) → x ≡ all_of q (leading is_reference k (get_or vs j 0)) → x ≡ false → false ≡ z
        all_stop i f n = sym (i ∙ all_here ∙ ap (λ (b : Bool). b && all_of q (ahead (j + 1))) (sym f ∙ n))

        pub all_go : z ≡ all_of q (ahead j) → x ≡ all_of q (leading is_reference k (get_or vs j 0)) → x ≡ true → z ≡ all_of q (ahead (j + 1))
        all_go i f n = i ∙ all_here ∙ ap (λ (b : Bool). b && all_of q (ahead (j + 1))) (sym f ∙ n)

        pub some_stop : z ≡ some_of q (ahead j) → x ≡ some_of q (leading is_reference k (get_or vs j 0)) → x ≡ true → true ≡ z
        some_stop i f n = sym (i ∙ some_here ∙ ap (λ (b : Bool). b || some_of q (ahead (j + 1))) (sym f ∙ n))

        pub some_go : z ≡ some_of q (ahead j) → x ≡ some_of q (leading is_reference k (get_or vs j 0)) → x ≡ false → z ≡ some_of q (ahead (j + 1))
        some_go i f n = i ∙ some_here ∙ ap (λ (b : Bool). b || some_of q (ahead (j + 1))) (sym f ∙ n)

  pub all_end : (q : ℕ → Bool) (z : Bool) (j : ℕ) → z ≡ all_of q (ahead j) → F ≤ j → true ≡ z
  unfolding all_of
  all_end q z j i h = sym (i ∙ ap (all_of q) (ahead_end j h))

  pub some_end : (q : ℕ → Bool) (z : Bool) (j : ℕ) → z ≡ some_of q (ahead j) → F ≤ j → false ≡ z
  unfolding some_of
  some_end q z j i h = sym (i ∙ ap (some_of q) (ahead_end j h))
