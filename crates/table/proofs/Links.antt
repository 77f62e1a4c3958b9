-- Walking a chain: the walk's turns, and what the walk of a chain says.
-- Assumes nothing.
use Prim.Native.Nat.{ℕ, zero, suc, ◌+◌, ◌-◌, ◌≤◌, ◌<◌}
use mathlib.Core.Path.{◌≡◌, refl, sym, ◌∙◌, ap}
use mathlib.Core.Logic.{◌⊎◌, inl, inr}
use mathlib.Core.Bool.{Bool, true, false, cond, ◌&&◌, not}
use mathlib.Core.List.{List, [], ◌∷◌}
use native.Mathlib.Omega.{arith}
use native.Mathlib.Numerals.{sub-one}
use lib.Dec.{ltb, leb, eqb}
use lib.ListN.{length}
use borrow.Author.Tests.{ltb-true, lt-ltb, le-leb, lt-leb}
use Rattle.std.specs.Prelude.{Some, None}
use Rattle.crdt.specs.Labels.{is_label}
use Rattle.crdt.specs.Flags.{largest_flag}
use Rattle.crdt.proofs.Tests.{test, clash, and_left, and_right, and_both, and_none, and_all}
use Rattle.model.specs.Layout.{used_at, first_at, relations}
use Rattle.model.specs.Lists.{each, all_of}
use Rattle.model.specs.Records.{label_span}
use Rattle.model.specs.WellFormed.{field_rule}
use Rattle.model.specs.Shapes.{count_in, kind_in, next_in, relation_in, label_in, flag_in, value_in, stamp_in, record_rules_in, counters_rule_in, chain_from_in, chain_in, chain_step_in, rises_in}
use Rattle.wellformed.proofs.Facts.{label_span_lem}
use Rattle.wellformed.proofs.Ranges.{parts}
use Rattle.table.specs.declared.Stop.TheVariants as stop
use Rattle.table.specs.Chains.{record_good, read_rule_in, walked_chain, stop_from, walked_to, walked_of}

pub chain_most : (w : ℕ) (n : ℕ) (t : List ℕ) (i : ℕ) → length (chain_from_in w n t i) ≤ n
unfolding chain_from_in
chain_most w zero t i = omega arith
chain_most w (suc n) t zero = omega arith
chain_most w (suc n) t (suc i) = let h = chain_most w n t (next_in w t (suc i)) in omega arith

-- the two tests of a record that is read
module _ (w : ℕ) (s t : List ℕ) (r low i : ℕ) (x : Bool) (f : x ≡ chain_step_in w t r low i) where
  pub read_off : x ≡ false → false ≡ read_rule_in w s t r low i
  unfolding read_rule_in
  read_off h = rw (← f, h) (and_none (record_rules_in w s t i && counters_rule_in w s t i))

  pub read_on : x ≡ true → (y : Bool) → y ≡ record_good w s t i → y ≡ read_rule_in w s t r low i
  unfolding read_rule_in
  read_on h y g = g ∙ rw (← f, h) (and_all (record_rules_in w s t i && counters_rule_in w s t i))

-- what is left of the walk, after n records and the label low, with record i next, ends as the whole does
abbrev pub Ahead : ℕ → List ℕ → List ℕ → ℕ → ℕ → ℕ → ℕ → ℕ → ℕ → Type 0
Ahead w s t r l left low n i = walked_to w s t r l ≡ stop_from w left s t r l low n i

pub ahead_first : (w : ℕ) (s t : List ℕ) (r l used i : ℕ) → used ≡ used_at t → i ≡ first_at t r → Ahead w s t r l (used + 1) 0 0 i
unfolding walked_to
ahead_first w s t r l used i e f = rw (e, f)

stop_turn : (w : ℕ) (s t : List ℕ) (r l left low n i : ℕ) → 0 < left → 0 < i
    → stop_from w left s t r l low n i
    ≡ cond (not (read_rule_in w s t r low i)) None (cond (leb l (label_in w t i)) (Some (stop.At i)) (stop_from w (left - 1) s t r l (label_in w t i) (n + 1) (next_in w t i)))
unfolding stop_from
stop_turn w s t r l zero low n i p q = absurd (omega arith)
stop_turn w s t r l (suc left) low n zero p q = absurd (omega arith)
stop_turn w s t r l (suc left) low n (suc i) p q = rw sub-one

stop_end : (w : ℕ) (s t : List ℕ) (r l left low n i : ℕ) → (ltb 0 left && ltb 0 i) ≡ false → stop_from w left s t r l low n i ≡ Some (stop.End n)
unfolding stop_from
stop_end w s t r l zero low n i e = refl
stop_end w s t r l (suc left) low n zero e = refl
stop_end w s t r l (suc left) low n (suc i) e = clash (and_both (ltb 0 (suc left)) (ltb 0 (suc i)) (lt-ltb 0 (suc left) (omega arith)) (lt-ltb 0 (suc i) (omega arith))) e

module _ (w : ℕ) (s t : List ℕ) (r l left low n i : ℕ) (a : Ahead w s t r l left low n i) where
  module _ (e : (ltb 0 left && ltb 0 i) ≡ true) where
    pub ahead_fuel : (0 < left) × (0 < i)
    ahead_fuel = (ltb-true 0 left (and_left (ltb 0 left) (ltb 0 i) e), ltb-true 0 i (and_right (ltb 0 left) (ltb 0 i) e))

    turn : walked_to w s t r l
        ≡ cond (not (read_rule_in w s t r low i)) None (cond (leb l (label_in w t i)) (Some (stop.At i)) (stop_from w (left - 1) s t r l (label_in w t i) (n + 1) (next_in w t i)))
    turn = a ∙ stop_turn w s t r l left low n i ahead_fuel.0 ahead_fuel.1

    module _ (x : Bool) (f : x ≡ read_rule_in w s t r low i) where
      pub ahead_broken : x ≡ false → None ≡ walked_to w s t r l
      ahead_broken h = rw (turn, ← f, h)

      module _ (h : x ≡ true) (at : ℕ) (b : at ≡ label_in w t i) where
        pub ahead_at : l ≤ at → Some (stop.At i) ≡ walked_to w s t r l
        ahead_at d = rw (turn, ← f, h, ← b, le-leb l at d)

        pub ahead_next : at < l → (j : ℕ) → j ≡ next_in w t i → Ahead w s t r l (left - 1) at (n + 1) j
        ahead_next d j c = rw (turn, ← f, h, ← b, lt-leb l at d, c)

  pub ahead_end : (ltb 0 left && ltb 0 i) ≡ false → Some (stop.End n) ≡ walked_to w s t r l
  ahead_end e = sym (a ∙ stop_end w s t r l left low n i e)

-- a walk past every label goes to the end of the chain
read_bad : (w : ℕ) (s t : List ℕ) (r low i : ℕ) → read_rule_in w s t r low i ≡ false → (record_good w s t i && chain_step_in w t r low i) ≡ false
unfolding read_rule_in
read_bad w s t r low i e = e

read_good : (w : ℕ) (s t : List ℕ) (r low i : ℕ) → read_rule_in w s t r low i ≡ true
    → (record_good w s t i ≡ true) × (chain_step_in w t r low i ≡ true) × (label_in w t i < label_span)
unfolding read_rule_in record_rules_in
read_good w s t r low i e =
    let g = parts (record_rules_in w s t i) (counters_rule_in w s t i ∷ chain_step_in w t r low i ∷ []) e in
    let rest = each w (λ j.
    cond (leb j (count_in w s (relation_in w t i))) (field_rule (kind_in w s (relation_in w t i) j) (value_in w t i j) (stamp_in w t i j)) (eqb (value_in w t i j) 0 && eqb (stamp_in w t i j) 0)) in
    let k = parts (leb 1 (relation_in w t i)) (leb (relation_in w t i) (relations s) ∷ is_label (label_in w t i) ∷ leb (flag_in w t i) largest_flag ∷ rest ∷ []) g.0 in
    (and_both (record_rules_in w s t i) (counters_rule_in w s t i) g.0 g.1.0, g.1.1.0, (label_span_lem (label_in w t i) k.1.1.0).1)

both_off : (g c x y : Bool) → (g && c) ≡ false → ((c && x) && (g && y)) ≡ false
both_off true true x y h = clash refl h
both_off true false x y h = refl
both_off false true x y h = sym (and_none x)
both_off false false x y h = refl

to_end : (w : ℕ) (k : ℕ) (s t : List ℕ) (r low n i : ℕ)
    → stop_from w k s t r label_span low n i
    ≡ cond (rises_in w t r low (chain_from_in w k t i) && all_of (record_good w s t) (chain_from_in w k t i)) (Some (stop.End (n + length (chain_from_in w k t i)))) None
unfolding stop_from chain_from_in rises_in all_of
to_end w zero s t r low n i = let z : n + 0 ≡ n = omega arith in rw z
to_end w (suc k) s t r low n zero = let z : n + 0 ≡ n = omega arith in rw z
to_end w (suc k) s t r low n (suc i) = go (test (read_rule_in w s t r low (suc i))) (to_end w k s t r (label_in w t (suc i)) (n + 1) (next_in w t (suc i)))
  where
    c : List ℕ
    c = chain_from_in w k t (next_in w t (suc i))

    go : (read_rule_in w s t r low (suc i) ≡ true) ⊎ (read_rule_in w s t r low (suc i) ≡ false)
        → stop_from w k s t r label_span (label_in w t (suc i)) (n + 1) (next_in w t (suc i))
        ≡ cond (rises_in w t r (label_in w t (suc i)) c && all_of (record_good w s t) c) (Some (stop.End (n + 1 + length c))) None
        → stop_from w (suc k) s t r label_span low n (suc i)
        ≡ cond ((chain_step_in w t r low (suc i) && rises_in w t r (label_in w t (suc i)) c) && (record_good w s t (suc i) && all_of (record_good w s t) c))
        (Some (stop.End (n + suc (length c)))) None
    go (inr e) h =
        let b = read_bad w s t r low (suc i) e in
        rw (e, both_off (record_good w s t (suc i)) (chain_step_in w t r low (suc i)) (rises_in w t r (label_in w t (suc i)) c) (all_of (record_good w s t) c) b)
    go (inl e) h =
        let p = read_good w s t r low (suc i) e in
        let z : n + 1 + length c ≡ n + suc (length c) = omega arith in
        rw (e, lt-leb label_span (label_in w t (suc i)) p.2, p.0, p.1, h, z)

pub chain_walked : (w : ℕ) (s t : List ℕ) (r : ℕ) → walked_of (walked_to w s t r label_span) ≡ walked_chain w s t r
unfolding walked_to walked_chain chain_in
chain_walked w s t r = ap walked_of (to_end w (used_at t + 1) s t r 0 0 (first_at t r)) ∙ go (rises_in w t r 0 c && all_of (record_good w s t) c)
  where
    c : List ℕ
    c = chain_from_in w (used_at t + 1) t (first_at t r)

    go : (b : Bool) → walked_of (cond b (Some (stop.End (0 + length c))) None) ≡ cond b (Some (length c)) None
    go true = ap Some (omega arith)
    go false = refl

-- what the walk of a chain says
module _ (w : ℕ) (s t : List ℕ) (r : ℕ) where
  sound : Bool
  sound = rises_in w t r 0 (chain_in w t r) && all_of (record_good w s t) (chain_in w t r)

  pub walked_whole : (n : ℕ) → Some n ≡ walked_chain w s t r
      → ((rises_in w t r 0 (chain_in w t r) && all_of (record_good w s t) (chain_in w t r)) ≡ true) × (n ≡ length (chain_in w t r))
  unfolding walked_chain sound
  walked_whole n e = go sound refl e
    where
      go : (b : Bool) → sound ≡ b → Some n ≡ cond b (Some (length (chain_in w t r))) None → (sound ≡ true) × (n ≡ length (chain_in w t r))
      go true p q = (p, cc)
      go false p q = let z : ◌≡◌ {A = ℕ} 0 1 = cc in absurd (omega arith)

  pub walked_broken : None ≡ walked_chain w s t r → (rises_in w t r 0 (chain_in w t r) && all_of (record_good w s t) (chain_in w t r)) ≡ false
  unfolding walked_chain sound
  walked_broken e = go sound refl e
    where
      go : (b : Bool) → sound ≡ b → None ≡ cond b (Some (length (chain_in w t r))) None → sound ≡ false
      go true p q = let z : ◌≡◌ {A = ℕ} 0 1 = cc in absurd (omega arith)
      go false p q = p

-- at most one index more than used
module _ (w : ℕ) (t : List ℕ) (r : ℕ) where
  pub chain_length : length (chain_in w t r) ≤ used_at t + 1
  unfolding chain_in
  chain_length = chain_most w (used_at t + 1) t (first_at t r)
