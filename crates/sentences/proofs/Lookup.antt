-- Known or not, sooner (document 02, F-6): over all words lent.
-- Assumes nothing.
use Prim.Native.Nat.{ℕ, zero, suc, ◌+◌, ◌≤◌, ◌<◌}
use mathlib.Core.Path.{◌≡◌, refl, sym, ◌∙◌, ap}
use mathlib.Core.Logic.{◌⊎◌, inl, inr, ⊎_elim, ◌≢◌, ◌↔◌}
use mathlib.Core.Bool.{Bool, true, false, cond, ◌&&◌, ◌||◌, not}
use mathlib.Core.List.{List, [], ◌∷◌}
use native.Mathlib.Omega.{arith}
use lib.Dec.{eqb, leb}
use lib.ListN.{length}
use borrow.Author.Tests.{leb-true, leb-false, le-leb, eqb-true, eqb-false, eq-eqb, ne_eqb}
use Rattle.crdt.specs.Labels.{is_label}
use Rattle.crdt.proofs.Tests.{test, clash, or_cases, or_right, or_false, and_left, and_right, and_both, Tri, low, same, high, tri}
use Rattle.model.specs.Layout.{most_relations, relations, used_at, first_at, next_at, relation_at, label_at}
use Rattle.model.specs.Lists.{each, lowest}
use Rattle.model.specs.Schemas.{broken}
use Rattle.model.specs.WellFormed.{header_rules, firsts_rule, empty_above, record_rules, counters_rule, chain_from, chain_of, chain_step, rises, chains_rise, on_chain, rest_zero, well_formed}
use Rattle.model.specs.Calls.{schema_length, table_length, table_number}
use Rattle.model.specs.Lookup.{read_rule, Seek, damaged, known, unknown, seek_from, lookup_seek, is_damaged, is_known, known_at, is_relation, lookup_number, lookup_known, lookup_index, searched, OnWay, first, next, Breaks, label_not_raised, Damage, header_word, first_index, chain_above, read_record}
use Rattle.wellformed.proofs.Ranges.{parts, each_at, any_at}
use Rattle.wellformed.proofs.ListRanges.{any_some}
use Rattle.wellformed.proofs.Facts.{schema_sound, Formed, formed, ruled}
use Rattle.wellformed.proofs.Seek.{Read, read_says, bad_breaks, breaks_bad, seek_end, seek_damaged, seek_known, seek_unknown, seek_on}
use Rattle.wellformed.proofs.Chains.{lies, lies_cases, lies_nil, lies_here, lies_there, rises_head, rises_tail, rises_member, rises_one, chain_within, chain_short, chain_in_lem, on_own}
use Rattle.convergence.proofs.Tables.{Good, good_table}

-- used + 1 records are enough
module _ (s t : List ℕ) (r l : ℕ) where
  -- a walk that a larger bound would change has read as many records as its bound, all of them good
  Through : ℕ → ℕ → ℕ → Type 0
  Through n from i = (rises t r from (chain_from n t i) ≡ true) × (length (chain_from n t i) ≡ n)

  through_on : (n from i : ℕ) → 1 ≤ i → Read s t r from i → Through n (label_at t i) (next_at t i) → Through (suc n) from i
  unfolding Through chain_from rises
  through_on n from zero p h q = absurd (omega arith)
  through_on n from (suc i) p h q = (and_both _ _ h.stepped q.0, omega (arith, q.1))

  through_none : (from i : ℕ) → Through zero from i
  unfolding Through chain_from rises
  through_none from i = (refl, refl)

  not_through : (from i : ℕ) → Through (used_at t + 1) from i → ⊥
  unfolding Through
  not_through from i q = omega (arith, chain_within (used_at t + 1) t r from i q.0, q.1)

  more : (n m from i : ℕ) → n ≤ m → (seek_from m s t r l from i ≡ seek_from n s t r l from i) ⊎ Through n from i
  more zero m from i h = inr (through_none from i)
  more (suc n) zero from i h = absurd (omega arith)
  more (suc n) (suc m) from zero h = inl (seek_end s t r l from (suc m) ∙ sym (seek_end s t r l from (suc n)))
  more (suc n) (suc m) from (suc i) h = go (test (read_rule s t r from (suc i))) (tri (label_at t (suc i)) l) (more n m (label_at t (suc i)) (next_at t (suc i)) (omega arith))
    where
      go : (read_rule s t r from (suc i) ≡ true) ⊎ (read_rule s t r from (suc i) ≡ false) → Tri (label_at t (suc i)) l
          → (seek_from m s t r l (label_at t (suc i)) (next_at t (suc i)) ≡ seek_from n s t r l (label_at t (suc i)) (next_at t (suc i))) ⊎ Through n (label_at t (suc i)) (next_at t (suc i))
          → (seek_from (suc m) s t r l from (suc i) ≡ seek_from (suc n) s t r l from (suc i)) ⊎ Through (suc n) from (suc i)
      go (inr e) d q = inl (seek_damaged s t r l from m (suc i) (omega arith) e ∙ sym (seek_damaged s t r l from n (suc i) (omega arith) e))
      go (inl e) (same d) q = inl (seek_known s t r l from m (suc i) (omega arith) e d ∙ sym (seek_known s t r l from n (suc i) (omega arith) e d))
      go (inl e) (high d) q = inl (seek_unknown s t r l from m (suc i) (omega arith) e d ∙ sym (seek_unknown s t r l from n (suc i) (omega arith) e d))
      go (inl e) (low d) (inl q) = inl (seek_on s t r l from m (suc i) (omega arith) e d ∙ q ∙ sym (seek_on s t r l from n (suc i) (omega arith) e d))
      go (inl e) (low d) (inr q) = inr (through_on n from (suc i) (omega arith) (read_says s t r from (suc i) e) q)

  one_more : (from i : ℕ) → seek_from (used_at t + 1) s t r l from i ≡ seek_from (suc (used_at t)) s t r l from i
  one_more from i = let z : used_at t + 1 ≡ suc (used_at t) = omega arith in ap (λ (n : ℕ). seek_from n s t r l from i) z

  -- With any larger bound the walk ends alike, whatever the words.
  pub seek_enough : (n from i : ℕ) → used_at t < n → seek_from n s t r l from i ≡ seek_from (used_at t + 1) s t r l from i
  seek_enough n from i h = go (more (used_at t + 1) n from i (omega arith))
    where
      go : (seek_from n s t r l from i ≡ seek_from (used_at t + 1) s t r l from i) ⊎ Through (used_at t + 1) from i → seek_from n s t r l from i ≡ seek_from (used_at t + 1) s t r l from i
      go (inl e) = e
      go (inr q) = absurd (not_through from i q)

  -- the records on the way
  way_positive : (from i : ℕ) → OnWay s t r l from i → 1 ≤ i
  way_positive from i (first p) = p
  way_positive from i (next b j w e d p) = p

  way_used : first_at t r ≤ used_at t → (from i : ℕ) → OnWay s t r l from i → i ≤ used_at t
  way_used f from i (first p) = f
  way_used f from i (next b j w e d p) = (read_says s t r b j e).next

  -- from each of them on the walk ends as it does from the first
  seek_first : lookup_seek s t r l ≡ seek_from (used_at t + 1) s t r l 0 (first_at t r)
  unfolding lookup_seek
  seek_first = refl

  way_seek : (from i : ℕ) → OnWay s t r l from i → lookup_seek s t r l ≡ seek_from (used_at t + 1) s t r l from i
  way_seek from i (first p) = seek_first
  way_seek from i (next b j w e d p) =
      way_seek b j w ∙ sym (seek_enough (suc (used_at t + 1)) b j (omega arith)) ∙ seek_on s t r l b (used_at t + 1) j (way_positive b j w) e d

  -- where the walk ends at a record that is not good, that record is on the way
  record Bad : Type 0 where
    pub from : ℕ
    pub at : ℕ
    pub on : OnWay s t r l from at
    pub bad : read_rule s t r from at ≡ false

  not_damaged : {A : Type 0} (x : Seek) → is_damaged x ≡ false → x ≡ damaged → A
  not_damaged x e h = clash (ap is_damaged h) e

  way_bad : (n from i : ℕ) → OnWay s t r l from i → seek_from n s t r l from i ≡ damaged → Bad
  way_bad zero from i w h = not_damaged unknown refl (unfold seek_from in h)
  way_bad (suc n) from i w h = go (test (read_rule s t r from i)) (tri (label_at t i) l) (test (eqb (next_at t i) 0)) (way_bad n (label_at t i) (next_at t i))
    where
      p : 1 ≤ i
      p = way_positive from i w

      go : (read_rule s t r from i ≡ true) ⊎ (read_rule s t r from i ≡ false) → Tri (label_at t i) l → (eqb (next_at t i) 0 ≡ true) ⊎ (eqb (next_at t i) 0 ≡ false)
          → (OnWay s t r l (label_at t i) (next_at t i) → seek_from n s t r l (label_at t i) (next_at t i) ≡ damaged → Bad) → Bad
      go (inr e) d z ih = record { from = from; at = i; on = w; bad = e }
      go (inl e) (same d) z ih = not_damaged (known i) refl (sym (seek_known s t r l from n i p e d) ∙ h)
      go (inl e) (high d) z ih = not_damaged unknown refl (sym (seek_unknown s t r l from n i p e d) ∙ h)
      go (inl e) (low d) (inl z) ih =
          not_damaged unknown refl
          (sym (seek_end s t r l (label_at t i) n) ∙ ap (λ (j : ℕ). seek_from n s t r l (label_at t i) j) (sym (eqb-true (next_at t i) 0 z)) ∙ sym (seek_on s t r l from n i p e d) ∙ h)
      go (inl e) (low d) (inr z) ih =
          let z' : next_at t i ≢ 0 = eqb-false (next_at t i) 0 z in
          ih (next from i w e d (omega arith)) (sym (seek_on s t r l from n i p e d) ∙ h)

-- a test of 1 to n that fails fails somewhere
each_not : (n : ℕ) (p : ℕ → Bool) → each n p ≡ false → (k : ℕ) × (1 ≤ k) × (k ≤ n) × (p k ≡ false)
unfolding each
each_not zero p h = clash refl h
each_not (suc n) p h = go (test (p (suc n))) (test (each n p)) (each_not n p)
  where
    go : (p (suc n) ≡ true) ⊎ (p (suc n) ≡ false) → (each n p ≡ true) ⊎ (each n p ≡ false) → (each n p ≡ false → (k : ℕ) × (1 ≤ k) × (k ≤ n) × (p k ≡ false))
        → (k : ℕ) × (1 ≤ k) × (k ≤ suc n) × (p k ≡ false)
    go (inr e) d f = (suc n, omega arith, omega arith, e)
    go (inl e) (inr d) f = let g = f d in (g.0, g.1, omega (arith, g.2), g.3)
    go (inl e) (inl d) f = clash (and_both (each n p) (p (suc n)) d e) h

-- a seek that is damaged
damaged_is : (x : Seek) → is_damaged x ≡ true → x ≡ damaged
damaged_is damaged h = refl
damaged_is (known i) h = clash h refl
damaged_is unknown h = clash h refl

-- "3 exactly if": with lengths and schema right
module _ (s t : List ℕ) (r l : ℕ) (sized : (schema_length s && table_length t) ≡ true) (sound : broken s ≡ false) where
  heads : Bool
  heads = header_rules t && firsts_rule t && empty_above s t

  reads : Bool
  reads = is_relation s r && is_damaged (lookup_seek s t r l)

  number_is : lookup_number s t r l ≡ cond (not heads || reads) 3 (cond (not (is_relation s r)) 5 0)
  unfolding lookup_number lowest heads reads
  number_is = rw (sized, sound)

  three_when : (not heads || reads) ≡ true → lookup_number s t r l ≡ 3
  three_when e = number_is ∙ rw e

  when_three : lookup_number s t r l ≡ 3 → (not heads || reads) ≡ true
  when_three h = go (test (not heads || reads)) (test (is_relation s r))
    where
      go : ((not heads || reads) ≡ true) ⊎ ((not heads || reads) ≡ false) → (is_relation s r ≡ true) ⊎ (is_relation s r ≡ false) → (not heads || reads) ≡ true
      go (inl e) d = e
      go (inr e) (inl d) = let z : ◌≡◌ {A = ℕ} 0 3 = sym (number_is ∙ rw (e, d)) ∙ h in absurd (omega arith)
      go (inr e) (inr d) = let z : ◌≡◌ {A = ℕ} 5 3 = sym (number_is ∙ rw (e, d)) ∙ h in absurd (omega arith)

  most : relations s ≤ most_relations
  most = (schema_sound s sound).most

  -- the header's part
  head_damage : heads ≡ false → Damage s t r l
  unfolding heads firsts_rule empty_above
  head_damage h = go (test (header_rules t)) (test (firsts_rule t)) (test (empty_above s t))
    where
      above : (q : ℕ) → 1 ≤ q → q ≤ most_relations → (leb q (relations s) || eqb (first_at t q) 0) ≡ false → Damage s t r l
      above q a b e = let d = or_false (leb q (relations s)) (eqb (first_at t q) 0) e in chain_above q (leb-false q (relations s) d.0) b (eqb-false (first_at t q) 0 d.1)

      go : (header_rules t ≡ true) ⊎ (header_rules t ≡ false) → (firsts_rule t ≡ true) ⊎ (firsts_rule t ≡ false) → (empty_above s t ≡ true) ⊎ (empty_above s t ≡ false) → Damage s t r l
      go (inr a) b c = header_word a
      go (inl a) (inr b) c =
          let k = each_not most_relations (λ q. leb (first_at t q) (used_at t)) b in
          first_index k.0 k.1 k.2 (leb-false (first_at t k.0) (used_at t) k.3)
      go (inl a) (inl b) (inr c) = let k = each_not most_relations (λ q. leb q (relations s) || eqb (first_at t q) 0) c in above k.0 k.1 k.2 k.3
      go (inl a) (inl b) (inl c) = clash (and_both _ _ (and_both _ _ a b) c) h

  head_first : heads ≡ true → (q : ℕ) → 1 ≤ q → q ≤ most_relations → first_at t q ≤ used_at t
  unfolding heads firsts_rule
  head_first h q a b =
      leb-true (first_at t q) (used_at t) (each_at most_relations (λ k. leb (first_at t k) (used_at t)) q (and_right (header_rules t) (firsts_rule t) (and_left (header_rules t && firsts_rule t) (empty_above s t) h)) a b)

  head_above : heads ≡ true → (q : ℕ) → relations s < q → q ≤ most_relations → first_at t q ≡ 0
  unfolding heads empty_above
  head_above h q a b = go (or_cases (leb q (relations s)) (eqb (first_at t q) 0) (each_at most_relations (λ k. leb k (relations s) || eqb (first_at t k) 0) q (and_right (header_rules t && firsts_rule t) (empty_above s t) h) (omega arith) b))
    where
      go : (leb q (relations s) ≡ true) ⊎ (eqb (first_at t q) 0 ≡ true) → first_at t q ≡ 0
      go (inl e) = let z = leb-true q (relations s) e in absurd (omega arith)
      go (inr e) = eqb-true (first_at t q) 0 e

  -- the records' part
  read_damage : heads ≡ true → reads ≡ true → Damage s t r l
  unfolding reads
  read_damage h d = go (test (eqb (first_at t r) 0))
    where
      rel : is_relation s r ≡ true
      rel = and_left (is_relation s r) (is_damaged (lookup_seek s t r l)) d

      r₁ : 1 ≤ r
      r₁ = leb-true 1 r (and_left (leb 1 r) (leb r (relations s)) rel)

      r₂ : r ≤ relations s
      r₂ = leb-true r (relations s) (and_right (leb 1 r) (leb r (relations s)) rel)

      seek : seek_from (used_at t + 1) s t r l 0 (first_at t r) ≡ damaged
      seek = sym (seek_first s t r l) ∙ damaged_is (lookup_seek s t r l) (and_right (is_relation s r) (is_damaged (lookup_seek s t r l)) d)

      found : Bad s t r l → Damage s t r l
      found b = read_record r₁ r₂ b.from b.at b.on (bad_breaks s t r b.from b.at (way_used s t r l (head_first h r r₁ (omega (arith, r₂, most))) b.from b.at b.on) b.bad)

      go : (eqb (first_at t r) 0 ≡ true) ⊎ (eqb (first_at t r) 0 ≡ false) → Damage s t r l
      go (inl z) =
          not_damaged s t r l unknown refl (sym (seek_end s t r l 0 (used_at t + 1)) ∙ ap (λ (j : ℕ). seek_from (used_at t + 1) s t r l 0 j) (sym (eqb-true (first_at t r) 0 z)) ∙ seek)
      go (inr z) = let z' : first_at t r ≢ 0 = eqb-false (first_at t r) 0 z in found (way_bad s t r l (used_at t + 1) 0 (first_at t r) (first (omega arith)) seek)

  read_three : 1 ≤ r → r ≤ relations s → (from i : ℕ) → OnWay s t r l from i → Breaks s t r from i → reads ≡ true
  unfolding reads
  read_three a b from i w x =
      and_both _ _ (and_both _ _ (le-leb 1 r a) (le-leb r (relations s) b))
      (ap is_damaged (way_seek s t r l from i w ∙ one_more s t r l from i ∙ seek_damaged s t r l from (used_at t) i (way_positive s t r l from i w) (breaks_bad s t r from i x)))

  header_good : heads ≡ true → header_rules t ≡ true
  unfolding heads
  header_good h = and_left (header_rules t) (firsts_rule t) (and_left (header_rules t && firsts_rule t) (empty_above s t) h)

  damage_three : Damage s t r l → lookup_number s t r l ≡ 3
  damage_three x = three_when (go (test heads) x)
    where
      go : (heads ≡ true) ⊎ (heads ≡ false) → Damage s t r l → (not heads || reads) ≡ true
      go (inr h) x = rw h
      go (inl h) (header_word e) = clash (header_good h) e
      go (inl h) (first_index q a b e) = absurd (omega (arith, head_first h q a b))
      go (inl h) (chain_above q a b e) = absurd (e (head_above h q a b))
      go (inl h) (read_record a b from i w x) = or_right (not heads) reads (read_three a b from i w x)

  pub three_exactly : (lookup_number s t r l ≡ 3) ↔ Damage s t r l
  three_exactly = (λ h. go (when_three h) (test heads), damage_three)
    where
      go : (not heads || reads) ≡ true → (heads ≡ true) ⊎ (heads ≡ false) → Damage s t r l
      go e (inr h) = head_damage h
      go e (inl h) = read_damage h (rw h at e)

-- The labels before the records on the way rise from each to the next, and tell the record.
module _ (s t : List ℕ) (r l : ℕ) where
  way_order : (n from i from' i' : ℕ) → OnWay s t r l from i → OnWay s t r l from' i' → from + from' < n
      → (from < from' → label_at t i ≤ from') × (from ≡ from' → i ≡ i')
  way_order zero from i from' i' w w' h = absurd (omega arith)
  way_order (suc n) from i from' i' (first p) (first p') h = (λ a. absurd (omega arith), λ a. refl)
  way_order (suc n) from i from' i' (first p) (next b' j' w' e' d' p') h =
      let c = (read_says s t r b' j' e').raised in
      let q = way_order n 0 (first_at t r) b' j' (first p) w' (omega arith) in
      (λ a. go c q (tri 0 b'), λ a. absurd (omega arith))
    where
      go : b' < label_at t j' → (0 < b' → label_at t (first_at t r) ≤ b') × (0 ≡ b' → first_at t r ≡ j') → Tri 0 b' → label_at t (first_at t r) ≤ label_at t j'
      go c q (low x) = let y = q.0 x in omega arith
      go c q (same x) = omega (arith, ap (label_at t) (q.1 x))
      go c q (high x) = absurd (omega arith)
  way_order (suc n) from i from' i' (next b j w e d p) (first p') h =
      let c = (read_says s t r b j e).raised in
      (λ a. absurd (omega arith), λ a. absurd (omega arith))
  way_order (suc n) from i from' i' (next b j w e d p) (next b' j' w' e' d' p') h =
      let c = (read_says s t r b j e).raised in
      let c' = (read_says s t r b' j' e').raised in
      let u = way_order n (label_at t j) (next_at t j) b' j' (next b j w e d p) w' (omega arith) in
      let v = way_order n b' j' (label_at t j) (next_at t j) w' (next b j w e d p) (omega arith) in
      let x = way_order n b j b' j' w w' (omega arith) in
      let y = way_order n b' j' b j w' w (omega arith) in
      (λ a. above a c' u v (tri (label_at t j) b'), λ a. alike a c c' x y (tri b b'))
    where
      above : label_at t j < label_at t j' → b' < label_at t j' → (label_at t j < b' → label_at t (next_at t j) ≤ b') × (label_at t j ≡ b' → next_at t j ≡ j')
          → (b' < label_at t j → label_at t j' ≤ label_at t j) × (b' ≡ label_at t j → j' ≡ next_at t j) → Tri (label_at t j) b' → label_at t (next_at t j) ≤ label_at t j'
      above a c' u v (low z) = let y = u.0 z in omega arith
      above a c' u v (same z) = omega (arith, ap (label_at t) (u.1 z))
      above a c' u v (high z) = let y = v.0 z in absurd (omega arith)

      alike : label_at t j ≡ label_at t j' → b < label_at t j → b' < label_at t j' → (b < b' → label_at t j ≤ b') × (b ≡ b' → j ≡ j')
          → (b' < b → label_at t j' ≤ b) × (b' ≡ b → j' ≡ j) → Tri b b' → next_at t j ≡ next_at t j'
      alike a c c' x y (low z) = let k = x.0 z in absurd (omega arith)
      alike a c c' x y (same z) = ap (next_at t) (x.1 z)
      alike a c c' x y (high z) = let k = y.0 z in absurd (omega arith)

  -- A chain that comes back to a record ends in 3: the second time its label does not rise.
  pub comes_back : (schema_length s && table_length t) ≡ true → broken s ≡ false → 1 ≤ r → r ≤ relations s
      → (i from from' : ℕ) → OnWay s t r l from i → OnWay s t r l from' i → from ≢ from' → lookup_number s t r l ≡ 3
  comes_back sized sound r₁ r₂ i from from' w w' n = go (tri from from')
    where
      again : (b : ℕ) → OnWay s t r l b i → label_at t i ≤ b → lookup_number s t r l ≡ 3
      again b v h = (three_exactly s t r l sized sound).1 (read_record r₁ r₂ b i v (label_not_raised h))

      go : Tri from from' → lookup_number s t r l ≡ 3
      go (low h) = again from' w' ((way_order (suc (from + from')) from i from' i w w' (omega arith)).0 h)
      go (same h) = absurd (n h)
      go (high h) = again from w ((way_order (suc (from' + from)) from' i from i w' w (omega arith)).0 h)

-- What yes says, whatever the words: a used record of that relation and label, by its own words good.
module _ (s t : List ℕ) (r l : ℕ) where
  pub record Here (i : ℕ) : Type 0 where
    pub least : 1 ≤ i
    pub most : i ≤ used_at t
    pub related : relation_at t i ≡ r
    pub labelled : label_at t i ≡ l
    pub ruled : record_rules s t i ≡ true

  not_known : {A : Type 0} (x : Seek) (k : ℕ) → is_known x ≡ false → x ≡ known k → A
  not_known x k e h = clash (ap is_known h) e

  seek_here : (n from i k : ℕ) → seek_from n s t r l from i ≡ known k → Here k
  seek_here zero from i k h = not_known unknown k refl (unfold seek_from in h)
  seek_here (suc n) from zero k h = not_known unknown k refl (sym (seek_end s t r l from (suc n)) ∙ h)
  seek_here (suc n) from (suc i) k h = go (test (read_rule s t r from (suc i))) (tri (label_at t (suc i)) l) (seek_here n (label_at t (suc i)) (next_at t (suc i)) k)
    where
      p : 1 ≤ suc i
      p = omega arith

      here : Read s t r from (suc i) → label_at t (suc i) ≡ l → suc i ≡ k → Here k
      here f d e = rw (← e) (record { least = p; most = f.used; related = f.related; labelled = d; ruled = f.ruled })

      go : (read_rule s t r from (suc i) ≡ true) ⊎ (read_rule s t r from (suc i) ≡ false) → Tri (label_at t (suc i)) l
          → (seek_from n s t r l (label_at t (suc i)) (next_at t (suc i)) ≡ known k → Here k) → Here k
      go (inr e) d ih = not_known damaged k refl (sym (seek_damaged s t r l from n (suc i) p e) ∙ h)
      go (inl e) (same d) ih = here (read_says s t r from (suc i) e) d (ap known_at (sym (seek_known s t r l from n (suc i) p e d) ∙ h))
      go (inl e) (high d) ih = not_known unknown k refl (sym (seek_unknown s t r l from n (suc i) p e d) ∙ h)
      go (inl e) (low d) ih = ih (sym (seek_on s t r l from n (suc i) p e d) ∙ h)

  known_is : (x : Seek) → is_known x ≡ true → x ≡ known (known_at x)
  known_is damaged h = clash h refl
  known_is (known i) h = refl
  known_is unknown h = clash h refl

  unknown_at : (x : Seek) → is_known x ≡ false → known_at x ≡ 0
  unknown_at damaged h = refl
  unknown_at (known i) h = clash refl h
  unknown_at unknown h = refl

  -- a refusal says no, with index 0
  pub lookup_refused : lookup_number s t r l ≢ 0 → (lookup_known s t r l ≡ false) × (lookup_index s t r l ≡ 0)
  unfolding lookup_known lookup_index
  lookup_refused n = (rw (ne_eqb _ 0 n), rw (ne_eqb _ 0 n))

  accepted : lookup_number s t r l ≡ 0 → (lookup_known s t r l ≡ is_known (lookup_seek s t r l)) × (lookup_index s t r l ≡ known_at (lookup_seek s t r l))
  unfolding lookup_known lookup_index
  accepted n = (rw (eq-eqb _ 0 n), rw (eq-eqb _ 0 n))

  -- The index that comes with yes is that of a used record of the relation and label; with no it is 0.
  pub known_here : lookup_known s t r l ≡ true → Here (lookup_index s t r l)
  known_here h = go (test (eqb (lookup_number s t r l) 0))
    where
      go : (eqb (lookup_number s t r l) 0 ≡ true) ⊎ (eqb (lookup_number s t r l) 0 ≡ false) → Here (lookup_index s t r l)
      go (inl e) =
          let a = accepted (eqb-true _ 0 e) in
          seek_here (used_at t + 1) 0 (first_at t r) (lookup_index s t r l)
          (sym (seek_first s t r l) ∙ known_is (lookup_seek s t r l) (sym a.0 ∙ h) ∙ ap known (sym a.1))
      go (inr e) = clash h (lookup_refused (eqb-false _ 0 e)).0

  pub unknown_none : lookup_known s t r l ≡ false → lookup_index s t r l ≡ 0
  unknown_none h = go (test (eqb (lookup_number s t r l) 0))
    where
      go : (eqb (lookup_number s t r l) 0 ≡ true) ⊎ (eqb (lookup_number s t r l) 0 ≡ false) → lookup_index s t r l ≡ 0
      go (inl e) = let a = accepted (eqb-true _ 0 e) in a.1 ∙ unknown_at (lookup_seek s t r l) (sym a.0 ∙ h)
      go (inr e) = (lookup_refused (eqb-false _ 0 e)).1

  -- What is no label is not known.
  pub no_label : is_label l ≡ false → lookup_known s t r l ≡ false
  no_label e = go (test (lookup_known s t r l))
    where
      go : (lookup_known s t r l ≡ true) ⊎ (lookup_known s t r l ≡ false) → lookup_known s t r l ≡ false
      go (inl h) = let k = known_here h in clash (ap is_label (sym k.labelled) ∙ (ruled s t (lookup_index s t r l) k.ruled).label) e
      go (inr h) = h

-- Label 0 stops at the first record, which is read and tested.
pub label_zero : (s t : List ℕ) (r : ℕ) → 1 ≤ first_at t r → lookup_seek s t r 0 ≡ cond (read_rule s t r 0 (first_at t r)) unknown damaged
label_zero s t r p = seek_first s t r 0 ∙ one_more s t r 0 0 (first_at t r) ∙ go (test (read_rule s t r 0 (first_at t r)))
  where
    go : (read_rule s t r 0 (first_at t r) ≡ true) ⊎ (read_rule s t r 0 (first_at t r) ≡ false) → seek_from (suc (used_at t)) s t r 0 0 (first_at t r) ≡ cond (read_rule s t r 0 (first_at t r)) unknown damaged
    go (inl e) = seek_unknown s t r 0 0 (used_at t) (first_at t r) p e (read_says s t r 0 (first_at t r) e).raised ∙ rw e
    go (inr e) = seek_damaged s t r 0 0 (used_at t) (first_at t r) p e ∙ rw e

-- the first parts of a well-formed table
record Heads (s t : List ℕ) : Type 0 where
  pub header : header_rules t ≡ true
  pub firsts : firsts_rule t ≡ true
  pub above : empty_above s t ≡ true

formed_heads : (s t : List ℕ) → well_formed s t ≡ true → Heads s t
unfolding well_formed
formed_heads s t h =
    let g = parts (header_rules t) (firsts_rule t ∷ empty_above s t ∷ each (used_at t) (λ i. record_rules s t i && counters_rule s t i) ∷ chains_rise t ∷ each (used_at t) (on_chain t) ∷ rest_zero t ∷ []) h in
    record { header = g.0; firsts = g.1.0; above = g.1.1.0 }

-- the chain of a relation, written out
module _ (t : List ℕ) (r : ℕ) where
  chain_up : rises t r 0 (chain_of t r) ≡ true → rises t r 0 (chain_from (used_at t + 1) t (first_at t r)) ≡ true
  unfolding chain_of
  chain_up h = h

  chain_less : rises t r 0 (chain_of t r) ≡ true → length (chain_from (used_at t + 1) t (first_at t r)) < used_at t + 1
  unfolding chain_of
  chain_less h = chain_short t r h

  chain_lies : (i : ℕ) → lies i (chain_of t r) ≡ true → lies i (chain_from (used_at t + 1) t (first_at t r)) ≡ true
  unfolding chain_of
  chain_lies i h = h

  lies_chain : (i : ℕ) → lies i (chain_from (used_at t + 1) t (first_at t r)) ≡ true → lies i (chain_of t r) ≡ true
  unfolding chain_of
  lies_chain i h = h

-- a record on a rising chain of such a table is good
read_good : (s t : List ℕ) (r from i : ℕ) (c : List ℕ) → Formed s t → 1 ≤ i → rises t r from (i ∷ c) ≡ true → read_rule s t r from i ≡ true
unfolding read_rule rises
read_good s t r from i c f p h =
    let u = (rises_head t r from i c h).0 in
    and_both _ _ (and_both _ _ (f.rules i p u) (f.counters i p u)) (and_left (chain_step t r from i) (rises t r (label_at t i) c) h)

-- "On a well-formed table its yes or no equals that of a search through all records."
module _ (s t : List ℕ) (r l : ℕ) (checked : table_number s t ≡ 0) (r₁ : 1 ≤ r) (r₂ : r ≤ relations s) where
  good : Good s t
  good = good_table s t checked

  facts : Formed s t
  facts = formed s t good.formed

  within : r ≤ most_relations
  within = omega (arith, (schema_sound s good.sound).most)

  up : rises t r 0 (chain_of t r) ≡ true
  up = facts.up r r₁ within

  -- the walk along a rising chain of good records finds the label if it is there
  data Walks (n from i : ℕ) : Type 0 where
    at : (k : ℕ) → seek_from n s t r l from i ≡ known k → lies k (chain_from n t i) ≡ true → label_at t k ≡ l → Walks n from i
    none : seek_from n s t r l from i ≡ unknown → ((k : ℕ) → lies k (chain_from n t i) ≡ true → label_at t k ≢ l) → Walks n from i

  walks : (n from i : ℕ) → rises t r from (chain_from n t i) ≡ true → length (chain_from n t i) < n → Walks n from i
  unfolding chain_from
  walks zero from i h q = absurd (omega arith)
  walks (suc n) from zero h q = none (seek_end s t r l from (suc n)) (λ k e. lies_nil k e)
  walks (suc n) from (suc i) h q =
      go (tri (label_at t (suc i)) l) (walks n (label_at t (suc i)) (next_at t (suc i)) (rises_tail t r from (suc i) (chain_from n t (next_at t (suc i))) h) (omega arith))
    where
      c : List ℕ
      c = chain_from n t (next_at t (suc i))

      p : 1 ≤ suc i
      p = omega arith

      read : read_rule s t r from (suc i) ≡ true
      read = read_good s t r from (suc i) c facts p h

      above : (k : ℕ) → lies k c ≡ true → label_at t (suc i) < label_at t k
      above k e = (rises_member t r (label_at t (suc i)) c k (rises_tail t r from (suc i) c h) e).2

      go : Tri (label_at t (suc i)) l → Walks n (label_at t (suc i)) (next_at t (suc i)) → Walks (suc n) from (suc i)
      go (same d) w = at (suc i) (seek_known s t r l from n (suc i) p read d) (lies_here (suc i) c) d
      go (high d) w =
          none (seek_unknown s t r l from n (suc i) p read d)
          (λ k e z. ⊎_elim (λ x. omega (arith, ap (label_at t) x)) (λ x. omega (arith, above k x)) (lies_cases k (suc i) c e))
      go (low d) (at k x y z) = at k (seek_on s t r l from n (suc i) p read d ∙ x) (lies_there k (suc i) c y) z
      go (low d) (none x f) =
          none (seek_on s t r l from n (suc i) p read d ∙ x)
          (λ k e z. ⊎_elim (λ y. omega (arith, ap (label_at t) y)) (λ y. f k y z) (lies_cases k (suc i) c e))

  walked : Walks (used_at t + 1) 0 (first_at t r)
  walked = walks (used_at t + 1) 0 (first_at t r) (chain_up t r up) (chain_less t r up)

  number_zero : is_damaged (lookup_seek s t r l) ≡ false → lookup_number s t r l ≡ 0
  unfolding lookup_number lowest
  number_zero e =
      let h = formed_heads s t good.formed in
      rw (good.lent, good.sized, good.sound, h.header, h.firsts, h.above, le-leb 1 r r₁, le-leb r (relations s) r₂, e)

  -- a record of the relation and label lies on the chain
  lies_here_too : (i : ℕ) → 1 ≤ i → i ≤ used_at t → relation_at t i ≡ r → lies i (chain_from (used_at t + 1) t (first_at t r)) ≡ true
  lies_here_too i p q e = chain_lies t r i (rw (← e) (on_own t facts.up i (facts.on i p q)).2)

  search_yes : (k : ℕ) → lies k (chain_from (used_at t + 1) t (first_at t r)) ≡ true → label_at t k ≡ l → searched t r l ≡ true
  unfolding searched
  search_yes k x z =
      let m = chain_in_lem t r up k (lies_chain t r k x) in
      any_at (used_at t) (λ i. eqb (relation_at t i) r && eqb (label_at t i) l) k m.0 m.1 (and_both _ _ (eq-eqb _ _ m.2) (eq-eqb _ _ z))

  search_no : ((k : ℕ) → lies k (chain_from (used_at t + 1) t (first_at t r)) ≡ true → label_at t k ≢ l) → searched t r l ≡ false
  unfolding searched
  search_no f = go (test (searched t r l))
    where
      go : (searched t r l ≡ true) ⊎ (searched t r l ≡ false) → searched t r l ≡ false
      go (inl h) =
          let a = any_some (used_at t) (λ i. eqb (relation_at t i) r && eqb (label_at t i) l) h in
          let e = a.3 in
          absurd (f a.0 (lies_here_too a.0 a.1 a.2 (eqb-true _ _ (and_left (eqb (relation_at t a.0) r) _ e))) (eqb-true _ _ (and_right (eqb (relation_at t a.0) r) _ e)))
      go (inr h) = h

  pub known_exactly : (lookup_number s t r l ≡ 0) × (lookup_known s t r l ≡ searched t r l)
  known_exactly = go walked
    where
      go : Walks (used_at t + 1) 0 (first_at t r) → (lookup_number s t r l ≡ 0) × (lookup_known s t r l ≡ searched t r l)
      go (at k x y z) =
          let e = seek_first s t r l ∙ x in
          let n = number_zero (ap is_damaged e) in
          (n, (accepted s t r l n).0 ∙ ap is_known e ∙ sym (search_yes k y z))
      go (none x f) =
          let e = seek_first s t r l ∙ x in
          let n = number_zero (ap is_damaged e) in
          (n, (accepted s t r l n).0 ∙ ap is_known e ∙ sym (search_no f))

  -- The index is that record's: there is no other of its relation and label.
  pub index_exactly : (i : ℕ) → 1 ≤ i → i ≤ used_at t → relation_at t i ≡ r → label_at t i ≡ l → lookup_index s t r l ≡ i
  index_exactly i p q e d = go walked
    where
      go : Walks (used_at t + 1) 0 (first_at t r) → lookup_index s t r l ≡ i
      go (at k x y z) =
          (accepted s t r l known_exactly.0).1 ∙ ap known_at (seek_first s t r l ∙ x)
          ∙ rises_one t r 0 (chain_from (used_at t + 1) t (first_at t r)) k i (chain_up t r up) y (lies_here_too i p q e) (z ∙ sym d)
      go (none x f) = absurd (f i (lies_here_too i p q e) d)
