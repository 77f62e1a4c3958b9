-- The registers that an edit writes: none, all under one stamp, one alone.
-- Assumes nothing.
use Prim.Native.Nat.{ℕ, zero, suc, ◌+◌, ◌-◌, ◌*◌, ◌/◌, ◌%◌, ◌≤◌, ◌<◌}
use mathlib.Core.Path.{◌≡◌, refl, sym, ◌∙◌, ap}
use mathlib.Core.Logic.{◌⊎◌, inl, inr}
use mathlib.Core.Bool.{Bool, true, false, cond, ◌||◌, ◌&&◌, not}
use mathlib.Core.List.{List, [], ◌∷◌, ◌++◌, map}
use native.Mathlib.Omega.{arith}
use lib.Dec.{eqb, leb}
use lib.ListN.{length, get_or, set, replicate, length-append, length-replicate, length-set}
use borrow.Author.Tests.{eqb-true, eqb-false, leb-true, le-leb, ne_eqb}
use Rattle.crdt.specs.Labels.{largest_counter, largest_replica, label_of, label_within, is_counter, is_replica, is_label, counter_of, replica_of}
use Rattle.crdt.specs.Cells.{Reg, reg, no_reg}
use Rattle.crdt.proofs.Tests.{test, clash, not_true, not_false, and_left, and_right, and_both, or_cases, or_left, or_right}
use Rattle.model.specs.Lists.{all_of}
use Rattle.model.specs.Schemas.{is_reference, leads_to}
use Rattle.model.specs.Records.{Rec, label_span, place, has}
use Rattle.model.specs.WellFormed.{field_rule}
use Rattle.model.specs.Shown.{value, rest, leads}
use Rattle.model.specs.Edits.{value_rule, values_rule}
use Rattle.model.specs.Valid.{valid_regs, regs_under}

-- what a label is
pub record Labelled (l : ℕ) : Type 0 where
  pub least : 1 ≤ counter_of l
  pub most : counter_of l ≤ largest_counter
  pub replica : 1 ≤ replica_of l

pub label_true : (l : ℕ) → is_label l ≡ true → Labelled l
unfolding is_label
label_true l h =
    let c = and_left (is_counter (counter_of l)) _ h in
    record {
      least = leb-true 1 (counter_of l) (and_left (leb 1 (counter_of l)) _ c);
      most = leb-true (counter_of l) largest_counter (and_right (leb 1 (counter_of l)) _ c);
      replica = leb-true 1 (replica_of l) (and_right (is_counter (counter_of l)) _ h);
    }

pub true_label : (l : ℕ) → Labelled l → is_label l ≡ true
unfolding is_label
true_label l v = and_both _ _ (and_both _ _ (le-leb 1 (counter_of l) v.least) (le-leb (counter_of l) largest_counter v.most)) (le-leb 1 (replica_of l) v.replica)

pub label_below : (l : ℕ) → is_label l ≡ true → l < label_span
label_below l h = let v = label_true l h in omega (arith, v.most)

pub label_nonzero : (l : ℕ) → is_label l ≡ true → l ≡ 0 → ⊥
label_nonzero l h = let v = label_true l h in omega (arith, v.least)

-- the relation and the label of a key
pub place_relation : (r l : ℕ) → l < label_span → place r l / label_span ≡ r
place_relation r l h = omega arith

pub place_label : (r l : ℕ) → l < label_span → place r l % label_span ≡ l
place_label r l h = omega arith

-- the label of a counter and a replica within their limits
pub new_label_lem : (c r : ℕ) → 1 ≤ c → c ≤ largest_counter → is_replica r ≡ true → is_label (label_of c r) ≡ true
new_label_lem c r l m h =
    let p : 1 ≤ r = leb-true 1 r (and_left (leb 1 r) _ h) in
    let q : r ≤ largest_replica = leb-true r largest_replica (and_right (leb 1 r) _ h) in
    true_label (label_of c r) (record { least = omega arith; most = omega arith; replica = omega arith })

pub label_within_lem : (c r : ℕ) → 1 ≤ c → c ≤ largest_counter → is_replica r ≡ true → label_within c r ≡ label_of c r
unfolding label_within
label_within_lem c r l m h = let e : (is_counter c && is_replica r) ≡ true = and_both (is_counter c) (is_replica r) (and_both (leb 1 c) (leb c largest_counter) (le-leb 1 c l) (le-leb c largest_counter m)) h in rw e

pub new_counter : (c r : ℕ) → is_replica r ≡ true → counter_of (label_of c r) ≡ c
new_counter c r h = let q : r ≤ largest_replica = leb-true r largest_replica (and_right (leb 1 r) _ h) in omega arith

-- a field under a label
pub field_stamped : (k v l : ℕ) → is_label l ≡ true → value_rule k v ≡ true → field_rule k v l ≡ true
unfolding field_rule
field_stamped k v l h r =
    let n : eqb l 0 ≡ false = ne_eqb l 0 (label_nonzero l h) in
    and_both _ _ (and_both _ _ (or_right (eqb l 0) _ h) (or_left (not (eqb l 0)) _ (not_false _ n))) r

field_none : (k : ℕ) → field_rule k 0 0 ≡ true
unfolding field_rule
field_none k = or_left (not (is_reference k) || true) (is_label 0) (or_right (not (is_reference k)) true refl)

none_zero : (n : ℕ) → all_of (λ (g : Reg). eqb g.value 0 && eqb g.stamp 0) (replicate n no_reg) ≡ true
unfolding all_of
none_zero zero = refl
none_zero (suc n) = none_zero n

zero_under : (c : ℕ) → leb 0 c ≡ true
zero_under c = le-leb 0 c (omega arith)

-- no registers
pub fields_none : (ks : List ℕ) (n : ℕ) → length ks ≤ n → valid_regs ks (replicate n no_reg) ≡ true
unfolding valid_regs
fields_none [] n h = none_zero n
fields_none (k ∷ ks) zero h = absurd (omega arith)
fields_none (k ∷ ks) (suc n) h = and_both _ _ (field_none k) (fields_none ks n (omega arith))

pub under_none : (c : ℕ) (ks : List ℕ) (n : ℕ) → regs_under c ks (replicate n no_reg) ≡ true
unfolding regs_under
under_none c [] n = refl
under_none c (k ∷ ks) zero = refl
under_none c (k ∷ ks) (suc n) = and_both _ _ (and_both _ _ (zero_under c) (or_right (not (is_reference k)) _ (zero_under c))) (under_none c ks n)

-- all fields under one label
abbrev pub stamped_by : ℕ → List ℕ → ℕ → List Reg
stamped_by l vs n = map (λ x. reg x l) vs ++ replicate n no_reg

pub values_length : (ks vs : List ℕ) → values_rule ks vs ≡ true → length vs ≡ length ks
unfolding values_rule
values_length [] [] h = refl
values_length [] (v ∷ vs) h = clash h refl
values_length (k ∷ ks) [] h = clash h refl
values_length (k ∷ ks) (v ∷ vs) h = ap suc (values_length ks vs (and_right (value_rule k v) _ h))

map_length : (l : ℕ) (vs : List ℕ) → length (map (λ x. reg x l) vs) ≡ length vs
map_length l [] = refl
map_length l (v ∷ vs) = ap suc (map_length l vs)

pub stamped_length : (l : ℕ) (vs : List ℕ) (n : ℕ) → length (stamped_by l vs n) ≡ length vs + n
stamped_length l vs n = simp (length-append, length-replicate) (ap (λ m. m + n) (map_length l vs))

pub fields_stamped : (l : ℕ) (ks vs : List ℕ) (n : ℕ) → is_label l ≡ true → values_rule ks vs ≡ true → valid_regs ks (stamped_by l vs n) ≡ true
unfolding valid_regs values_rule
fields_stamped l [] [] n h r = none_zero n
fields_stamped l [] (v ∷ vs) n h r = clash r refl
fields_stamped l (k ∷ ks) [] n h r = clash r refl
fields_stamped l (k ∷ ks) (v ∷ vs) n h r = and_both _ _ (field_stamped k v l h (and_left (value_rule k v) _ r)) (fields_stamped l ks vs n h (and_right (value_rule k v) _ r))

-- a reference whose target is known has a counter that the clock bounds
module _ (known : ℕ → Bool) (d : ℕ) (bound : (k : ℕ) → known k ≡ true → counter_of (k % label_span) ≤ d) where
  pub value_under : (k v : ℕ) → value_rule k v ≡ true → (is_reference k ≡ true → (v ≡ 0 → ⊥) → known (place (leads_to k) v) ≡ true) → (not (is_reference k) || leb (counter_of v) d) ≡ true
  value_under k v r h = go (test (is_reference k)) (test (eqb v 0))
    where
      label : is_reference k ≡ true → eqb v 0 ≡ false → is_label v ≡ true
      label p q = go' (or_cases _ _ r)
        where
          go' : ((not (is_reference k) || eqb v 0) ≡ true) ⊎ (is_label v ≡ true) → is_label v ≡ true
          go' (inl e) = go'' (or_cases _ _ e)
            where
              go'' : (not (is_reference k) ≡ true) ⊎ (eqb v 0 ≡ true) → is_label v ≡ true
              go'' (inl f) = clash p (not_true _ f)
              go'' (inr f) = clash f q
          go' (inr e) = e

      go : (is_reference k ≡ true) ⊎ (is_reference k ≡ false) → (eqb v 0 ≡ true) ⊎ (eqb v 0 ≡ false) → (not (is_reference k) || leb (counter_of v) d) ≡ true
      go (inr p) q = or_left _ _ (not_false _ p)
      go (inl p) (inl q) = let z : v ≡ 0 = eqb-true v 0 q in or_right (not (is_reference k)) _ (le-leb (counter_of v) d (omega arith))
      go (inl p) (inr q) =
          let e : place (leads_to k) v % label_span ≡ v = place_label (leads_to k) v (label_below v (label p q)) in
          let b : counter_of (place (leads_to k) v % label_span) ≤ d = bound (place (leads_to k) v) (h p (eqb-false v 0 q)) in
          let b' : counter_of v ≤ d = rw e at b in
          or_right (not (is_reference k)) _ (le-leb (counter_of v) d b')

  pub under_stamped : (l : ℕ) (ks vs : List ℕ) (n : ℕ) → counter_of l ≤ d → values_rule ks vs ≡ true → all_of known (leads is_reference ks (stamped_by l vs n)) ≡ true → regs_under d ks (stamped_by l vs n) ≡ true
  unfolding regs_under values_rule leads all_of
  under_stamped l [] [] n h r a = refl
  under_stamped l [] (v ∷ vs) n h r a = clash r refl
  under_stamped l (k ∷ ks) [] n h r a = clash r refl
  under_stamped l (k ∷ ks) (v ∷ vs) n h r a =
      and_both _ _ (and_both _ _ (le-leb (counter_of l) d h) (value_under k v (and_left (value_rule k v) _ r) (λ p z. first p z)))
      (under_stamped l ks vs n h (and_right (value_rule k v) _ r) (later (is_reference k && not (eqb v 0)) a))
    where
      later : (b : Bool) → all_of known (cond b (place (leads_to k) v ∷ leads is_reference ks (stamped_by l vs n)) (leads is_reference ks (stamped_by l vs n))) ≡ true → all_of known (leads is_reference ks (stamped_by l vs n)) ≡ true
      later true e = and_right (known (place (leads_to k) v)) _ e
      later false e = e

      first : is_reference k ≡ true → (v ≡ 0 → ⊥) → known (place (leads_to k) v) ≡ true
      first p z = go (and_both _ _ p (not_false _ (ne_eqb v 0 z)))
        where
          go : (is_reference k && not (eqb v 0)) ≡ true → known (place (leads_to k) v) ≡ true
          go e = let a' = rw e at a in and_left (known (place (leads_to k) v)) _ a'

-- one field alone
pub fields_one : (ks : List ℕ) (n j : ℕ) (g : Reg) → length ks ≤ n → j < length ks → field_rule (get_or ks j 0) g.value g.stamp ≡ true → valid_regs ks (set (replicate n no_reg) j g) ≡ true
unfolding valid_regs
fields_one [] n j g l h r = absurd (omega arith)
fields_one (k ∷ ks) zero j g l h r = absurd (omega arith)
fields_one (k ∷ ks) (suc n) zero g l h r = and_both _ _ r (fields_none ks n (omega arith))
fields_one (k ∷ ks) (suc n) (suc j) g l h r = and_both _ _ (field_none k) (fields_one ks n j g (omega arith) (omega arith) r)

pub under_one : (c : ℕ) (ks : List ℕ) (n j : ℕ) (g : Reg) → leb (counter_of g.stamp) c ≡ true → (not (is_reference (get_or ks j 0)) || leb (counter_of g.value) c) ≡ true → regs_under c ks (set (replicate n no_reg) j g) ≡ true
unfolding regs_under
under_one c [] n j g h r = refl
under_one c (k ∷ ks) zero j g h r = refl
under_one c (k ∷ ks) (suc n) zero g h r = and_both _ _ (and_both _ _ h r) (under_none c ks n)
under_one c (k ∷ ks) (suc n) (suc j) g h r = and_both _ _ (and_both _ _ (zero_under c) (or_right (not (is_reference k)) _ (zero_under c))) (under_one c ks n j g h r)
