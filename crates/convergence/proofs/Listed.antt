-- The list of an accepted table is whole, has no key free of empty references twice, and finds each nonempty reference.
-- Assumes nothing.
use Prim.Native.Nat.{ℕ, zero, suc, ◌-◌, ◌/◌, ◌%◌, ◌≤◌, ◌<◌}
use mathlib.Core.Path.{◌≡◌, refl, sym, ◌∙◌, ap, subst}
use mathlib.Core.Logic.{◌⊎◌, inl, inr, ◌≢◌}
use mathlib.Core.Bool.{true, false}
use mathlib.Core.List.Memᴰ
use mathlib.Core.List.{List, [], ◌∷◌, map}
use native.Mathlib.Omega.{arith}
use lib.ListN.{length, get_or, length-map}
use borrow.Author.Tests.{eq-eqb, ne_eqb}
use Rattle.crdt.proofs.Tests.{Tri, low, same, high, tri, test, or_false}
use Rattle.model.specs.Layout.{fields, relations, field_count, kind_at, mask_at}
use Rattle.model.specs.Schemas.{Relation, is_reference, leads_to, schema_of, relation_numbered}
use Rattle.model.specs.Records.{Rec, label_span, place, relation, label, in_order, Rising}
use Rattle.model.specs.Tables.{decode, contents}
use Rattle.model.specs.Shown.{described, targets, equal_on, conflict_on, conflict, shown}
use Rattle.model.specs.Calls.{table_number, Entry, shown_list}
use Rattle.model.specs.Demand.{SameRecords, entry, value_in, Apart, KeysOnce, ReferencesFound, Listed}
use Rattle.convergence.specs.Entries.{values_of, entry_of}
use Rattle.laws.proofs.Lists.{◌∈◌}
use Rattle.laws.proofs.Shown.{shown_keys, shown_references}
use Rattle.laws.proofs.Valid.{ValidRecord, order_valid}
use Rattle.laws.proofs.Drafts.{shown_in}
use Rattle.laws.proofs.Fields.{label_below, place_relation, place_label}
use Rattle.wellformed.proofs.Follow.{no_rec, has_at}
use Rattle.convergence.proofs.Rising.{rising_has}
use Rattle.convergence.proofs.Fields.{Split, split, leads_to_lem, value_label, schema_length_lem, kinds_length, kind_is, first_key, second_key}
use Rattle.convergence.proofs.Walk.{get_d_in, table_valid, shown_rising, walk_lists, walk_ends, marks_count_lem}

-- entries by position
mapped_at : (f : Rec → Entry) (l : List Rec) (n : ℕ) (d : Entry) → n < length l → get_or (map f l) n d ≡ f (get_or l n no_rec)
mapped_at f [] n d h = absurd (omega arith)
mapped_at f (x ∷ xs) zero d h = refl
mapped_at f (x ∷ xs) (suc n) d h = mapped_at f xs n d (omega arith)

place_of : (l : List Rec) (x : Rec) → x ∈ l → (n : ℕ) × (n < length l) × (get_or l n no_rec ≡ x)
place_of [] x x3 = elim x3 [ ]
place_of (y ∷ ys) x (Memᴰ.head e) = (0, omega arith, sym e)
place_of (y ∷ ys) x (Memᴰ.tail h) = let r = place_of ys x h in (suc r.0, omega (arith, r.1), r.2)

-- different positions of a rising list have different keys
rising_below : (b : ℕ) (l : List Rec) (p q : ℕ) → Rising b l → p < q → q < length l → (get_or l p no_rec).key < (get_or l q no_rec).key
rising_below b [] p q r l h = absurd (omega arith)
rising_below b (x ∷ xs) p zero r l h = absurd (omega arith)
rising_below b (x ∷ xs) zero (suc q) r l h = rising_has (suc x.key) xs (get_or xs q no_rec).key r.1 (has_at xs q no_rec (omega arith))
rising_below b (x ∷ xs) (suc p) (suc q) r l h = rising_below (suc x.key) xs p q r.1 (omega arith) (omega arith)

rising_apart : (l : List Rec) (p q : ℕ) → Rising 0 l → p < length l → q < length l → p ≢ q → (get_or l p no_rec).key ≢ (get_or l q no_rec).key
rising_apart l p q r hp hq n e = go (tri p q)
  where
    go : Tri p q → ⊥
    go (low a) = omega (arith, rising_below 0 l p q r a hq)
    go (same a) = n a
    go (high a) = omega (arith, rising_below 0 l q p r a hp)

-- two records that do not conflict on a key
on_false : (σ : List Relation) (m : ℕ) (x y : Rec) → m ≢ 0 → conflict_on σ m x y ≡ false → equal_on m (described σ x).kinds x.cell.regs y.cell.regs ≡ false
unfolding conflict_on
on_false σ m x y n h = rw (ne_eqb m 0 n) at h

conflict_false : (σ : List Relation) (x y : Rec) → relation x ≡ relation y → conflict σ x y ≡ false
    → (conflict_on σ (described σ x).key1 x y ≡ false) × (conflict_on σ (described σ x).key2 x y ≡ false)
unfolding conflict
conflict_false σ x y e h = or_false _ _ (rw (eq-eqb (relation x) (relation y) e) at h)

same_kinds : (σ : List Relation) (x y : Rec) → relation x ≡ relation y → (described σ x).kinds ≡ (described σ y).kinds
unfolding described
same_kinds σ x y e = ap (λ (r : ℕ). (relation_numbered σ r).kinds) e

-- What is asked of two entries, and of an entry's reference.
abbrev Keyed : List ℕ → Entry → Entry → Type 0
Keyed s a b =
    a.relation ≡ b.relation → (m : ℕ) → (m ≡ 1) ⊎ (m ≡ 2) → (mask_at s a.relation m ≡ 0 → ⊥)
    → Apart s a.relation (mask_at s a.relation m) a b

abbrev Referred : List ℕ → List Entry → Entry → Type 0
Referred s l a =
    (f : ℕ) → 1 ≤ f → f ≤ field_count s a.relation → is_reference (kind_at s a.relation f) ≡ true → (value_in a f ≡ 0 → ⊥)
    → (q : ℕ) × (q < length l) × ((entry l q).relation ≡ leads_to (kind_at s a.relation f)) × ((entry l q).label ≡ value_in a f)

module _ (s t : List ℕ) (T : table_number s t ≡ 0) where
  abbrev σ : List Relation
  σ = schema_of s

  abbrev L : List Rec
  L = shown (schema_of s) (in_order (decode t).records)

  shown_valid : (x : Rec) → x ∈ L → ValidRecord fields σ (decode t).clock x
  shown_valid x h = order_valid (decode t).clock (decode t).records (table_valid s t T).records x (shown_in σ (in_order (decode t).records) x h)

  module _ (x : Rec) (hx : x ∈ L) where
    lo : 1 ≤ relation x
    lo = (shown_valid x hx).least

    hi : relation x ≤ relations s
    hi = rw (schema_length_lem s) at (shown_valid x hx).most

    module _ (y : Rec) (hy : y ∈ L) (ne : x.key ≢ y.key) (e : relation x ≡ relation y) where
      no_conflict : conflict σ x y ≡ false
      no_conflict = go (test (conflict σ x y))
        where
          go : (conflict σ x y ≡ true) ⊎ (conflict σ x y ≡ false) → conflict σ x y ≡ false
          go (inl h) = absurd (ne (shown_keys σ (in_order (decode t).records) x y hx hy h))
          go (inr h) = h

      not_equal : (m : ℕ) → (m ≡ 1) ⊎ (m ≡ 2) → mask_at s (relation x) m ≢ 0 → equal_on (mask_at s (relation x) m) (described σ x).kinds x.cell.regs y.cell.regs ≡ false
      not_equal m (inl q) n = on_false σ (mask_at s (relation x) m) x y n (rw (q, ← first_key s x lo hi) (conflict_false σ x y e no_conflict).0)
      not_equal m (inr q) n = on_false σ (mask_at s (relation x) m) x y n (rw (q, ← second_key s x lo hi) (conflict_false σ x y e no_conflict).1)

      apart : (mask f : ℕ) → 1 ≤ f → Split mask (described σ x).kinds x.cell.regs y.cell.regs (f - 1) → Apart s (relation x) mask (entry_of σ x) (entry_of σ y)
      unfolding entry_of
      apart mask f a r = (f, a, b, r.1, go r.2)
        where
          b : f ≤ field_count s (relation x)
          b = omega (arith, r.0, kinds_length s x lo hi)

          go : (get_or (values_of (described σ x).kinds x.cell.regs) (f - 1) 0 ≡ get_or (values_of (described σ x).kinds y.cell.regs) (f - 1) 0 → ⊥)
              ⊎ ((is_reference (get_or (described σ x).kinds (f - 1) 0) ≡ true) × (get_or (values_of (described σ x).kinds x.cell.regs) (f - 1) 0 ≡ 0))
              → (value_in (entry_of σ x) f ≡ value_in (entry_of σ y) f → ⊥) ⊎ ((is_reference (kind_at s (relation x) f) ≡ true) × (value_in (entry_of σ x) f ≡ 0))
          go (inl d) = inl (λ q. d (q ∙ ap (λ (ks : List ℕ). get_or (values_of ks y.cell.regs) (f - 1) 0) (sym (same_kinds σ x y e))))
          go (inr d) = inr (rw (← kind_is s x lo hi f a b) d.0, d.1)

    keyed : (y : Rec) → y ∈ L → x.key ≢ y.key → Keyed s (entry_of σ x) (entry_of σ y)
    unfolding entry_of
    keyed y hy ne e m w n =
        let mask : ℕ = mask_at s (relation x) m in
        let r = split mask (described σ x).kinds x.cell.regs y.cell.regs (not_equal y hy ne e m w n) in
        let q : suc r.0 - 1 ≡ r.0 = omega arith in
        apart y hy ne e mask (suc r.0) (omega arith) (subst (λ (j : ℕ). Split mask (described σ x).kinds x.cell.regs y.cell.regs j) (sym q) r.1)

    -- the record that a nonempty reference leads to
    leads_there : (f : ℕ) → 1 ≤ f → f ≤ field_count s (relation x) → is_reference (kind_at s (relation x) f) ≡ true → (value_in (entry_of σ x) f ≡ 0 → ⊥)
        → (y : Rec) × (y ∈ L) × (relation y ≡ leads_to (kind_at s (relation x) f)) × (label y ≡ value_in (entry_of σ x) f)
    unfolding entry_of targets
    leads_there f a b i n =
        let ks : List ℕ = (described σ x).kinds in
        let v : ℕ = get_or (values_of ks x.cell.regs) (f - 1) 0 in
        let k : get_or ks (f - 1) 0 ≡ kind_at s (relation x) f = kind_is s x lo hi f a b in
        let l : f - 1 < length ks = omega (arith, kinds_length s x lo hi) in
        let i' : is_reference (get_or ks (f - 1) 0) ≡ true = rw k i in
        let sp : v < label_span = label_below v (value_label ks x.cell.regs (f - 1) (shown_valid x hx).fielded l i' n) in
        let m : place (leads_to (get_or ks (f - 1) 0)) v ∈ targets σ is_reference x = leads_to_lem is_reference ks x.cell.regs (f - 1) l i' n in
        let r = shown_references σ (in_order (decode t).records) x hx _ m in
        (r.0, r.1, ap (λ (q : ℕ). q / label_span) r.2 ∙ place_relation (leads_to (get_or ks (f - 1) 0)) v sp ∙ ap leads_to k, ap (λ (q : ℕ). q % label_span) r.2 ∙ place_label (leads_to (get_or ks (f - 1) 0)) v sp)

    referred : Referred s (map (entry_of σ) L) (entry_of σ x)
    unfolding entry_of
    referred f a b i n =
        let r = leads_there f a b i n in
        let w = place_of L r.0 r.1 in
        let z : entry (map (entry_of σ) L) w.0 ≡ entry_of σ r.0 = mapped_at (entry_of σ) L w.0 _ w.1 ∙ ap (entry_of σ) w.2 in
        (w.0, omega (arith, w.1, length-map L (entry_of σ)), ap (λ (q : Entry). q.relation) z ∙ r.2, ap (λ (q : Entry). q.label) z ∙ r.3)

  keys_of : KeysOnce s (map (entry_of σ) L)
  keys_of p q hp hq n =
      let hp' : p < length L = omega (arith, length-map L (entry_of σ)) in
      let hq' : q < length L = omega (arith, length-map L (entry_of σ)) in
      let k = rising_apart L p q (shown_rising s t T).rising hp' hq' n in
      both (keyed (get_or L p no_rec) (get_d_in L p no_rec hp') (get_or L q no_rec) (get_d_in L q no_rec hq') k)
      (mapped_at (entry_of σ) L p (record { relation = 0; label = 0; values = [] }) hp') (mapped_at (entry_of σ) L q (record { relation = 0; label = 0; values = [] }) hq')
    where
      both : {a a' b b' : Entry} → Keyed s a b → a' ≡ a → b' ≡ b → Keyed s a' b'
      both h x y = rw (x, y) h

  references_of : ReferencesFound s (map (entry_of σ) L)
  references_of p hp =
      let hp' : p < length L = omega (arith, length-map L (entry_of σ)) in
      let e = mapped_at (entry_of σ) L p (record { relation = 0; label = 0; values = [] }) hp' in
      subst (λ (a : Entry). Referred s (map (entry_of σ) L) a) (sym e) (referred (get_or L p no_rec) (get_d_in L p no_rec hp'))

  pub keys_once : KeysOnce s (shown_list s t)
  keys_once = subst (λ (l : List Entry). KeysOnce s l) (sym (walk_lists s t T)) keys_of

  pub references_found : ReferencesFound s (shown_list s t)
  references_found = subst (λ (l : List Entry). ReferencesFound s l) (sym (walk_lists s t T)) references_of

  -- all that is asked of the list of one table
  pub listed : Listed s t
  listed = record { formed = T; marked = marks_count_lem s t T; ended = walk_ends s t T; keys = keys_once; references = references_found }

-- tables of the same records show the same list
pub same_list : (s t u : List ℕ) → table_number s t ≡ 0 → table_number s u ≡ 0 → SameRecords t u → shown_list s t ≡ shown_list s u
unfolding contents
same_list s t u a b e = walk_lists s t a ∙ ap (λ (c : List Rec). map (entry_of (schema_of s)) (shown (schema_of s) c)) e ∙ sym (walk_lists s u b)
