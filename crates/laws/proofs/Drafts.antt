-- An accepted edit of a valid table: its delta is valid, and the table has room for its merge with the delta.
-- Assumes nothing.
use Prim.Native.Nat.{ℕ, zero, suc, ◌+◌, ◌-◌, ◌/◌, ◌%◌, ◌≤◌, ◌<◌}
use mathlib.Core.Path.{◌≡◌, refl, sym, ◌∙◌, ap, subst}
use mathlib.Core.Logic.{◌⊎◌, inl, inr}
use mathlib.Core.Bool.{Bool, true, false, cond, ◌||◌, ◌&&◌, not}
use mathlib.Core.List.Memᴰ
use mathlib.Core.List.{List, [], ◌∷◌, ◌++◌, map}
use mathlib.Core.Option.{Option, none, some}
use native.Mathlib.Omega.{arith}
use lib.Dec.{eqb, leb, ltb}
use lib.ListN.{length, get_or, set, replicate, length-append, length-replicate, length-set, length-map}
use borrow.Author.Tests.{eqb-true, eqb-false, leb-true, ltb-true, le-leb, ne_eqb, not-false as unnot}
use Rattle.crdt.specs.Labels.{largest_counter, label_of, is_replica, is_label, counter_of}
use Rattle.crdt.specs.Flags.{largest_flag, is_odd, is_even, deleted, redone}
use Rattle.crdt.specs.Cells.{Reg, reg, no_reg, Cell}
use Rattle.crdt.proofs.Tests.{Tri, low, same, high, tri, test, clash, not_true, not_false, and_left, and_right, and_both}
use Rattle.model.specs.Layout.{most_records}
use Rattle.model.specs.Lists.{only, some_of, all_of, Check, lowest}
use Rattle.model.specs.Schemas.{Relation, is_reference, is_abort, leads_to, relation_numbered}
use Rattle.model.specs.Records.{Rec, label_span, place, relation, label, has, at, insert, in_order, Distinct}
use Rattle.model.specs.Tables.{Table}
use Rattle.model.specs.Shown.{described, rest, leads, targets, standing, kept, shown}
use Rattle.model.specs.Merge.{joined_with, merged_records}
use Rattle.model.specs.Edits.{Edit, delta_of, new_label, flag_in, flag_of, flag_only, odd, redoing, spent, supported, value_rule, values_rule, new_record, insertion, record_at, register_at, with_register, leading, update_redoes, update, deletion_redoes, deletion}
use Rattle.laws.proofs.Lists.{◌∈◌, only_in, in_some, all_in, in_all, only_length}
use Rattle.laws.proofs.Join.{met, insert_length, insert_low, insert_same, insert_high}
use Rattle.laws.proofs.Shown.{has_in, in_has, settled_part, kept_in, standing_in}
use Rattle.laws.proofs.Order.{has_at, at_order, order_rising}
use Rattle.laws.proofs.Members.{absent, at_key, rising_distinct, order_rising_same}
use Rattle.laws.proofs.Merge.{new}
use Rattle.laws.proofs.Valid.{ValidRecord, Valid, record_more, order_valid}
use Rattle.laws.proofs.Checks.{passed}
use Rattle.laws.proofs.Fields.{label_below, place_relation, place_label, new_label_lem, label_within_lem, new_counter, field_stamped, fields_none, under_none, stamped_by, values_length, stamped_length, fields_stamped, under_stamped, value_under, fields_one, under_one}

-- what is shown is held
pub shown_in : (σ : List Relation) (c : List Rec) (x : Rec) → x ∈ shown σ c → x ∈ c
unfolding shown
shown_in σ c x h = (standing_in σ c x (kept_in σ (standing σ c) x (settled_part σ (kept σ (standing σ c)) x h))).0

pub shown_has : (σ : List Relation) (c : List Rec) (k : ℕ) → has (shown σ c) k ≡ true → has c k ≡ true
shown_has σ c k h = let r = has_in (shown σ c) k h in in_has c r.0 k (shown_in σ c r.0 r.1) r.2

pub has_order : (a : List Rec) (k : ℕ) → has (in_order a) k ≡ has a k
has_order a k = cc (has_at (in_order a) k, has_at a k, at_order k a)

-- flags stay flags
pub redone_flag : (f : ℕ) → f ≤ largest_flag → redone f ≤ largest_flag
unfolding redone
redone_flag f h = go (test (is_odd f && ltb f largest_flag))
  where
    go : ((is_odd f && ltb f largest_flag) ≡ true) ⊎ ((is_odd f && ltb f largest_flag) ≡ false) → cond (is_odd f && ltb f largest_flag) (f + 1) f ≤ largest_flag
    go (inl e) = let l : f < largest_flag = ltb-true f largest_flag (and_right (is_odd f) _ e) in rw e (omega arith)
    go (inr e) = rw e h

pub deleted_flag : (f : ℕ) → f ≤ largest_flag → deleted f ≤ largest_flag
unfolding deleted
deleted_flag f h = go (test (is_even f && ltb f largest_flag))
  where
    go : ((is_even f && ltb f largest_flag) ≡ true) ⊎ ((is_even f && ltb f largest_flag) ≡ false) → cond (is_even f && ltb f largest_flag) (f + 1) f ≤ largest_flag
    go (inl e) = let l : f < largest_flag = ltb-true f largest_flag (and_right (is_even f) _ e) in rw e (omega arith)
    go (inr e) = rw e h

-- how many targets
leads_length : (p : ℕ → Bool) (ks : List ℕ) (gs : List Reg) → length (leads p ks gs) ≤ length ks
unfolding leads
leads_length p [] gs = omega arith
leads_length p (k ∷ ks) gs = go (p k && not (eqb (Rattle.model.specs.Shown.value gs) 0)) (leads_length p ks (rest gs))
  where
    go : (b : Bool) → length (leads p ks (rest gs)) ≤ length ks → length (cond b (place (leads_to k) (Rattle.model.specs.Shown.value gs) ∷ leads p ks (rest gs)) (leads p ks (rest gs))) ≤ suc (length ks)
    go true h = omega arith
    go false h = omega arith

order_at_most : (s : List Rec) → length (in_order s) ≤ length s
unfolding in_order
order_at_most [] = omega arith
order_at_most (x ∷ xs) = omega (arith, order_at_most xs, insert_length x (in_order xs))

-- at most one of the records is new
module _ (a : List Rec) where
  only_none : (l : List Rec) → ((y : Rec) → y ∈ l → has a y.key ≡ true) → only (new a) l ≡ []
  unfolding only
  only_none [] h = refl
  only_none (x ∷ xs) h = let e = h x (Memᴰ.head refl) in rw e (only_none xs (λ y m. h y (Memᴰ.tail m)))

  only_one : (e : Rec) (l : List Rec) → ((y : Rec) → y ∈ l → has a y.key ≡ true) → length (only (new a) (insert e l)) ≤ 1
  unfolding only insert
  only_one e [] h = go (not (has a e.key))
    where
      go : (b : Bool) → length (cond b (e ∷ []) []) ≤ 1
      go true = omega arith
      go false = omega arith
  only_one e (x ∷ xs) h = go (tri e.key x.key) (only_one e xs (λ y m. h y (Memᴰ.tail m)))
    where
      old : has a x.key ≡ true
      old = h x (Memᴰ.head refl)

      rest_none : only (new a) xs ≡ []
      rest_none = only_none xs (λ y m. h y (Memᴰ.tail m))

      front : (b : Bool) → length (cond b (e ∷ []) []) ≤ 1
      front true = omega arith
      front false = omega arith

      go : Tri e.key x.key → length (only (new a) (insert e xs)) ≤ 1 → length (only (new a) (insert e (x ∷ xs))) ≤ 1
      go (low p) ih = rw (insert_low e x xs p) (rw old (rw rest_none (front (not (has a e.key)))))
      go (same p) ih = rw (insert_same e x xs p) (rw old (rw rest_none (omega arith)))
      go (high p) ih = rw (insert_high e x xs p) (rw old ih)

merged_count : (a b : List Rec) → length (merged_records a b) ≡ length a + length (only (new a) (in_order b))
unfolding merged_records
merged_count a b = simp (length-append, length-map)

-- the delta of an edit, and the room for it
pub record Drafted (w : ℕ) (σ : List Relation) (v : Table) (e : Edit) : Type 0 where
  pub delta : Valid w σ (delta_of w v e)
  pub fits : length (merged_records v.records (delta_of w v e).records) ≤ v.capacity

-- of a valid table under a schema whose relations have at most w fields
module _ {w : ℕ} {σ : List Relation} (narrow : (r : ℕ) → length (relation_numbered σ r).kinds ≤ w) (few : w < most_records) (v : Table) (good : Valid w σ v) where
  c : List Rec
  c = in_order v.records

  valid_in : (x : Rec) → x ∈ c → ValidRecord w σ v.clock x
  unfolding c
  valid_in x m = order_valid v.clock v.records good.records x m

  held_old : (k : ℕ) → has c k ≡ true → has v.records k ≡ true
  unfolding c
  held_old k h = sym (has_order v.records k) ∙ h

  -- a key that is held
  record Known (k : ℕ) : Type 0 where
    least : 1 ≤ k / label_span
    most : k / label_span ≤ length σ
    labelled : is_label (k % label_span) ≡ true
    counted : counter_of (k % label_span) ≤ v.clock

  known : (k : ℕ) → has c k ≡ true → Known k
  known k h = let r = has_in c k h in let f = valid_in r.0 r.1 in subst Known r.2 (record { least = f.least; most = f.most; labelled = f.labelled; counted = f.counted })

  c_distinct : Distinct c
  unfolding c
  c_distinct = rising_distinct 0 (in_order v.records) (order_rising v.records)

  flag_held : (k : ℕ) → flag_of c k ≤ largest_flag
  unfolding flag_of
  flag_held k = go (test (has c k))
    where
      go : (has c k ≡ true) ⊎ (has c k ≡ false) → flag_in (at k c) ≤ largest_flag
      go (inl p) = let r = has_in c k p in rw (at_key c r.0 k c_distinct r.1 r.2) (valid_in r.0 r.1).flagged
      go (inr p) = rw (absent c k p) (omega arith)

  -- a record of which only the flag changed
  flag_valid : (d k f : ℕ) → v.clock ≤ d → Known k → f ≤ largest_flag → ValidRecord w σ d (flag_only w k f)
  unfolding flag_only described
  flag_valid d k f l n h =
      record {
        least = n.least;
        most = n.most;
        labelled = n.labelled;
        flagged = h;
        wide = length-replicate w no_reg;
        fielded = fields_none _ w (narrow (k / label_span));
        counted = omega (arith, n.counted);
        under = under_none d _ w;
      }

  redoing_keys : (ks : List ℕ) (x : Rec) → x ∈ redoing w c ks → x.key ∈ ks
  unfolding redoing flag_only
  redoing_keys [] x m = absurd (Memᴰ.not-nil m)
  redoing_keys (k ∷ ks) x (Memᴰ.head e) = Memᴰ.head (ap (λ (y : Rec). y.key) e)
  redoing_keys (k ∷ ks) x (Memᴰ.tail m) = Memᴰ.tail (redoing_keys ks x m)

  redoing_valid : (d : ℕ) (ks : List ℕ) → v.clock ≤ d → ((k : ℕ) → k ∈ ks → has c k ≡ true) → (x : Rec) → x ∈ redoing w c ks → ValidRecord w σ d x
  unfolding redoing
  redoing_valid d [] l h x m = absurd (Memᴰ.not-nil m)
  redoing_valid d (k ∷ ks) l h x (Memᴰ.head e) = rw e (flag_valid d k _ l (known k (h k (Memᴰ.head refl))) (redone_flag _ (flag_held k)))
  redoing_valid d (k ∷ ks) l h x (Memᴰ.tail m) = redoing_valid d ks l (λ j q. h j (Memᴰ.tail q)) x m

  redoing_length : (ks : List ℕ) → length (redoing w c ks) ≡ length ks
  unfolding redoing
  redoing_length ks = length-map ks _

  odd_in : (ks : List ℕ) (k : ℕ) → k ∈ odd c ks → k ∈ ks
  unfolding odd
  odd_in ks k m = (only_in _ k ks m).0

  odd_length : (ks : List ℕ) → length (odd c ks) ≤ length ks
  unfolding odd
  odd_length ks = only_length _ ks

  -- a delta of one record, and of redone ones that are held
  drafted : (e : Edit) (x : Rec) (ks : List ℕ) → e.changed ≡ x ∷ redoing w c ks → v.clock ≤ e.clock → e.clock ≤ largest_counter → length ks ≤ w
      → ValidRecord w σ e.clock x → ((k : ℕ) → k ∈ ks → has c k ≡ true) → (has v.records x.key ≡ true) ⊎ (length v.records < v.capacity) → Drafted w σ v e
  unfolding delta_of
  drafted e x ks changed later clock few' vx hk room =
      record {
        delta = record {
          replica = good.replica;
          clock = clock;
          used = omega (arith, order_at_most e.changed, ap length changed, redoing_length ks);
          capacity = omega arith;
          records = order_valid e.clock e.changed (λ y m. each y (rw changed at m));
          distinct = rising_distinct 0 (in_order e.changed) (order_rising e.changed);
        };
        fits = rw (merged_count v.records (in_order e.changed)) (rw (order_rising_same (in_order e.changed) (order_rising e.changed)) (rw changed (go room)));
      }
    where
      each : (y : Rec) → y ∈ x ∷ redoing w c ks → ValidRecord w σ e.clock y
      each y (Memᴰ.head q) = rw q vx
      each y (Memᴰ.tail m) = redoing_valid e.clock ks later hk y m

      old : (k : ℕ) → has c k ≡ true → has v.records k ≡ true
      old k h = held_old k h

      redone_old : (y : Rec) → y ∈ in_order (redoing w c ks) → has v.records y.key ≡ true
      redone_old y m =
          let h = in_has (in_order (redoing w c ks)) y y.key m refl in
          let r = has_in (redoing w c ks) y.key (sym (has_order (redoing w c ks) y.key) ∙ h) in
          old y.key (rw r.2 at (hk r.0.key (redoing_keys ks r.0 r.1)))

      all_old : has v.records x.key ≡ true → (y : Rec) → y ∈ in_order (x ∷ redoing w c ks) → has v.records y.key ≡ true
      all_old h y m =
          let i = in_has (in_order (x ∷ redoing w c ks)) y y.key m refl in
          let r = has_in (x ∷ redoing w c ks) y.key (sym (has_order (x ∷ redoing w c ks) y.key) ∙ i) in
          pick' r.0 r.1 r.2
        where
          pick' : (z : Rec) → z ∈ x ∷ redoing w c ks → z.key ≡ y.key → has v.records y.key ≡ true
          pick' z (Memᴰ.head q) k = rw (ap (λ (u : Rec). u.key) (sym q) ∙ k) at h
          pick' z (Memᴰ.tail q) k = old y.key (rw k at (hk z.key (redoing_keys ks z q)))

      go : (has v.records x.key ≡ true) ⊎ (length v.records < v.capacity) → length v.records + length (only (new v.records) (in_order (x ∷ redoing w c ks))) ≤ v.capacity
      go (inl h) = omega (arith, good.used, ap length (only_none v.records _ (all_old h)))
      go (inr l) = unfold in_order in omega (arith, only_one v.records x (in_order (redoing w c ks)) redone_old)

  one_old : (x : Rec) (f : ℕ) (g : Reg) → has c x.key ≡ true → has v.records (with_register (flag_only w x.key 0) f g).key ≡ true
  unfolding with_register flag_only
  one_old x f g h = held_old x.key h

  flag_old : (k f : ℕ) → has c k ≡ true → has v.records (flag_only w k f).key ≡ true
  unfolding flag_only
  flag_old k f h = held_old k h

  leads_shown : (k u : ℕ) → (is_reference k && not (eqb u 0)) ≡ true → all_of (has (shown σ c)) (leading is_reference k u) ≡ true → has (shown σ c) (place (leads_to k) u) ≡ true
  unfolding leading all_of
  leads_shown k u e a = let a' = rw e at a in and_left _ _ a'

  -- an odd flag is held
  odd_held : (ks : List ℕ) (k : ℕ) → k ∈ odd c ks → has c k ≡ true
  unfolding odd flag_of
  odd_held ks k m = go (test (has c k)) (only_in _ k ks m).1
    where
      go : (has c k ≡ true) ⊎ (has c k ≡ false) → is_odd (flag_in (at k c)) ≡ true → has c k ≡ true
      go (inl p) h = p
      go (inr p) h = clash (rw (absent c k p) at h) refl

  -- the new clock
  raised : eqb v.clock largest_counter ≡ false → v.clock + 1 ≤ largest_counter
  raised h = let n : v.clock ≡ largest_counter → ⊥ = eqb-false v.clock largest_counter h in omega (arith, good.clock)

  shown_bound : (d : ℕ) → v.clock ≤ d → (k : ℕ) → has (shown σ c) k ≡ true → counter_of (k % label_span) ≤ d
  shown_bound d l k h = omega (arith, (known k (shown_has σ c k h)).counted)

  stamp_is : v.clock + 1 ≤ largest_counter → new_label v ≡ label_of (v.clock + 1) v.replica
  unfolding new_label
  stamp_is h = label_within_lem (v.clock + 1) v.replica (omega arith) h good.replica

  stamp_label : v.clock + 1 ≤ largest_counter → is_label (new_label v) ≡ true
  stamp_label h = rw (stamp_is h) (new_label_lem (v.clock + 1) v.replica (omega arith) h good.replica)

  stamp_counter : v.clock + 1 ≤ largest_counter → counter_of (new_label v) ≡ v.clock + 1
  stamp_counter h = rw (stamp_is h) (new_counter (v.clock + 1) v.replica good.replica)

  -- what an accepted edit knows of the flags to be redone, and of the new label
  pub flags_below : (ks : List ℕ) → spent (in_order v.records) ks ≡ false → (k : ℕ) → k ∈ ks → flag_of (in_order v.records) k < largest_flag
  unfolding spent c
  flags_below ks h k m = go (test (eqb (flag_of (in_order v.records) k) largest_flag))
    where
      go : (eqb (flag_of (in_order v.records) k) largest_flag ≡ true) ⊎ (eqb (flag_of (in_order v.records) k) largest_flag ≡ false) → flag_of (in_order v.records) k < largest_flag
      go (inl p) = clash (in_some _ k ks m p) h
      go (inr p) = let n : flag_of (in_order v.records) k ≡ largest_flag → ⊥ = eqb-false _ _ p in omega (arith, flag_held k)

  pub label_new : eqb v.clock largest_counter ≡ false → is_label (new_label v) ≡ true
  label_new h = stamp_label (raised h)

  -- the new record of an insertion
  new_valid : (r : ℕ) (vs : List ℕ) → 1 ≤ r → r ≤ length σ → values_rule (relation_numbered σ r).kinds vs ≡ true → all_of (has (shown σ c)) (targets σ is_reference (new_record w v r vs)) ≡ true
      → v.clock + 1 ≤ largest_counter → ValidRecord w σ (v.clock + 1) (new_record w v r vs)
  unfolding new_record described targets
  new_valid r vs l m q s h =
      let n = stamp_label h in
      let b = label_below (new_label v) n in
      let e : place r (new_label v) / label_span ≡ r = place_relation r (new_label v) b in
      let e' : place r (new_label v) % label_span ≡ new_label v = place_label r (new_label v) b in
      let s' = rw e at s in
      let k = values_length _ vs q in
      record {
        least = rw e l;
        most = rw e m;
        labelled = rw e' n;
        flagged = omega arith;
        wide = stamped_length (new_label v) vs (w - length vs) ∙ omega (arith, k, narrow r);
        fielded = rw e (fields_stamped (new_label v) _ vs (w - length vs) n q);
        counted = rw e' (omega (arith, stamp_counter h));
        under = rw e (under_stamped (has (shown σ c)) (v.clock + 1) (shown_bound (v.clock + 1) (omega arith)) (new_label v) _ vs (w - length vs) (omega (arith, stamp_counter h)) q s');
      }

  targets_few : (p : ℕ → Bool) (x : Rec) → length (targets σ p x) ≤ w
  unfolding targets described
  targets_few p x = omega (arith, leads_length p (relation_numbered σ (relation x)).kinds x.cell.regs, narrow (relation x))

  pub insertion_drafted : (r : ℕ) (vs : List ℕ) → lowest (insertion w σ v r vs).checks ≡ 0 → Drafted w σ v (insertion w σ v r vs)
  unfolding insertion all_of c
  insertion_drafted r vs h =
      let p = passed _ refl h in
      let x = new_record w v r vs in
      let ks = targets σ is_reference x in
      let rel = unnot (leb 1 r && leb r (length σ)) p.0 in
      let l : 1 ≤ r = leb-true 1 r (and_left (leb 1 r) _ rel) in
      let m : r ≤ length σ = leb-true r (length σ) (and_right (leb 1 r) _ rel) in
      let q = unnot _ p.1.0 in
      let s = unnot _ p.1.1.0 in
      let full : length v.records ≡ v.capacity → ⊥ = eqb-false _ _ p.1.1.1.1.0 in
      let clock = raised p.1.1.1.1.1.0 in
      drafted _ x (odd c ks) refl (omega arith) clock (omega (arith, odd_length ks, targets_few is_reference x)) (new_valid r vs l m q s clock) (odd_held ks) (inr (omega (arith, good.used)))

  -- the record to edit
  at_flag : (i : ℕ) → (record_at v i).cell.flag ≤ largest_flag
  unfolding record_at
  at_flag i = go v.records (i - 1) good.records
    where
      go : (l : List Rec) (j : ℕ) → ((x : Rec) → x ∈ l → ValidRecord w σ v.clock x) → (get_or l j (record { key = 0; cell = record { flag = 0; regs = [] } })).cell.flag ≤ largest_flag
      go [] j f = omega arith
      go (x ∷ xs) zero f = (f x (Memᴰ.head refl)).flagged
      go (x ∷ xs) (suc j) f = go xs j (λ y m. f y (Memᴰ.tail m))

  leading_few : (p : ℕ → Bool) (k u : ℕ) → length (leading p k u) ≤ 1
  unfolding leading
  leading_few p k u = go (p k && not (eqb u 0))
    where
      go : (b : Bool) → length (cond b (place (leads_to k) u ∷ []) []) ≤ 1
      go true = omega arith
      go false = omega arith

  redoes_few : 2 ≤ w → (x : Rec) (k old new : ℕ) → length (update_redoes σ c x k old new) ≤ w
  unfolding update_redoes
  redoes_few two x k old new =
      let ls = leading is_reference k new in
      let ms = only (λ t. not (eqb old new) && supported σ c x.key t) (leading is_abort k old) in
      omega (arith, odd_length (ls ++ ms), length-append ls ms, leading_few is_reference k new, leading_few is_abort k old, only_length (λ t. not (eqb old new) && supported σ c x.key t) (leading is_abort k old))

  redoes_held : (x : Rec) (k old new t : ℕ) → t ∈ update_redoes σ c x k old new → has c t ≡ true
  unfolding update_redoes
  redoes_held x k old new t m = odd_held _ t m

  -- the changed record of an update
  one_valid : (key f new : ℕ) → Known key → 1 ≤ f → f ≤ length (relation_numbered σ (key / label_span)).kinds
      → value_rule (get_or (relation_numbered σ (key / label_span)).kinds (f - 1) 0) new ≡ true
      → all_of (has (shown σ c)) (leading is_reference (get_or (relation_numbered σ (key / label_span)).kinds (f - 1) 0) new) ≡ true
      → v.clock + 1 ≤ largest_counter → ValidRecord w σ (v.clock + 1) (with_register (flag_only w key 0) f (reg new (new_label v)))
  unfolding with_register flag_only described
  one_valid key f new n l m q s h =
      let ks = (relation_numbered σ (key / label_span)).kinds in
      let g = reg new (new_label v) in
      let label = stamp_label h in
      let j : f - 1 < length ks = omega arith in
      record {
        least = n.least;
        most = n.most;
        labelled = n.labelled;
        flagged = omega arith;
        wide = length-set (replicate w no_reg) (f - 1) g ∙ length-replicate w no_reg;
        fielded = fields_one ks w (f - 1) g (narrow (key / label_span)) j (field_stamped _ new (new_label v) label q);
        counted = omega (arith, n.counted);
        under =
            under_one (v.clock + 1) ks w (f - 1) g (le-leb (counter_of (new_label v)) (v.clock + 1) (omega (arith, stamp_counter h)))
            (value_under (has (shown σ c)) (v.clock + 1) (shown_bound (v.clock + 1) (omega arith)) (get_or ks (f - 1) 0) new q (λ p z. first (get_or ks (f - 1) 0) p z s));
      }
    where
      first : (k : ℕ) → is_reference k ≡ true → (new ≡ 0 → ⊥) → all_of (has (shown σ c)) (leading is_reference k new) ≡ true → has (shown σ c) (place (leads_to k) new) ≡ true
      first k p z a = leads_shown k new (and_both _ _ p (not_false _ (ne_eqb new 0 z))) a

  pub update_drafted : 2 ≤ w → (i f new : ℕ) → lowest (update w σ v i f new).checks ≡ 0 → Drafted w σ v (update w σ v i f new)
  unfolding update all_of c described
  update_drafted two i f new h =
      let p = passed _ refl h in
      let x = record_at v i in
      let ks = (relation_numbered σ (relation x)).kinds in
      let k = get_or ks (f - 1) 0 in
      let valid-in' = shown_has σ c x.key (unnot _ p.0) in
      let seven = unnot _ p.1.0 in
      let range = and_left (leb 1 f && leb f (length ks)) _ seven in
      let l : 1 ≤ f = leb-true 1 f (and_left (leb 1 f) _ range) in
      let m : f ≤ length ks = leb-true f (length ks) (and_right (leb 1 f) _ range) in
      let q = and_right (leb 1 f && leb f (length ks)) _ seven in
      let s = unnot _ p.1.1.0 in
      let clock = raised p.1.1.1.1.0 in
      drafted _ (with_register (flag_only w x.key 0) f (reg new (new_label v))) (update_redoes σ c x k (register_at x f).value new) refl (omega arith) clock
      (redoes_few two x k (register_at x f).value new) (one_valid x.key f new (known x.key valid-in') l m q s clock) (redoes_held x k (register_at x f).value new) (inl (one_old x f _ valid-in'))

  pub deletion_drafted : (i : ℕ) → lowest (deletion w σ v i).checks ≡ 0 → Drafted w σ v (deletion w σ v i)
  unfolding deletion all_of c deletion_redoes
  deletion_drafted i h =
      let p = passed _ refl h in
      let x = record_at v i in
      let valid-in' = shown_has σ c x.key (unnot _ p.0) in
      let ts = only (λ t. not (eqb t x.key) && supported σ c x.key t) (targets σ is_abort x) in
      drafted _ (flag_only w x.key (deleted x.cell.flag)) (odd c ts) refl (omega arith) good.clock
      (omega (arith, odd_length ts, only_length (λ t. not (eqb t x.key) && supported σ c x.key t) (targets σ is_abort x), targets_few is_abort x)) (flag_valid v.clock x.key _ (omega arith) (known x.key valid-in') (deleted_flag _ (at_flag i))) (odd_held ts) (inl (flag_old x.key _ valid-in'))
