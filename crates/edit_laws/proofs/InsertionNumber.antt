-- The number of an insertion into a judged table, and its key conflicts by position.
-- Assumes nothing.
use Prim.Native.Nat.{ℕ, zero, suc, ◌+◌, ◌-◌, ◌≤◌, ◌<◌}
use mathlib.Core.Path.{◌≡◌, refl, sym, ◌∙◌, ap}
use mathlib.Core.Logic.{◌⊎◌, inl, inr}
use mathlib.Core.Bool.{Bool, true, false, cond, ◌||◌, ◌&&◌, not}
use mathlib.Core.List.{List, [], ◌∷◌}
use native.Mathlib.Omega.{arith}
use lib.Dec.{eqb, leb}
use lib.ListN.{length, get_or, set, replicate}
use lib.Seq.{ext_get_or, get_or-set_same, get_or-set_other}
use borrow.Author.Tests.{eqb-true, eqb-false, eq-eqb, ne_eqb, leb-true, le-leb, lt-leb, not-false as unnot}
use Rattle.crdt.specs.Labels.{largest_counter, largest_replica, label_of, is_counter, is_replica, no_label, label_within}
use Rattle.crdt.specs.Cells.{Reg, no_reg}
use Rattle.crdt.proofs.Tests.{test, and_left, and_right, Tri, low, same, high, tri}
use Rattle.model.specs.Layout.{fields, most_relations, relations, field_count, mask_at, capacity_of, clock_at, used_at, relation_at}
use Rattle.model.specs.Lists.{some_of, all_of, Check, check, lowest}
use Rattle.model.specs.Schemas.{Relation, no_relation, is_reference, relation_of, schema_of, relation_numbered}
use Rattle.model.specs.Records.{Rec, label_span, relation, has}
use Rattle.model.specs.Tables.{decode, record_of}
use Rattle.model.specs.Shown.{described, leads, targets, conflict_on, conflict, standing, shown}
use Rattle.model.specs.Edits.{new_label, values_rule, new_record, odd, redoing, spent, insertion}
use Rattle.model.specs.Calls.{insertion_of}
use Rattle.laws.proofs.Checks.{passed}
use Rattle.laws.proofs.Fields.{place_relation, stamped_by, stamped_length, values_length}
use Rattle.wellformed.proofs.Ranges.{listed_at}
use Rattle.wellformed.proofs.Formed.{schema_length_lem}
use Rattle.wellformed.proofs.Facts.{SoundSchema, schema_sound, Formed, formed}
use Rattle.judged.specs.Checked.{Checked}
use Rattle.references.proofs.Places.{key_relation, recs_length}
use Rattle.list_conflicts.specs.Keys.{values_conflict, values_at}
use Rattle.list_conflicts.proofs.Keys.{first_mask, second_mask}
use Rattle.edit_basics.specs.Targets.{kinds_of, bare, held}
use Rattle.edit_basics.proofs.Values.{values_fit, leads_stamped}
use Rattle.edit_laws.specs.Clash.{clashes, Padded}
use Rattle.edit_laws.proofs.Clash.{values_of, conflict_on_lem}

-- the label of a counter and a replica is below the span of labels
within_below : (c r : ℕ) → label_within c r < label_span
unfolding label_within
within_below c r = go (test (is_counter c && is_replica r))
  where
    go : ((is_counter c && is_replica r) ≡ true) ⊎ ((is_counter c && is_replica r) ≡ false) → cond (is_counter c && is_replica r) (label_of c r) no_label < label_span
    go (inl e) =
        let a = leb-true c largest_counter (and_right (leb 1 c) _ (and_left (is_counter c) (is_replica r) e)) in
        let b = leb-true r largest_replica (and_right (leb 1 r) _ (and_right (is_counter c) (is_replica r) e)) in
        rw e (omega arith)
    go (inr e) = rw e (omega arith)

-- the values of stamped registers and of none behind them
none_values : (n k : ℕ) → get_or (values_of (replicate n no_reg)) k 0 ≡ 0
none_values zero k = refl
none_values (suc n) zero = refl
none_values (suc n) (suc k) = none_values n k

stamped_values : (l : ℕ) (vs : List ℕ) (n k : ℕ) → get_or (values_of (stamped_by l vs n)) k 0 ≡ get_or vs k 0
stamped_values l [] n k = none_values n k
stamped_values l (v ∷ vs) n zero = refl
stamped_values l (v ∷ vs) n (suc k) = stamped_values l vs n k

values_count : (gs : List Reg) → length (values_of gs) ≡ length gs
values_count [] = refl
values_count (g ∷ gs) = ap suc (values_count gs)

pub padded_values : (l : ℕ) (vs out : List ℕ) → length vs ≤ fields → Padded vs out → values_of (stamped_by l vs (fields - length vs)) ≡ out
padded_values l vs out h p = ext_get_or 0 _ out (count ∙ sym p.long) (λ k q. stamped_values l vs (fields - length vs) k ∙ sym (p.at k (omega (arith, count))))
  where
    count : length (values_of (stamped_by l vs (fields - length vs))) ≡ fields
    count = values_count (stamped_by l vs (fields - length vs)) ∙ stamped_length l vs (fields - length vs) ∙ omega arith

-- a scan of the values into as many words as a record has fields
pub pad_more : (vs out : List ℕ) (n x : ℕ) → n < length out → ((k : ℕ) → k < n → get_or out k 0 ≡ get_or vs k 0) → x ≡ get_or vs n 0
    → (k : ℕ) → k < n + 1 → get_or (set out n x) k 0 ≡ get_or vs k 0
pad_more vs out n x l h e k b = go (tri k n)
  where
    go : Tri k n → get_or (set out n x) k 0 ≡ get_or vs k 0
    go (low p) = get_or-set_other out n k x 0 (λ z. omega arith) ∙ h k p
    go (same p) = rw p (get_or-set_same out n x 0 l ∙ e)
    go (high p) = absurd (omega arith)

-- checks 11 to 13, and as the code reads them
abbrev pub later : List ℕ → List ℕ → ℕ → List ℕ → List Check
later s t r vs = check 11 (eqb (used_at t) (capacity_of t)) ∷ check 12 (eqb (clock_at t) largest_counter) ∷ check 13 (spent (held t) (odd (held t) (leads is_reference (kinds_of s r) (bare vs)))) ∷ []

module _ (s t : List ℕ) (r : ℕ) (vs : List ℕ) (u m : ℕ) (eu : u ≡ used_at t) (em : m ≡ capacity_of t) where
  pub room_full : u ≡ m → 11 ≡ lowest (later s t r vs)
  unfolding lowest
  room_full h = rw (eq-eqb (used_at t) (capacity_of t) (sym eu ∙ h ∙ em))

  module _ (h : u ≡ m → ⊥) (k : ℕ) (ek : k ≡ clock_at t) where
    unfilled : eqb (used_at t) (capacity_of t) ≡ false
    unfilled = ne_eqb (used_at t) (capacity_of t) (λ z. h (eu ∙ z ∙ sym em))

    pub room_clock : k ≡ largest_counter → 12 ≡ lowest (later s t r vs)
    unfolding lowest
    room_clock q = rw (unfilled, eq-eqb (clock_at t) largest_counter (sym ek ∙ q))

    module _ (q : k ≡ largest_counter → ⊥) (d : Bool) (ed : d ≡ spent (held t) (odd (held t) (leads is_reference (kinds_of s r) (bare vs)))) where
      unspent : eqb (clock_at t) largest_counter ≡ false
      unspent = ne_eqb (clock_at t) largest_counter (λ z. q (ek ∙ z))

      pub room_spent : d ≡ true → 13 ≡ lowest (later s t r vs)
      unfolding lowest
      room_spent g = rw (unfilled, unspent, ← ed, g)

      pub room_done : d ≡ false → 0 ≡ lowest (later s t r vs)
      unfolding lowest
      room_done g = rw (unfilled, unspent, ← ed, g)

module _ (s t : List ℕ) (c : Checked s t) (r : ℕ) (vs : List ℕ) where
  abbrev x : Rec
  x = new_record fields (decode t) r vs

  sound : SoundSchema s
  sound = schema_sound s c.schema

  fm : Formed s t
  fm = formed s t c.formed

  new_below : new_label (decode t) < label_span
  unfolding new_label
  new_below = within_below ((decode t).clock + 1) (decode t).replica

  numbered : 1 ≤ r → r ≤ relations s → relation_numbered (schema_of s) r ≡ relation_of s r
  unfolding relation_numbered schema_of
  numbered a b = listed_at (relations s) (relation_of s) r no_relation a b

  kinds_numbered : 1 ≤ r → r ≤ relations s → (relation_numbered (schema_of s) r).kinds ≡ kinds_of s r
  unfolding relation_of
  kinds_numbered a b = ap (λ (q : Relation). q.kinds) (numbered a b)

  -- the record's relation, kinds and targets
  new_relation : relation x ≡ r
  unfolding new_record
  new_relation = place_relation r (new_label (decode t)) new_below

  targets_new : 1 ≤ r → r ≤ relations s → values_rule (kinds_of s r) vs ≡ true → (p : ℕ → Bool) → targets (schema_of s) p x ≡ leads p (kinds_of s r) (bare vs)
  unfolding targets described
  targets_new a b w p =
      ap (λ (k : ℕ). leads p (relation_numbered (schema_of s) k).kinds x.cell.regs) new_relation
      ∙ ap (λ (ks : List ℕ). leads p ks x.cell.regs) (kinds_numbered a b)
      ∙ unfold new_record in leads_stamped p (new_label (decode t)) (kinds_of s r) vs (fields - length vs) (values_length (kinds_of s r) vs w)

  new_values : (out : List ℕ) → length vs ≤ fields → Padded vs out → values_of x.cell.regs ≡ out
  unfolding new_record
  new_values out h p = padded_values (new_label (decode t)) vs out h p

  -- a key conflict of the new record
  new_clash : (out : List ℕ) → length vs ≤ fields → Padded vs out → (y : ℕ) → 1 ≤ y → y ≤ used_at t
      → conflict (schema_of s) (record_of t y) x ≡ clashes s t r (mask_at s r 1) (mask_at s r 2) 0 out y
  unfolding conflict
  new_clash out h p y a b =
      rw (key_relation s t c y a b, new_relation, first_mask s t c.schema c.formed y a b, second_mask s t c.schema c.formed y a b) (go (test (eqb (relation_at t y) r)))
    where
      on : (m : ℕ) → conflict_on (schema_of s) m (record_of t y) x ≡ values_conflict s (relation_at t y) m (values_at t y) out
      on m = conflict_on_lem s t y (record { checked = c; least = a; most = b }) m x out (new_values out h p)

      go : (eqb (relation_at t y) r ≡ true) ⊎ (eqb (relation_at t y) r ≡ false)
          → (eqb (relation_at t y) r && (conflict_on (schema_of s) (mask_at s (relation_at t y) 1) (record_of t y) x || conflict_on (schema_of s) (mask_at s (relation_at t y) 2) (record_of t y) x))
          ≡ clashes s t r (mask_at s r 1) (mask_at s r 2) 0 out y
      go (inl q) = let e = eqb-true (relation_at t y) r q in let n : y ≡ 0 → ⊥ = omega arith in rw (on (mask_at s (relation_at t y) 1), on (mask_at s (relation_at t y) 2), ne_eqb y 0 n, e)
      go (inr q) = let n : y ≡ 0 → ⊥ = omega arith in rw (q, ne_eqb y 0 n)

  pub insertion_clash : values_rule (kinds_of s r) vs ≡ true → 1 ≤ r → r ≤ relations s → (m1 m2 : ℕ) → m1 ≡ mask_at s r 1 → m2 ≡ mask_at s r 2 → (out : List ℕ) → Padded vs out
      → (y : ℕ) → 1 ≤ y → y ≤ used_at t → conflict (schema_of s) (record_of t y) x ≡ clashes s t r m1 m2 0 out y
  insertion_clash w a b m1 m2 e f out p y h l = rw (e, f) (new_clash out (omega (arith, values_fit s r vs w, sound.counts r a b)) p y h l)

  -- the number, and the checks as the code reads them
  abbrev pub number : ℕ
  number = lowest (insertion_of s t r vs).checks

  abbrev pub keys : List ℕ
  keys = leads is_reference (kinds_of s r) (bare vs)

  abbrev pub shows : Bool
  shows = all_of (has (shown (schema_of s) (held t))) keys

  abbrev pub conflicted : Bool
  conflicted = some_of (λ (y : Rec). conflict (schema_of s) y x) (standing (schema_of s) (held t))

  abbrev later_of : List ℕ → ℕ
  later_of ks = cond (eqb (length (decode t).records) (decode t).capacity) 11 (cond (eqb (decode t).clock largest_counter) 12 (cond (spent (held t) (odd (held t) ks)) 13 0))

  number_is : number ≡ cond (not (leb 1 r && leb r (length (schema_of s)))) 5 (cond (not (values_rule (relation_numbered (schema_of s) r).kinds vs)) 7 (cond (not (all_of (has (shown (schema_of s) (held t))) (targets (schema_of s) is_reference x))) 8 (cond conflicted 9 (later_of (targets (schema_of s) is_reference x)))))
  unfolding insertion_of insertion lowest
  number_is = refl

  later_is : later_of keys ≡ lowest (later s t r vs)
  unfolding lowest decode
  later_is = ap (λ n. cond (eqb n (capacity_of t)) 11 (cond (eqb (clock_at t) largest_counter) 12 (cond (spent (held t) (odd (held t) keys)) 13 0))) (recs_length s t c)

  pub insertion_below : r < 1 → 5 ≡ number
  insertion_below h = sym (number_is ∙ rw (lt-leb 1 r h))

  pub insertion_above : 1 ≤ r → (n : ℕ) → n ≡ relations s → n < r → 5 ≡ number
  insertion_above a n e h = let w : length (schema_of s) < r = omega (arith, schema_length_lem s) in sym (number_is ∙ rw (le-leb 1 r a, lt-leb r (length (schema_of s)) w))

  module _ (a : 1 ≤ r) (b : r ≤ relations s) where
    pub insertion_bad : (v : Bool) → v ≡ values_rule (kinds_of s r) vs → v ≡ false → 7 ≡ number
    insertion_bad v e h =
        let d : r ≤ length (schema_of s) = omega (arith, schema_length_lem s) in
        let w : values_rule (relation_numbered (schema_of s) r).kinds vs ≡ false = rw (kinds_numbered a b) (sym e ∙ h) in
        sym (number_is ∙ rw (le-leb 1 r a, le-leb r (length (schema_of s)) d, w))

    module _ (w : values_rule (kinds_of s r) vs ≡ true) where
      number_r : number ≡ cond (not shows) 8 (cond conflicted 9 (lowest (later s t r vs)))
      number_r =
          let d : r ≤ length (schema_of s) = omega (arith, schema_length_lem s) in
          let v : values_rule (relation_numbered (schema_of s) r).kinds vs ≡ true = rw (kinds_numbered a b) w in
          number_is ∙ rw (le-leb 1 r a, le-leb r (length (schema_of s)) d, v, targets_new a b w is_reference, ← later_is)

      module _ (g : Bool) (eg : g ≡ shows) where
        pub insertion_target : g ≡ false → 8 ≡ number
        insertion_target h = let k : shows ≡ false = sym eg ∙ h in sym (number_r ∙ rw k)

        module _ (h : g ≡ true) (d : Bool) (ed : d ≡ conflicted) where
          pub insertion_taken : d ≡ true → 9 ≡ number
          insertion_taken q = let k : shows ≡ true = sym eg ∙ h in let m : conflicted ≡ true = sym ed ∙ q in sym (number_r ∙ rw (k, m))

          pub insertion_later : d ≡ false → number ≡ lowest (later s t r vs)
          insertion_later q = let k : shows ≡ true = sym eg ∙ h in let m : conflicted ≡ false = sym ed ∙ q in number_r ∙ rw (k, m)

  -- an accepted insertion
  pub clock_left : number ≡ 0 → clock_at t < largest_counter
  unfolding insertion_of insertion all_of decode
  clock_left z =
      let p = passed _ refl z in
      let n : clock_at t ≡ largest_counter → ⊥ = eqb-false (clock_at t) largest_counter p.1.1.1.1.1.0 in
      omega (arith, leb-true (clock_at t) largest_counter fm.clock)

-- What number 0 says of an insertion into a judged table.
pub record Accepted (s t : List ℕ) (r : ℕ) (vs : List ℕ) : Type 0 where
  pub least : 1 ≤ r
  pub most : r ≤ relations s
  pub known : r ≤ most_relations
  pub rule : values_rule (kinds_of s r) vs ≡ true
  pub count : length vs ≡ field_count s r
  pub few : length vs ≤ fields
  pub clock : clock_at t < largest_counter
  pub room : used_at t < capacity_of t
  pub targets_are : targets (schema_of s) is_reference (new_record fields (decode t) r vs) ≡ leads is_reference (kinds_of s r) (bare vs)
  pub free : spent (held t) (odd (held t) (leads is_reference (kinds_of s r) (bare vs))) ≡ false
  pub changed_are : (insertion_of s t r vs).changed ≡ new_record fields (decode t) r vs ∷ redoing fields (held t) (odd (held t) (leads is_reference (kinds_of s r) (bare vs)))

changed_is : (s t : List ℕ) (r : ℕ) (vs : List ℕ) → (insertion_of s t r vs).changed ≡ new_record fields (decode t) r vs ∷ redoing fields (held t) (odd (held t) (targets (schema_of s) is_reference (new_record fields (decode t) r vs)))
unfolding insertion_of insertion
changed_is s t r vs = refl

room_left : (s t : List ℕ) → Checked s t → (length (decode t).records ≡ (decode t).capacity → ⊥) → used_at t < capacity_of t
unfolding decode
room_left s t c n = let m : used_at t ≡ capacity_of t → ⊥ = λ e. n (recs_length s t c ∙ e) in omega (arith, (formed s t c.formed).used)

pub accepted : (s t : List ℕ) (c : Checked s t) (r : ℕ) (vs : List ℕ) → lowest (insertion_of s t r vs).checks ≡ 0 → Accepted s t r vs
unfolding insertion_of insertion all_of
accepted s t c r vs z =
    let p = passed _ refl z in
    let rel = unnot (leb 1 r && leb r (length (schema_of s))) p.0 in
    let a : 1 ≤ r = leb-true 1 r (and_left (leb 1 r) _ rel) in
    let d : r ≤ length (schema_of s) = leb-true r (length (schema_of s)) (and_right (leb 1 r) _ rel) in
    let b : r ≤ relations s = omega (arith, schema_length_lem s) in
    let w : values_rule (kinds_of s r) vs ≡ true = rw (kinds_numbered s t c r vs a b) at (unnot (values_rule (relation_numbered (schema_of s) r).kinds vs) p.1.0) in
    let l = clock_left s t c r vs z in
    let n = values_fit s r vs w in
    let k = targets_new s t c r vs a b w is_reference in
    let full : length (decode t).records ≡ (decode t).capacity → ⊥ = eqb-false _ _ p.1.1.1.1.0 in
    record {
      least = a;
      most = b;
      known = omega (arith, (schema_sound s c.schema).most);
      rule = w;
      count = n;
      few = omega (arith, (schema_sound s c.schema).counts r a b);
      clock = l;
      room = room_left s t c full;
      targets_are = k;
      free = rw k at p.1.1.1.1.1.1.0;
      changed_are = changed_is s t r vs ∙ ap (λ (ks : List ℕ). new_record fields (decode t) r vs ∷ redoing fields (held t) (odd (held t) ks)) k;
    }
