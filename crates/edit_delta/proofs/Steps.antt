-- The walk of a draft: what one record, the end of a relation's chain, and a new record do to the words of the delta.
-- Assumes nothing.
use Prim.Native.Nat.{ℕ, zero, suc, ◌+◌, ◌-◌, ◌/◌, ◌≤◌, ◌<◌, max}
use mathlib.Core.Path.{◌≡◌, refl, sym, ◌∙◌, ap}
use mathlib.Core.Bool.{Bool, true, false, cond, ◌||◌}
use mathlib.Core.List.{List, [], ◌∷◌, ◌++◌}
use mathlib.Core.Option.{Option, none, some}
use mathlib.Core.Logic.{◌⊎◌, inl, inr, ◌≢◌}
use native.Mathlib.Omega.{arith}
use lib.Dec.{eqb, ltb, leb}
use lib.ListN.{length, replicate, length-append}
use borrow.Author.Tests.{eqb-true, eqb-false, eq-eqb, ne_eqb, leb-true}
use Rattle.crdt.specs.Labels.{largest_counter, largest_replica, is_replica, label_of}
use Rattle.crdt.specs.Flags.{largest_flag, redone}
use Rattle.crdt.specs.Cells.{Reg, no_reg, join_reg, join_regs, Cell, join_cell, join_opt}
use Rattle.crdt.proofs.Tests.{test, clash, and_left, and_right}
use Rattle.model.specs.Layout.{fields, most_relations, delta_records, clock_at, used_at, replica_at, first_at, next_at, relation_at, label_at, flag_at}
use Rattle.model.specs.Records.{Rec, place, relation, label_span, has, own, at, Rising}
use Rattle.model.specs.Tables.{Table, record_of, decode, encode, follower}
use Rattle.model.specs.Edits.{flag_only, new_label}
use Rattle.laws.proofs.Join.{opt_none, own_self, own_other, nothing}
use Rattle.laws.proofs.Lists.{◌∈◌, only_in, only_length}
use Rattle.laws.proofs.Members.{at_member, rising_distinct}
use Rattle.laws.proofs.Order.{has_at, is_some}
use Rattle.laws.proofs.Valid.{true_distinct}
use Rattle.laws.proofs.Shown.{in_has}
use Rattle.laws.proofs.Drafts.{redone_flag}
use Rattle.laws.proofs.Fields.{label_within_lem}
use Rattle.wellformed.proofs.Follow.{Follows, Last, follows}
use Rattle.edit_delta.specs.Picked.{draft_of}
use Rattle.edit_record.specs.Record.{marked, appended, stepped}
use Rattle.edit_delta.specs.Drafting.{Source, Edited, key_of, wanted, drafted, end_of}
use Rattle.merge_laws.specs.Absorb.{with_records, SoundRecord, SoundTable}
use Rattle.edit_delta.proofs.Behind.{fresh_key, fresh_flag, fresh_wide}
use Rattle.edit_delta.proofs.Below.{under, under_rising, under_has, under_none, under_gap, under_all, under_next}
use Rattle.edit_delta.proofs.Wanted.{nth_in, recs_length, recs_at, recs_has, recs_index, key_of_lem, same_index, own_redone, draft_rising, draft_at, draft_few, draft_new, draft_has}
use Rattle.edit_delta.proofs.Last.{append_words}

-- a flag joined into flag 0, with no registers
pub none_joined : (n : ℕ) → join_regs (replicate n no_reg) (replicate n no_reg) ≡ replicate n no_reg
unfolding join_regs
none_joined zero = refl
none_joined (suc n) = rw (none_joined n) (ap (λ (g : Reg). g ∷ replicate n no_reg) (unfold join_reg Rattle.crdt.specs.Cells.up_to in refl))

pub flags_joined : (k f : ℕ) → join_cell (flag_only fields k 0).cell (flag_only fields k f).cell ≡ (flag_only fields k f).cell
unfolding flag_only join_cell
flags_joined k f = let e : max 0 f ≡ f = omega arith in let h = none_joined fields in λ i. record { flag = e i; regs = h i }

-- the label of a new record
pub label_new : (t : List ℕ) → clock_at t < largest_counter → is_replica (replica_at t) ≡ true → new_label (decode t) ≡ label_of (clock_at t + 1) (replica_at t)
unfolding new_label decode
label_new t h g = label_within_lem (clock_at t + 1) (replica_at t) (omega arith) (omega arith) g

pub replica_bounds : (r : ℕ) → is_replica r ≡ true → (1 ≤ r) × (r ≤ largest_replica)
replica_bounds r h = (leb-true 1 r (and_left (leb 1 r) (leb r largest_replica) h), leb-true r largest_replica (and_right (leb 1 r) (leb r largest_replica) h))

pub key_held : (t : List ℕ) (e n : ℕ) → 1 ≤ e → key_of t e n ≡ (record_of t e).key
unfolding key_of
key_held t e n h = let z : e ≡ 0 → ⊥ = omega arith in rw (ne_eqb e 0 z)

pub key_new : (t : List ℕ) (n : ℕ) → key_of t 0 n ≡ place n (new_label (decode t))
unfolding key_of
key_new t n = refl

-- The edited record is one of the table.
pub record HeldKey (t : List ℕ) (e n : ℕ) : Type 0 where
  pub least : 1 ≤ e
  pub most : e ≤ used_at t
  pub is : key_of t e n ≡ (record_of t e).key
  pub has : has (decode t).records (key_of t e n) ≡ true
  pub named : n ≡ 0

-- It is a new one: its key lies above the end of its relation's chain, and within the relation.
pub record NewKey (t : List ℕ) (e n : ℕ) : Type 0 where
  pub least : 1 ≤ n
  pub most : n ≤ most_relations
  pub clock : clock_at t < largest_counter
  pub above : end_of t n < key_of t e n
  pub below : key_of t e n < place (n + 1) 0
  pub is : key_of t e n ≡ place n (new_label (decode t))
  pub label : new_label (decode t) < label_span
  pub one : 1 ≤ new_label (decode t)
  pub index : e ≡ 0

-- Where the walk of relation r stands: at a record of it, by its key, or at the end of the chain.
unfoldable pub cursor : List ℕ → ℕ → ℕ → ℕ
cursor t r i = cond (eqb i 0) (end_of t r) (record_of t i).key

pub cursor_at : (t : List ℕ) (r i : ℕ) → 1 ≤ i → cursor t r i ≡ (record_of t i).key
unfolding cursor
cursor_at t r i h = let z : i ≡ 0 → ⊥ = omega arith in rw (ne_eqb i 0 z)

pub cursor_end : (t : List ℕ) (r i : ℕ) → i ≡ 0 → cursor t r i ≡ end_of t r
unfolding cursor
cursor_end t r i h = rw (eq-eqb i 0 h)

pub record Stands (t : List ℕ) (r i : ℕ) : Type 0 where
  pub within : i ≤ used_at t
  pub related : 1 ≤ i → relation_at t i ≡ r

module _ (t m : List ℕ) (src : Source t m) where
  pub kind : (e n : ℕ) → Edited t e n → HeldKey t e n ⊎ NewKey t e n
  kind e n ed = go (test (eqb e 0))
    where
      go : (eqb e 0 ≡ true) ⊎ (eqb e 0 ≡ false) → HeldKey t e n ⊎ NewKey t e n
      go (inl h) =
          let z : e ≡ 0 = eqb-true e 0 h in
          let w = ed.new z in
          let r = replica_bounds (replica_at t) src.replica in
          let q = label_new t w.2 src.replica in
          let y : key_of t e n ≡ place n (new_label (decode t)) = rw z (key_new t n) in
          inr (record { least = w.0; most = w.1; clock = w.2; above = omega arith; below = omega arith; is = y; label = omega arith; one = omega arith; index = z })
      go (inr h) =
          let z : e ≢ 0 = eqb-false e 0 h in
          let a : 1 ≤ e = omega arith in
          let w = ed.existing a in
          inl (record { least = a; most = w.0; is = key_held t e n a; has = rw (key_held t e n a) (recs_has t e a w.0); named = w.1 })

  -- an own record's key lies in its relation, below the end of the chain
  pub record OwnKey (k : ℕ) : Type 0 where
    pub index : ℕ
    pub least : 1 ≤ index
    pub most : index ≤ used_at t
    pub keyed : (record_of t index).key ≡ k
    pub placed : k ≡ place (relation_at t index) (label_at t index)
    pub first : 1 ≤ relation_at t index
    pub last : relation_at t index ≤ most_relations
    pub above : 1 ≤ label_at t index
    pub below : label_at t index < label_of (clock_at t + 1) 0
    pub span : label_at t index < label_span

  pub own_key : (k : ℕ) → has (decode t).records k ≡ true → OwnKey k
  own_key k h =
      let q = recs_index t k h in
      let b = src.below q.0 q.1 q.2 in
      record {
        index = q.0;
        least = q.1;
        most = q.2;
        keyed = q.3;
        placed = sym q.3 ∙ key_of_lem t q.0;
        first = src.least q.0 q.1 q.2;
        last = src.most q.0 q.1 q.2;
        above = src.above q.0 q.1 q.2;
        below = b;
        span = omega (arith, b, src.clock);
      }

  -- no own key is a new one
  pub own_not_new : (e n : ℕ) → NewKey t e n → has (decode t).records (key_of t e n) ≡ false
  own_not_new e n w = go (test (has (decode t).records (key_of t e n)))
    where
      go : (has (decode t).records (key_of t e n) ≡ true) ⊎ (has (decode t).records (key_of t e n) ≡ false) → has (decode t).records (key_of t e n) ≡ false
      go (inl h) =
          let o = own_key (key_of t e n) h in
          absurd (omega (arith, o.placed, o.below, o.span, w.is, w.label, label_new t w.clock src.replica))
      go (inr h) = h

  pub no_zero_key : has (decode t).records 0 ≡ false
  no_zero_key = go (test (has (decode t).records 0))
    where
      go : (has (decode t).records 0 ≡ true) ⊎ (has (decode t).records 0 ≡ false) → has (decode t).records 0 ≡ false
      go (inl h) = let o = own_key 0 h in absurd (omega (arith, o.placed, o.first))
      go (inr h) = h

  module _ (e n : ℕ) (ed : Edited t e n) where
    abbrev K : ℕ
    K = key_of t e n

    abbrev F : List Rec
    F = wanted t (key_of t e n) m

    pub wanted_rising : Rising 0 (wanted t (key_of t e n) m)
    unfolding wanted
    wanted_rising = draft_rising t m src (clock_at t) (flag_only fields K 0)

    pub wanted_few : length (wanted t (key_of t e n) m) ≤ delta_records
    unfolding wanted
    wanted_few = draft_few t m src (clock_at t) (flag_only fields K 0)

    pub wanted_has : (k : ℕ) → has (wanted t (key_of t e n) m) k ≡ true → (has (decode t).records k ≡ true) ⊎ (k ≡ key_of t e n)
    unfolding wanted
    wanted_has k h = to (draft_has t m src (clock_at t) (flag_only fields K 0) k h)
      where
        to : (has (decode t).records k ≡ true) ⊎ (k ≡ (flag_only fields K 0).key) → (has (decode t).records k ≡ true) ⊎ (k ≡ key_of t e n)
        to (inl p) = inl p
        to (inr p) = inr (p ∙ fresh_key K 0)

    pub wanted_new : NewKey t e n → at (key_of t e n) (wanted t (key_of t e n) m) ≡ some (flag_only fields (key_of t e n) 0).cell
    unfolding wanted flag_only
    wanted_new w = draft_new t m src (clock_at t) (flag_only fields K 0) (own_not_new e n w)

    -- the edited record, by index and by key
    index_key : (i : ℕ) → 1 ≤ i → i ≤ used_at t → eqb (record_of t i).key (key_of t e n) ≡ eqb i e
    index_key i a b = go (kind e n ed) (test (eqb i e))
      where
        go : HeldKey t e n ⊎ NewKey t e n → (eqb i e ≡ true) ⊎ (eqb i e ≡ false) → eqb (record_of t i).key (key_of t e n) ≡ eqb i e
        go (inl w) (inl p) = let q : i ≡ e = eqb-true i e p in rw (p, w.is) (eq-eqb _ _ (ap (λ (j : ℕ). (record_of t j).key) q))
        go (inl w) (inr p) = rw (p, w.is) (ne_eqb _ _ (λ z. eqb-false i e p (same_index t m src i e a b w.least w.most z)))
        go (inr w) p =
            let d : (record_of t i).key ≢ key_of t e n = λ z. clash (rw z at (recs_has t i a b)) (own_not_new e n w) in
            let d' : i ≢ e = omega (arith, w.index) in
            ne_eqb _ _ d ∙ sym (ne_eqb i e d')

    -- what is held of record i
    pub wanted_own : (i : ℕ) → 1 ≤ i → i ≤ used_at t
        → at (record_of t i).key (wanted t (key_of t e n) m) ≡ cond (marked m i || eqb i e) (some (flag_only fields (record_of t i).key (cond (marked m i) (redone (flag_at t i)) 0)).cell) none
    unfolding wanted
    wanted_own i a b = draft_at t m src (clock_at t) (flag_only fields K 0) (record_of t i).key ∙ rw (own_redone t m src i a b) (go (test (eqb i e)) (marked m i))
      where
        k : ℕ
        k = (record_of t i).key

        same_cell : eqb i e ≡ true → own (record_of t i).key (flag_only fields (key_of t e n) 0) ≡ some (flag_only fields (record_of t i).key 0).cell
        same_cell p = let z : (record_of t i).key ≡ key_of t e n = eqb-true _ _ (index_key i a b ∙ p) in rw z (unfold flag_only in own_self (flag_only fields K 0))

        none_cell : eqb i e ≡ false → own (record_of t i).key (flag_only fields (key_of t e n) 0) ≡ none
        none_cell p = own_other _ (flag_only fields K 0) (λ z. eqb-false _ _ (index_key i a b ∙ p) (z ∙ fresh_key K 0))

        go : (eqb i e ≡ true) ⊎ (eqb i e ≡ false) → (c : Bool) → join_opt (own (record_of t i).key (flag_only fields (key_of t e n) 0)) (cond c (some (flag_only fields (record_of t i).key (redone (flag_at t i))).cell) none)
            ≡ cond (c || eqb i e) (some (flag_only fields (record_of t i).key (cond c (redone (flag_at t i)) 0)).cell) none
        go (inl p) true = rw (same_cell p) (unfold join_opt in ap some (flags_joined (record_of t i).key (redone (flag_at t i))))
        go (inl p) false = rw (same_cell p, p) (opt_none _)
        go (inr p) true = rw (none_cell p) (unfold join_opt in refl)
        go (inr p) false = rw (none_cell p, p) (opt_none none)

    -- all of them are sound
    sound_flag : (k f r l : ℕ) → k ≡ place r l → 1 ≤ r → r ≤ most_relations → 1 ≤ l → l < label_span → f ≤ largest_flag → (x : Rec) → x.key ≡ k → x.cell ≡ (flag_only fields k f).cell → SoundRecord x
    sound_flag k f r l z a b c d g x p q =
        record {
          least = omega arith;
          most = omega arith;
          labelled = omega arith;
          flagged = rw (q, fresh_flag k f) g;
          wide = rw q (fresh_wide k f);
        }

    pub flag_of_lem : (i : ℕ) → 1 ≤ i → i ≤ used_at t → (c : Bool) → cond c (redone (flag_at t i)) 0 ≤ largest_flag
    flag_of_lem i a b true = redone_flag (flag_at t i) (src.flagged i a b)
    flag_of_lem i a b false = omega arith

    wanted_sound : (x : Rec) → x ∈ wanted t (key_of t e n) m → SoundRecord x
    wanted_sound x h = go (wanted_has x.key (in_has F x x.key h refl)) (at_member F x (rising_distinct 0 F wanted_rising) h)
      where
        some_is : (p q : Cell) → ◌≡◌ {A = Option Cell} (some p) (some q) → p ≡ q
        some_is p q z = cc

        own_of : (i : ℕ) → 1 ≤ i → i ≤ used_at t → (record_of t i).key ≡ x.key → (b : Bool) → cond b (some (flag_only fields (record_of t i).key (cond (marked m i) (redone (flag_at t i)) 0)).cell) none ≡ some x.cell → SoundRecord x
        own_of i a b z true y =
            let o = src.below i a b in
            sound_flag (record_of t i).key (cond (marked m i) (redone (flag_at t i)) 0) (relation_at t i) (label_at t i) (key_of_lem t i) (src.least i a b) (src.most i a b) (src.above i a b) (omega (arith, src.clock)) (flag_of_lem i a b (marked m i)) x (sym z) (sym (some_is _ _ y))
        own_of i a b z false y = nothing x.cell y

        go : (has (decode t).records x.key ≡ true) ⊎ (x.key ≡ key_of t e n) → at x.key (wanted t (key_of t e n) m) ≡ some x.cell → SoundRecord x
        go (inl p) y =
            let o = own_key x.key p in
            own_of o.index o.least o.most o.keyed (marked m o.index || eqb o.index e) (sym (wanted_own o.index o.least o.most) ∙ rw o.keyed y)
        go (inr p) y = other (kind e n ed)
          where
            other : HeldKey t e n ⊎ NewKey t e n → SoundRecord x
            other (inl w) =
                let o = own_key (key_of t e n) w.has in
                own_of o.index o.least o.most (o.keyed ∙ sym p) (marked m o.index || eqb o.index e) (sym (wanted_own o.index o.least o.most) ∙ rw o.keyed (rw p at y))
            other (inr w) =
                sound_flag (key_of t e n) 0 n (new_label (decode t)) w.is w.least w.most w.one w.label (omega arith) x p (sym (some_is _ _ (sym (wanted_new w) ∙ rw p at y)))

    pub drafted_sound : (b : ℕ) → SoundTable (drafted t (key_of t e n) m b)
    unfolding drafted
    drafted_sound b =
        record {
          room = omega (arith, few, wanted_few);
          most = omega arith;
          sound = λ i a c. wanted_sound _ (only_in (λ (x : Rec). ltb x.key b) _ F (nth_in (under b F) (i - 1) (omega arith))).0;
          single = true_distinct (under b F) (rising_distinct 0 (under b F) (under_rising b 0 F wanted_rising));
        }
      where
        few : length (under b F) ≤ length F
        few = only_length (λ (x : Rec). ltb x.key b) F

    pub drafted_rising : (b : ℕ) → Rising 0 (drafted t (key_of t e n) m b).records
    unfolding drafted
    drafted_rising b = under_rising b 0 F wanted_rising

    -- nothing from a key on to another
    pub drafted_gap : (a b : ℕ) → a ≤ b → ((j : ℕ) → a ≤ j → j < b → has (wanted t (key_of t e n) m) j ≡ true → ⊥) → drafted t (key_of t e n) m a ≡ drafted t (key_of t e n) m b
    unfolding drafted
    drafted_gap a b l h = let z = sym (under_gap a b F l h) in λ i. record { capacity = delta_records; replica = replica_at t; clock = clock_at t; records = z i }

    -- a record appended
    module _ (k f : ℕ) (h : at k (wanted t (key_of t e n) m) ≡ some (flag_only fields k f).cell) where
      next_under : under (suc k) (wanted t (key_of t e n) m) ≡ under k (wanted t (key_of t e n) m) ++ (flag_only fields k f ∷ [])
      unfolding flag_only
      next_under = under_next 0 k F (flag_only fields k f).cell wanted_rising h

      next_drafted : with_records (drafted t (key_of t e n) m k) ((drafted t (key_of t e n) m k).records ++ (flag_only fields k f ∷ [])) ≡ drafted t (key_of t e n) m (suc k)
      unfolding drafted
      next_drafted = let z = sym next_under in λ i. record { capacity = delta_records; replica = replica_at t; clock = clock_at t; records = z i }

      next_room : length (drafted t (key_of t e n) m k).records < (drafted t (key_of t e n) m k).capacity
      unfolding drafted
      next_room = omega (arith, ap length next_under, length-append (under k F) (flag_only fields k f ∷ []), only_length (λ (x : Rec). ltb x.key (suc k)) F, wanted_few)

      next_top : (j : ℕ) → has (drafted t (key_of t e n) m k).records j ≡ true → j < k
      unfolding drafted
      next_top j y = (under_has k F j y).1

    pub drafted_append : (r l f : ℕ) → 1 ≤ r → r ≤ most_relations → 1 ≤ l → l < label_span → f ≤ largest_flag
        → at (place r l) (wanted t (key_of t e n) m) ≡ some (flag_only fields (place r l) f).cell
        → appended (encode (drafted t (key_of t e n) m (place r l))) r l f ≡ encode (drafted t (key_of t e n) m (suc (place r l)))
    drafted_append r l f a b c d g h =
        append_words (drafted t (key_of t e n) m (place r l)) (drafted_sound (place r l)) (drafted_rising (place r l)) r l f a b c d g (next_top (place r l) f h) (next_room (place r l) f h)
        ∙ ap encode (next_drafted (place r l) f h)

    -- record i of the table
    module _ (i : ℕ) (a : 1 ≤ i) (b : i ≤ used_at t) where
      step_yes : (marked m i || eqb i e) ≡ true
          → appended (encode (drafted t (key_of t e n) m (record_of t i).key)) (relation_at t i) (label_at t i) (cond (marked m i) (redone (flag_at t i)) 0) ≡ encode (drafted t (key_of t e n) m (suc (record_of t i).key))
      step_yes p =
          let z = key_of_lem t i in
          let w = src.below i a b in
          let y : at (record_of t i).key (wanted t (key_of t e n) m) ≡ some (flag_only fields (record_of t i).key (cond (marked m i) (redone (flag_at t i)) 0)).cell = wanted_own i a b ∙ rw p in
          rw z (drafted_append (relation_at t i) (label_at t i) _ (src.least i a b) (src.most i a b) (src.above i a b) (omega (arith, src.clock)) (flag_of_lem i a b (marked m i)) (rw z at y))

      step_no : (marked m i || eqb i e) ≡ false → drafted t (key_of t e n) m (record_of t i).key ≡ drafted t (key_of t e n) m (suc (record_of t i).key)
      step_no p =
          drafted_gap (record_of t i).key (suc (record_of t i).key) (omega arith)
          (λ j x y h. let z : j ≡ (record_of t i).key = omega arith in
          absurd (clash (rw z at h) (has_at F (record_of t i).key ∙ rw (wanted_own i a b, p) (unfold is_some in refl))))

      pub step_words : stepped t m e (encode (drafted t (key_of t e n) m (record_of t i).key)) i ≡ encode (drafted t (key_of t e n) m (suc (record_of t i).key))
      unfolding stepped
      step_words = go (test (marked m i || eqb i e))
        where
          go : ((marked m i || eqb i e) ≡ true) ⊎ ((marked m i || eqb i e) ≡ false)
              → cond (marked m i || eqb i e) (appended (encode (drafted t (key_of t e n) m (record_of t i).key)) (relation_at t i) (label_at t i) (cond (marked m i) (redone (flag_at t i)) 0)) (encode (drafted t (key_of t e n) m (record_of t i).key))
              ≡ encode (drafted t (key_of t e n) m (suc (record_of t i).key))
          go (inl p) = rw p (step_yes p)
          go (inr p) = rw p (ap encode (step_no p))

    -- from key b on, the next record of the chain, or its end
    chain_gap : (r k b : ℕ) → 1 ≤ r → r ≤ most_relations → place r 0 ≤ b → b ≤ end_of t r → ((j : ℕ) → b ≤ j → k < j) → ((j : ℕ) → k < j → j / label_span ≡ r → b ≤ j)
        → Stands t r (follower (decode t).records r k) × (b ≤ cursor t r (follower (decode t).records r k)) × (drafted t (key_of t e n) m b ≡ drafted t (key_of t e n) m (cursor t r (follower (decode t).records r k)))
    chain_gap r k b a₁ a₂ low top from-b to-b = go (follows (decode t).records r k no_zero_key)
      where
        -- a key below the end of relation r and not below b: no new one
        free : (c : ℕ) → c ≤ end_of t r → ((j : ℕ) → b ≤ j → j < c → has (decode t).records j ≡ true → j / label_span ≡ r → ⊥) → (j : ℕ) → b ≤ j → j < c → has (wanted t (key_of t e n) m) j ≡ true → ⊥
        free c l f j x y h = is (wanted_has j h) (kind e n ed)
          where
            inside : j / label_span ≡ r
            inside = omega (arith, src.clock)

            is : (has (decode t).records j ≡ true) ⊎ (j ≡ key_of t e n) → HeldKey t e n ⊎ NewKey t e n → ⊥
            is (inl p) q = f j x y p inside
            is (inr p) (inl q) = f j x y (rw p q.has) inside
            is (inr p) (inr q) =
                let z : n ≡ r = omega (arith, q.above, q.below, q.is, q.label, inside) in
                omega (arith, q.above)

        go : Follows (decode t).records r k (follower (decode t).records r k) ⊎ Last (decode t).records r k (follower (decode t).records r k)
            → Stands t r (follower (decode t).records r k) × (b ≤ cursor t r (follower (decode t).records r k)) × (drafted t (key_of t e n) m b ≡ drafted t (key_of t e n) m (cursor t r (follower (decode t).records r k)))
        go (inl f) =
            let p = follower (decode t).records r k in
            let w : p ≤ used_at t = omega (arith, f.within, recs_length t) in
            let z = recs_at t p f.here w in
            let o = own_key (record_of t p).key (recs_has t p f.here w) in
            let above : k < (record_of t p).key = rw z at f.above in
            let rel : relation (record_of t p) ≡ r = rw z at f.related in
            let l = to-b (record_of t p).key above rel in
            let y : (record_of t p).key ≤ end_of t r = omega (arith, o.placed, o.below, o.span, rel) in (
              record { within = w; related = λ q. sym (src.related p f.here w) ∙ rel },
              rw (cursor_at t r p f.here) l,
              rw (cursor_at t r p f.here) (drafted_gap b (record_of t p).key l (free (record_of t p).key y (λ j x u h q. omega (arith, rw z at (f.least j h q (from-b j x)))))),
            )
        go (inr f) =
            let p = follower (decode t).records r k in (
              record { within = omega (arith, f.none); related = λ q. absurd (omega (arith, f.none)) },
              rw (cursor_end t r p f.none) top,
              rw (cursor_end t r p f.none) (drafted_gap b (end_of t r) top (free (end_of t r) (omega arith) (λ j x u h q. omega (arith, f.least j h q, from-b j x)))),
            )

    -- the chain of relation r: its first record, and the one after record i
    module _ (r : ℕ) (a : 1 ≤ r) (b : r ≤ most_relations) where
      pub first_words_lem : Stands t r (first_at t r) × (drafted t (key_of t e n) m (place r 0) ≡ drafted t (key_of t e n) m (cursor t r (first_at t r)))
      first_words_lem =
          let g = chain_gap r 0 (place r 0) a b (omega arith) (omega arith) (λ j h. omega arith) (λ j h q. omega arith) in
          rw (src.first r a b) (g.0, g.2)

      top : (i : ℕ) → Stands t r i → cursor t r i ≤ end_of t r
      top i w = go (test (eqb i 0))
        where
          go : (eqb i 0 ≡ true) ⊎ (eqb i 0 ≡ false) → cursor t r i ≤ end_of t r
          go (inl p) = rw (cursor_end t r i (eqb-true i 0 p)) (omega arith)
          go (inr p) =
              let c : i ≢ 0 = eqb-false i 0 p in
              let d : 1 ≤ i = omega arith in
              rw (cursor_at t r i d) (omega (arith, key_of_lem t i, w.related d, src.below i d w.within))

      pub next_words : (i : ℕ) → 1 ≤ i → Stands t r i
          → Stands t r (next_at t i) × ((record_of t i).key < cursor t r (next_at t i)) × (cursor t r (next_at t i) ≤ end_of t r)
          × (drafted t (key_of t e n) m (suc (record_of t i).key) ≡ drafted t (key_of t e n) m (cursor t r (next_at t i)))
      next_words i c w =
          let z = src.related i c w.within ∙ w.related c in
          let y = key_of_lem t i in
          let x = src.below i c w.within in
          let u = w.related c in
          let g = chain_gap r (record_of t i).key (suc (record_of t i).key) a b (omega arith) (omega arith) (λ j h. omega arith) (λ j h q. omega arith) in
          let q : next_at t i ≡ follower (decode t).records r (record_of t i).key = src.next i c w.within ∙ ap (λ (k : ℕ). follower (decode t).records k (record_of t i).key) z in
          rw q (g.0, g.1, top _ g.0, g.2)

      -- the end of the chain, and the end of the relation, where no new record is to come
      pub relation_words : r ≢ n → drafted t (key_of t e n) m (end_of t r) ≡ drafted t (key_of t e n) m (place (r + 1) 0)
      relation_words d = drafted_gap (end_of t r) (place (r + 1) 0) (omega (arith, src.clock)) (λ j x y h. is j x y (wanted_has j h) (kind e n ed))
        where
          own : (j : ℕ) → end_of t r ≤ j → j < place (r + 1) 0 → has (decode t).records j ≡ true → ⊥
          own j x y h = let o = own_key j h in omega (arith, o.placed, o.below, o.span)

          is : (j : ℕ) → end_of t r ≤ j → j < place (r + 1) 0 → (has (decode t).records j ≡ true) ⊎ (j ≡ key_of t e n) → HeldKey t e n ⊎ NewKey t e n → ⊥
          is j x y (inl p) q = own j x y p
          is j x y (inr p) (inl q) = own j x y (rw p q.has)
          is j x y (inr p) (inr q) = omega (arith, d, q.is, q.label)

      -- where a new record comes
      pub new_words : r ≡ n → appended (encode (drafted t (key_of t e n) m (end_of t r))) r (new_label (decode t)) 0 ≡ encode (drafted t (key_of t e n) m (place (r + 1) 0))
      new_words z = go (kind e n ed)
        where
          go : HeldKey t e n ⊎ NewKey t e n → appended (encode (drafted t (key_of t e n) m (end_of t r))) r (new_label (decode t)) 0 ≡ encode (drafted t (key_of t e n) m (place (r + 1) 0))
          go (inl w) = absurd (omega (arith, w.named))
          go (inr w) =
              let l = new_label (decode t) in
              let k : key_of t e n ≡ place r (new_label (decode t)) = w.is ∙ rw z in
              let c : drafted t (key_of t e n) m (end_of t r) ≡ drafted t (key_of t e n) m (place r l) = drafted_gap (end_of t r) (place r l) (omega (arith, label_new t w.clock src.replica)) (λ j x y h. before j x y (wanted_has j h)) in
              let d : drafted t (key_of t e n) m (suc (place r l)) ≡ drafted t (key_of t e n) m (place (r + 1) 0) = drafted_gap (suc (place r l)) (place (r + 1) 0) (omega (arith, w.label)) (λ j x y h. after j x y (wanted_has j h)) in
              ap (λ (v : Table). appended (encode v) r l 0) c ∙ drafted_append r l 0 a b w.one w.label (omega arith) (rw (← k) (wanted_new w)) ∙ ap encode d
            where
              before : (j : ℕ) → end_of t r ≤ j → j < place r (new_label (decode t)) → (has (decode t).records j ≡ true) ⊎ (j ≡ key_of t e n) → ⊥
              before j x y (inl p) = let o = own_key j p in omega (arith, o.placed, o.below, o.span, w.label)
              before j x y (inr p) = omega (arith, p, w.is, z)

              after : (j : ℕ) → suc (place r (new_label (decode t))) ≤ j → j < place (r + 1) 0 → (has (decode t).records j ≡ true) ⊎ (j ≡ key_of t e n) → ⊥
              after j x y (inl p) = let o = own_key j p in omega (arith, o.placed, o.below, o.span, label_new t w.clock src.replica)
              after j x y (inr p) = omega (arith, p, w.is, z)

    -- the walk begins with no records, and ends with all
    low_key : (k : ℕ) → has (wanted t (key_of t e n) m) k ≡ true → (place 1 0 ≤ k) × (k < place (most_relations + 1) 0)
    low_key k h = go (wanted_has k h) (kind e n ed)
      where
        own : (j : ℕ) → has (decode t).records j ≡ true → (place 1 0 ≤ j) × (j < place (most_relations + 1) 0)
        own j p = let o = own_key j p in (omega (arith, o.placed, o.first), omega (arith, o.placed, o.last, o.span))

        go : (has (decode t).records k ≡ true) ⊎ (k ≡ key_of t e n) → HeldKey t e n ⊎ NewKey t e n → (place 1 0 ≤ k) × (k < place (most_relations + 1) 0)
        go (inl p) q = own k p
        go (inr p) (inl q) = own k (rw p q.has)
        go (inr p) (inr q) = (omega (arith, p, q.is, q.least), omega (arith, p, q.is, q.most, q.label))

    pub begin_drafted : record { capacity = delta_records; replica = replica_at t; clock = clock_at t; records = [] } ≡ drafted t (key_of t e n) m (place 1 0)
    unfolding drafted
    begin_drafted =
        let z = sym (under_gap 0 (place 1 0) F (omega arith) (λ j x y h. omega (arith, (low_key j h).0)) ∙ under_none 0 0 F (omega arith) wanted_rising) in
        λ i. record { capacity = delta_records; replica = replica_at t; clock = clock_at t; records = z i }

    pub end_drafted : drafted t (key_of t e n) m (place (most_relations + 1) 0) ≡ draft_of t (clock_at t) (flag_only fields (key_of t e n) 0) m
    unfolding drafted wanted draft_of decode
    end_drafted =
        let z = under_all (place (most_relations + 1) 0) F (λ j h. (low_key j h).1) in
        λ i. record { capacity = delta_records; replica = replica_at t; clock = clock_at t; records = z i }
