-- An accepted update: the words of its table afterwards.
-- Assumes nothing.
use Prim.Native.Nat.{ℕ, ◌+◌, ◌-◌, ◌≤◌, ◌<◌}
use mathlib.Core.Path.{◌≡◌, refl, sym, ◌∙◌, ap}
use mathlib.Core.Bool.{Bool, true, false, cond, not, ◌&&◌, ◌||◌}
use mathlib.Core.List.{List, [], ◌∷◌, ◌++◌}
use mathlib.Core.Logic.{◌⊎◌, inl, inr}
use mathlib.Core.Option.{none, some}
use native.Mathlib.Omega.{arith}
use lib.Dec.{eqb, leb}
use lib.ListN.{length, get_or, set, replicate, length-replicate}
use lib.Seq.{get_or-set_same, get_or-set_other}
use borrow.Author.Tests.{eqb-true, eqb-false, eq-eqb, leb-true, not-false as unnot}
use Rattle.crdt.specs.Labels.{largest_counter, counter_of}
use Rattle.crdt.specs.Cells.{Reg, reg, no_reg, join_reg}
use Rattle.crdt.proofs.Tests.{test, and_left, and_right}
use Rattle.model.specs.Layout.{fields, relations, field_count, kind_at, clock_at, used_at, relation_at, flag_at, value_at, stamp_at}
use Rattle.model.specs.Lists.{only, some_of, all_of, lowest}
use Rattle.model.specs.Schemas.{is_reference, is_abort, leads_to, schema_of}
use Rattle.model.specs.Records.{Rec, place, relation, has, own, in_order}
use Rattle.model.specs.Tables.{decode, record_of}
use Rattle.model.specs.Shown.{described, shown}
use Rattle.model.specs.Merge.{merged}
use Rattle.model.specs.Edits.{delta_of, new_label, flag_in, flag_only, odd, redoing, spent, supported, value_rule, register_at, with_register, leading, update_redoes, update}
use Rattle.model.specs.Edits as edits
use Rattle.model.specs.Calls.{bad_index, update_of, update_number, update_table, edit_number, edit_table}
use Rattle.laws.proofs.Order.{order_rising}
use Rattle.laws.proofs.Members.{order_rising_same}
use Rattle.laws.proofs.Merge.{new as fresh}
use Rattle.laws.proofs.Checks.{passed, numbered}
use Rattle.laws.proofs.Drafts.{Drafted, shown_has, has_order, update_drafted}
use Rattle.wellformed.proofs.Facts.{formed, ruled, counter_field}
use Rattle.convergence.proofs.Fields.{kinds_length, kind_is}
use Rattle.convergence.proofs.Tables.{Good, good_valid, narrow, Left, edit_good, edit_left}
use Rattle.effects.specs.Effects.{key_at, next_label, held_beside, Redone, leads_at, update_due, Updated}
use Rattle.effects.proofs.Joins.{none_at, reg_none, newer, regs_in, among}
use Rattle.effects.proofs.Words.{used_is, record_is, Reads, reads}
use Rattle.effects.proofs.Flags.{among_only, among_append}
use Rattle.effects.proofs.Positions.{merged_size, none_new, all_old}
use Rattle.effects.proofs.Changes.{clock_is, next_is, redoes, Changed, after_records, after_clock, after_replica, after_size, after_changed}
use Rattle.effects.proofs.Beside.{beside}
use Rattle.effects.proofs.Indices.{index_good, index_bounds, edit_record, other_key}

-- a change of one register alone
module _ (w q f : ℕ) (g : Reg) where
  pub one_flag : (k : ℕ) → flag_in (own k (with_register (flag_only w q 0) f g)) ≡ 0
  unfolding own with_register flag_only
  one_flag k = go (eqb k q)
    where
      go : (b : Bool) → flag_in (cond b (some (record { flag = 0; regs = set (replicate w no_reg) (f - 1) g })) none) ≡ 0
      go true = refl
      go false = refl

  pub one_other : (k j : ℕ) → (k ≡ q → j ≡ f - 1 → ⊥) → get_or (regs_in (own k (with_register (flag_only w q 0) f g))) j no_reg ≡ no_reg
  unfolding own with_register flag_only
  one_other k j h = go (test (eqb k q))
    where
      go : (eqb k q ≡ true) ⊎ (eqb k q ≡ false) → get_or (regs_in (cond (eqb k q) (some (record { flag = 0; regs = set (replicate w no_reg) (f - 1) g })) none)) j no_reg ≡ no_reg
      go (inl e) = rw e (get_or-set_other (replicate w no_reg) (f - 1) j g no_reg (h (eqb-true k q e)) ∙ none_at w j)
      go (inr e) = rw e

  pub one_own : f - 1 < w → get_or (regs_in (own q (with_register (flag_only w q 0) f g))) (f - 1) no_reg ≡ g
  unfolding own with_register flag_only
  one_own h = rw (eq-eqb q q refl) (get_or-set_same (replicate w no_reg) (f - 1) g no_reg (omega (arith, length-replicate w no_reg)))

-- the keys that an update redoes if odd
among_leading : (p : ℕ → Bool) (k v z : ℕ) → among z (leading p k v) ≡ (p k && not (eqb v 0) && eqb z (place (leads_to k) v))
unfolding leading some_of
among_leading p k v z = go (p k && not (eqb v 0)) (eqb z (place (leads_to k) v)) refl
  where
    go : (b e : Bool) → eqb z (place (leads_to k) v) ≡ e → among z (cond b (place (leads_to k) v ∷ []) []) ≡ (b && eqb z (place (leads_to k) v))
    go true true h = rw h
    go true false h = rw h
    go false e h = refl

-- with the kind and the old value of the updated field
unfoldable pub aims : (s t : List ℕ) (i new k old : ℕ) → List ℕ
aims s t i new k old =
    leading is_reference k new ++ only (λ z. not (eqb old new) && supported (schema_of s) (in_order (decode t).records) (key_at t i) z) (leading is_abort k old)

pub aim_is : (s t : List ℕ) → Good s t → (i new k old n : ℕ) → 1 ≤ i → i ≤ used_at t
    → among (key_at t n) (aims s t i new k old) ≡ (leads_at is_reference k new t n || not (eqb old new) && held_beside s t i n && leads_at is_abort k old t n)
unfolding aims leads_at
aim_is s t g i new k old n a b =
    among_append (key_at t n) (leading is_reference k new) _
    ∙ rw (among_leading is_reference k new (key_at t n), among_only, among_leading is_abort k old (key_at t n), beside s t g i n a b)

-- what the checks say
record Checked (s t : List ℕ) (i f new : ℕ) : Type 0 where
  old : has (decode t).records (key_at t i) ≡ true
  least : 1 ≤ f
  most : f ≤ fields
  within : f ≤ field_count s (relation_at t i)
  clock : clock_at t + 1 ≤ largest_counter
  free : spent (in_order (decode t).records) (odd (in_order (decode t).records) (aims s t i new (get_or (described (schema_of s) (record_of t i)).kinds (f - 1) 0) (register_at (record_of t i) f).value)) ≡ false

module _ (s t : List ℕ) (i f new : ℕ) (g : Good s t) (a : 1 ≤ i) (b : i ≤ used_at t) where
  kind : ℕ
  kind = get_or (described (schema_of s) (record_of t i)).kinds (f - 1) 0

  before : ℕ
  before = (register_at (record_of t i) f).value

  changes : (update_of s t i f new).changed ≡ with_register (flag_only fields (key_at t i) 0) f (reg new (new_label (decode t))) ∷ redoing fields (in_order (decode t).records) (odd (in_order (decode t).records) (aims s t i new kind before))
  unfolding update_of update update_redoes aims kind before
  changes = rw (edit_record s t g i a b) (unfold record_of decode in refl)

  -- the relation of the record is one of the schema
  words : Reads t i (record_of t i)
  words = rw (record_is t i a b) at (reads s t g i a b)

  related : (1 ≤ relation (record_of t i)) × (relation (record_of t i) ≤ relations s)
  related = let r = ruled s t i ((formed s t g.formed).rules i a b) in rw (← words.relation_of_lem) (r.relation_least, r.relation_most)

  checked : lowest (update_of s t i f new).checks ≡ 0 → Checked s t i f new
  unfolding update_of update update_redoes all_of
  checked h =
      let p = passed _ refl h in
      let c = in_order (decode t).records in
      let y = edits.record_at (decode t) i in
      let e = edit_record s t g i a b in
      let seen : has (shown (schema_of s) c) (key_at t i) ≡ true = unfold record_of in (rw e at (unnot (has (shown (schema_of s) c) y.key) p.0)) in
      let ks = (described (schema_of s) (record_of t i)).kinds in
      let seven : (leb 1 f && leb f (length ks) && value_rule (get_or ks (f - 1) 0) new) ≡ true =
      rw e at (unnot (leb 1 f && leb f (length (described (schema_of s) y).kinds) && value_rule (get_or (described (schema_of s) y).kinds (f - 1) 0) new) p.1.0) in
      let range = and_left (leb 1 f && leb f (length ks)) _ seven in
      let lo : 1 ≤ f = leb-true 1 f (and_left (leb 1 f) _ range) in
      let hi : f ≤ length ks = leb-true f (length ks) (and_right (leb 1 f) _ range) in
      let count : length ks ≡ field_count s (relation (record_of t i)) = kinds_length s (record_of t i) related.0 related.1 in
      let count' : length ks ≡ field_count s (relation_at t i) = count ∙ ap (field_count s) (sym words.relation_of_lem) in
      let few : length ks ≤ fields = unfold described in narrow s g.sound (relation (record_of t i)) in
      record {
        old = sym (has_order (decode t).records (key_at t i)) ∙ shown_has (schema_of s) c (key_at t i) seen;
        least = lo;
        most = omega arith;
        within = omega arith;
        clock = let n : (decode t).clock ≡ largest_counter → ⊥ = eqb-false _ _ p.1.1.1.1.0 in omega (arith, clock_is t, (good_valid s t g).clock);
        free = unfold record_of aims in (rw e at p.1.1.1.1.1.0);
      }

  module _ (t' : List ℕ) (ck : Checked s t i f new) (l : Left s t' (merged (decode t) (delta_of fields (decode t) (update_of s t i f new)))) where
    v : Reg
    v = reg new (next_label t)

    x : Rec
    x = with_register (flag_only fields (key_at t i) 0) f v

    ks : List ℕ
    ks = odd (in_order (decode t).records) (aims s t i new kind before)

    ch : (update_of s t i f new).changed ≡ x ∷ redoing fields (in_order (decode t).records) ks
    unfolding v x ks
    ch = changes ∙ ap (λ (n : ℕ). with_register (flag_only fields (key_at t i) 0) f (reg new n) ∷ redoing fields (in_order (decode t).records) (odd (in_order (decode t).records) (aims s t i new kind before))) (next_is s t g ck.clock)

    kind_is' : kind ≡ kind_at s (relation_at t i) f
    unfolding kind
    kind_is' =
        let r = words.relation_of_lem in
        let h : f ≤ field_count s (relation (record_of t i)) = rw r at ck.within in
        kind_is s (record_of t i) related.0 related.1 f ck.least h ∙ ap (λ (q : ℕ). kind_at s q f) (sym r)

    before_is : before ≡ value_at t i f
    unfolding before register_at
    before_is = sym (words.value f ck.least ck.most)

    x_old : has (decode t).records x.key ≡ true
    unfolding x with_register flag_only
    x_old = ck.old

    none_added : only (fresh (decode t).records) (in_order (in_order (x ∷ redoing fields (in_order (decode t).records) ks))) ≡ []
    unfolding ks
    none_added =
        let R = redoing fields (in_order (decode t).records) (odd (in_order (decode t).records) (aims s t i new kind before)) in
        ap (only (fresh (decode t).records)) (order_rising_same (in_order (x ∷ R)) (order_rising (x ∷ R)))
        ∙ none_new (decode t).records (in_order (x ∷ R)) (all_old fields (decode t).records (aims s t i new kind before) x x_old)

    used : used_at t' ≡ used_at t
    used =
        omega (
          arith,
          used_is t,
          used_is t',
          ap length (after_records s t t' g (update_of s t i f new) x ks ch l),
          merged_size (decode t).records (in_order (x ∷ redoing fields (in_order (decode t).records) ks)),
          ap length none_added,
        )

    raised : (update_of s t i f new).clock ≡ clock_at t + 1
    unfolding update_of update decode
    raised = refl

    -- the new stamp is the larger
    stamp_low : stamp_at t i f < next_label t
    stamp_low =
        let h = counter_field s t i ((formed s t g.formed).counters i a b) f ck.least ck.most in
        let u : counter_of (stamp_at t i f) ≤ clock_at t = leb-true (counter_of (stamp_at t i f)) (clock_at t) (and_left _ _ h) in
        omega arith

    module _ (n : ℕ) (p : 1 ≤ n) (q : n ≤ used_at t) where
      changed : Changed t t' x ks n
      changed = after_changed s t t' g (update_of s t i f new) x ks ch l n p q

      flags : Redone (update_due s t i f new n) (flag_at t n) (flag_at t' n)
      unfolding x ks update_due
      flags =
          let z = rw (one_flag fields (key_at t i) f v (key_at t n)) at changed.flag in
          let r = rw (aim_is s t g i new kind before n a b) at (redoes s t g n p q (aims s t i new kind before) (flag_at t' n) (unfold kind before in ck.free) z) in
          rw (kind_is', before_is) at r

      unmoved : (j : ℕ) → 1 ≤ j → ((n ≡ i) × (j ≡ f) → ⊥) → get_or (regs_in (own (key_at t n) x)) (j - 1) no_reg ≡ no_reg
      unfolding x
      unmoved j c h = one_other fields (key_at t i) f v (key_at t n) (j - 1) (λ e e'. go (test (eqb n i)) e e')
        where
          go : (eqb n i ≡ true) ⊎ (eqb n i ≡ false) → key_at t n ≡ key_at t i → j - 1 ≡ f - 1 → ⊥
          go (inl m) e e' = h (eqb-true n i m, omega (arith, ck.least))
          go (inr m) e e' = other_key s t g n i p q a b (eqb-false n i m) e

    moved : join_reg (reg (value_at t i f) (stamp_at t i f)) (get_or (regs_in (own (key_at t i) x)) (f - 1) no_reg) ≡ v
    unfolding x
    moved = rw (one_own fields (key_at t i) f v (omega (arith, ck.most, ck.least))) (unfold v in newer (reg (value_at t i f) (stamp_at t i f)) (reg new (next_label t)) stamp_low)

    updated : Updated s t t' i f new
    updated =
        record {
          used = used;
          size = after_size s t t' g (update_of s t i f new) x ks ch l;
          clock = omega (arith, after_clock s t t' g (update_of s t i f new) x ks ch l, raised);
          replica = after_replica s t t' g (update_of s t i f new) x ks ch l;
          value = (changed i a b).value f ck.least ck.most ∙ ap (λ (h : Reg). h.value) moved ∙ unfold v in refl;
          stamp = (changed i a b).stamp f ck.least ck.most ∙ ap (λ (h : Reg). h.stamp) moved ∙ unfold v in refl;
          named = λ n p q. (changed n p q).named;
          values = λ n j p q c d h. (changed n p q).value j c d ∙ rw (unmoved n p q j c h, reg_none);
          stamps = λ n j p q c d h. (changed n p q).stamp j c d ∙ rw (unmoved n p q j c h, reg_none);
          flags = flags;
        }

update_checks : (s t : List ℕ) (i f new : ℕ) → all_of numbered (update_of s t i f new).checks ≡ true
unfolding update_of update all_of
update_checks s t i f new = refl

update_draft : (s t : List ℕ) (i f new : ℕ) → Good s t → lowest (update_of s t i f new).checks ≡ 0 → Drafted fields (schema_of s) (decode t) (update_of s t i f new)
unfolding update_of
update_draft s t i f new g h = update_drafted (narrow s g.sound) (omega arith) (decode t) (good_valid s t g) (omega arith) i f new h

pub update_effect : (s t d : List ℕ) (i f new : ℕ) → update_number s t d i f new ≡ 0 → Updated s t (update_table s t d i f new) i f new
unfolding update_number update_table
update_effect s t d i f new h =
    let e = update_of s t i f new in
    let g = edit_good (bad_index t i) s t d e (update_checks s t i f new) h in
    let b = index_bounds t i (index_good (bad_index t i) s t d e (update_checks s t i f new) h) in
    let l = edit_left (bad_index t i) s t d e g.0 (update_draft s t i f new g.0 g.1) h in
    updated s t i f new g.0 b.0 b.1 (edit_table (edit_number (bad_index t i) s t d e) t e) (checked s t i f new g.0 b.0 b.1 g.1) l.0
