-- An accepted deletion: the words of its table afterwards.
-- Assumes nothing.
use Prim.Native.Nat.{ℕ, ◌+◌, ◌%◌, ◌≤◌}
use mathlib.Core.Path.{◌≡◌, refl, sym, ◌∙◌, ap}
use mathlib.Core.Bool.{Bool, true, false, cond, not, ◌&&◌}
use mathlib.Core.List.{List, [], ◌∷◌}
use mathlib.Core.Option.{none, some}
use native.Mathlib.Omega.{arith}
use lib.Dec.{eqb}
use lib.ListN.{length, get_or, replicate}
use borrow.Author.Tests.{eqb-true, eq-eqb, ne_eqb, not-false as unnot}
use Rattle.crdt.specs.Flags.{is_odd, is_even, deleted, redone}
use Rattle.crdt.specs.Cells.{no_reg}
use Rattle.model.specs.Layout.{fields, clock_at, used_at, flag_at}
use Rattle.model.specs.Lists.{only, some_of, all_of, lowest}
use Rattle.model.specs.Schemas.{is_abort, schema_of}
use Rattle.model.specs.Records.{Rec, has, own, in_order}
use Rattle.model.specs.Tables.{decode, record_of}
use Rattle.model.specs.Shown.{targets, references, standing, shown}
use Rattle.model.specs.Merge.{merged}
use Rattle.model.specs.Edits.{delta_of, flag_in, flag_of, flag_only, odd, redoing, spent, supported, deletion_redoes, deletion}
use Rattle.model.specs.Edits as edits
use Rattle.model.specs.Calls.{bad_index, deletion_of, deletion_number, deletion_table, edit_number, edit_table}
use Rattle.laws.proofs.Order.{order_rising}
use Rattle.laws.proofs.Members.{order_rising_same, rising_distinct}
use Rattle.laws.proofs.Merge.{new}
use Rattle.laws.proofs.Checks.{passed, numbered}
use Rattle.laws.proofs.Drafts.{Drafted, shown_has, has_order, deletion_drafted}
use Rattle.convergence.proofs.Tables.{Good, good_valid, narrow, Left, edit_good, edit_left}
use Rattle.effects.specs.Effects.{key_at, held_beside, Redone, Kept, deletion_due, Deleted}
use Rattle.effects.proofs.Joins.{none_at, reg_none, regs_in, among}
use Rattle.effects.proofs.Words.{used_is}
use Rattle.effects.proofs.Flags.{among_only, among_odd, deleted_law}
use Rattle.effects.proofs.Positions.{merged_size, none_new, all_old}
use Rattle.effects.proofs.Changes.{redoes, flag_held, flag_bound, Changed, after_records, after_clock, after_replica, after_size, after_changed}
use Rattle.effects.proofs.Standing.{shown_even}
use Rattle.effects.proofs.Beside.{beside}
use Rattle.effects.proofs.Indices.{index_good, index_bounds, edit_record, other_key}

-- a change of a flag alone
pub flag_regs : (w k q f j : ℕ) → get_or (regs_in (own k (flag_only w q f))) j no_reg ≡ no_reg
unfolding own flag_only
flag_regs w k q f j = go (eqb k q)
  where
    go : (b : Bool) → get_or (regs_in (cond b (some (record { flag = f; regs = replicate w no_reg })) none)) j no_reg ≡ no_reg
    go true = none_at w j
    go false = refl

pub flag_own : (w k f : ℕ) → flag_in (own k (flag_only w k f)) ≡ f
unfolding own flag_only
flag_own w k f = rw (eq-eqb k k refl)

pub flag_other : (w k q f : ℕ) → (k ≡ q → ⊥) → flag_in (own k (flag_only w q f)) ≡ 0
unfolding own flag_only
flag_other w k q f h = rw (ne_eqb k q h)

-- the abort targets to be redone if odd
unfoldable pub aims : (s t : List ℕ) (i : ℕ) → List ℕ
aims s t i = only (λ k. not (eqb k (key_at t i)) && supported (schema_of s) (in_order (decode t).records) (key_at t i) k) (targets (schema_of s) is_abort (record_of t i))

pub aim_is : (s t : List ℕ) → Good s t → (i n : ℕ) → 1 ≤ i → i ≤ used_at t → (key_at t n ≡ key_at t i → ⊥)
    → among (key_at t n) (aims s t i) ≡ (held_beside s t i n && references (schema_of s) is_abort (key_at t n) (record_of t i))
unfolding aims references
aim_is s t g i n a b h = among_only _ (key_at t n) (targets (schema_of s) is_abort (record_of t i)) ∙ rw (ne_eqb (key_at t n) (key_at t i) h, beside s t g i n a b)

-- what the checks say
record Checked (s t : List ℕ) (i : ℕ) : Type 0 where
  old : has (decode t).records (key_at t i) ≡ true
  even : is_even (flag_at t i) ≡ true
  free : spent (in_order (decode t).records) (odd (in_order (decode t).records) (aims s t i)) ≡ false

module _ (s t : List ℕ) (i : ℕ) (g : Good s t) (a : 1 ≤ i) (b : i ≤ used_at t) where
  changes : (deletion_of s t i).changed ≡ flag_only fields (key_at t i) (deleted (flag_at t i)) ∷ redoing fields (in_order (decode t).records) (odd (in_order (decode t).records) (aims s t i))
  unfolding deletion_of deletion deletion_redoes aims
  changes = rw (edit_record s t g i a b) (unfold record_of in refl)

  checked : lowest (deletion_of s t i).checks ≡ 0 → Checked s t i
  unfolding deletion_of deletion deletion_redoes all_of
  checked h =
      let p = passed _ refl h in
      let c = in_order (decode t).records in
      let y = edits.record_at (decode t) i in
      let e = edit_record s t g i a b in
      let seen : has (shown (schema_of s) c) (key_at t i) ≡ true = unfold record_of in (rw e at (unnot (has (shown (schema_of s) c) y.key) p.0)) in
      let alone : some_of (λ (z : Rec). not (eqb z.key (key_at t i)) && references (schema_of s) is_abort (key_at t i) z) (standing (schema_of s) c) ≡ false = unfold record_of in (rw e at p.1.0) in
      let even = shown_even (schema_of s) c (rising_distinct 0 c (order_rising (decode t).records)) (key_at t i) seen alone in
      record {
        old = sym (has_order (decode t).records (key_at t i)) ∙ shown_has (schema_of s) c (key_at t i) seen;
        even = rw (flag_held s t g i a b) at even;
        free = unfold record_of aims in (rw e at p.1.1.0);
      }

  module _ (t' : List ℕ) (ck : Checked s t i) (l : Left s t' (merged (decode t) (delta_of fields (decode t) (deletion_of s t i)))) where
    x : Rec
    x = flag_only fields (key_at t i) (deleted (flag_at t i))

    ks : List ℕ
    ks = odd (in_order (decode t).records) (aims s t i)

    ch : (deletion_of s t i).changed ≡ x ∷ redoing fields (in_order (decode t).records) ks
    unfolding x ks
    ch = changes

    x_old : has (decode t).records x.key ≡ true
    unfolding x flag_only
    x_old = ck.old

    none_added : only (new (decode t).records) (in_order (in_order (x ∷ redoing fields (in_order (decode t).records) ks))) ≡ []
    unfolding ks
    none_added =
        let R = redoing fields (in_order (decode t).records) (odd (in_order (decode t).records) (aims s t i)) in
        ap (only (new (decode t).records)) (order_rising_same (in_order (x ∷ R)) (order_rising (x ∷ R)))
        ∙ none_new (decode t).records (in_order (x ∷ R)) (all_old fields (decode t).records (aims s t i) x x_old)

    used : used_at t' ≡ used_at t
    used =
        omega (
          arith,
          used_is t,
          used_is t',
          ap length (after_records s t t' g (deletion_of s t i) x ks ch l),
          merged_size (decode t).records (in_order (x ∷ redoing fields (in_order (decode t).records) ks)),
          ap length none_added,
        )

    stays : (deletion_of s t i).clock ≡ clock_at t
    unfolding deletion_of deletion decode
    stays = refl

    -- the key of the deleted record is no aim
    not_aim : among (key_at t i) ks ≡ false
    unfolding ks aims
    not_aim =
        among_odd (in_order (decode t).records) (key_at t i) (aims s t i)
        ∙ ap (λ (q : Bool). is_odd (flag_of (in_order (decode t).records) (key_at t i)) && q) (among_only _ (key_at t i) (targets (schema_of s) is_abort (record_of t i)) ∙ rw (eq-eqb (key_at t i) (key_at t i) refl))
        ∙ no (is_odd (flag_of (in_order (decode t).records) (key_at t i)))
      where
        no : (q : Bool) → (q && false) ≡ false
        no true = refl
        no false = refl

    module _ (n : ℕ) (p : 1 ≤ n) (q : n ≤ used_at t) where
      changed : Changed t t' x ks n
      changed = after_changed s t t' g (deletion_of s t i) x ks ch l n p q

      kept : Kept t t' n
      unfolding x
      kept =
          record {
            named = changed.named;
            values = λ j c d. changed.value j c d ∙ rw (flag_regs, reg_none);
            stamps = λ j c d. changed.stamp j c d ∙ rw (flag_regs, reg_none);
          }

      flags : (n ≡ i → ⊥) → Redone (deletion_due s t i n) (flag_at t n) (flag_at t' n)
      unfolding x ks deletion_due
      flags h =
          let k = other_key s t g n i p q a b h in
          let f = rw (flag_other fields (key_at t n) (key_at t i) (deleted (flag_at t i)) k) at changed.flag in
          rw (aim_is s t g i n a b k) at (redoes s t g n p q (aims s t i) (flag_at t' n) ck.free f)

    own_flag : (flag_at t' i ≡ flag_at t i + 1) × (is_odd (flag_at t' i) ≡ true)
    own_flag =
        let m : flag_at t i % 2 ≡ 0 = eqb-true (flag_at t i % 2) 0 ck.even in
        deleted_law (flag_at t i) (flag_at t' i) ck.even (omega (arith, flag_bound s t g i a b))
        ((changed i a b).flag ∙ unfold x in rw (flag_own, not_aim))

    deleted_words : Deleted s t t' i
    deleted_words =
        record {
          used = used;
          size = after_size s t t' g (deletion_of s t i) x ks ch l;
          clock = omega (arith, after_clock s t t' g (deletion_of s t i) x ks ch l, stays);
          replica = after_replica s t t' g (deletion_of s t i) x ks ch l;
          kept = kept;
          even = ck.even;
          raised = own_flag.0;
          odd = own_flag.1;
          flags = flags;
        }

deletion_checks : (s t : List ℕ) (i : ℕ) → all_of numbered (deletion_of s t i).checks ≡ true
unfolding deletion_of deletion all_of
deletion_checks s t i = refl

deletion_draft : (s t : List ℕ) (i : ℕ) → Good s t → lowest (deletion_of s t i).checks ≡ 0 → Drafted fields (schema_of s) (decode t) (deletion_of s t i)
unfolding deletion_of
deletion_draft s t i g h = deletion_drafted (narrow s g.sound) (omega arith) (decode t) (good_valid s t g) i h

pub deletion_effect : (s t d : List ℕ) (i : ℕ) → deletion_number s t d i ≡ 0 → Deleted s t (deletion_table s t d i) i
unfolding deletion_number deletion_table
deletion_effect s t d i h =
    let g = edit_good (bad_index t i) s t d (deletion_of s t i) (deletion_checks s t i) h in
    let b = index_bounds t i (index_good (bad_index t i) s t d (deletion_of s t i) (deletion_checks s t i) h) in
    let l = edit_left (bad_index t i) s t d (deletion_of s t i) g.0 (deletion_draft s t i g.0 g.1) h in
    deleted_words s t i g.0 b.0 b.1 (edit_table (edit_number (bad_index t i) s t d (deletion_of s t i)) t (deletion_of s t i)) (checked s t i g.0 b.0 b.1 g.1) l.0
