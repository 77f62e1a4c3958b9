-- What is told of an edit settles every word: a table that passes the table check and of which it holds is the table that the call leaves.
-- Assumes nothing.
use Prim.Native.Nat.{ℕ, ◌+◌, ◌≤◌, ◌<◌}
use mathlib.Core.Path.{◌≡◌, refl, sym, ◌∙◌, ap}
use mathlib.Core.Logic.{◌⊎◌, inl, inr}
use mathlib.Core.Bool.{Bool, true, false}
use mathlib.Core.List.{List}
use native.Mathlib.Omega.{arith}
use lib.Dec.{eqb, leb}
use lib.ListN.{length}
use borrow.Author.Tests.{eqb-true, eqb-false, leb-true, leb-false}
use Rattle.crdt.specs.Cells.{reg, no_reg}
use Rattle.crdt.proofs.Tests.{test}
use Rattle.model.specs.Layout.{fields, field_count, capacity_of, replica_at, clock_at, used_at, flag_at, value_at, stamp_at}
use Rattle.model.specs.Lists.{listed}
use Rattle.model.specs.Tables.{decode, record_of, encode}
use Rattle.model.specs.Calls.{table_number, insertion_number, insertion_label, insertion_table, update_number, update_table, deletion_number, deletion_table}
use Rattle.wellformed.proofs.Ranges.{listed_length, listed_at, listed_is}
use Rattle.wellformed.proofs.Follow.{no_rec}
use Rattle.convergence.proofs.Tables.{Good, good_table, table_good, good_encoded}
use Rattle.convergence.proofs.Edits.{insertion_edited, update_edited, deletion_edited}
use Rattle.effects.specs.Effects.{key_at, Redone, Kept, Fresh, insertion_due, Inserted, update_due, Updated, deletion_due, Deleted}
use Rattle.effects.proofs.Insertion.{insertion_effect}
use Rattle.effects.proofs.Update.{update_effect}
use Rattle.effects.proofs.Deletion.{deletion_effect}

listed_same : {A : Type 0} (d : A) (n : ℕ) (f g : ℕ → A) → ((i : ℕ) → 1 ≤ i → i ≤ n → f i ≡ g i) → listed n f ≡ listed n g
listed_same d n f g h = listed_is n f (listed n g) d (listed_length n g) (λ i a b. h i a b ∙ sym (listed_at n g i d a b))

-- record n of two tables
pub record Same (a b : List ℕ) (n : ℕ) : Type 0 where
  pub kept : Kept a b n
  pub flag : flag_at b n ≡ flag_at a n

same_record : (a b : List ℕ) (n : ℕ) → Same a b n → record_of b n ≡ record_of a n
unfolding record_of
same_record a b n h =
    let k : key_at b n ≡ key_at a n = rw (h.kept.named.relation, h.kept.named.label) in
    let r : listed fields (λ j. reg (value_at b n j) (stamp_at b n j)) ≡ listed fields (λ j. reg (value_at a n j) (stamp_at a n j)) =
    listed_same no_reg fields _ _ (λ j c d. rw (h.kept.values j c d, h.kept.stamps j c d)) in
    rw (k, h.flag, r)

-- good tables of one length with the same header and the same records are the same words
module _ (s a b : List ℕ) (ga : Good s a) (gb : Good s b) (size : length b ≡ length a) (used : used_at b ≡ used_at a) (clock : clock_at b ≡ clock_at a)
    (replica : replica_at b ≡ replica_at a) (same : (n : ℕ) → 1 ≤ n → n ≤ used_at a → Same a b n) where
  same_value : decode b ≡ decode a
  unfolding decode
  same_value =
      let c : capacity_of b ≡ capacity_of a = unfold capacity_of in rw size in
      let r : listed (used_at b) (record_of b) ≡ listed (used_at a) (record_of a) =
      ap (λ (n : ℕ). listed n (record_of b)) used ∙ listed_same no_rec (used_at a) (record_of b) (record_of a) (λ n p q. same_record a b n (same n p q)) in
      rw (c, replica, clock, r)

  pub same_words_lem : b ≡ a
  same_words_lem = sym (good_encoded s b gb) ∙ ap encode same_value ∙ good_encoded s a ga

-- a flag is settled
same_flag : (d : Bool) (f p q : ℕ) → Redone d f p → Redone d f q → q ≡ p
same_flag true f p q h k = k.raised refl ∙ sym (h.raised refl)
same_flag false f p q h k = k.kept refl ∙ sym (h.kept refl)

both_kept : (t a b : List ℕ) (n : ℕ) → Kept t a n → Kept t b n → Kept a b n
both_kept t a b n h k =
    record {
      named = record { relation = k.named.relation ∙ sym h.named.relation; label = k.named.label ∙ sym h.named.label };
      values = λ j c d. k.values j c d ∙ sym (h.values j c d);
      stamps = λ j c d. k.stamps j c d ∙ sym (h.stamps j c d);
    }

-- insertion
both_fresh : (s a b : List ℕ) (i r : ℕ) (vs : List ℕ) (l : ℕ) → Fresh s a i r vs l → Fresh s b i r vs l → Same a b i
both_fresh s a b i r vs l h k =
    record {
      kept = record {
        named = record { relation = k.relation ∙ sym h.relation; label = k.label ∙ sym h.label };
        values = λ j c d. value j c d (test (leb j (field_count s r)));
        stamps = λ j c d. stamp j c d (test (leb j (field_count s r)));
      };
      flag = k.flag ∙ sym h.flag;
    }
  where
    value : (j : ℕ) → 1 ≤ j → j ≤ fields → (leb j (field_count s r) ≡ true) ⊎ (leb j (field_count s r) ≡ false) → value_at b i j ≡ value_at a i j
    value j c d (inl p) = let m = leb-true j (field_count s r) p in k.values j c m ∙ sym (h.values j c m)
    value j c d (inr p) = let m = leb-false j (field_count s r) p in k.no_values j m d ∙ sym (h.no_values j m d)

    stamp : (j : ℕ) → 1 ≤ j → j ≤ fields → (leb j (field_count s r) ≡ true) ⊎ (leb j (field_count s r) ≡ false) → stamp_at b i j ≡ stamp_at a i j
    stamp j c d (inl p) = let m = leb-true j (field_count s r) p in k.stamps j c m ∙ sym (h.stamps j c m)
    stamp j c d (inr p) = let m = leb-false j (field_count s r) p in k.no_stamps j m d ∙ sym (h.no_stamps j m d)

pub insertion_settles : (s t a b : List ℕ) (r : ℕ) (vs : List ℕ) (l : ℕ) → table_number s a ≡ 0 → table_number s b ≡ 0 → Inserted s t a r vs l → Inserted s t b r vs l → b ≡ a
insertion_settles s t a b r vs l ca cb h k =
    same_words_lem s a b (good_table s a ca) (good_table s b cb) (k.size ∙ sym h.size) (k.used ∙ sym h.used) (k.clock ∙ sym h.clock) (k.replica ∙ sym h.replica)
    (λ n p q. each n p q (test (leb n (used_at t))))
  where
    fresh : Same a b (used_at t + 1)
    fresh = both_fresh s a b (used_at t + 1) r vs l h.fresh k.fresh

    due : (n : ℕ) → insertion_due s t b n ≡ insertion_due s t a n
    due n = unfold insertion_due in rw (same_record a b (used_at t + 1) fresh)

    each : (n : ℕ) → 1 ≤ n → n ≤ used_at a → (leb n (used_at t) ≡ true) ⊎ (leb n (used_at t) ≡ false) → Same a b n
    each n p q (inl m) =
        let u : n ≤ used_at t = leb-true n (used_at t) m in
        record {
          kept = both_kept t a b n (h.kept n p u) (k.kept n p u);
          flag = same_flag (insertion_due s t a n) (flag_at t n) (flag_at a n) (flag_at b n) (h.flags n p u) (rw (due n) at (k.flags n p u));
        }
    each n p q (inr m) =
        let u : used_at t < n = leb-false n (used_at t) m in
        let e : n ≡ used_at t + 1 = omega (arith, h.used) in
        rw e fresh

-- update
pub update_settles : (s t a b : List ℕ) (i f new : ℕ) → table_number s a ≡ 0 → table_number s b ≡ 0 → Updated s t a i f new → Updated s t b i f new → b ≡ a
update_settles s t a b i f new ca cb h k =
    same_words_lem s a b (good_table s a ca) (good_table s b cb) (k.size ∙ sym h.size) (k.used ∙ sym h.used) (k.clock ∙ sym h.clock) (k.replica ∙ sym h.replica)
    (λ n p q. each n p (rw h.used at q))
  where
    there : (n j : ℕ) → ((n ≡ i) × (j ≡ f)) ⊎ ((n ≡ i) × (j ≡ f) → ⊥)
    there n j = go (test (eqb n i)) (test (eqb j f))
      where
        go : (eqb n i ≡ true) ⊎ (eqb n i ≡ false) → (eqb j f ≡ true) ⊎ (eqb j f ≡ false) → ((n ≡ i) × (j ≡ f)) ⊎ ((n ≡ i) × (j ≡ f) → ⊥)
        go (inl p) (inl q) = inl (eqb-true n i p, eqb-true j f q)
        go (inl p) (inr q) = inr (λ e. eqb-false j f q e.1)
        go (inr p) q = inr (λ e. eqb-false n i p e.0)

    value : (n j : ℕ) → 1 ≤ n → n ≤ used_at t → 1 ≤ j → j ≤ fields → ((n ≡ i) × (j ≡ f)) ⊎ ((n ≡ i) × (j ≡ f) → ⊥) → value_at b n j ≡ value_at a n j
    value n j p q c d (inl e) = rw (e.0, e.1) (k.value ∙ sym h.value)
    value n j p q c d (inr e) = k.values n j p q c d e ∙ sym (h.values n j p q c d e)

    stamp : (n j : ℕ) → 1 ≤ n → n ≤ used_at t → 1 ≤ j → j ≤ fields → ((n ≡ i) × (j ≡ f)) ⊎ ((n ≡ i) × (j ≡ f) → ⊥) → stamp_at b n j ≡ stamp_at a n j
    stamp n j p q c d (inl e) = rw (e.0, e.1) (k.stamp ∙ sym h.stamp)
    stamp n j p q c d (inr e) = k.stamps n j p q c d e ∙ sym (h.stamps n j p q c d e)

    each : (n : ℕ) → 1 ≤ n → n ≤ used_at t → Same a b n
    each n p q =
        record {
          kept = record {
            named = record { relation = (k.named n p q).relation ∙ sym (h.named n p q).relation; label = (k.named n p q).label ∙ sym (h.named n p q).label };
            values = λ j c d. value n j p q c d (there n j);
            stamps = λ j c d. stamp n j p q c d (there n j);
          };
          flag = same_flag (update_due s t i f new n) (flag_at t n) (flag_at a n) (flag_at b n) (h.flags n p q) (k.flags n p q);
        }

-- deletion
pub deletion_settles : (s t a b : List ℕ) (i : ℕ) → table_number s a ≡ 0 → table_number s b ≡ 0 → Deleted s t a i → Deleted s t b i → b ≡ a
deletion_settles s t a b i ca cb h k =
    same_words_lem s a b (good_table s a ca) (good_table s b cb) (k.size ∙ sym h.size) (k.used ∙ sym h.used) (k.clock ∙ sym h.clock) (k.replica ∙ sym h.replica)
    (λ n p q. each n p (rw h.used at q))
  where
    flag : (n : ℕ) → 1 ≤ n → n ≤ used_at t → (eqb n i ≡ true) ⊎ (eqb n i ≡ false) → flag_at b n ≡ flag_at a n
    flag n p q (inl e) = rw (eqb-true n i e) (k.raised ∙ sym h.raised)
    flag n p q (inr e) = same_flag (deletion_due s t i n) (flag_at t n) (flag_at a n) (flag_at b n) (h.flags n p q (eqb-false n i e)) (k.flags n p q (eqb-false n i e))

    each : (n : ℕ) → 1 ≤ n → n ≤ used_at t → Same a b n
    each n p q = record { kept = both_kept t a b n (h.kept n p q) (k.kept n p q); flag = flag n p q (test (eqb n i)) }

-- so each call leaves the one table that passes the table check and of which it holds
pub insertion_exactly : (s t d : List ℕ) (r : ℕ) (vs : List ℕ) → insertion_number s t d r vs ≡ 0
    → (w : List ℕ) → table_number s w ≡ 0 → Inserted s t w r vs (insertion_label s t d r vs) → w ≡ insertion_table s t d r vs
insertion_exactly s t d r vs h w c k =
    insertion_settles s t (insertion_table s t d r vs) w r vs (insertion_label s t d r vs) (table_good s _ (insertion_edited s t d r vs h).table) c (insertion_effect s t d r vs h) k

pub update_exactly : (s t d : List ℕ) (i f new : ℕ) → update_number s t d i f new ≡ 0 → (w : List ℕ) → table_number s w ≡ 0 → Updated s t w i f new → w ≡ update_table s t d i f new
update_exactly s t d i f new h w c k =
    update_settles s t (update_table s t d i f new) w i f new (table_good s _ (update_edited s t d i f new h).table) c (update_effect s t d i f new h) k

pub deletion_exactly : (s t d : List ℕ) (i : ℕ) → deletion_number s t d i ≡ 0 → (w : List ℕ) → table_number s w ≡ 0 → Deleted s t w i → w ≡ deletion_table s t d i
deletion_exactly s t d i h w c k =
    deletion_settles s t (deletion_table s t d i) w i (table_good s _ (deletion_edited s t d i h).table) c (deletion_effect s t d i h) k
