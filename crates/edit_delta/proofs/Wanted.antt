-- The records that a draft is to hold: what they are by key, their order, their number, and that they are sound.
-- Assumes nothing.
use Prim.Native.Nat.{ℕ, zero, suc, ◌-◌, ◌≤◌, ◌<◌}
use mathlib.Core.Path.{◌≡◌, refl, sym, ◌∙◌, ap}
use mathlib.Core.Bool.{Bool, true, false, cond, ◌||◌}
use mathlib.Core.List.Memᴰ
use mathlib.Core.List.{List, [], ◌∷◌}
use mathlib.Core.Option.{Option, none, some}
use mathlib.Core.Logic.{◌⊎◌, inl, inr, ◌≢◌}
use native.Mathlib.Omega.{arith}
use lib.Dec.{eqb}
use lib.ListN.{length, get_or, replicate}
use borrow.Author.Tests.{eqb-true, eqb-false, eq-eqb, ne_eqb}
use Rattle.crdt.specs.Flags.{redone}
use Rattle.crdt.specs.Cells.{no_reg, Cell, join_opt}
use Rattle.crdt.proofs.Tests.{test, clash}
use Rattle.crdt.proofs.Lattice.{opt_lattice}
use Rattle.model.specs.Layout.{fields, delta_records, used_at, relation_at, label_at, flag_at}
use Rattle.model.specs.Lists.{some_of}
use Rattle.model.specs.Records.{Rec, place, has, own, at, in_order, Rising, Distinct}
use Rattle.model.specs.Tables.{record_of, decode}
use Rattle.model.specs.Edits.{flag_only, flag_in, flag_of, redoing}
use Rattle.laws.proofs.Join.{opt_none, own_self, own_other, insert_length}
use Rattle.laws.proofs.Lists.{◌∈◌}
use Rattle.laws.proofs.Members.{at_member}
use Rattle.laws.proofs.Order.{at_order, order_rising, has_at, is_some}
use Rattle.laws.proofs.Valid.{distinct_true}
use Rattle.wellformed.proofs.Ranges.{listed_length, listed_at}
use Rattle.wellformed.proofs.Follow.{has_not, has_record, position_some, same_position}
use Rattle.edit_delta.specs.Picked.{picked_keys, draft_of}
use Rattle.edit_record.specs.Record.{marked}
use Rattle.edit_delta.specs.Drafting.{Source}
use Rattle.merge_laws.specs.Absorb.{no_rec, nth}

-- what the redone records hold
pub redone_at : (w : ℕ) (c : List Rec) (ks : List ℕ) (k : ℕ) → at k (redoing w c ks) ≡ cond (some_of (λ j. eqb k j) ks) (some (flag_only w k (redone (flag_of c k))).cell) none
unfolding redoing at some_of flag_only own join_opt
redone_at w c [] k = refl
redone_at w c (j ∷ ks) k = rw (redone_at w c ks k) (go (test (eqb k j)) (some_of (λ i. eqb k i) ks))
  where
    X : ℕ → Option Cell
    X i = some (record { flag = redone (flag_of c i); regs = replicate w no_reg })

    go : (eqb k j ≡ true) ⊎ (eqb k j ≡ false) → (t : Bool) → join_opt (own k (record { key = j; cell = record { flag = redone (flag_of c j); regs = replicate w no_reg } })) (cond t (some (record { flag = redone (flag_of c k); regs = replicate w no_reg })) none)
        ≡ cond (eqb k j || t) (some (record { flag = redone (flag_of c k); regs = replicate w no_reg })) none
    go (inl p) true = let e : k ≡ j = eqb-true k j p in rw p (rw e (opt_lattice.idem (X j)))
    go (inl p) false = let e : k ≡ j = eqb-true k j p in rw p (rw e (opt_none (X j)))
    go (inr p) t = rw p

redo_length : (c : List Rec) (ks : List ℕ) → length (redoing fields c ks) ≡ length ks
unfolding redoing
redo_length c [] = refl
redo_length c (k ∷ ks) = ap suc (redo_length c ks)

-- the picked keys: none that no record has, and those of the marked records
pub picked_none : (s : List Rec) (m : List ℕ) (k : ℕ) → has s k ≡ false → some_of (λ j. eqb k j) (picked_keys s m) ≡ false
unfolding picked_keys some_of
picked_none [] m k h = refl
picked_none (x ∷ xs) [] k h = refl
picked_none (x ∷ xs) (b ∷ bs) k h = let n = has_not x xs k h in go (eqb b 1) (ne_eqb k x.key n.0) (picked_none xs bs k n.1)
  where
    go : (c : Bool) → eqb k x.key ≡ false → some_of (λ j. eqb k j) (picked_keys xs bs) ≡ false → some_of (λ j. eqb k j) (cond c (x.key ∷ picked_keys xs bs) (picked_keys xs bs)) ≡ false
    go true e ih = rw e ih
    go false e ih = ih

pub picked_at : (s : List Rec) (m : List ℕ) (n : ℕ) → Distinct s → n < length s → length s ≤ length m → some_of (λ j. eqb (get_or s n no_rec).key j) (picked_keys s m) ≡ eqb (get_or m n 0) 1
unfolding picked_keys some_of
picked_at [] m n d l h = absurd (omega arith)
picked_at (x ∷ xs) [] n d l h = absurd (omega arith)
picked_at (x ∷ xs) (b ∷ bs) zero d l h = go (test (eqb b 1)) (picked_none xs bs x.key d.0)
  where
    go : (eqb b 1 ≡ true) ⊎ (eqb b 1 ≡ false) → some_of (λ j. eqb x.key j) (picked_keys xs bs) ≡ false
        → some_of (λ j. eqb x.key j) (cond (eqb b 1) (x.key ∷ picked_keys xs bs) (picked_keys xs bs)) ≡ eqb b 1
    go (inl e) ih = rw (e, eq-eqb x.key x.key refl)
    go (inr e) ih = rw e ih
picked_at (x ∷ xs) (b ∷ bs) (suc n) d l h = go (eqb b 1) (picked_at xs bs n d.1 (omega arith) (omega arith))
  where
    apart : (get_or xs n no_rec).key ≢ x.key
    apart e = clash (rw e at (Rattle.wellformed.proofs.Follow.has_at xs n no_rec (omega arith))) d.0

    go : (c : Bool) → some_of (λ j. eqb (get_or xs n no_rec).key j) (picked_keys xs bs) ≡ eqb (get_or bs n 0) 1
        → some_of (λ j. eqb (get_or xs n no_rec).key j) (cond c (x.key ∷ picked_keys xs bs) (picked_keys xs bs)) ≡ eqb (get_or bs n 0) 1
    go true ih = rw (ne_eqb (get_or xs n no_rec).key x.key apart) ih
    go false ih = ih

-- as many records in order as there are, or fewer
pub order_within : (s : List Rec) → length (in_order s) ≤ length s
unfolding in_order
order_within [] = omega arith
order_within (x ∷ xs) = omega (arith, insert_length x (in_order xs), order_within xs)

pub nth_in : (s : List Rec) (n : ℕ) → n < length s → get_or s n no_rec ∈ s
nth_in [] n l = absurd (omega arith)
nth_in (x ∷ xs) zero l = Memᴰ.head refl
nth_in (x ∷ xs) (suc n) l = Memᴰ.tail (nth_in xs n (omega arith))

-- the records of a table's words
pub recs_length : (t : List ℕ) → length (decode t).records ≡ used_at t
unfolding decode
recs_length t = listed_length (used_at t) (record_of t)

pub recs_at : (t : List ℕ) (i : ℕ) → 1 ≤ i → i ≤ used_at t → nth (decode t).records i ≡ record_of t i
unfolding decode
recs_at t i a b = listed_at (used_at t) (record_of t) i no_rec a b

pub recs_has : (t : List ℕ) (i : ℕ) → 1 ≤ i → i ≤ used_at t → has (decode t).records (record_of t i).key ≡ true
recs_has t i a b = rw (recs_at t i a b) at (has_record i (decode t).records a (omega (arith, recs_length t)))

pub recs_index : (t : List ℕ) (k : ℕ) → has (decode t).records k ≡ true → (i : ℕ) × (1 ≤ i) × (i ≤ used_at t) × ((record_of t i).key ≡ k)
recs_index t k h =
    let p = position_some k (decode t).records h in
    let l : Rattle.model.specs.Records.position k (decode t).records ≤ used_at t = omega (arith, p.within, recs_length t) in
    (_, p.from_one, l, rw (recs_at t _ p.from_one l) at p.keyed)

pub key_of_lem : (t : List ℕ) (i : ℕ) → (record_of t i).key ≡ place (relation_at t i) (label_at t i)
unfolding record_of
key_of_lem t i = refl

module _ (t m : List ℕ) (src : Source t m) where
  abbrev recs : List Rec
  recs = (decode t).records

  abbrev ks : List ℕ
  ks = picked_keys (decode t).records m

  single : Distinct (decode t).records
  single = distinct_true (decode t).records src.single

  pub same_index : (i j : ℕ) → 1 ≤ i → i ≤ used_at t → 1 ≤ j → j ≤ used_at t → (record_of t i).key ≡ (record_of t j).key → i ≡ j
  same_index i j a b c d e =
      let n = recs_length t in
      same_position i j recs src.single a (omega arith) c (omega arith) (ap (λ (x : Rec). x.key) (recs_at t i a b) ∙ e ∙ sym (ap (λ (x : Rec). x.key) (recs_at t j c d)))

  -- record i of the table
  module _ (i : ℕ) (a : 1 ≤ i) (b : i ≤ used_at t) where
    own_cell : at (record_of t i).key (decode t).records ≡ some (record_of t i).cell
    own_cell = rw (recs_at t i a b) at (at_member recs (nth recs i) single (nth_in recs (i - 1) (omega (arith, recs_length t))))

    own_flag : flag_of (in_order (decode t).records) (record_of t i).key ≡ flag_at t i
    unfolding flag_of
    own_flag = ap flag_in (at_order (record_of t i).key recs ∙ own_cell) ∙ unfold record_of in refl

    pub own_picked : some_of (λ j. eqb (record_of t i).key j) (picked_keys (decode t).records m) ≡ marked m i
    own_picked = rw (recs_at t i a b) at (picked_at recs m (i - 1) single (omega (arith, recs_length t)) (omega (arith, recs_length t, src.marks)))

    pub own_redone : at (record_of t i).key (redoing fields (in_order (decode t).records) (picked_keys (decode t).records m)) ≡ cond (marked m i) (some (flag_only fields (record_of t i).key (redone (flag_at t i))).cell) none
    own_redone = redone_at fields (in_order recs) ks (record_of t i).key ∙ rw (own_picked, own_flag)

  pub none_redone : (k : ℕ) → has (decode t).records k ≡ false → at k (redoing fields (in_order (decode t).records) (picked_keys (decode t).records m)) ≡ none
  none_redone k h = redone_at fields (in_order recs) ks k ∙ rw (picked_none recs m k h)

  -- the records of a draft whose changed record is x
  module _ (c : ℕ) (x : Rec) where
    abbrev F : List Rec
    F = (draft_of t c x m).records

    pub draft_rising : Rising 0 (draft_of t c x m).records
    unfolding draft_of
    draft_rising = order_rising _

    pub draft_at : (k : ℕ) → at k (draft_of t c x m).records ≡ join_opt (own k x) (at k (redoing fields (in_order (decode t).records) (picked_keys (decode t).records m)))
    unfolding draft_of at
    draft_at k = at_order k (x ∷ redoing fields (in_order recs) ks)

    pub draft_few : length (draft_of t c x m).records ≤ delta_records
    unfolding draft_of
    draft_few = omega (arith, order_within (x ∷ redoing fields (in_order recs) ks), redo_length (in_order recs) ks, src.few)

    pub draft_none : (k : ℕ) → has (decode t).records k ≡ false → k ≢ x.key → at k (draft_of t c x m).records ≡ none
    draft_none k h n = draft_at k ∙ rw (own_other k x n, none_redone k h) (opt_none none)

    pub draft_new : has (decode t).records x.key ≡ false → at x.key (draft_of t c x m).records ≡ some x.cell
    draft_new h = draft_at x.key ∙ rw (own_self x, none_redone x.key h) (opt_none _)

    pub draft_has : (k : ℕ) → has (draft_of t c x m).records k ≡ true → (has (decode t).records k ≡ true) ⊎ (k ≡ x.key)
    draft_has k h = go (test (has recs k)) (test (eqb k x.key))
      where
        go : (has recs k ≡ true) ⊎ (has recs k ≡ false) → (eqb k x.key ≡ true) ⊎ (eqb k x.key ≡ false) → (has recs k ≡ true) ⊎ (k ≡ x.key)
        go (inl p) q = inl p
        go (inr p) (inl q) = inr (eqb-true k x.key q)
        go (inr p) (inr q) = clash h (has_at F k ∙ rw (draft_none k p (eqb-false k x.key q)) (unfold is_some in refl))
