-- Figure 17: the delta of each accepted edit is the paper's mutator, joined with its compensation.
-- Assumes nothing.
use Prim.Native.Nat.{ℕ, zero, suc, ◌+◌, ◌-◌, ◌*◌, ◌/◌, ◌%◌, ◌≤◌, ◌<◌}
use mathlib.Core.Path.{◌≡◌, refl, sym, ◌∙◌, ap, fun_ext}
use mathlib.Core.Logic.{◌⊎◌, inl, inr}
use mathlib.Core.Bool.{Bool, true, false, cond, ◌&&◌, ◌||◌, not}
use mathlib.Core.List.{List, [], ◌∷◌, ◌++◌, map}
use mathlib.Core.Option.{Option, none, some}
use native.Mathlib.Omega.{arith}
use lib.Dec.{eqb, ltb, leb}
use lib.ListN.{length, get_or, replicate, set}
use borrow.Author.Tests.{eqb-true, eqb-false, ltb-true, ltb-false, leb-true, leb-false, lt-ltb, le-ltb, le-leb, lt-leb, eq-eqb, ne_eqb, not-false as unnot}
use Rattle.crdt.specs.Labels.{is_label}
use Rattle.crdt.specs.Flags.{largest_flag, is_odd, is_even, deleted, redone}
use Rattle.crdt.specs.Cells.{Reg, reg, no_reg, Cell, join_reg, join_opt}
use Rattle.crdt.proofs.Tests.{test, clash, and_left, and_right, or_left, or_right}
use Rattle.crdt.proofs.Lattice.{opt_lattice}
use Rattle.model.specs.Layout.{most_records}
use Rattle.model.specs.Lists.{some_of, all_of, lowest}
use Rattle.model.specs.Schemas.{Relation, is_reference, is_abort, relation_numbered}
use Rattle.model.specs.Records.{Rec, label_span, place, relation, label, own, at, in_order, Distinct}
use Rattle.model.specs.Tables.{Table}
use Rattle.model.specs.Shown.{described, targets}
use Rattle.model.specs.Edits.{Edit, delta_of, value_rule, new_label, flag_in, flag_of, flag_only, odd, redoing, spent, new_record, insertion, record_at, register_at, with_register, update_redoes, update, deletion_redoes, deletion}
use Rattle.laws.proofs.Lists.{◌∈◌, in_some}
use Rattle.laws.proofs.Join.{own_self, own_other, opt_none}
use Rattle.laws.proofs.Order.{at_order}
use Rattle.laws.proofs.Members.{at_member}
use Rattle.laws.proofs.Valid.{Valid, ValidRecord}
use Rattle.laws.proofs.Checks.{passed}
use Rattle.laws.proofs.Drafts.{flags_below, label_new}
use Rattle.laws.proofs.Fields.{stamped_by, label_below, label_nonzero}
use Rattle.synql.specs.Synql.{Map, Tuple, RDb, join_bottom, join_map, join_tuple, join_db, single, no_fields, wr, wr_opt, ins, del, updated, enable, disable, compensation}
use Rattle.synql.specs.Synql as paper
use Rattle.synql.specs.Database.{stamped_reg, field_map, tuple_of, tuple_opt, database, values_map, chosen}
use Rattle.synql.proofs.Primitives.{delete_is_7, redo_is_8}
use Rattle.synql.proofs.State.{stamp_none, stamp_some, split_state, one_state, order_state, key_place_lem, tuple_at}

-- no registers are no fields
none_at : (n j : ℕ) → get_or (replicate n no_reg) j no_reg ≡ no_reg
none_at zero j = refl
none_at (suc n) zero = refl
none_at (suc n) (suc j) = none_at n j

pub no_fields_lem : (n : ℕ) → field_map (replicate n no_reg) ≡ no_fields
unfolding field_map
no_fields_lem n = fun_ext λ f. go f (eqb f 0)
  where
    go : (f : ℕ) (t : Bool) → cond t none (stamped_reg (get_or (replicate n no_reg) (f - 1) no_reg)) ≡ none
    go f true = refl
    go f false = rw (none_at n (f - 1)) (stamp_none no_reg refl)

-- values under a label
value_at_lem : (l : ℕ) (vs : List ℕ) (n j : ℕ) → (l ≡ 0 → ⊥) → stamped_reg (get_or (stamped_by l vs n) j no_reg) ≡ wr_opt l (cond (ltb j (length vs)) (some (get_or vs j 0)) none)
value_at_lem l [] n j h = rw (none_at n j) (stamp_none no_reg refl ∙ ap (wr_opt l) (sym (past j)))
  where
    past : (k : ℕ) → ◌≡◌ {A = Option ℕ} (cond (ltb k 0) (some (get_or {A = ℕ} [] k 0)) none) none
    past k = rw (le-ltb k 0 (omega arith))
value_at_lem l (v ∷ vs) n zero h = stamp_some (reg v l) h ∙ ap (wr_opt l) (sym (first (length vs)))
  where
    first : (m : ℕ) → cond (ltb 0 (suc m)) (some v) none ≡ some v
    first m = rw (lt-ltb 0 (suc m) (omega arith))
value_at_lem l (v ∷ vs) n (suc j) h = value_at_lem l vs n j h ∙ ap (wr_opt l) (sym (later (test (ltb j (length vs)))))
  where
    later : (ltb j (length vs) ≡ true) ⊎ (ltb j (length vs) ≡ false) → cond (ltb (suc j) (suc (length vs))) (some (get_or vs j 0)) none ≡ cond (ltb j (length vs)) (some (get_or vs j 0)) none
    later (inl p) = let q : suc j < suc (length vs) = omega (arith, ltb-true j (length vs) p) in rw (p, lt-ltb (suc j) (suc (length vs)) q)
    later (inr p) = let q : suc (length vs) ≤ suc j = omega (arith, ltb-false j (length vs) p) in rw (p, le-ltb (suc j) (suc (length vs)) q)

pub stamped_fields : (l : ℕ) (vs : List ℕ) (n : ℕ) → (l ≡ 0 → ⊥) → field_map (stamped_by l vs n) ≡ (λ f. wr_opt l (values_map vs f))
unfolding field_map values_map
stamped_fields l vs n h = fun_ext λ f. go f (test (eqb f 0)) (test (ltb (f - 1) (length vs)))
  where
    R : ℕ → Type 0
    R f = cond (eqb f 0) none (stamped_reg (get_or (stamped_by l vs n) (f - 1) no_reg)) ≡ wr_opt l (cond (leb 1 f && leb f (length vs)) (some (get_or vs (f - 1) 0)) none)

    go : (f : ℕ) → (eqb f 0 ≡ true) ⊎ (eqb f 0 ≡ false) → (ltb (f - 1) (length vs) ≡ true) ⊎ (ltb (f - 1) (length vs) ≡ false) → R f
    go f (inl p) q = let z : f < 1 = omega (arith, eqb-true f 0 p) in rw (p, lt-leb 1 f z)
    go f (inr p) (inl q) =
        let z : f ≡ 0 → ⊥ = eqb-false f 0 p in
        let a : 1 ≤ f = omega arith in
        let b : f ≤ length vs = omega (arith, ltb-true (f - 1) (length vs) q) in
        rw p (value_at_lem l vs n (f - 1) h ∙ rw (q, le-leb 1 f a, le-leb f (length vs) b))
    go f (inr p) (inr q) =
        let z : f ≡ 0 → ⊥ = eqb-false f 0 p in
        let a : 1 ≤ f = omega arith in
        let b : length vs < f = omega (arith, ltb-false (f - 1) (length vs) q) in
        rw p (value_at_lem l vs n (f - 1) h ∙ rw (q, le-leb 1 f a, lt-leb f (length vs) b))

-- one register alone
one_at : (n j i : ℕ) (g : Reg) → j < n → get_or (set (replicate n no_reg) j g) i no_reg ≡ cond (eqb i j) g no_reg
one_at zero j i g h = absurd (omega arith)
one_at (suc n) zero zero g h = refl
one_at (suc n) zero (suc i) g h = none_at n i ∙ sym (other i)
  where
    other : (k : ℕ) → cond (eqb (suc k) 0) g no_reg ≡ no_reg
    other k = let z : suc k ≡ 0 → ⊥ = omega arith in rw (ne_eqb (suc k) 0 z)
one_at (suc n) (suc j) zero g h = let z : 0 ≡ suc j → ⊥ = omega arith in rw (ne_eqb 0 (suc j) z)
one_at (suc n) (suc j) (suc i) g h = one_at n j i g (omega arith) ∙ sym (both (test (eqb i j)))
  where
    both : (eqb i j ≡ true) ⊎ (eqb i j ≡ false) → cond (eqb (suc i) (suc j)) g no_reg ≡ cond (eqb i j) g no_reg
    both (inl p) = let e : suc i ≡ suc j = omega (arith, eqb-true i j p) in rw (p, eq-eqb (suc i) (suc j) e)
    both (inr p) = let e : i ≡ j → ⊥ = eqb-false i j p in let d : suc i ≡ suc j → ⊥ = omega arith in rw (p, ne_eqb (suc i) (suc j) d)

pub one_field : (n f : ℕ) (g : Reg) → 1 ≤ f → f ≤ n → (g.stamp ≡ 0 → ⊥) → field_map (set (replicate n no_reg) (f - 1) g) ≡ (λ k. cond (eqb k f) (some g) none)
unfolding field_map
one_field n f g a b h = fun_ext λ k. go k (test (eqb k 0)) (test (eqb k f))
  where
    R : ℕ → Type 0
    R k = cond (eqb k 0) none (stamped_reg (get_or (set (replicate n no_reg) (f - 1) g) (k - 1) no_reg)) ≡ cond (eqb k f) (some g) none

    here : f - 1 < n
    here = omega arith

    go : (k : ℕ) → (eqb k 0 ≡ true) ⊎ (eqb k 0 ≡ false) → (eqb k f ≡ true) ⊎ (eqb k f ≡ false) → R k
    go k (inl p) (inl q) = absurd (omega (arith, eqb-true k 0 p, eqb-true k f q))
    go k (inl p) (inr q) = rw (p, q)
    go k (inr p) (inl q) = let e : k - 1 ≡ f - 1 = omega (arith, eqb-true k f q) in rw (p, q) (ap stamped_reg (one_at n (f - 1) (k - 1) g here) ∙ rw (eq-eqb (k - 1) (f - 1) e) (stamp_some g h))
    go k (inr p) (inr q) =
        let m : k ≡ 0 → ⊥ = eqb-false k 0 p in
        let m' : k ≡ f → ⊥ = eqb-false k f q in
        let e : k - 1 ≡ f - 1 → ⊥ = omega arith in
        rw (p, q) (ap stamped_reg (one_at n (f - 1) (k - 1) g here) ∙ rw (ne_eqb (k - 1) (f - 1) e) (stamp_none no_reg refl))

-- what the redone records hold
redone_at : (w : ℕ) (c : List Rec) (ks : List ℕ) (k : ℕ) → at k (redoing w c ks) ≡ cond (some_of (λ j. eqb k j) ks) (some (flag_only w k (redone (flag_of c k))).cell) none
unfolding redoing at some_of flag_only own join_opt
redone_at w c [] k = refl
redone_at w c (j ∷ ks) k = rw (redone_at w c ks k) (go (test (eqb k j)) (some_of (λ i. eqb k i) ks))
  where
    X : ℕ → Option Cell
    X i = some (record { flag = redone (flag_of c i); regs = replicate w no_reg })

    go : (eqb k j ≡ true) ⊎ (eqb k j ≡ false) → (t : Bool) → join_opt (own k (record { key = j; cell = record { flag = redone (flag_of c j); regs = replicate w no_reg } })) (cond t (some (record { flag = redone (flag_of c k); regs = replicate w no_reg })) none)
        ≡ cond (eqb k j || t) (some (record { flag = redone (flag_of c k); regs = replicate w no_reg })) none
    go (inl p) true = let e : k ≡ j = eqb-true k j p in rw p (rw e (opt_lattice.idem (X j)))
    go (inl p) false = let e : k ≡ j = eqb-true k j p in rw p (rw e (opt_none (X j)))
    go (inr p) t = rw p

-- the flag of a tuple is that of its cell
tuple_flag : (o : Option Cell) → paper.flag_in (tuple_opt o) ≡ flag_in o
unfolding tuple_of
tuple_flag none = refl
tuple_flag (some c) = refl

-- compensation: redoing is disable(delFlag), of flags below the largest
pub redoing_compensates : (w : ℕ) (a : List Rec) (ks : List ℕ) → ((k : ℕ) → k ∈ ks → flag_of (in_order a) k < largest_flag) → database (redoing w (in_order a) ks) ≡ compensation (database a) (chosen ks)
unfolding database compensation
redoing_compensates w a ks h = fun_ext λ r. fun_ext λ l. go r l (test (ltb l label_span)) (test (some_of (λ k. eqb (place r l) k) ks))
  where
    R : ℕ → ℕ → Type 0
    R r l =
        cond (ltb l label_span) (tuple_opt (at (place r l) (redoing w (in_order a) ks))) none
        ≡ cond (ltb l label_span && some_of (λ k. eqb (place r l) k) ks) (some (record { fields = no_fields; flag = disable (paper.flag_in (cond (ltb l label_span) (tuple_opt (at (place r l) a)) none)) })) none

    member : (k : ℕ) → some_of (λ j. eqb k j) ks ≡ true → k ∈ ks
    member k e = Rattle.laws.proofs.Shown.listed k ks e

    flag_is : (k : ℕ) → flag_of (in_order a) k ≡ paper.flag_in (tuple_opt (at k a))
    flag_is k = unfold flag_of in (ap flag_in (at_order k a) ∙ sym (tuple_flag (at k a)))

    tuple : (k : ℕ) → k ∈ ks → tuple_of (flag_only w k (redone (flag_of (in_order a) k))).cell ≡ record { fields = no_fields; flag = disable (paper.flag_in (tuple_opt (at k a))) }
    tuple k m = unfold tuple_of flag_only in λ i. record { fields = no_fields_lem w i; flag = (redo_is_8 _ (h k m) ∙ ap disable (flag_is k)) i }

    go : (r l : ℕ) → (ltb l label_span ≡ true) ⊎ (ltb l label_span ≡ false) → (some_of (λ k. eqb (place r l) k) ks ≡ true) ⊎ (some_of (λ k. eqb (place r l) k) ks ≡ false) → R r l
    go r l (inl p) (inl q) = rw (p, redone_at w (in_order a) ks (place r l), q) (ap some (tuple (place r l) (member (place r l) q)))
    go r l (inl p) (inr q) = rw (p, redone_at w (in_order a) ks (place r l), q)
    go r l (inr p) q = rw p

-- the delta of one record and of redone ones
drafted : (w : ℕ) (v : Table) (e : Edit) (x : Rec) (ks : List ℕ) (m : RDb) → e.changed ≡ x ∷ redoing w (in_order v.records) ks → database (x ∷ []) ≡ m → ((k : ℕ) → k ∈ ks → flag_of (in_order v.records) k < largest_flag)
    → database (delta_of w v e).records ≡ join_db join_reg m (compensation (database v.records) (chosen ks))
unfolding delta_of
drafted w v e x ks m c d h = rw c (split_state x (redoing w (in_order v.records) ks) ∙ rw (d, redoing_compensates w v.records ks h))

one_tuple : (k : ℕ) (c : Cell) → database (record { key = k; cell = c } ∷ []) ≡ single (k / label_span) (k % label_span) (tuple_of c)
one_tuple k c = let e = one_state (k / label_span) (k % label_span) c (omega arith) in rw (key_place_lem k) at e

module _ {w : ℕ} {σ : List Relation} (narrow : (r : ℕ) → length (relation_numbered σ r).kinds ≤ w) (few : w < most_records) (v : Table) (good : Valid w σ v) where
  -- (14): "ins_t(db, r, {f ↦ v})", joined with the compensation of case (ii): the targets with an odd flag
  pub insertion_is_14 : (r : ℕ) (vs : List ℕ) → lowest (insertion w σ v r vs).checks ≡ 0
      → database (delta_of w v (insertion w σ v r vs)).records ≡ join_db join_reg (ins (new_label v) r (values_map vs)) (compensation (database v.records) (chosen (odd (in_order v.records) (targets σ is_reference (new_record w v r vs)))))
  unfolding insertion all_of
  insertion_is_14 r vs h =
      let p = passed _ refl h in
      let n = label_new narrow few v good p.1.1.1.1.1.0 in
      let ks = odd (in_order v.records) (targets σ is_reference (new_record w v r vs)) in
      drafted w v (insertion w σ v r vs) (new_record w v r vs) ks (ins (new_label v) r (values_map vs)) refl (new_tuple r vs n) (flags_below narrow few v good ks p.1.1.1.1.1.1.0)
    where
      new_tuple : (q : ℕ) (us : List ℕ) → is_label (new_label v) ≡ true → database (new_record w v q us ∷ []) ≡ ins (new_label v) q (values_map us)
      new_tuple q us n = unfold new_record in (one_state q (new_label v) _ (label_below (new_label v) n) ∙ ap (single q (new_label v)) (unfold tuple_of in λ i. record { fields = stamped_fields (new_label v) us (w - length us) (label_nonzero (new_label v) n) i; flag = 0 }))

  -- (16): "update_t(db, r, t', f, v)", joined with the compensation. Departures that document 01 decides: the new target of an update is redone too, and
  -- the record that keeps an old target is one "other than the updated one".
  pub update_is_16 : (i f new : ℕ) → lowest (update w σ v i f new).checks ≡ 0
      → database (delta_of w v (update w σ v i f new)).records
      ≡ join_db join_reg (updated (new_label v) (relation (record_at v i)) (label (record_at v i)) f new)
      (compensation (database v.records) (chosen (update_redoes σ (in_order v.records) (record_at v i) (get_or (described σ (record_at v i)).kinds (f - 1) 0) (register_at (record_at v i) f).value new)))
  unfolding update all_of
  update_is_16 i f new h =
      let p = passed _ refl h in
      let x = record_at v i in
      let kinds = (described σ x).kinds in
      let seven = unnot (leb 1 f && leb f (length kinds) && value_rule (get_or kinds (f - 1) 0) new) p.1.0 in
      let range = and_left (leb 1 f && leb f (length kinds)) _ seven in
      let a : 1 ≤ f = leb-true 1 f (and_left (leb 1 f) _ range) in
      let b : f ≤ length kinds = leb-true f (length kinds) (and_right (leb 1 f) _ range) in
      let n = label_new narrow few v good p.1.1.1.1.0 in
      drafted w v (update w σ v i f new) (with_register (flag_only w x.key 0) f (reg new (new_label v))) _ _ refl (one_change x.key f new a (wide x f b) n) (flags_below narrow few v good _ p.1.1.1.1.1.0)
    where
      wide : (x : Rec) (f' : ℕ) → f' ≤ length (described σ x).kinds → f' ≤ w
      wide x f' b = unfold described in omega (arith, narrow (relation x), b)

      one_change : (k g u : ℕ) → 1 ≤ g → g ≤ w → is_label (new_label v) ≡ true → database (with_register (flag_only w k 0) g (reg u (new_label v)) ∷ []) ≡ updated (new_label v) (k / label_span) (k % label_span) g u
      one_change k g u a b n = unfold with_register flag_only in (one_tuple k _ ∙ ap (single (k / label_span) (k % label_span)) (unfold tuple_of in λ i. record { fields = one_field w g (reg u (new_label v)) a b (label_nonzero (new_label v) n) i; flag = 0 }))

  -- (15): "del_t(db, r, t')", joined with the compensation of case (i). Departure: the deleted record does not count.
  pub deletion_is_15 : (i : ℕ) → record_at v i ∈ v.records → lowest (deletion w σ v i).checks ≡ 0
      → database (delta_of w v (deletion w σ v i)).records ≡ join_db join_reg (del (database v.records) (relation (record_at v i)) (label (record_at v i))) (compensation (database v.records) (chosen (deletion_redoes σ (in_order v.records) (record_at v i))))
  unfolding deletion all_of
  deletion_is_15 i m h =
      let p = passed _ refl h in
      drafted w v (deletion w σ v i) (flag_only w (record_at v i).key (deleted (record_at v i).cell.flag)) _ _ refl (flag_tuple (record_at v i) m) (flags_below narrow few v good _ p.1.1.0)
    where
      raised : (x : Rec) → x ∈ v.records → deleted x.cell.flag ≡ enable (paper.flag_in (database v.records (relation x) (label x)))
      raised x m = delete_is_7 x.cell.flag (good.records x m).flagged ∙ ap enable (sym (ap paper.flag_in (tuple_at v.records x good.distinct m) ∙ unfold tuple_of in refl))

      flag_tuple : (x : Rec) → x ∈ v.records → database (flag_only w x.key (deleted x.cell.flag) ∷ []) ≡ del (database v.records) (relation x) (label x)
      flag_tuple x m = unfold flag_only in (one_tuple x.key _ ∙ ap (single (relation x) (label x)) (unfold tuple_of in λ i. record { fields = no_fields_lem w i; flag = raised x m i }))
