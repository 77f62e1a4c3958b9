-- The two compensation cases: the records that an edit redoes are those that the paper's cases mark as non-deleted, with the departures that document 01
-- decides. Differences.antt shows each departure on an example.
-- Assumes nothing.
use Prim.Native.Nat.{ℕ, zero, suc, ◌+◌, ◌-◌, ◌*◌, ◌/◌, ◌%◌, ◌≤◌, ◌<◌}
use mathlib.Core.Path.{◌≡◌, refl, sym, ◌∙◌, ap, subst}
use mathlib.Core.Logic.{◌⊎◌, inl, inr, ◌↔◌}
use mathlib.Core.Bool.{Bool, true, false, cond, ◌&&◌, ◌||◌, not}
use mathlib.Core.List.Memᴰ
use mathlib.Core.List.{List, [], ◌∷◌, ◌++◌}
use mathlib.Core.Option.{Option, none, some}
use native.Mathlib.Omega.{arith}
use lib.Dec.{eqb, ltb, leb}
use lib.ListN.{length, get_or}
use borrow.Author.Tests.{eqb-true, eqb-false, ltb-true, lt-ltb, le-leb, leb-true, eq-eqb, ne_eqb}
use Rattle.crdt.specs.Labels.{is_label}
use Rattle.crdt.specs.Flags.{is_odd, is_even}
use Rattle.crdt.specs.Cells.{Reg, no_reg, Cell}
use Rattle.crdt.proofs.Tests.{test, clash, and_left, and_right, and_both, or_cases, not_true, not_false}
use Rattle.model.specs.Lists.{only, some_of}
use Rattle.model.specs.Schemas.{Relation, is_reference, is_abort, leads_to, relation_numbered}
use Rattle.model.specs.Records.{Rec, label_span, place, relation, label, has, at, in_order, Distinct}
use Rattle.model.specs.Tables.{Table}
use Rattle.model.specs.WellFormed.{field_rule}
use Rattle.model.specs.Valid.{valid_regs}
use Rattle.model.specs.Shown.{described, value, rest, complete, live, leads, targets, references}
use Rattle.model.specs.Edits.{flag_in, flag_of, odd, supported, leading, value_rule, values_rule, new_label, new_record, register_at, update_redoes, deletion_redoes}
use Rattle.laws.proofs.Lists.{◌∈◌, only_in, in_only, some_in, in_some}
use Rattle.laws.proofs.Shown.{listed, has_in}
use Rattle.laws.proofs.Order.{at_order}
use Rattle.laws.proofs.Members.{absent, at_member, at_key, in_order_lem, order_in}
use Rattle.laws.proofs.Valid.{Valid, ValidRecord}
use Rattle.laws.proofs.Fields.{label_below, label_nonzero, place_relation, place_label, fields_stamped}
use Rattle.synql.specs.Synql.{Map, Tuple, RDb, ReadTuple, rd_opt, wr_opt, read_tuple, read, enabled, ForeignKeys, MarkedDeleted, ReferencedBy, Referenced, AlsoReferenced, CaseOne, CaseTwo}
use Rattle.synql.specs.Database.{stamped_reg, field_map, tuple_of, tuple_opt, database, foreign_keys, values_map}
use Rattle.synql.proofs.State.{stamp_some, key_place_lem, tuple_at}
use Rattle.synql.proofs.Mutators.{stamped_fields}

-- the register of a field counted from 0
abbrev at_field : List Reg → ℕ → Reg
at_field gs j = get_or gs j no_reg

-- what a record reads as
abbrev pub read_of : Rec → ReadTuple
read_of x = record { values = λ f. rd_opt (field_map x.cell.regs f); deleted = enabled x.cell.flag }

unsome : {A : Type 0} → A → Option A → A
unsome d none = d
unsome d (some y) = y

some_inj : {A : Type 0} (a b : A) → some a ≡ some b → a ≡ b
unfolding unsome
some_inj a b e = ap (unsome a) e

is_some : {A : Type 0} → Option A → Bool
is_some none = false
is_some (some y) = true

none_some : {A X : Type 0} (a : A) → none ≡ some a → X
unfolding is_some
none_some a e = clash {b = true} refl (ap is_some (sym e))

-- a key tells relation and label
place_relation_is : (r l q u : ℕ) → l < label_span → u < label_span → place r l ≡ place q u → r ≡ q
place_relation_is r l q u a b e = omega (arith, a, b, e)

place_label_is : (r l q u : ℕ) → l < label_span → u < label_span → place r l ≡ place q u → l ≡ u
place_label_is r l q u a b e = omega (arith, a, b, e)

-- the first register, and the later ones
first_value : (gs : List Reg) → value gs ≡ (at_field gs 0).value
first_value [] = refl
first_value (g ∷ gs) = refl

later_field : (gs : List Reg) (j : ℕ) → at_field (rest gs) j ≡ at_field gs (suc j)
later_field [] j = refl
later_field (g ∷ gs) j = refl

-- a field, counted from 0, whose nonempty reference leads to a key
abbrev Leading : (ℕ → Bool) → List ℕ → List Reg → ℕ → Type 0
Leading p ks gs k =
    (j : ℕ) × (j < length ks) × (p (get_or ks j 0) ≡ true) × ((at_field gs j).value ≡ 0 → ⊥) × (k ≡ place (leads_to (get_or ks j 0)) (at_field gs j).value)

leading_later : (p : ℕ → Bool) (c : ℕ) (ks : List ℕ) (gs : List Reg) (k : ℕ) → Leading p ks (rest gs) k → Leading p (c ∷ ks) gs k
leading_later p c ks gs k (j, l, e, n, q) =
    let f : (at_field (rest gs) j).value ≡ (at_field gs (suc j)).value = ap (λ (g : Reg). g.value) (later_field gs j) in
    (suc j, omega (arith, l), e, λ z. n (f ∙ z), q ∙ ap (place (leads_to (get_or ks j 0))) f)

leads_from : (p : ℕ → Bool) (ks : List ℕ) (gs : List Reg) (k : ℕ) → k ∈ leads p ks gs → Leading p ks gs k
unfolding leads
leads_from p [] gs k h = elim h [ ]
leads_from p (c ∷ ks) gs k h = step (p c && not (eqb (value gs) 0)) refl h (leads_from p ks (rest gs) k)
  where
    step : (b : Bool) → (p c && not (eqb (value gs) 0)) ≡ b → k ∈ cond b (place (leads_to c) (value gs) ∷ leads p ks (rest gs)) (leads p ks (rest gs))
        → (k ∈ leads p ks (rest gs) → Leading p ks (rest gs) k) → Leading p (c ∷ ks) gs k
    step true e (Memᴰ.head q) f =
        let n : value gs ≡ 0 → ⊥ = eqb-false (value gs) 0 (not_true _ (and_right (p c) _ e)) in
        (0, omega arith, and_left (p c) _ e, λ z. n (first_value gs ∙ z), q ∙ ap (place (leads_to c)) (first_value gs))
    step true e (Memᴰ.tail d) f = leading_later p c ks gs k (f d)
    step false e d f = leading_later p c ks gs k (f d)

leads_at_lem : (p : ℕ → Bool) (ks : List ℕ) (gs : List Reg) (j : ℕ) → j < length ks → p (get_or ks j 0) ≡ true → ((at_field gs j).value ≡ 0 → ⊥)
    → place (leads_to (get_or ks j 0)) (at_field gs j).value ∈ leads p ks gs
unfolding leads
leads_at_lem p [] gs j l e n = absurd (omega arith)
leads_at_lem p (c ∷ ks) gs zero l e n =
    let z : value gs ≡ 0 → ⊥ = λ y. n (sym (first_value gs) ∙ y) in
    rw (e, ne_eqb (value gs) 0 z) (Memᴰ.head (ap (place (leads_to c)) (sym (first_value gs))))
leads_at_lem p (c ∷ ks) gs (suc j) l e n =
    let f : (at_field (rest gs) j).value ≡ (at_field gs (suc j)).value = ap (λ (g : Reg). g.value) (later_field gs j) in
    more (p c && not (eqb (value gs) 0)) (subst (λ v. place (leads_to (get_or ks j 0)) v ∈ leads p ks (rest gs)) f (leads_at_lem p ks (rest gs) j (omega (arith, l)) e (λ z. n (sym f ∙ z))))
  where
    more : (b : Bool) → place (leads_to (get_or ks j 0)) (at_field gs (suc j)).value ∈ leads p ks (rest gs)
        → place (leads_to (get_or ks j 0)) (at_field gs (suc j)).value ∈ cond b (place (leads_to c) (value gs) ∷ leads p ks (rest gs)) (leads p ks (rest gs))
    more true h = Memᴰ.tail h
    more false h = h

-- a nonempty value of a valid record has a stamp, and a nonempty reference is a label
valid_field : (ks : List ℕ) (gs : List Reg) (j : ℕ) → valid_regs ks gs ≡ true → j < length ks → field_rule (get_or ks j 0) (at_field gs j).value (at_field gs j).stamp ≡ true
unfolding valid_regs
valid_field (k ∷ ks) (g ∷ gs) zero h l = and_left (field_rule k g.value g.stamp) _ h
valid_field (k ∷ ks) (g ∷ gs) (suc j) h l = valid_field ks gs j (and_right (field_rule k g.value g.stamp) _ h) (omega (arith, l))
valid_field (k ∷ ks) [] j h l = clash h refl
valid_field [] gs j h l = absurd (omega (arith, l))

field_stamp : (k v s : ℕ) → field_rule k v s ≡ true → (v ≡ 0 → ⊥) → s ≡ 0 → ⊥
unfolding field_rule
field_stamp k v s h n e =
    let a = and_left ((eqb s 0 || is_label s) && (not (eqb s 0) || eqb v 0)) _ h in
    let b : (not (eqb s 0) || eqb v 0) ≡ true = and_right (eqb s 0 || is_label s) _ a in
    let c : eqb v 0 ≡ true = rw (eq-eqb s 0 e) at b in
    n (eqb-true v 0 c)

field_label : (k v s : ℕ) → field_rule k v s ≡ true → is_reference k ≡ true → (v ≡ 0 → ⊥) → v < label_span
unfolding field_rule
field_label k v s h r n =
    let a : (not (is_reference k) || eqb v 0 || is_label v) ≡ true = and_right ((eqb s 0 || is_label s) && (not (eqb s 0) || eqb v 0)) _ h in
    let b : is_label v ≡ true = rw (r, ne_eqb v 0 n) at a in
    label_below v b

-- a foreign key, and the field counted from 0 that it is
foreign_at : (σ : List Relation) (p : ℕ → Bool) (r j : ℕ) → j < length (relation_numbered σ r).kinds → p (get_or (relation_numbered σ r).kinds j 0) ≡ true
    → foreign_keys σ p r (suc j) ≡ some (leads_to (get_or (relation_numbered σ r).kinds j 0))
unfolding foreign_keys
foreign_at σ p r j l e =
    let a : 1 ≤ suc j = omega arith in
    let b : suc j ≤ length (relation_numbered σ r).kinds = omega (arith, l) in
    let c : suc j - 1 ≡ j = omega arith in
    rw (c, le-leb 1 (suc j) a, le-leb (suc j) (length (relation_numbered σ r).kinds) b, e)

foreign_from : (σ : List Relation) (p : ℕ → Bool) (r f q : ℕ) → foreign_keys σ p r f ≡ some q
    → (1 ≤ f) × (f ≤ length (relation_numbered σ r).kinds) × (p (get_or (relation_numbered σ r).kinds (f - 1) 0) ≡ true) × (leads_to (get_or (relation_numbered σ r).kinds (f - 1) 0) ≡ q)
unfolding foreign_keys
foreign_from σ p r f q h = go (leb 1 f) (leb f n) (p k) refl refl refl h
  where
    n : ℕ
    n = length (relation_numbered σ r).kinds

    k : ℕ
    k = get_or (relation_numbered σ r).kinds (f - 1) 0

    go : (a b c : Bool) → leb 1 f ≡ a → leb f n ≡ b → p k ≡ c → cond (a && b && c) (some (leads_to k)) none ≡ some q
        → (1 ≤ f) × (f ≤ n) × (p k ≡ true) × (leads_to k ≡ q)
    go true true true x y z e = (leb-true 1 f x, leb-true f n y, z, some_inj (leads_to k) q e)
    go true true false x y z e = none_some q e
    go true false c x y z e = none_some q e
    go false b c x y z e = none_some q e

-- the value that a field reads as
value_read : (gs : List Reg) (j : ℕ) → ((at_field gs j).stamp ≡ 0 → ⊥) → rd_opt (field_map gs (suc j)) ≡ some (at_field gs j).value
unfolding field_map
value_read gs j n =
    let z : suc j ≡ 0 → ⊥ = omega arith in
    let c : suc j - 1 ≡ j = omega arith in
    rw (ne_eqb (suc j) 0 z, c, stamp_some (at_field gs j) n)

value_at_field : (gs : List Reg) (f : ℕ) → 1 ≤ f → ((at_field gs (f - 1)).stamp ≡ 0 → ⊥) → rd_opt (field_map gs f) ≡ some (at_field gs (f - 1)).value
value_at_field gs f l n = subst (λ j. rd_opt (field_map gs j) ≡ some (at_field gs (f - 1)).value) (omega (arith, l)) (value_read gs (f - 1) n)

-- a new nonempty reference is a label
value_below : (kind new : ℕ) → value_rule kind new ≡ true → is_reference kind ≡ true → (new ≡ 0 → ⊥) → new < label_span
value_below kind new h r n = let b : is_label new ≡ true = rw (r, ne_eqb new 0 n) at h in label_below new b

value_from : (gs : List Reg) (f u : ℕ) → 1 ≤ f → rd_opt (field_map gs f) ≡ some u → (at_field gs (f - 1)).value ≡ u
unfolding field_map stamped_reg
value_from gs f u l h = go (eqb f 0) (eqb (at_field gs (f - 1)).stamp 0) refl h
  where
    go : (a b : Bool) → eqb f 0 ≡ a → rd_opt (cond a none (cond b none (some (at_field gs (f - 1))))) ≡ some u → (at_field gs (f - 1)).value ≡ u
    go true b x e = absurd (omega (arith, l, eqb-true f 0 x))
    go false true x e = none_some u e
    go false false x e = some_inj (at_field gs (f - 1)).value u e

written : (l : ℕ) (o : Option ℕ) → rd_opt (wr_opt l o) ≡ o
written l none = refl
written l (some u) = refl

-- A record's targets of the chosen kinds are what its foreign keys of these kinds refer to.
module _ (σ : List Relation) (p : ℕ → Bool) (refers : (k : ℕ) → p k ≡ true → is_reference k ≡ true) (x : Rec) where
  target_from : (q u : ℕ) → u < label_span → valid_regs (described σ x).kinds x.cell.regs ≡ true → place q u ∈ targets σ p x
      → (f : ℕ) × (foreign_keys σ p (relation x) f ≡ some q) × ((read_of x).values f ≡ some u)
  unfolding targets described
  target_from q u b h m = go (leads_from p _ _ _ m)
    where
      ks : List ℕ
      ks = (relation_numbered σ (relation x)).kinds

      go : Leading p ks x.cell.regs (place q u) → (f : ℕ) × (foreign_keys σ p (relation x) f ≡ some q) × ((read_of x).values f ≡ some u)
      go (j, l, e, n, same) =
          let rule = valid_field ks x.cell.regs j h l in
          let v : (at_field x.cell.regs j).value < label_span = field_label _ _ _ rule (refers _ e) n in
          let rel : q ≡ leads_to (get_or ks j 0) = place_relation_is q u _ _ b v same in
          let lab : u ≡ (at_field x.cell.regs j).value = place_label_is q u (leads_to (get_or ks j 0)) _ b v same in
          (suc j, foreign_at σ p (relation x) j l e ∙ ap some (sym rel), value_read x.cell.regs j (field_stamp _ _ _ rule n) ∙ ap some (sym lab))

  target_to : (q u f : ℕ) → (u ≡ 0 → ⊥) → foreign_keys σ p (relation x) f ≡ some q → (read_of x).values f ≡ some u → place q u ∈ targets σ p x
  unfolding targets described
  target_to q u f n k e = go (foreign_from σ p (relation x) f q k)
    where
      ks : List ℕ
      ks = (relation_numbered σ (relation x)).kinds

      go : (1 ≤ f) × (f ≤ length ks) × (p (get_or ks (f - 1) 0) ≡ true) × (leads_to (get_or ks (f - 1) 0) ≡ q) → place q u ∈ leads p ks x.cell.regs
      go (a, b, c, d) =
          let v = value_from x.cell.regs f u a e in
          let m = leads_at_lem p ks x.cell.regs (f - 1) (omega (arith, a, b)) c (λ z. n (sym v ∙ z)) in
          subst (λ y. place q y ∈ leads p ks x.cell.regs) v (subst (λ y. place y (at_field x.cell.regs (f - 1)).value ∈ leads p ks x.cell.regs) d m)

even_unmarked : (f : ℕ) → is_even f ≡ true → enabled f ≡ false
even_unmarked f e = let z : f % 2 ≡ 0 = eqb-true (f % 2) 0 e in let n : f % 2 ≡ 1 → ⊥ = omega (arith, z) in ne_eqb (f % 2) 1 n

unmarked_even : (f : ℕ) → enabled f ≡ false → is_even f ≡ true
unmarked_even f e = let n : f % 2 ≡ 1 → ⊥ = eqb-false (f % 2) 1 e in let z : f % 2 ≡ 0 = omega (arith, n) in eq-eqb (f % 2) 0 z

any_reference : (k : ℕ) → is_reference k ≡ true → is_reference k ≡ true
any_reference k e = e

abort_reference : (k : ℕ) → is_abort k ≡ true → is_reference k ≡ true
abort_reference k e = and_left (is_reference k) _ e

append_cases : (k : ℕ) (l m : List ℕ) → k ∈ (l ++ m) → (k ∈ l) ⊎ (k ∈ m)
append_cases k [] m h = inr h
append_cases k (x ∷ l) m (Memᴰ.head e) = inl (Memᴰ.head e)
append_cases k (x ∷ l) m (Memᴰ.tail h) = go (append_cases k l m h)
  where
    go : (k ∈ l) ⊎ (k ∈ m) → (k ∈ (x ∷ l)) ⊎ (k ∈ m)
    go (inl a) = inl (Memᴰ.tail a)
    go (inr b) = inr b

append_left : (k : ℕ) (l m : List ℕ) → k ∈ l → k ∈ (l ++ m)
append_left k [] m x' = elim x' [ ]
append_left k (x ∷ l) m (Memᴰ.head e) = Memᴰ.head e
append_left k (x ∷ l) m (Memᴰ.tail h) = Memᴰ.tail (append_left k l m h)

append_right : (k : ℕ) (l m : List ℕ) → k ∈ m → k ∈ (l ++ m)
append_right k [] m h = h
append_right k (x ∷ l) m h = Memᴰ.tail (append_right k l m h)

-- where a value of a field leads
leading_from : (p : ℕ → Bool) (kind new k : ℕ) → k ∈ leading p kind new → (p kind ≡ true) × (new ≡ 0 → ⊥) × (k ≡ place (leads_to kind) new)
unfolding leading
leading_from p kind new k h = go (p kind && not (eqb new 0)) refl h
  where
    go : (b : Bool) → (p kind && not (eqb new 0)) ≡ b → k ∈ cond b (place (leads_to kind) new ∷ []) [] → (p kind ≡ true) × (new ≡ 0 → ⊥) × (k ≡ place (leads_to kind) new)
    go true e (Memᴰ.head q) = (and_left (p kind) _ e, eqb-false new 0 (not_true _ (and_right (p kind) _ e)), q)
    go true e (Memᴰ.tail d) = elim d [ ]
    go false e d = elim d [ ]

leading_at : (p : ℕ → Bool) (kind new : ℕ) → p kind ≡ true → (new ≡ 0 → ⊥) → place (leads_to kind) new ∈ leading p kind new
unfolding leading
leading_at p kind new e n = rw (e, ne_eqb new 0 n) (Memᴰ.head refl)

-- (2), (13): the tuple that records hold under a relation and a label reads as the record, its values by rd and its flag by enabled
module _ {w : ℕ} {σ : List Relation} (v : Table) (good : Valid w σ v) where
  abbrev db : RDb
  db = database v.records

  abbrev c : List Rec
  c = in_order v.records

  abbrev keys : ForeignKeys
  keys = foreign_keys σ is_reference

  abbrev abort_keys : ForeignKeys
  abort_keys = foreign_keys σ is_abort

  pub read_at : (x : Rec) → x ∈ v.records → read db (relation x) (label x) ≡ some (read_of x)
  unfolding tuple_of
  read_at x m = ap read_tuple (tuple_at v.records x good.distinct m)

  record_from : (q u : ℕ) (z : ReadTuple) → read db q u ≡ some z
      → (y : Rec) × (y ∈ v.records) × (y.key ≡ place q u) × (u < label_span) × (read_of y ≡ z)
  unfolding database tuple_of
  record_from q u z h = go (test (ltb u label_span)) (test (has v.records (place q u)))
    where
      go : (ltb u label_span ≡ true) ⊎ (ltb u label_span ≡ false) → (has v.records (place q u) ≡ true) ⊎ (has v.records (place q u) ≡ false)
          → (y : Rec) × (y ∈ v.records) × (y.key ≡ place q u) × (u < label_span) × (read_of y ≡ z)
      go (inl a) (inl b) =
          let y = has_in v.records (place q u) b in
          let e : at (place q u) v.records ≡ some y.0.cell = at_key v.records y.0 (place q u) good.distinct y.1 y.2 in
          let h' = rw (a, e) at h in
          (y.0, y.1, y.2, ltb-true u label_span a, some_inj (read_of y.0) z h')
      go (inl a) (inr b) = let h' = rw (a, absent v.records (place q u) b) at h in none_some z h'
      go (inr a) b = let h' = rw a at h in none_some z h'

  -- of a key: what is marked as deleted has an odd flag
  marked_from : (q u : ℕ) → u < label_span → is_odd (flag_of c (place q u)) ≡ true → MarkedDeleted db q u
  unfolding flag_of database tuple_of
  marked_from q u l h = go (at (place q u) v.records) refl (rw (at_order (place q u) v.records) at h)
    where
      go : (o : Option Cell) → at (place q u) v.records ≡ o → is_odd (flag_in o) ≡ true → MarkedDeleted db q u
      go none e x = clash x refl
      go (some d) e x = (record { values = λ f. rd_opt (field_map d.regs f); deleted = enabled d.flag }, rw (lt-ltb u label_span l, e), x)

  marked_to : (q u : ℕ) → MarkedDeleted db q u → (u < label_span) × (is_label u ≡ true) × (is_odd (flag_of c (place q u)) ≡ true)
  unfolding flag_of
  marked_to q u (z, h, e) = go (record_from q u z h)
    where
      go : (y : Rec) × (y ∈ v.records) × (y.key ≡ place q u) × (u < label_span) × (read_of y ≡ z) → (u < label_span) × (is_label u ≡ true) × (is_odd (flag_in (at (place q u) c)) ≡ true)
      go (y, m, k, l, r) =
          let lab : label y ≡ u = ap (λ n. n % label_span) k ∙ place_label q u l in
          let odd-y : is_odd y.cell.flag ≡ true = ap (λ (s : ReadTuple). s.deleted) r ∙ e in
          let held : at (place q u) c ≡ some y.cell = at_order (place q u) v.records ∙ at_key v.records y (place q u) good.distinct m k in
          (l, subst (λ n. is_label n ≡ true) lab (good.records y m).labelled, ap (λ (o : Option Cell). is_odd (flag_in o)) held ∙ odd-y)

  -- two records of one relation and label have one key
  same_key : (x y : Rec) → relation y ≡ relation x → label y ≡ label x → y.key ≡ x.key
  same_key x y a b =
      sym (key_place_lem y.key) ∙ (λ i. place (a i) (b i)) ∙ key_place_lem x.key

  -- the condition, from document 01's to the paper's: always
  also_from : (x : Rec) (q u : ℕ) → u < label_span → supported σ c x.key (place q u) ≡ true → AlsoReferenced keys db (relation x) (label x) q u
  unfolding supported references live
  also_from x q u l h = go (some_in _ c h)
    where
      go : (y : Rec) × (y ∈ c) × ((not (eqb y.key x.key) && (complete σ y && is_even y.cell.flag) && some_of (λ j. eqb (place q u) j) (targets σ is_reference y)) ≡ true)
          → AlsoReferenced keys db (relation x) (label x) q u
      go (y, m, e) =
          let in-v = in_order_lem v.records good.distinct y m in
          let ab = and_left (not (eqb y.key x.key) && (complete σ y && is_even y.cell.flag)) _ e in
          let other : y.key ≡ x.key → ⊥ = eqb-false y.key x.key (not_true _ (and_left (not (eqb y.key x.key)) _ ab)) in
          let even : is_even y.cell.flag ≡ true = and_right (complete σ y) _ (and_right (not (eqb y.key x.key)) _ ab) in
          let refs = and_right (not (eqb y.key x.key) && (complete σ y && is_even y.cell.flag)) _ e in
          let at_f = target_from σ is_reference any_reference y q u l (good.records y in-v).fielded (listed (place q u) _ refs) in
          record {
            relation = relation y;
            tuple = label y;
            field = at_f.0;
            holds = read_of y;
            another = λ (a, b). other (same_key x y a b);
            present = read_at y in-v;
            unmarked = even_unmarked y.cell.flag even;
            refers = at_f.1;
            value = at_f.2;
          }

  -- from the paper's to document 01's: where all records are complete
  also_to : ((y : Rec) → y ∈ v.records → complete σ y ≡ true) → (x : Rec) (q u : ℕ) → is_label u ≡ true → AlsoReferenced keys db (relation x) (label x) q u → supported σ c x.key (place q u) ≡ true
  unfolding supported references live
  also_to whole x q u l a = go (record_from a.relation a.tuple a.holds a.present)
    where
      go : (y : Rec) × (y ∈ v.records) × (y.key ≡ place a.relation a.tuple) × (a.tuple < label_span) × (read_of y ≡ a.holds)
          → some_of (λ (y : Rec). not (eqb y.key x.key) && (complete σ y && is_even y.cell.flag) && some_of (λ j. eqb (place q u) j) (targets σ is_reference y)) c ≡ true
      go (y, m, k, b, r) =
          let rel : relation y ≡ a.relation = ap (λ n. n / label_span) k ∙ place_relation a.relation a.tuple b in
          let lab : label y ≡ a.tuple = ap (λ n. n % label_span) k ∙ place_label a.relation a.tuple b in
          let other : y.key ≡ x.key → ⊥ = λ e. a.another (sym rel ∙ ap (λ n. n / label_span) e, sym lab ∙ ap (λ n. n % label_span) e) in
          let even = unmarked_even y.cell.flag (ap (λ (s : ReadTuple). s.deleted) r ∙ a.unmarked) in
          let key : keys (relation y) a.field ≡ some q = ap (λ n. keys n a.field) rel ∙ a.refers in
          let val : (read_of y).values a.field ≡ some u = ap (λ (s : ReadTuple). s.values a.field) r ∙ a.value in
          let t = target_to σ is_reference any_reference y q u a.field (label_nonzero u l) key val in
          in_some _ y c (order_in v.records good.distinct y m)
          (and_both _ _ (and_both _ _ (not_false _ (ne_eqb y.key x.key other)) (and_both _ _ (whole y m) even)) (in_some _ (place q u) _ t (eq-eqb (place q u) (place q u) refl)))

  -- what a reference of a record reads as
  referenced_value : (x : Rec) → x ∈ v.records → (f q u : ℕ) → ReferencedBy abort_keys db (relation x) (label x) f q u → (abort_keys (relation x) f ≡ some q) × ((read_of x).values f ≡ some u)
  referenced_value x h f q u (z, p, a, e) = (a, ap (λ (s : ReadTuple). s.values f) (some_inj (read_of x) z (sym (read_at x h) ∙ p)) ∙ e)

  flag_is : (x : Rec) → x ∈ v.records → (k : ℕ) → k ≡ x.key → is_odd (flag_of c k) ≡ is_odd x.cell.flag
  unfolding flag_of
  flag_is x h k e = ap (λ (o : Option Cell). is_odd (flag_in o)) (at_order k v.records ∙ at_key v.records x k good.distinct h (sym e))

  -- (ii), of an insertion: "Each target with an odd flag is redone". r and vs are the relation and the values of the new tuple.
  pub insertion_case : (r : ℕ) (vs : List ℕ) → is_label (new_label v) ≡ true → values_rule (relation_numbered σ r).kinds vs ≡ true → (q u : ℕ) → u < label_span
      → (place q u ∈ odd c (targets σ is_reference (new_record w v r vs))) ↔ CaseTwo db (λ q u. (f : ℕ) × (keys r f ≡ some q) × (values_map vs f ≡ some u)) q u
  unfolding odd
  insertion_case r vs new h q u b = (to, back)
    where
      x : Rec
      x = new_record w v r vs

      rel : relation x ≡ r
      rel = unfold new_record in place_relation r (new_label v) (label_below (new_label v) new)

      regs_are : valid_regs (described σ x).kinds x.cell.regs ≡ true
      regs_are = unfold described in (rw rel (unfold new_record in fields_stamped (new_label v) (relation_numbered σ r).kinds vs (w - length vs) new h))

      values_are : (f : ℕ) → (read_of x).values f ≡ values_map vs f
      values_are f = unfold new_record in (ap (λ (m : Map Reg). rd_opt (m f)) (stamped_fields (new_label v) vs (w - length vs) (label_nonzero (new_label v) new)) ∙ written (new_label v) (values_map vs f))

      to : place q u ∈ only (λ k. is_odd (flag_of c k)) (targets σ is_reference x) → CaseTwo db (λ q u. (f : ℕ) × (keys r f ≡ some q) × (values_map vs f ≡ some u)) q u
      to m =
          let o = only_in _ (place q u) (targets σ is_reference x) m in
          let g = target_from σ is_reference any_reference x q u b regs_are o.0 in
          record { referenced = (g.0, subst (λ n. keys n g.0 ≡ some q) rel g.1, sym (values_are g.0) ∙ g.2); marked = marked_from q u b o.1 }

      back : CaseTwo db (λ q u. (f : ℕ) × (keys r f ≡ some q) × (values_map vs f ≡ some u)) q u → place q u ∈ only (λ k. is_odd (flag_of c k)) (targets σ is_reference x)
      back k =
          let z = marked_to q u k.marked in
          let g = k.referenced in
          let m = target_to σ is_reference any_reference x q u g.0 (label_nonzero u z.1) (subst (λ n. keys n g.0 ≡ some q) (sym rel) g.1) (values_are g.0 ∙ g.2) in
          in_only _ (place q u) (targets σ is_reference x) m z.2

  -- (i), of a deletion: what it redoes, case (i) marks
  pub deletion_case : (x : Rec) → x ∈ v.records → (q u : ℕ) → u < label_span → place q u ∈ deletion_redoes σ c x
      → CaseOne keys db (Referenced abort_keys db (relation x) (label x)) (relation x) (label x) q u
  unfolding deletion_redoes odd
  deletion_case x h q u b m =
      let o = only_in _ (place q u) _ m in
      let s = only_in _ (place q u) (targets σ is_abort x) o.0 in
      let g = target_from σ is_abort abort_reference x q u b (good.records x h).fielded s.0 in
      record { referenced = (g.0, (read_of x, read_at x h, g.1, g.2)); marked = marked_from q u b o.1; also = also_from x q u b (and_right (not (eqb (place q u) x.key)) _ s.1) }

  -- and what case (i) marks, it redoes, where all records are complete. An accepted deletion finds an even flag, so that the record itself is not
  -- among them.
  pub deletion_case_back : ((y : Rec) → y ∈ v.records → complete σ y ≡ true) → (x : Rec) → x ∈ v.records → is_even x.cell.flag ≡ true → (q u : ℕ)
      → CaseOne keys db (Referenced abort_keys db (relation x) (label x)) (relation x) (label x) q u → place q u ∈ deletion_redoes σ c x
  unfolding deletion_redoes odd
  deletion_case_back whole x h even q u k =
      let z = marked_to q u k.marked in
      let g = referenced_value x h k.referenced.0 q u k.referenced.1 in
      let m = target_to σ is_abort abort_reference x q u k.referenced.0 (label_nonzero u z.1) g.0 g.1 in
      let other : place q u ≡ x.key → ⊥ = λ e. clash (sym (flag_is x h (place q u) e) ∙ z.2) (even_unmarked x.cell.flag even) in
      in_only _ (place q u) _ (in_only _ (place q u) (targets σ is_abort x) m (and_both _ _ (not_false _ (ne_eqb (place q u) x.key other)) (also_to whole x q u z.1 k.also))) z.2

  -- (i), of an update of field f to a new value: what it redoes, case (i) marks, of the old target. Departure: "For references the new target is redone if
  -- odd", which is case (ii) for the new value.
  pub update_case : (x : Rec) → x ∈ v.records → (f new : ℕ) → 1 ≤ f → f ≤ length (described σ x).kinds → value_rule (get_or (described σ x).kinds (f - 1) 0) new ≡ true
      → (q u : ℕ) → u < label_span → place q u ∈ update_redoes σ c x (get_or (described σ x).kinds (f - 1) 0) (register_at x f).value new
      → CaseTwo db (λ q u. (keys (relation x) f ≡ some q) × (new ≡ u)) q u ⊎ CaseOne keys db (ReferencedBy abort_keys db (relation x) (label x) f) (relation x) (label x) q u
  unfolding update_redoes odd described register_at
  update_case x h f new one most rule q u b m = go (append_cases (place q u) (leading is_reference kind new) _ o.0)
    where
      kinds : List ℕ
      kinds = (relation_numbered σ (relation x)).kinds

      kind : ℕ
      kind = get_or kinds (f - 1) 0

      old : ℕ
      old = (at_field x.cell.regs (f - 1)).value

      test_old : ℕ → Bool
      test_old t = not (eqb old new) && supported σ c x.key t

      o : (place q u ∈ (leading is_reference kind new ++ only test_old (leading is_abort kind old))) × (is_odd (flag_of c (place q u)) ≡ true)
      o = only_in _ (place q u) _ m

      key_at_lem : (p : ℕ → Bool) → p kind ≡ true → foreign_keys σ p (relation x) f ≡ some (leads_to kind)
      key_at_lem p e = unfold foreign_keys in rw (le-leb 1 f one, le-leb f (length kinds) most, e)

      go : (place q u ∈ leading is_reference kind new) ⊎ (place q u ∈ only test_old (leading is_abort kind old))
          → CaseTwo db (λ q u. (keys (relation x) f ≡ some q) × (new ≡ u)) q u ⊎ CaseOne keys db (ReferencedBy abort_keys db (relation x) (label x) f) (relation x) (label x) q u
      go (inl a) =
          let g = leading_from is_reference kind new (place q u) a in
          let below : new < label_span = value_below kind new rule g.0 g.1 in
          let rel = place_relation_is q u (leads_to kind) new b below g.2 in
          let lab = place_label_is q u (leads_to kind) new b below g.2 in
          inl (record { referenced = (key_at_lem is_reference g.0 ∙ ap some (sym rel), sym lab); marked = marked_from q u b o.1 })
      go (inr a) =
          let s = only_in test_old (place q u) (leading is_abort kind old) a in
          let g = leading_from is_abort kind old (place q u) s.0 in
          let field = valid_field kinds x.cell.regs (f - 1) (good.records x h).fielded (omega (arith, one, most)) in
          let below : old < label_span = field_label kind old _ field (abort_reference kind g.0) g.1 in
          let rel = place_relation_is q u (leads_to kind) old b below g.2 in
          let lab = place_label_is q u (leads_to kind) old b below g.2 in
          let reads : (read_of x).values f ≡ some old = value_at_field x.cell.regs f one (field_stamp kind old _ field g.1) in
          inr (record {
            referenced = (read_of x, read_at x h, key_at_lem is_abort g.0 ∙ ap some (sym rel), reads ∙ ap some (sym lab));
            marked = marked_from q u b o.1;
            also = also_from x q u b (and_right (not (eqb old new)) _ s.1);
          })

  -- and what the cases mark, it redoes: the new target always
  pub update_case_new : (x : Rec) (f new q u : ℕ) → CaseTwo db (λ q u. (keys (relation x) f ≡ some q) × (new ≡ u)) q u
      → place q u ∈ update_redoes σ c x (get_or (described σ x).kinds (f - 1) 0) (register_at x f).value new
  unfolding update_redoes odd described register_at
  update_case_new x f new q u k =
      let z = marked_to q u k.marked in
      let g = foreign_from σ is_reference (relation x) f q k.referenced.0 in
      let n : new ≡ 0 → ⊥ = λ e. label_nonzero u z.1 (sym k.referenced.1 ∙ e) in
      let m = leading_at is_reference (get_or (relation_numbered σ (relation x)).kinds (f - 1) 0) new g.2 n in
      let m' = subst (λ y. place q y ∈ leading is_reference (get_or (relation_numbered σ (relation x)).kinds (f - 1) 0) new) k.referenced.1 (subst (λ y. place y new ∈ leading is_reference (get_or (relation_numbered σ (relation x)).kinds (f - 1) 0) new) g.3 m) in
      in_only _ (place q u) _ (append_left (place q u) _ _ m') z.2

  -- the old target where all records are complete and the value changes
  pub update_case_old : ((y : Rec) → y ∈ v.records → complete σ y ≡ true) → (x : Rec) → x ∈ v.records → (f new : ℕ) → ((register_at x f).value ≡ new → ⊥) → (q u : ℕ)
      → CaseOne keys db (ReferencedBy abort_keys db (relation x) (label x) f) (relation x) (label x) q u
      → place q u ∈ update_redoes σ c x (get_or (described σ x).kinds (f - 1) 0) (register_at x f).value new
  unfolding update_redoes odd described register_at
  update_case_old whole x h f new differ q u k =
      let z = marked_to q u k.marked in
      let r = referenced_value x h f q u k.referenced in
      let g = foreign_from σ is_abort (relation x) f q r.0 in
      let old_is = value_from x.cell.regs f u g.0 r.1 in
      let n : (at_field x.cell.regs (f - 1)).value ≡ 0 → ⊥ = λ e. label_nonzero u z.1 (sym old_is ∙ e) in
      let m = leading_at is_abort (get_or (relation_numbered σ (relation x)).kinds (f - 1) 0) (at_field x.cell.regs (f - 1)).value g.2 n in
      let m' = subst (λ k'. k' ∈ leading is_abort (get_or (relation_numbered σ (relation x)).kinds (f - 1) 0) (at_field x.cell.regs (f - 1)).value) (λ i. place (g.3 i) (old_is i)) m in
      let s = also_to whole x q u z.1 k.also in
      let old : ℕ = (at_field x.cell.regs (f - 1)).value in
      let kind : ℕ = get_or (relation_numbered σ (relation x)).kinds (f - 1) 0 in
      let part = in_only (λ t. not (eqb old new) && supported σ c x.key t) (place q u) (leading is_abort kind old) m' (and_both _ _ (not_false _ (ne_eqb old new differ)) s) in
      in_only _ (place q u) _ (append_right (place q u) (leading is_reference kind new) _ part) z.2
