-- Valid table values: what the tests say, and that a merge of valid tables that fits is valid.
-- Assumes nothing.
use Prim.Native.Nat.{ℕ, suc, max, ◌≤◌, ◌<◌}
use mathlib.Core.Path.{◌≡◌, refl, sym, ◌∙◌, ap}
use mathlib.Core.Logic.{◌⊎◌, inl, inr}
use mathlib.Core.Bool.{Bool, true, false, cond, ◌||◌, ◌&&◌, not}
use mathlib.Core.List.Memᴰ
use mathlib.Core.List.{List, [], ◌∷◌, ◌++◌, map}
use mathlib.Core.Option.{Option, none, some}
use native.Mathlib.Omega.{arith}
use lib.Dec.{eqb, leb}
use lib.ListN.{length}
use borrow.Author.Tests.{eqb-true, eq-eqb, leb-true, le-leb}
use Rattle.crdt.specs.Labels.{largest_counter, is_replica, is_label, counter_of}
use Rattle.crdt.specs.Flags.{largest_flag}
use Rattle.crdt.specs.Cells.{Reg, Cell, up_to, join_reg, join_regs, join_cell}
use Rattle.crdt.proofs.Tests.{test, clash, not_true, not_false, and_left, and_right, and_both, or_cases, or_left, or_right}
use Rattle.model.specs.Layout.{most_records}
use Rattle.model.specs.Lists.{only, all_of}
use Rattle.model.specs.Schemas.{Relation, is_reference, relation_numbered}
use Rattle.model.specs.Records.{Rec, relation, label, has, at, insert, in_order, distinct, Distinct}
use Rattle.model.specs.Tables.{Table}
use Rattle.model.specs.WellFormed.{field_rule}
use Rattle.model.specs.Shown.{described}
use Rattle.model.specs.Merge.{join_held, joined_with, merged_records, merged}
use Rattle.model.specs.Valid.{valid_regs, regs_under, valid_record, valid}
use Rattle.laws.proofs.Lists.{◌∈◌, all_in, in_all, only_in}
use Rattle.laws.proofs.Join.{met, insert_low, insert_same, insert_high}
use Rattle.laws.proofs.Shown.{has_in, in_has}
use Rattle.laws.proofs.Order.{is_some, has_at, at_order, order_rising}
use Rattle.laws.proofs.Members.{absent, at_key}
use Rattle.laws.proofs.Merge.{new, merged_distinct}
use Rattle.crdt.proofs.Tests.{Tri, low, same, high, tri}

-- no key twice, as a test and as a type
pub distinct_true : (s : List Rec) → distinct s ≡ true → Distinct s
unfolding distinct
distinct_true [] h = tt
distinct_true (x ∷ xs) h = (not_true _ (and_left _ _ h), distinct_true xs (and_right (not (has xs x.key)) _ h))

pub true_distinct : (s : List Rec) → Distinct s → distinct s ≡ true
unfolding distinct
true_distinct [] d = refl
true_distinct (x ∷ xs) d = and_both _ _ (not_false _ d.0) (true_distinct xs d.1)

-- what the test of a record says
pub record ValidRecord (w : ℕ) (σ : List Relation) (clock : ℕ) (x : Rec) : Type 0 where
  pub least : 1 ≤ relation x
  pub most : relation x ≤ length σ
  pub labelled : is_label (label x) ≡ true
  pub flagged : x.cell.flag ≤ largest_flag
  pub wide : length x.cell.regs ≡ w
  pub fielded : valid_regs (described σ x).kinds x.cell.regs ≡ true
  pub counted : counter_of (label x) ≤ clock
  pub under : regs_under clock (described σ x).kinds x.cell.regs ≡ true

-- a test of several tests, taken apart from its end
module _ (w : ℕ) (σ : List Relation) (clock : ℕ) (x : Rec) where
  T₁ : Bool
  T₁ = leb 1 (relation x)

  T₂ : Bool
  T₂ = T₁ && leb (relation x) (length σ)

  T₃ : Bool
  T₃ = T₂ && is_label (label x)

  T₄ : Bool
  T₄ = T₃ && leb x.cell.flag largest_flag

  T₅ : Bool
  T₅ = T₄ && eqb (length x.cell.regs) w

  T₆ : Bool
  T₆ = T₅ && valid_regs (described σ x).kinds x.cell.regs

  T₇ : Bool
  T₇ = T₆ && leb (counter_of (label x)) clock

  pub record_true : valid_record w σ clock x ≡ true → ValidRecord w σ clock x
  unfolding valid_record T₁ T₂ T₃ T₄ T₅ T₆ T₇
  record_true h =
      let h₇ = and_left T₇ _ h in
      let h₆ = and_left T₆ _ h₇ in
      let h₅ = and_left T₅ _ h₆ in
      let h₄ = and_left T₄ _ h₅ in
      let h₃ = and_left T₃ _ h₄ in
      let h₂ = and_left T₂ _ h₃ in
      record {
        least = leb-true _ _ (and_left T₁ _ h₂);
        most = leb-true _ _ (and_right T₁ _ h₂);
        labelled = and_right T₂ _ h₃;
        flagged = leb-true _ _ (and_right T₃ _ h₄);
        wide = eqb-true _ _ (and_right T₄ _ h₅);
        fielded = and_right T₅ _ h₆;
        counted = leb-true _ _ (and_right T₆ _ h₇);
        under = and_right T₇ _ h;
      }

  pub true_record : ValidRecord w σ clock x → valid_record w σ clock x ≡ true
  unfolding valid_record
  true_record v =
      and_both _ _
      (and_both _ _
      (and_both _ _
      (and_both _ _
      (and_both _ _ (and_both _ _ (and_both _ _ (le-leb _ _ v.least) (le-leb _ _ v.most)) v.labelled) (le-leb _ _ v.flagged))
      (eq-eqb _ _ v.wide))
      v.fielded)
      (le-leb _ _ v.counted))
      v.under

-- what the test of a table value says
pub record Valid (w : ℕ) (σ : List Relation) (v : Table) : Type 0 where
  pub replica : is_replica v.replica ≡ true
  pub clock : v.clock ≤ largest_counter
  pub used : length v.records ≤ v.capacity
  pub capacity : v.capacity ≤ most_records
  pub records : (x : Rec) → x ∈ v.records → ValidRecord w σ v.clock x
  pub distinct : Distinct v.records

module _ (w : ℕ) (σ : List Relation) (v : Table) where
  V₁ : Bool
  V₁ = is_replica v.replica

  V₂ : Bool
  V₂ = V₁ && leb v.clock largest_counter

  V₃ : Bool
  V₃ = V₂ && leb (length v.records) v.capacity

  V₄ : Bool
  V₄ = V₃ && leb v.capacity most_records

  V₅ : Bool
  V₅ = V₄ && all_of (valid_record w σ v.clock) v.records

  pub valid_true : valid w σ v ≡ true → Valid w σ v
  unfolding valid V₁ V₂ V₃ V₄ V₅
  valid_true h =
      let h₅ = and_left V₅ _ h in
      let h₄ = and_left V₄ _ h₅ in
      let h₃ = and_left V₃ _ h₄ in
      let h₂ = and_left V₂ _ h₃ in
      record {
        replica = and_left V₁ _ h₂;
        clock = leb-true _ _ (and_right V₁ _ h₂);
        used = leb-true _ _ (and_right V₂ _ h₃);
        capacity = leb-true _ _ (and_right V₃ _ h₄);
        records = λ x m. record_true w σ v.clock x (all_in _ x v.records (and_right V₄ _ h₅) m);
        distinct = distinct_true v.records (and_right V₅ _ h);
      }

  pub true_valid : Valid w σ v → valid w σ v ≡ true
  unfolding valid
  true_valid f =
      and_both _ _
      (and_both _ _
      (and_both _ _ (and_both _ _ (and_both _ _ f.replica (le-leb _ _ f.clock)) (le-leb _ _ f.used)) (le-leb _ _ f.capacity))
      (in_all _ v.records (λ x m. true_record w σ v.clock x (f.records x m))))
      (true_distinct v.records f.distinct)

-- a joined register is one of the two
either : (a b : Reg) → (join_reg a b ≡ b) ⊎ (join_reg a b ≡ a)
unfolding join_reg
either a b = go (up_to a b)
  where
    go : (t : Bool) → (cond t b a ≡ b) ⊎ (cond t b a ≡ a)
    go true = inl refl
    go false = inr refl

joined_length : (gs hs : List Reg) → length gs ≡ length hs → length (join_regs gs hs) ≡ length gs
unfolding join_regs
joined_length [] [] e = refl
joined_length [] (h ∷ hs) e = absurd (omega arith)
joined_length (g ∷ gs) [] e = absurd (omega arith)
joined_length (g ∷ gs) (h ∷ hs) e = ap suc (joined_length gs hs (omega arith))

-- what holds of both registers holds of the joined one
of_joined : (P : Reg → Bool) (a b : Reg) → P a ≡ true → P b ≡ true → P (join_reg a b) ≡ true
of_joined P a b p q = go (either a b)
  where
    go : (join_reg a b ≡ b) ⊎ (join_reg a b ≡ a) → P (join_reg a b) ≡ true
    go (inl e) = rw e q
    go (inr e) = rw e p

abbrev zero_reg : Reg → Bool
zero_reg g = eqb g.value 0 && eqb g.stamp 0

zero_joined : (gs hs : List Reg) → all_of zero_reg gs ≡ true → all_of zero_reg hs ≡ true → all_of zero_reg (join_regs gs hs) ≡ true
unfolding all_of join_regs
zero_joined [] hs p q = q
zero_joined (g ∷ gs) [] p q = p
zero_joined (g ∷ gs) (h ∷ hs) p q =
    and_both _ _ (of_joined zero_reg g h (and_left (zero_reg g) _ p) (and_left (zero_reg h) _ q)) (zero_joined gs hs (and_right (zero_reg g) _ p) (and_right (zero_reg h) _ q))

fields_joined_lem : (ks : List ℕ) (gs hs : List Reg) → valid_regs ks gs ≡ true → valid_regs ks hs ≡ true → valid_regs ks (join_regs gs hs) ≡ true
unfolding valid_regs join_regs
fields_joined_lem [] gs hs p q = zero_joined gs hs p q
fields_joined_lem (k ∷ ks) [] hs p q = clash p refl
fields_joined_lem (k ∷ ks) (g ∷ gs) [] p q = clash q refl
fields_joined_lem (k ∷ ks) (g ∷ gs) (h ∷ hs) p q =
    let P : Reg → Bool = λ r. field_rule k r.value r.stamp in
    and_both _ _ (of_joined P g h (and_left (P g) _ p) (and_left (P h) _ q)) (fields_joined_lem ks gs hs (and_right (P g) _ p) (and_right (P h) _ q))

abbrev under_rule : ℕ → ℕ → Reg → Bool
under_rule clock k g = leb (counter_of g.stamp) clock && (not (is_reference k) || leb (counter_of g.value) clock)

under_joined : (c : ℕ) (ks : List ℕ) (gs hs : List Reg) → length gs ≡ length hs → regs_under c ks gs ≡ true → regs_under c ks hs ≡ true → regs_under c ks (join_regs gs hs) ≡ true
unfolding regs_under join_regs
under_joined c [] gs hs e p q = refl
under_joined c (k ∷ ks) [] hs e p q = q
under_joined c (k ∷ ks) (g ∷ gs) [] e p q = p
under_joined c (k ∷ ks) (g ∷ gs) (h ∷ hs) e p q =
    and_both _ _ (of_joined (under_rule c k) g h (and_left (under_rule c k g) _ p) (and_left (under_rule c k h) _ q))
    (under_joined c ks gs hs (omega arith) (and_right (under_rule c k g) _ p) (and_right (under_rule c k h) _ q))

-- a later clock
under_more : (c d : ℕ) (ks : List ℕ) (gs : List Reg) → c ≤ d → regs_under c ks gs ≡ true → regs_under d ks gs ≡ true
unfolding regs_under
under_more c d [] gs l p = refl
under_more c d (k ∷ ks) [] l p = refl
under_more c d (k ∷ ks) (g ∷ gs) l p =
    let f = and_left (under_rule c k g) _ p in
    and_both _ _
    (and_both _ _ (le-leb (counter_of g.stamp) d (omega (arith, leb-true (counter_of g.stamp) c (and_left (leb (counter_of g.stamp) c) _ f)))) (more (or_cases _ _ (and_right (leb (counter_of g.stamp) c) _ f))))
    (under_more c d ks gs l (and_right (under_rule c k g) _ p))
  where
    more : (not (is_reference k) ≡ true) ⊎ (leb (counter_of g.value) c ≡ true) → (not (is_reference k) || leb (counter_of g.value) d) ≡ true
    more (inl e) = or_left _ _ e
    more (inr e) = or_right (not (is_reference k)) _ (le-leb (counter_of g.value) d (omega (arith, leb-true (counter_of g.value) c e)))

module _ {w : ℕ} {σ : List Relation} where
  pub record_more : (c d : ℕ) (x : Rec) → c ≤ d → ValidRecord w σ c x → ValidRecord w σ d x
  record_more c d x l v =
      record {
        least = v.least;
        most = v.most;
        labelled = v.labelled;
        flagged = v.flagged;
        wide = v.wide;
        fielded = v.fielded;
        counted = omega (arith, v.counted);
        under = under_more c d _ _ l v.under;
      }

  pub record_joined_lem : (c k : ℕ) (a b : Cell) → ValidRecord w σ c (record { key = k; cell = a }) → ValidRecord w σ c (record { key = k; cell = b })
      → ValidRecord w σ c (record { key = k; cell = join_cell a b })
  unfolding join_cell described
  record_joined_lem c k a b v u =
      let l : length a.regs ≡ length b.regs = v.wide ∙ sym u.wide in
      record {
        least = v.least;
        most = v.most;
        labelled = v.labelled;
        flagged = omega (arith, v.flagged, u.flagged);
        wide = joined_length a.regs b.regs l ∙ v.wide;
        fielded = fields_joined_lem _ a.regs b.regs v.fielded u.fielded;
        counted = v.counted;
        under = under_joined c _ a.regs b.regs l v.under u.under;
      }

  -- records in order: what holds of all before holds of all after
  insert_valid : (c : ℕ) (e : Rec) (s : List Rec) → ValidRecord w σ c e → ((x : Rec) → x ∈ s → ValidRecord w σ c x) → (x : Rec) → x ∈ insert e s → ValidRecord w σ c x
  unfolding insert
  insert_valid c e [] v h x (Memᴰ.head q) = rw q v
  insert_valid c e [] v h x (Memᴰ.tail m) = absurd (Memᴰ.not-nil m)
  insert_valid c e (y ∷ ys) v h x m = go (tri e.key y.key) (λ k. insert_valid c e ys v (λ z q. h z (Memᴰ.tail q)) x k)
    where
      first : (z : Rec) (zs : List Rec) → ValidRecord w σ c z → (x ∈ zs → ValidRecord w σ c x) → x ∈ z ∷ zs → ValidRecord w σ c x
      first z zs u f (Memᴰ.head q) = rw q u
      first z zs u f (Memᴰ.tail q) = f q

      hy : ValidRecord w σ c y
      hy = h y (Memᴰ.head refl)

      both : e.key ≡ y.key → ValidRecord w σ c (met e y)
      both p = record_joined_lem c y.key y.cell e.cell hy (rw p at v)

      go : Tri e.key y.key → (x ∈ insert e ys → ValidRecord w σ c x) → ValidRecord w σ c x
      go (low p) ih = let m' : x ∈ e ∷ y ∷ ys = rw (insert_low e y ys p) at m in first e (y ∷ ys) v (λ q. h x q) m'
      go (same p) ih = let m' : x ∈ met e y ∷ ys = rw (insert_same e y ys p) at m in first (met e y) ys (both p) (λ q. h x (Memᴰ.tail q)) m'
      go (high p) ih = let m' : x ∈ y ∷ insert e ys = rw (insert_high e y ys p) at m in first y (insert e ys) hy ih m'

  pub order_valid : (c : ℕ) (s : List Rec) → ((x : Rec) → x ∈ s → ValidRecord w σ c x) → (x : Rec) → x ∈ in_order s → ValidRecord w σ c x
  unfolding in_order
  order_valid c [] h x m = absurd (Memᴰ.not-nil m)
  order_valid c (y ∷ ys) h x m = insert_valid c y (in_order ys) (h y (Memᴰ.head refl)) (order_valid c ys (λ z q. h z (Memᴰ.tail q))) x m

pub in_map : (f : Rec → Rec) (y : Rec) (l : List Rec) → y ∈ map f l → (x : Rec) × (x ∈ l) × (y ≡ f x)
in_map f y [] m = absurd (Memᴰ.not-nil m)
in_map f y (x ∷ xs) (Memᴰ.head e) = (x, Memᴰ.head refl, e)
in_map f y (x ∷ xs) (Memᴰ.tail m) = let r = in_map f y xs m in (r.0, Memᴰ.tail r.1, r.2)

module _ {w : ℕ} {σ : List Relation} (a b : Table) (va : Valid w σ a) (vb : Valid w σ b) where
  top : ℕ
  top = max a.clock b.clock

  joined_valid : (x : Rec) → x ∈ a.records → ValidRecord w σ top (joined_with b.records x)
  unfolding joined_with top
  joined_valid x m = go (test (has b.records x.key))
    where
      own : ValidRecord w σ (max a.clock b.clock) x
      own = record_more a.clock (max a.clock b.clock) x (omega arith) (va.records x m)

      other : (y : Rec) → y ∈ b.records → y.key ≡ x.key → ValidRecord w σ (max a.clock b.clock) (record { key = x.key; cell = join_cell x.cell y.cell })
      other y k e = record_joined_lem _ x.key x.cell y.cell own (rw e at (record_more b.clock (max a.clock b.clock) y (omega arith) (vb.records y k)))

      go : (has b.records x.key ≡ true) ⊎ (has b.records x.key ≡ false) → ValidRecord w σ (max a.clock b.clock) (record { key = x.key; cell = join_held x.cell (at x.key b.records) })
      go (inl p) =
          let r = has_in b.records x.key p in
          let e : at x.key b.records ≡ some r.0.cell = at_key b.records r.0 x.key vb.distinct r.1 r.2 in
          rw e (other r.0 r.1 r.2)
      go (inr p) = rw (absent b.records x.key p) own

  -- a merge that fits is valid
  pub merged_valid : length (merged_records a.records b.records) ≤ a.capacity → Valid w σ (merged a b)
  unfolding merged top
  merged_valid l =
      record {
        replica = va.replica;
        clock = omega (arith, va.clock, vb.clock);
        used = l;
        capacity = va.capacity;
        records = λ x m. each x m;
        distinct = merged_distinct a.records b.records va.distinct;
      }
    where
      each : (x : Rec) → x ∈ merged_records a.records b.records → ValidRecord w σ (max a.clock b.clock) x
      each x m = unfold merged_records in go (Memᴰ.append_cases (map (joined_with b.records) a.records) m)
        where
          go : x ∈ map (joined_with b.records) a.records ⊎ x ∈ only (new a.records) (in_order b.records) → ValidRecord w σ (max a.clock b.clock) x
          go (inl k) = let r = in_map (joined_with b.records) x a.records k in rw r.2 (joined_valid r.0 r.1)
          go (inr k) = order_valid _ b.records (λ y q. record_more b.clock (max a.clock b.clock) y (omega arith) (vb.records y q)) x (only_in _ x (in_order b.records) k).0
