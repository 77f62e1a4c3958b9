-- Behind or alike is a partial order on contents, with the merge as the least content above both, and the verdict says exactly which holds
-- (document 02, F-3).
-- Assumes nothing.
use Prim.Native.Nat.{ℕ}
use mathlib.Core.Path.{◌≡◌, refl, sym, ◌∙◌, ap, ap₂}
use mathlib.Core.Logic.{◌⊎◌, inl, inr, ◌≢◌, ◌↔◌}
use mathlib.Core.Bool.{Bool, true, false, cond, ◌&&◌}
use mathlib.Core.List.{List, [], ◌∷◌}
use mathlib.Core.Option.{Option, none, some}
use native.Mathlib.Omega.{arith}
use lib.Dec.{eqb}
use borrow.Author.Tests.{eqb-true, eq-eqb}
use Rattle.crdt.specs.Cells.{Reg, Cell, join_cell, join_opt}
use Rattle.crdt.proofs.Tests.{test, clash, and_left, and_right, and_both}
use Rattle.crdt.proofs.Lattice.{cell_lattice}
use Rattle.model.specs.Records.{Rec, has, at, in_order, join, Distinct}
use Rattle.model.specs.Tables.{decode, Contents, contents}
use Rattle.model.specs.Merge.{join_held, joined_with, merged_records}
use Rattle.model.specs.Compare.{join_contents, same_regs, same_recs, same_contents, alike, first_behind, second_behind, neither, compared, Within, Ordered, PartialOrder, LeastAbove, Exact}
use Rattle.laws.proofs.Lists.{◌∈◌}
use Rattle.laws.proofs.Join.{nothing, at_join, join_rising, join_comm, join_assoc, join_idem}
use Rattle.laws.proofs.Shown.{in_has}
use Rattle.laws.proofs.Order.{order_rising, is_some, has_at, at_order}
use Rattle.laws.proofs.Members.{at_member}
use Rattle.laws.proofs.Merge.{none_new, map_self, append_nil}

both : (n m : ℕ) (s t : List Rec) → n ≡ m → s ≡ t → ◌≡◌ {A = Contents} (record { clock = n; records = s }) (record { clock = m; records = t })
both n m s t e f = ap (λ (k : ℕ). record { clock = k; records = s }) e ∙ ap (λ (x : List Rec). record { clock = m; records = x }) f

pub contents_comm : (a b : Contents) → Ordered a → Ordered b → join_contents a b ≡ join_contents b a
unfolding join_contents
contents_comm a b x y = both _ _ _ _ (omega arith) (join_comm a.records b.records x y)

pub contents_assoc : (a b c : Contents) → Ordered a → join_contents (join_contents a b) c ≡ join_contents a (join_contents b c)
unfolding join_contents
contents_assoc a b c x = both _ _ _ _ (omega arith) (join_assoc a.records b.records c.records x)

pub contents_idem : (a : Contents) → Ordered a → join_contents a a ≡ a
unfolding join_contents
contents_idem a x = both _ _ _ _ (omega arith) (join_idem a.records x)

pub contents_ordered : (a b : Contents) → Ordered a → Ordered (join_contents a b)
unfolding join_contents
contents_ordered a b x = join_rising a.records b.records x

-- Every table has such contents as the order speaks of.
pub table_ordered : (t : List ℕ) → Ordered (contents t)
unfolding contents
table_ordered t = order_rising (decode t).records

pub partial_order : PartialOrder
partial_order =
    record {
      reflexive = contents_idem;
      transitive = λ a b c x y z h g. ap (join_contents a) (sym g) ∙ sym (contents_assoc a b c x) ∙ ap (λ (w : Contents). join_contents w c) h ∙ g;
      antisymmetric = λ a b x y h g. sym g ∙ contents_comm b a y x ∙ h;
    }

pub least_above_lem : LeastAbove
least_above_lem =
    record {
      ordered = λ a b x y. contents_ordered a b x;
      first = λ a b x y. sym (contents_assoc a a b x) ∙ ap (λ (w : Contents). join_contents w b) (contents_idem a x);
      second = λ a b x y.
          ap (join_contents b) (contents_comm a b x y) ∙ sym (contents_assoc b b a y) ∙ ap (λ (w : Contents). join_contents w a) (contents_idem b y) ∙ contents_comm b a y x;
      least = λ a b c x y z h g. contents_assoc a b c x ∙ ap (join_contents a) g ∙ h;
    }

-- The test of equal contents is equality.
regs_equal : (xs ys : List Reg) → same_regs xs ys ≡ true → xs ≡ ys
unfolding same_regs
regs_equal [] [] h = refl
regs_equal [] (y ∷ ys) h = clash h refl
regs_equal (x ∷ xs) [] h = clash h refl
regs_equal (x ∷ xs) (y ∷ ys) h =
    let p = and_left (eqb x.value y.value && eqb x.stamp y.stamp) (same_regs xs ys) h in
    let v : x.value ≡ y.value = eqb-true _ _ (and_left (eqb x.value y.value) (eqb x.stamp y.stamp) p) in
    let s : x.stamp ≡ y.stamp = eqb-true _ _ (and_right (eqb x.value y.value) (eqb x.stamp y.stamp) p) in
    let e : x ≡ y = λ i. record { value = v i; stamp = s i } in
    ap₂ (λ (a : Reg) (l : List Reg). a ∷ l) e (regs_equal xs ys (and_right (eqb x.value y.value && eqb x.stamp y.stamp) (same_regs xs ys) h))

regs_same : (xs : List Reg) → same_regs xs xs ≡ true
unfolding same_regs
regs_same [] = refl
regs_same (x ∷ xs) = and_both _ _ (and_both _ _ (eq-eqb x.value x.value refl) (eq-eqb x.stamp x.stamp refl)) (regs_same xs)

module _ (x y : Rec) (xs ys : List Rec) where
  K : Bool
  K = eqb x.key y.key

  F : Bool
  F = eqb x.cell.flag y.cell.flag

  R : Bool
  R = same_regs x.cell.regs y.cell.regs

  first_equal : (K && F && R) ≡ true → x ≡ y
  unfolding K F R
  first_equal h =
      let p = and_left (K && F) R h in
      let k : x.key ≡ y.key = eqb-true _ _ (and_left K F p) in
      let f : x.cell.flag ≡ y.cell.flag = eqb-true _ _ (and_right K F p) in
      let g : x.cell.regs ≡ y.cell.regs = regs_equal _ _ (and_right (K && F) R h) in
      λ i. record { key = k i; cell = record { flag = f i; regs = g i } }

  more_equal : same_recs (x ∷ xs) (y ∷ ys) ≡ true → (same_recs xs ys ≡ true → xs ≡ ys) → x ∷ xs ≡ y ∷ ys
  unfolding same_recs K F R
  more_equal h ih = ap₂ (λ (a : Rec) (l : List Rec). a ∷ l) (first_equal (and_left (K && F && R) (same_recs xs ys) h)) (ih (and_right (K && F && R) (same_recs xs ys) h))

recs_equal : (xs ys : List Rec) → same_recs xs ys ≡ true → xs ≡ ys
unfolding same_recs
recs_equal [] [] h = refl
recs_equal [] (y ∷ ys) h = clash h refl
recs_equal (x ∷ xs) [] h = clash h refl
recs_equal (x ∷ xs) (y ∷ ys) h = more_equal x y xs ys h (recs_equal xs ys)

recs_same : (xs : List Rec) → same_recs xs xs ≡ true
unfolding same_recs
recs_same [] = refl
recs_same (x ∷ xs) =
    and_both _ _ (and_both _ _ (and_both _ _ (eq-eqb x.key x.key refl) (eq-eqb x.cell.flag x.cell.flag refl)) (regs_same x.cell.regs))
    (recs_same xs)

contents_same : (a : Contents) → same_contents a a ≡ true
unfolding same_contents
contents_same a = and_both _ _ (eq-eqb a.clock a.clock refl) (recs_same a.records)

pub same_equal : (a b : Contents) → same_contents a b ≡ true → a ≡ b
unfolding same_contents
same_equal a b h =
    both _ _ _ _ (eqb-true _ _ (and_left (eqb a.clock b.clock) (same_recs a.records b.records) h))
    (recs_equal _ _ (and_right (eqb a.clock b.clock) (same_recs a.records b.records) h))

pub equal_same : (a b : Contents) → a ≡ b → same_contents a b ≡ true
equal_same a b e = ap (λ (w : Contents). same_contents w b) e ∙ contents_same b

-- Two tests that follow from each other.
agree : (x y : Bool) → (x ≡ true → y ≡ true) → (y ≡ true → x ≡ true) → x ≡ y
agree true y f g = sym (f refl)
agree false true f g = g refl
agree false false f g = refl

-- Alike exactly if each is behind or alike, and the test of the second so is the test of the join with the first.
pub within_mutual : (a b : Contents) → Ordered a → Ordered b → same_contents a b ≡ (same_contents (join_contents a b) b && same_contents (join_contents b a) a)
within_mutual a b x y = agree _ _ to from
  where
    to : same_contents a b ≡ true → (same_contents (join_contents a b) b && same_contents (join_contents b a) a) ≡ true
    to h =
        let e = same_equal a b h in
        and_both _ _ (equal_same (join_contents a b) b (ap (λ (w : Contents). join_contents w b) e ∙ contents_idem b y))
        (equal_same (join_contents b a) a (ap (λ (w : Contents). join_contents w a) (sym e) ∙ contents_idem a x))

    from : (same_contents (join_contents a b) b && same_contents (join_contents b a) a) ≡ true → same_contents a b ≡ true
    from h =
        equal_same a b
        (partial_order.antisymmetric a b x y (same_equal _ _ (and_left (same_contents (join_contents a b) b) (same_contents (join_contents b a) a) h))
        (same_equal _ _ (and_right (same_contents (join_contents a b) b) (same_contents (join_contents b a) a) h)))

pub within_other : (a b : Contents) → Ordered a → Ordered b → same_contents (join_contents a b) a ≡ same_contents (join_contents b a) a
within_other a b x y = ap (λ (w : Contents). same_contents w a) (contents_comm a b x y)

-- The verdict from the two tests: the first within the second, and the second within the first.
chosen : Bool → Bool → Bool → ℕ
chosen e x y = cond e alike (cond x first_behind (cond y second_behind neither))

module _ (a b : Contents) (oa : Ordered a) (ob : Ordered b) (x y : Bool) (ex : x ≡ same_contents (join_contents a b) b) (ey : y ≡ same_contents (join_contents b a) a) where
  verdict : chosen (x && y) x y ≡ compared a b
  unfolding chosen compared
  verdict =
      ap₂ (λ (v w : Bool). chosen (v && w) v w) ex ey
      ∙ ap₂ (λ (v w : Bool). chosen v (same_contents (join_contents a b) b) w) (sym (within_mutual a b oa ob)) (sym (within_other a b oa ob))

  pub verdict_alike : (x && y) ≡ true → alike ≡ compared a b
  unfolding chosen
  verdict_alike h = ap (λ (e : Bool). chosen e x y) (sym h) ∙ verdict

  pub verdict_first : (x && y) ≡ false → x ≡ true → first_behind ≡ compared a b
  unfolding chosen
  verdict_first h p = ap₂ (λ (e v : Bool). chosen e v y) (sym h) (sym p) ∙ verdict

  pub verdict_second : x ≡ false → y ≡ true → second_behind ≡ compared a b
  unfolding chosen
  verdict_second p q = ap₂ (λ (v w : Bool). chosen (v && w) v w) (sym p) (sym q) ∙ verdict

  pub verdict_neither : x ≡ false → y ≡ false → neither ≡ compared a b
  unfolding chosen
  verdict_neither p q = ap₂ (λ (v w : Bool). chosen (v && w) v w) (sym p) (sym q) ∙ verdict

-- The verdict is exact: what each one says of the tests.
differs : (a b : Contents) → a ≢ b → same_contents a b ≡ false
differs a b n = go (test (same_contents a b))
  where
    go : (same_contents a b ≡ true) ⊎ (same_contents a b ≡ false) → same_contents a b ≡ false
    go (inl p) = absurd (n (same_equal a b p))
    go (inr p) = p

unlike : (a b : Contents) → same_contents a b ≡ false → a ≢ b
unlike a b p e = clash (equal_same a b e) p

-- The tests that a verdict was chosen by.
alike_by : (e x y : Bool) → chosen e x y ≡ alike → e ≡ true
unfolding chosen
alike_by true x y h = refl
alike_by false true y h = absurd (omega arith)
alike_by false false true h = absurd (omega arith)
alike_by false false false h = absurd (omega arith)

first_by : (e x y : Bool) → chosen e x y ≡ first_behind → (e ≡ false) × (x ≡ true)
unfolding chosen
first_by true x y h = absurd (omega arith)
first_by false true y h = (refl, refl)
first_by false false true h = absurd (omega arith)
first_by false false false h = absurd (omega arith)

second_by : (e x y : Bool) → chosen e x y ≡ second_behind → (e ≡ false) × (y ≡ true)
unfolding chosen
second_by true x y h = absurd (omega arith)
second_by false true y h = absurd (omega arith)
second_by false false true h = (refl, refl)
second_by false false false h = absurd (omega arith)

neither_by : (e x y : Bool) → chosen e x y ≡ neither → (x ≡ false) × (y ≡ false)
unfolding chosen
neither_by true x y h = absurd (omega arith)
neither_by false true y h = absurd (omega arith)
neither_by false false true h = absurd (omega arith)
neither_by false false false h = (refl, refl)

module _ (a b : Contents) where
  E : Bool
  E = same_contents a b

  X : Bool
  X = same_contents (join_contents a b) b

  Y : Bool
  Y = same_contents (join_contents a b) a

  chosen_is : compared a b ≡ chosen E X Y
  unfolding compared chosen E X Y
  chosen_is = refl

  equal_exact : (compared a b ≡ alike) ↔ (a ≡ b)
  unfolding chosen E
  equal_exact = (λ h. same_equal a b (alike_by E X Y (sym chosen_is ∙ h)), λ e. chosen_is ∙ ap (λ (v : Bool). chosen v X Y) (equal_same a b e))

  behind_exact : (compared a b ≡ first_behind) ↔ (Within a b × (a ≢ b))
  unfolding chosen E X
  behind_exact = (
    λ h. let p = first_by E X Y (sym chosen_is ∙ h) in (same_equal (join_contents a b) b p.1, unlike a b p.0),
    λ w. chosen_is ∙ ap₂ (λ (v u : Bool). chosen v u Y) (differs a b w.1) (equal_same (join_contents a b) b w.0),
  )

  module _ (oa : Ordered a) (ob : Ordered b) where
    swap : join_contents a b ≡ join_contents b a
    swap = contents_comm a b oa ob

    ahead_exact : (compared a b ≡ second_behind) ↔ (Within b a × (a ≢ b))
    unfolding chosen E X Y
    ahead_exact = (to, from)
      where
        to : compared a b ≡ second_behind → Within b a × (a ≢ b)
        to h = let p = second_by E X Y (sym chosen_is ∙ h) in (sym swap ∙ same_equal (join_contents a b) a p.1, unlike a b p.0)

        from : Within b a × (a ≢ b) → compared a b ≡ second_behind
        from w =
            let n : join_contents a b ≢ b = λ e. w.1 (partial_order.antisymmetric a b oa ob e w.0) in
            chosen_is ∙ ap₂ (λ (v u : Bool). chosen v u Y) (differs a b w.1) (differs (join_contents a b) b n) ∙ ap (λ (v : Bool). chosen false false v) (equal_same (join_contents a b) a (swap ∙ w.0))

    apart_exact : (compared a b ≡ neither) ↔ ((Within a b → ⊥) × (Within b a → ⊥))
    unfolding chosen E X Y
    apart_exact = (to, from)
      where
        to : compared a b ≡ neither → (Within a b → ⊥) × (Within b a → ⊥)
        to h = let p = neither_by E X Y (sym chosen_is ∙ h) in (unlike (join_contents a b) b p.0, λ w. unlike (join_contents a b) a p.1 (swap ∙ w))

        from : (Within a b → ⊥) × (Within b a → ⊥) → compared a b ≡ neither
        from w =
            let n : a ≢ b = λ e. w.0 (ap (λ (u : Contents). join_contents u b) e ∙ contents_idem b ob) in
            chosen_is ∙ ap₂ (λ (v u : Bool). chosen v u Y) (differs a b n) (differs (join_contents a b) b w.0) ∙ ap (λ (v : Bool). chosen false false v) (differs (join_contents a b) a (λ e. w.1 (sym swap ∙ e)))

pub exact : Exact
exact = record { equal = equal_exact; behind = behind_exact; ahead = ahead_exact; apart = apart_exact }

-- Records merged with others that they hold stay as they are, at their positions.
module _ (a b : List Rec) (d : Distinct b) (h : join (in_order a) (in_order b) ≡ in_order b) where
  at_held : (k : ℕ) → join_opt (at k a) (at k b) ≡ at k b
  at_held k = cc (ap (at k) h, at_join k (in_order a) (in_order b), at_order k a, at_order k b)

  joined_held : (c : Cell) (o : Option Cell) → join_opt o (some c) ≡ some c → join_held c o ≡ c
  unfolding join_opt
  joined_held c none e = refl
  joined_held c (some x) e = let f : join_cell x c ≡ c = cc in cell_lattice.comm c x ∙ f

  record_kept : (x : Rec) → x ∈ b → joined_with a x ≡ x
  unfolding joined_with
  record_kept x m =
      let e = ap (join_opt (at x.key a)) (sym (at_member b x d m)) ∙ at_held x.key ∙ at_member b x d m in
      let f = joined_held x.cell (at x.key a) e in
      λ i. record { key = x.key; cell = f i }

  some_held : (o p : Option Cell) → is_some o ≡ true → join_opt o p ≡ p → is_some p ≡ true
  unfolding join_opt is_some
  some_held none p e g = clash e refl
  some_held (some c) none e g = nothing c (sym g)
  some_held (some c) (some x) e g = refl

  has_held : (y : Rec) → y ∈ in_order a → has b y.key ≡ true
  has_held y m =
      let e : is_some (at y.key a) ≡ true = ap is_some (sym (at_order y.key a)) ∙ sym (has_at (in_order a) y.key) ∙ in_has (in_order a) y y.key m refl in
      has_at b y.key ∙ some_held (at y.key a) (at y.key b) e (at_held y.key)

  pub merged_within : merged_records b a ≡ b
  unfolding merged_records
  merged_within = rw (map_self a b record_kept, none_new b (in_order a) has_held) (append_nil b)
