-- The end of a draft: the edited record is found in the delta, and its flag or its registers are written.
-- Assumes nothing.
use Prim.Native.Nat.{ℕ, zero, suc, ◌+◌, ◌-◌, ◌≤◌, ◌<◌}
use mathlib.Core.Path.{◌≡◌, refl, sym, ◌∙◌, ap}
use mathlib.Core.Bool.{true, false}
use mathlib.Core.List.{List, [], ◌∷◌, ◌++◌, map}
use mathlib.Core.Option.{Option, some}
use mathlib.Core.Logic.{◌⊎◌, inl, inr, ◌≢◌}
use native.Mathlib.Omega.{arith}
use lib.Dec.{eqb}
use lib.ListN.{length, get_or, set, take, replicate, length-replicate}
use lib.Seq.{set-get_or, set-set}
use borrow.Author.Tests.{eqb-true, eqb-false}
use Rattle.crdt.specs.Cells.{Reg, reg, no_reg, Cell, join_opt}
use Rattle.crdt.proofs.Tests.{test}
use Rattle.model.specs.Layout.{fields}
use Rattle.model.specs.Records.{Rec, place, relation, label, label_span, has, own, at, Rising, position}
use Rattle.model.specs.Tables.{Table, encode}
use Rattle.laws.proofs.Join.{at_tail, ext}
use Rattle.laws.proofs.Members.{at_member, rising_distinct}
use Rattle.wellformed.proofs.Follow.{position_some}
use Rattle.wellformed.proofs.Words.{enc_used, enc_relation, enc_label}
use Rattle.edit_delta.specs.Drafting.{registered, all_registered, Findable, Found}
use Rattle.merge_laws.specs.Absorb.{no_rec, nth, with_records, celled, SoundTable}
use Rattle.merge_laws.proofs.Frames.{fits, celled_length, celled_here, celled_sound, register_words}
use Rattle.edit_delta.proofs.Wanted.{nth_in}

-- the cell of one record of a rising list
module _ (c : Cell) where
  put_rising : (b n : ℕ) (s : List Rec) → Rising b s → Rising b (set s n (record { key = (get_or s n no_rec).key; cell = c }))
  put_rising b n [] r = r
  put_rising b zero (x ∷ xs) r = r
  put_rising b (suc n) (x ∷ xs) r = (r.0, put_rising (suc x.key) n xs r.1)

  put_at : (k n : ℕ) (s : List Rec) → k ≢ (get_or s n no_rec).key → at k (set s n (record { key = (get_or s n no_rec).key; cell = c })) ≡ at k s
  unfolding at
  put_at k n [] h = refl
  put_at k zero (x ∷ xs) h = at_tail k (record { key = x.key; cell = c }) xs h ∙ sym (at_tail k x xs h)
  put_at k (suc n) (x ∷ xs) h = ap (λ (o : Option Cell). join_opt (own k x) o) (put_at k n xs h)

-- records in order that differ in one cell alone
pub celled_order : (s s' : List Rec) (p : ℕ) (c : Cell) → Rising 0 s → Rising 0 s' → 1 ≤ p → p ≤ length s → at (nth s p).key s' ≡ some c
    → ((k : ℕ) → k ≢ (nth s p).key → at k s' ≡ at k s) → celled s p c ≡ s'
celled_order s s' p c r r' a b h other = ext 0 (celled s p c) s' rising r' (λ k. go k (test (eqb k (nth s p).key)))
  where
    rising : Rising 0 (celled s p c)
    rising = unfold celled in put_rising c 0 (p - 1) s r

    here : at (nth s p).key (celled s p c) ≡ some c
    here =
        let z = celled_here s p c a b in
        rw z at (at_member (celled s p c) (nth (celled s p c) p) (rising_distinct 0 (celled s p c) rising) (nth_in (celled s p c) (p - 1) (omega (arith, celled_length s p c))))

    go : (k : ℕ) → (eqb k (nth s p).key ≡ true) ⊎ (eqb k (nth s p).key ≡ false) → at k (celled s p c) ≡ at k s'
    go k (inl e) = let z : k ≡ (nth s p).key = eqb-true k _ e in rw z (here ∙ sym h)
    go k (inr e) = let z = eqb-false k (nth s p).key e in unfold celled in (put_at c k (p - 1) s z) ∙ sym (other k z)

-- a record of a sound table is found by its relation and label
pub findable : (v : Table) (w : SoundTable v) (r l : ℕ) → l < label_span → has v.records (place r l) ≡ true → Findable (encode v) r l
findable v w r l h g =
    let q = position_some (place r l) v.records g in
    let p = position (place r l) v.records in
    let z : (nth v.records p).key ≡ place r l = q.keyed in
    record {
      index = p;
      least = q.from_one;
      most = omega (arith, q.within, enc_used v);
      related = enc_relation v (fits v w).sized p q.from_one q.within ∙ omega arith;
      labelled = enc_label v (fits v w).sized p q.from_one q.within ∙ omega arith;
    }

pub found_within : (v : Table) (r l p : ℕ) → Found (encode v) r l p → p ≤ length v.records
found_within v r l p f = omega (arith, f.most, enc_used v)

pub found_key : (v : Table) (w : SoundTable v) (r l p : ℕ) → Found (encode v) r l p → (nth v.records p).key ≡ place r l
found_key v w r l p f =
    let b = found_within v r l p f in
    let x : relation (nth v.records p) ≡ r = sym (enc_relation v (fits v w).sized p f.least b) ∙ f.related in
    let y : label (nth v.records p) ≡ l = sym (enc_label v (fits v w).sized p f.least b) ∙ f.labelled in
    omega arith

-- the registers of the first n values
module _ (l : ℕ) where
  abbrev stamped : List ℕ → List Reg
  stamped vs = map (λ (x : ℕ). reg x l) vs

  pub one_more : (n j : ℕ) (vs : List ℕ) → n < length vs → set (stamped (take n vs) ++ replicate (suc j) no_reg) n (reg (get_or vs n 0) l) ≡ stamped (take (suc n) vs) ++ replicate j no_reg
  one_more n j [] h = absurd (omega arith)
  one_more zero j (v ∷ vs) h = refl
  one_more (suc n) j (v ∷ vs) h = ap (λ (q : List Reg). reg v l ∷ q) (one_more n j vs (omega arith))

  pub stamped_wide : (n j : ℕ) (vs : List ℕ) → n ≤ length vs → length (stamped (take n vs) ++ replicate j no_reg) ≡ n + j
  stamped_wide zero j vs h = length-replicate j no_reg ∙ omega arith
  stamped_wide (suc n) j [] h = absurd (omega arith)
  stamped_wide (suc n) j (v ∷ vs) h = ap suc (stamped_wide n j vs (omega arith)) ∙ omega arith

unfoldable pub cell_of : ℕ → List ℕ → ℕ → Cell
cell_of l vs n = record { flag = 0; regs = map (λ (x : ℕ). reg x l) (take n vs) ++ replicate (fields - n) no_reg }

-- values written into a record with no stamps
module _ (v : Table) (w : SoundTable v) (p : ℕ) (a : 1 ≤ p) (b : p ≤ length v.records) (l : ℕ) (vs : List ℕ) (few : length vs ≤ fields)
    (empty : (nth v.records p).cell ≡ record { flag = 0; regs = replicate fields no_reg }) where
  cell_wide : (n : ℕ) → n ≤ length vs → length (cell_of l vs n).regs ≡ fields
  unfolding cell_of
  cell_wide n h = stamped_wide l n (fields - n) vs h ∙ omega arith

  cell_next : (n : ℕ) → n < length vs → (cell_of l vs (suc n)).regs ≡ set (cell_of l vs n).regs n (reg (get_or vs n 0) l)
  unfolding cell_of
  cell_next n h =
      let x : fields - n ≡ suc (fields - suc n) = omega arith in
      rw x (sym (one_more l n (fields - suc n) vs h))

  cell_start : celled v.records p (cell_of l vs 0) ≡ v.records
  unfolding celled cell_of
  cell_start =
      let z : record { key = (nth v.records p).key; cell = record { flag = 0; regs = replicate fields no_reg } } ≡ nth v.records p = λ i. record { key = (nth v.records p).key; cell = sym empty i } in
      ap (set v.records (p - 1)) z ∙ set-get_or v.records (p - 1) no_rec

  cell_again : (c d : Cell) → celled (celled v.records p c) p d ≡ celled v.records p d
  unfolding celled
  cell_again c d =
      let z : (nth (celled v.records p c) p).key ≡ (nth v.records p).key = ap (λ (x : Rec). x.key) (celled_here v.records p c a b) in
      ap (λ (k : ℕ). set (celled v.records p c) (p - 1) (record { key = k; cell = d })) z ∙ set-set v.records (p - 1) (record { key = (nth v.records p).key; cell = c }) (record { key = (nth v.records p).key; cell = d })

  pub values_words : (n : ℕ) → n ≤ length vs → all_registered n (encode v) p vs l ≡ encode (with_records v (celled v.records p (cell_of l vs n)))
  unfolding all_registered
  values_words zero h = ap (λ (s : List Rec). encode (with_records v s)) (sym cell_start)
  values_words (suc n) h = ap (λ (d : List ℕ). registered d p n (reg (get_or vs n 0) l)) (values_words n (omega arith)) ∙ step
    where
      v' : Table
      v' = with_records v (celled v.records p (cell_of l vs n))

      cell_flag : (n : ℕ) → (cell_of l vs n).flag ≡ 0
      cell_flag n = unfold cell_of in refl

      w' : SoundTable (with_records v (celled v.records p (cell_of l vs n)))
      w' = celled_sound v w p a b (cell_of l vs n) (omega (arith, cell_flag n)) (cell_wide n (omega arith))

      here : (nth (celled v.records p (cell_of l vs n)) p).cell ≡ cell_of l vs n
      here = ap (λ (x : Rec). x.cell) (celled_here v.records p (cell_of l vs n) a b)

      step : registered (encode (with_records v (celled v.records p (cell_of l vs n)))) p n (reg (get_or vs n 0) l) ≡ encode (with_records v (celled v.records p (cell_of l vs (suc n))))
      step =
          unfold registered in
          (register_words (with_records v (celled v.records p (cell_of l vs n))) w' p a (omega (arith, celled_length v.records p (cell_of l vs n))) (cell_of l vs (suc n)) (omega (arith, cell_flag (suc n))) (cell_wide (suc n) h) n (reg (get_or vs n 0) l) (omega arith)
          (cell_flag (suc n) ∙ sym (cell_flag n) ∙ ap (λ (c : Cell). c.flag) (sym here)) (cell_next n (omega arith) ∙ ap (λ (c : Cell). set c.regs n (reg (get_or vs n 0) l)) (sym here))
          ∙ ap (λ (s : List Rec). encode (with_records v s)) (cell_again (cell_of l vs n) (cell_of l vs (suc n))))
