-- Joining a record of another table into a record, word by word.
-- Assumes nothing.
use Prim.Native.Nat.{ℕ, zero, suc, ◌+◌, ◌-◌, ◌≤◌, ◌<◌, max}
use mathlib.Core.Path.{◌≡◌, refl, sym, ◌∙◌, ap, ap₂}
use mathlib.Core.Bool.{Bool, true, false, ◌||◌, not}
use mathlib.Core.List.{List, [], ◌∷◌}
use mathlib.Core.Logic.{◌⊎◌, inl, inr}
use native.Mathlib.Omega.{arith}
use lib.Dec.{eqb}
use lib.ListN.{length, get_or, set, length-set}
use lib.Seq.{get_or-set_same, get_or-set_other, set-set, set-get_or, ext_get_or}
use borrow.Author.Tests.{eqb-true, eqb-false}
use Rattle.crdt.specs.Flags.{largest_flag}
use Rattle.crdt.specs.Cells.{Reg, reg, no_reg, Cell, join_reg, join_regs, join_cell, reg_changed, regs_changed, cell_changed}
use Rattle.crdt.proofs.Tests.{test, or_off}
use Rattle.model.specs.Layout.{fields, head_words, base, flag_at, value_at, stamp_at}
use Rattle.model.specs.Records.{Rec}
use Rattle.model.specs.Tables.{Table, encode, record_of}
use Rattle.wellformed.proofs.Ranges.{listed_at, listed_length}
use Rattle.merge_laws.specs.Absorb.{no_rec, nth, with_records, celled, joined_at, SoundTable, field_joined, fields_joined, flag_joined, record_joined, field_changed, fields_changed, flag_changed, record_changed}
use Rattle.merge_laws.proofs.Spell.{encode_spells}
use Rattle.merge_laws.proofs.Frames.{fits, celled_here, celled_length, celled_sound, flag_words, register_words}

-- the first n registers joined
joined_below : ℕ → List Reg → List Reg → List Reg
joined_below zero xs ys = xs
joined_below (suc n) xs ys = set (joined_below n xs ys) n (join_reg (get_or xs n no_reg) (get_or ys n no_reg))

below_length : (n : ℕ) (xs ys : List Reg) → length (joined_below n xs ys) ≡ length xs
unfolding joined_below
below_length zero xs ys = refl
below_length (suc n) xs ys = length-set (joined_below n xs ys) n _ ∙ below_length n xs ys

below_later : (n : ℕ) (xs ys : List Reg) (j : ℕ) → n ≤ j → get_or (joined_below n xs ys) j no_reg ≡ get_or xs j no_reg
unfolding joined_below
below_later zero xs ys j h = refl
below_later (suc n) xs ys j h = get_or-set_other (joined_below n xs ys) n j _ no_reg (omega arith) ∙ below_later n xs ys j (omega arith)

below_at : (n : ℕ) (xs ys : List Reg) (j : ℕ) → j < n → j < length xs → get_or (joined_below n xs ys) j no_reg ≡ join_reg (get_or xs j no_reg) (get_or ys j no_reg)
unfolding joined_below
below_at zero xs ys j h l = absurd (omega arith)
below_at (suc n) xs ys j h l = go (test (eqb j n)) (λ (m : j < n). below_at n xs ys j m l)
  where
    go : (eqb j n ≡ true) ⊎ (eqb j n ≡ false) → (j < n → get_or (joined_below n xs ys) j no_reg ≡ join_reg (get_or xs j no_reg) (get_or ys j no_reg))
        → get_or (set (joined_below n xs ys) n (join_reg (get_or xs n no_reg) (get_or ys n no_reg))) j no_reg ≡ join_reg (get_or xs j no_reg) (get_or ys j no_reg)
    go (inl e) ih = let q : j ≡ n = eqb-true j n e in rw (← q) (get_or-set_same (joined_below j xs ys) j _ no_reg (omega (arith, below_length j xs ys)))
    go (inr e) ih = let q = eqb-false j n e in get_or-set_other (joined_below n xs ys) n j _ no_reg q ∙ ih (omega arith)

pub join_length : (xs ys : List Reg) → length xs ≡ length ys → length (join_regs xs ys) ≡ length xs
unfolding join_regs
join_length [] [] e = refl
join_length [] (y ∷ ys) e = absurd (omega arith)
join_length (x ∷ xs) [] e = refl
join_length (x ∷ xs) (y ∷ ys) e = ap suc (join_length xs ys (omega arith))

join_at : (xs ys : List Reg) (j : ℕ) → j < length xs → length xs ≡ length ys → get_or (join_regs xs ys) j no_reg ≡ join_reg (get_or xs j no_reg) (get_or ys j no_reg)
unfolding join_regs
join_at [] ys j h e = absurd (omega arith)
join_at (x ∷ xs) [] j h e = absurd (omega arith)
join_at (x ∷ xs) (y ∷ ys) zero h e = refl
join_at (x ∷ xs) (y ∷ ys) (suc j) h e = join_at xs ys j (omega arith) (omega arith)

below_all : (xs ys : List Reg) (n : ℕ) → length xs ≡ n → length ys ≡ n → joined_below n xs ys ≡ join_regs xs ys
below_all xs ys n e d =
    let g : length xs ≡ length ys = e ∙ sym d in
    ext_get_or no_reg _ _ (below_length n xs ys ∙ sym (join_length xs ys g))
    (λ j h. let l : j < length xs = omega (arith, below_length n xs ys) in below_at n xs ys j (omega arith) l ∙ sym (join_at xs ys j l g))

-- whether one of the first n registers changes
changed_below : ℕ → List Reg → List Reg → Bool
changed_below zero xs ys = false
changed_below (suc n) xs ys = changed_below n xs ys || reg_changed (get_or xs n no_reg) (join_reg (get_or xs n no_reg) (get_or ys n no_reg))

or_assoc : (a b c : Bool) → ((a || b) || c) ≡ (a || (b || c))
or_assoc true b c = refl
or_assoc false b c = refl

changed_first : (n : ℕ) (x y : Reg) (xs ys : List Reg) → changed_below (suc n) (x ∷ xs) (y ∷ ys) ≡ (reg_changed x (join_reg x y) || changed_below n xs ys)
unfolding changed_below
changed_first zero x y xs ys = sym (or_off (reg_changed x (join_reg x y)))
changed_first (suc n) x y xs ys =
    let g = get_or xs n no_reg in
    let h = get_or ys n no_reg in
    ap (λ (b : Bool). b || reg_changed (get_or xs n no_reg) (join_reg (get_or xs n no_reg) (get_or ys n no_reg))) (changed_first n x y xs ys)
    ∙ or_assoc (reg_changed x (join_reg x y)) (changed_below n xs ys) (reg_changed g (join_reg g h))

changed_all : (xs ys : List Reg) (n : ℕ) → length xs ≡ n → length ys ≡ n → changed_below n xs ys ≡ regs_changed xs (join_regs xs ys)
unfolding join_regs regs_changed
changed_all [] [] zero e d = unfold changed_below in refl
changed_all [] (y ∷ ys) zero e d = absurd (omega arith)
changed_all [] ys (suc n) e d = absurd (omega arith)
changed_all (x ∷ xs) ys zero e d = absurd (omega arith)
changed_all (x ∷ xs) [] (suc n) e d = absurd (omega arith)
changed_all (x ∷ xs) (y ∷ ys) (suc n) e d = changed_first n x y xs ys ∙ ap (λ (b : Bool). reg_changed x (join_reg x y) || b) (changed_all xs ys n (omega arith) (omega arith))

celled_twice : (s : List Rec) (p : ℕ) (c d : Cell) → 1 ≤ p → p ≤ length s → celled (celled s p c) p d ≡ celled s p d
unfolding celled
celled_twice s p c d a b =
    ap (λ (k : ℕ). set (set s (p - 1) (record { key = (nth s p).key; cell = c })) (p - 1) (record { key = k; cell = d })) (ap (λ (x : Rec). x.key) (celled_here s p c a b))
    ∙ set-set s (p - 1) (record { key = (nth s p).key; cell = c }) (record { key = (nth s p).key; cell = d })

celled_own : (s : List Rec) (p : ℕ) → celled s p (nth s p).cell ≡ s
unfolding celled
celled_own s p = set-get_or s (p - 1) no_rec

module _ (p : ℕ) (a : 1 ≤ p) (b : List ℕ) (i : ℕ) where
  regs : List Reg
  regs = (record_of b i).cell.regs

  regs_at : (j : ℕ) → j < fields → get_or regs j no_reg ≡ reg (value_at b i (suc j)) (stamp_at b i (suc j))
  unfolding regs record_of
  regs_at j h =
      let e : suc j - 1 ≡ j = omega arith in
      rw e at (listed_at fields (λ (j : ℕ). reg (value_at b i j) (stamp_at b i j)) (suc j) no_reg (omega arith) (omega arith))

  regs_length : length regs ≡ fields
  unfolding regs record_of
  regs_length = listed_length fields (λ (j : ℕ). reg (value_at b i j) (stamp_at b i j))

  abbrev cell_after : Table → ℕ → Cell
  cell_after v n = record { flag = (nth v.records p).cell.flag; regs = joined_below n (nth v.records p).cell.regs regs }

  own_reg : (v : Table) (w : SoundTable v) (m : p ≤ length v.records) (j : ℕ) → j < fields
      → reg (value_at (encode v) p (suc j)) (stamp_at (encode v) p (suc j)) ≡ get_or (nth v.records p).cell.regs j no_reg
  unfolding value_at stamp_at
  own_reg v w m j h =
      let old = encode_spells v (fits v w) in
      let e₁ : base p + (head_words - 1) + suc j ≡ base p + head_words + j = omega arith in
      let e₂ : base p + (head_words - 1) + fields + suc j ≡ base p + head_words + fields + j = omega arith in
      rw (e₁, e₂, old.values p a m j h, old.stamps p a m j h)

  -- one register
  field_words : (v : Table) (w : SoundTable v) (m : p ≤ length v.records) (j : ℕ) → j < fields
      → field_joined (encode v) p b i (suc j) ≡ encode (with_records v (celled v.records p (record { flag = (nth v.records p).cell.flag; regs = set (nth v.records p).cell.regs j (join_reg (get_or (nth v.records p).cell.regs j no_reg) (get_or regs j no_reg)) })))
  unfolding field_joined
  field_words v w m j h =
      let t = encode v in
      let rs = (nth v.records p).cell.regs in
      let g = join_reg (get_or rs j no_reg) (get_or regs j no_reg) in
      let q : join_reg (reg (value_at t p (suc j)) (stamp_at t p (suc j))) (reg (value_at b i (suc j)) (stamp_at b i (suc j))) ≡ g = ap₂ join_reg (own_reg v w m j h) (sym (regs_at j h)) in
      let e₁ : base p + (head_words - 1) + suc j ≡ base p + head_words + j = omega arith in
      let e₂ : base p + (head_words - 1) + fields + suc j ≡ base p + head_words + fields + j = omega arith in
      let x = w.sound p a m in
      ap (λ (g : Reg). set (set t (base p + (head_words - 1) + suc j) g.value) (base p + (head_words - 1) + fields + suc j) g.stamp) q
      ∙ rw (e₁, e₂) (register_words v w p a m (record { flag = (nth v.records p).cell.flag; regs = set rs j g }) x.flagged (length-set rs j g ∙ x.wide) j g h refl refl)

  -- registers 1 to n
  fields_words : (v : Table) (w : SoundTable v) (m : p ≤ length v.records) (n : ℕ) → n ≤ fields
      → fields_joined n (encode v) p b i ≡ encode (with_records v (celled v.records p (cell_after v n)))
  unfolding fields_joined joined_below
  fields_words v w m zero h = ap (λ (l : List Rec). encode (with_records v l)) (sym (celled_own v.records p))
  fields_words v w m (suc n) h =
      let s = v.records in
      let x = w.sound p a m in
      let c = cell_after v n in
      let v' = with_records v (celled s p c) in
      let e : nth (celled s p c) p ≡ record { key = (nth s p).key; cell = c } = celled_here s p c a m in
      let w' : SoundTable (with_records v (celled s p c)) = celled_sound v w p a m c x.flagged (below_length n _ _ ∙ x.wide) in
      ap (λ (t : List ℕ). field_joined t p b i (suc n)) (fields_words v w m n (omega arith))
      ∙ field_words v' w' (omega (arith, celled_length s p c)) n (omega arith)
      ∙ ap (λ (y : Rec). encode (with_records v (celled (celled s p c) p (record { flag = y.cell.flag; regs = set y.cell.regs n (join_reg (get_or y.cell.regs n no_reg) (get_or regs n no_reg)) })))) e
      ∙ ap (λ (g : Reg). encode (with_records v (celled (celled s p c) p (record { flag = (nth s p).cell.flag; regs = set (joined_below n (nth s p).cell.regs regs) n (join_reg g (get_or regs n no_reg)) })))) (below_later n (nth s p).cell.regs regs n (omega arith))
      ∙ ap (λ (l : List Rec). encode (with_records v l)) (celled_twice s p c _ a m)

  flag_step : (v : Table) (w : SoundTable v) (m : p ≤ length v.records) → (record_of b i).cell.flag ≤ largest_flag
      → flag_joined (encode v) p b i ≡ encode (with_records v (celled v.records p (record { flag = max (nth v.records p).cell.flag (record_of b i).cell.flag; regs = (nth v.records p).cell.regs })))
  unfolding flag_joined flag_at record_of
  flag_step v w m f =
      let x = w.sound p a m in
      rw ((encode_spells v (fits v w)).flags p a m)
      (flag_words v w p a m (record { flag = max (nth v.records p).cell.flag (flag_at b i); regs = (nth v.records p).cell.regs }) (omega (arith, x.flagged)) x.wide refl)

  -- The whole record.
  pub record_words_lem : (v : Table) → SoundTable v → p ≤ length v.records → (record_of b i).cell.flag ≤ largest_flag
      → record_joined (encode v) p b i ≡ encode (with_records v (joined_at v.records p (record_of b i)))
  unfolding record_joined joined_at join_cell regs
  record_words_lem v w m f =
      let s = v.records in
      let x = nth s p in
      let y = record_of b i in
      let c : Cell = record { flag = max x.cell.flag y.cell.flag; regs = x.cell.regs } in
      let e : nth (celled s p c) p ≡ record { key = (nth s p).key; cell = c } = celled_here s p c a m in
      let n = w.sound p a m in
      let w' : SoundTable (with_records v (celled s p c)) = celled_sound v w p a m c (omega (arith, n.flagged)) n.wide in
      ap (λ (t : List ℕ). fields_joined fields t p b i) (flag_step v w m f)
      ∙ fields_words (with_records v (celled s p c)) w' (omega (arith, celled_length s p c)) fields (omega arith)
      ∙ ap (λ (z : Rec). encode (with_records v (celled (celled s p c) p (record { flag = z.cell.flag; regs = joined_below fields z.cell.regs y.cell.regs })))) e
      ∙ ap (λ (q : List Reg). encode (with_records v (celled (celled s p c) p (record { flag = c.flag; regs = q })))) (below_all x.cell.regs y.cell.regs fields n.wide regs_length)
      ∙ ap (λ (l : List Rec). encode (with_records v l)) (celled_twice s p c _ a m)

  -- Whether it changes: the flag, or one of the registers.
  field_changes : (v : Table) (w : SoundTable v) (m : p ≤ length v.records) (j : ℕ) → j < fields
      → field_changed (encode v) p b i (suc j) ≡ reg_changed (get_or (nth v.records p).cell.regs j no_reg) (join_reg (get_or (nth v.records p).cell.regs j no_reg) (get_or regs j no_reg))
  unfolding field_changed
  field_changes v w m j h = ap₂ (λ (g k : Reg). reg_changed g (join_reg g k)) (own_reg v w m j h) (sym (regs_at j h))

  fields_changes : (v : Table) (w : SoundTable v) (m : p ≤ length v.records) (n : ℕ) → n ≤ fields
      → fields_changed n (encode v) p b i ≡ changed_below n (nth v.records p).cell.regs regs
  unfolding fields_changed changed_below
  fields_changes v w m zero h = refl
  fields_changes v w m (suc n) h =
      let s = v.records in
      let x = w.sound p a m in
      let c = cell_after v n in
      let e : nth (celled s p c) p ≡ record { key = (nth s p).key; cell = c } = celled_here s p c a m in
      let w' : SoundTable (with_records v (celled s p c)) = celled_sound v w p a m c x.flagged (below_length n _ _ ∙ x.wide) in
      ap₂ ◌||◌ (fields_changes v w m n (omega arith))
      (ap (λ (t : List ℕ). field_changed t p b i (suc n)) (fields_words v w m n (omega arith))
      ∙ field_changes (with_records v (celled s p c)) w' (omega (arith, celled_length s p c)) n (omega arith)
      ∙ ap (λ (y : Rec). reg_changed (get_or y.cell.regs n no_reg) (join_reg (get_or y.cell.regs n no_reg) (get_or regs n no_reg))) e
      ∙ ap (λ (g : Reg). reg_changed g (join_reg g (get_or regs n no_reg))) (below_later n (nth s p).cell.regs regs n (omega arith)))

  pub record_changes : (v : Table) → SoundTable v → p ≤ length v.records → (record_of b i).cell.flag ≤ largest_flag
      → record_changed (encode v) p b i ≡ cell_changed (nth v.records p).cell (join_cell (nth v.records p).cell (record_of b i).cell)
  unfolding record_changed cell_changed join_cell regs
  record_changes v w m f =
      let s = v.records in
      let x = nth s p in
      let y = record_of b i in
      let c : Cell = record { flag = max x.cell.flag y.cell.flag; regs = x.cell.regs } in
      let e : nth (celled s p c) p ≡ record { key = (nth s p).key; cell = c } = celled_here s p c a m in
      let n = w.sound p a m in
      let w' : SoundTable (with_records v (celled s p c)) = celled_sound v w p a m c (omega (arith, n.flagged)) n.wide in
      ap₂ ◌||◌ (flag_changes v w m)
      (ap (λ (t : List ℕ). fields_changed fields t p b i) (flag_step v w m f)
      ∙ fields_changes (with_records v (celled s p c)) w' (omega (arith, celled_length s p c)) fields (omega arith)
      ∙ ap (λ (z : Rec). changed_below fields z.cell.regs y.cell.regs) e
      ∙ changed_all x.cell.regs y.cell.regs fields n.wide regs_length)
    where
      flag_changes : (v : Table) (w : SoundTable v) (m : p ≤ length v.records)
          → flag_changed (encode v) p b i ≡ not (eqb (nth v.records p).cell.flag (max (nth v.records p).cell.flag (record_of b i).cell.flag))
      flag_changes v w m = unfold flag_changed flag_at record_of in rw ((encode_spells v (fits v w)).flags p a m)
