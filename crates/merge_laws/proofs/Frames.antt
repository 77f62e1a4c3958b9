-- What stores into a table's words do to its value: the cell of a record, and a record more.
-- Assumes nothing.
use Prim.Native.Nat.{ℕ, suc, ◌+◌, ◌-◌, ◌/◌, ◌%◌, ◌≤◌, ◌<◌}
use mathlib.Core.Path.{◌≡◌, refl, sym, ◌∙◌, ap}
use mathlib.Core.Bool.{true, false}
use mathlib.Core.List.{List, [], ◌∷◌}
use mathlib.Core.Logic.{◌⊎◌, inl, inr, ◌≢◌}
use native.Mathlib.Omega.{arith}
use lib.Dec.{eqb}
use lib.ListN.{length, get_or, set, length-set}
use lib.Seq.{get_or-set_same, get_or-set_other, map-set_same}
use borrow.Author.Tests.{eqb-true, eqb-false}
use Rattle.crdt.specs.Flags.{largest_flag}
use Rattle.crdt.specs.Cells.{Reg, no_reg, Cell}
use Rattle.crdt.proofs.Tests.{test}
use Rattle.model.specs.Layout.{fields, head_words, header_words, record_words, word, base}
use Rattle.model.specs.Records.{Rec, label_span, has}
use Rattle.model.specs.Tables.{Table, encode, follower}
use Rattle.wellformed.proofs.Follow.{position_some}
use Rattle.wellformed.proofs.Words.{Sized, Fits}
use Rattle.merge_laws.specs.Absorb.{no_rec, nth, with_records, celled, SoundRecord, SoundTable}
use Rattle.merge_laws.proofs.Spell.{Spells, encode_spells, spells_encode}
use Rattle.merge_laws.proofs.Links.{keys, follower_keys, distinct_keys_lem}

-- words after a store
pub set_here : (t : List ℕ) (a x : ℕ) → a < length t → word (set t a x) a ≡ x
unfolding word
set_here t a x h = get_or-set_same t a x 0 h

pub set_there : (t : List ℕ) (a x k : ℕ) → k ≢ a → word (set t a x) k ≡ word t k
unfolding word
set_there t a x k h = get_or-set_other t a k x 0 h

-- what a sound value's words need
sized_of : (s : List Rec) → ((n : ℕ) → n < length s → length (get_or s n no_rec).cell.regs ≡ fields) → Sized s
sized_of [] h = tt
sized_of (x ∷ xs) h = (h 0 (omega arith), sized_of xs (λ n l. h (suc n) (omega arith)))

pub at_index : (s : List Rec) (n : ℕ) → nth s (suc n) ≡ get_or s n no_rec
at_index s n = let e : suc n - 1 ≡ n = omega arith in ap (λ (m : ℕ). get_or s m no_rec) e

pub fits : (v : Table) → SoundTable v → Fits v
fits v w =
    record {
      sized = sized_of v.records (λ n l. rw (at_index v.records n) at (w.sound (suc n) (omega arith) (omega arith)).wide);
      room = w.room;
    }

-- no key is 0
pub sound_key : (x : Rec) → SoundRecord x → label_span < x.key
sound_key x w = omega (arith, w.least, w.labelled)

pub no_zero : (v : Table) → SoundTable v → has v.records 0 ≡ false
no_zero v w = go (test (has v.records 0))
  where
    go : (has v.records 0 ≡ true) ⊎ (has v.records 0 ≡ false) → has v.records 0 ≡ false
    go (inl p) = let q = position_some 0 v.records p in absurd (omega (arith, q.keyed, sound_key _ (w.sound _ q.from_one q.within)))
    go (inr p) = p

-- words of the header, of different records, of different fields, and above the records, differ
off_header : (p h k : ℕ) → k < header_words → k ≢ base p + h
unfolding base
off_header p h k l = omega arith

off_record : (p i h f : ℕ) → 1 ≤ p → 1 ≤ i → i ≢ p → h < record_words → f < record_words → base i + f ≢ base p + h
unfolding base
off_record p i h f a b n l m = omega arith

off_field : (p i h f : ℕ) → 1 ≤ p → 1 ≤ i → f ≢ h → h < record_words → f < record_words → base i + f ≢ base p + h
unfolding base
off_field p i h f a b n l m = omega arith

off_next : (p i h : ℕ) → 1 ≤ p → 1 ≤ i → 1 ≤ h → h < record_words → base i ≢ base p + h
unfolding base
off_next p i h a b n l = omega arith

off_rest : (p n h k : ℕ) → 1 ≤ p → p ≤ n → h < record_words → base (n + 1) ≤ k → k ≢ base p + h
unfolding base
off_rest p n h k a b l m = omega arith

-- The cell of the record of position p becomes c.
module _ (s : List Rec) (p : ℕ) (c : Cell) where
  pub celled_keys : keys (celled s p c) ≡ keys s
  unfolding celled
  celled_keys = map-set_same (λ (x : Rec). x.key) s (p - 1) _ no_rec refl

  pub celled_length : length (celled s p c) ≡ length s
  unfolding celled
  celled_length = length-set s (p - 1) _

  pub celled_here : 1 ≤ p → p ≤ length s → nth (celled s p c) p ≡ record { key = (nth s p).key; cell = c }
  unfolding celled
  celled_here a b = get_or-set_same s (p - 1) _ no_rec (omega arith)

  pub celled_there : (i : ℕ) → 1 ≤ i → 1 ≤ p → i ≢ p → nth (celled s p c) i ≡ nth s i
  unfolding celled
  celled_there i a b n = get_or-set_other s (p - 1) (i - 1) _ no_rec (omega arith)

  pub celled_key : (i : ℕ) → 1 ≤ p → p ≤ length s → 1 ≤ i → (nth (celled s p c) i).key ≡ (nth s i).key
  celled_key i a b l = go (test (eqb i p))
    where
      go : (eqb i p ≡ true) ⊎ (eqb i p ≡ false) → (nth (celled s p c) i).key ≡ (nth s i).key
      go (inl e) = let q : i ≡ p = eqb-true i p e in rw q (ap (λ (x : Rec). x.key) (celled_here a b))
      go (inr e) = ap (λ (x : Rec). x.key) (celled_there i l a (eqb-false i p e))

module _ (v : Table) (w : SoundTable v) (p : ℕ) (a : 1 ≤ p) (b : p ≤ length v.records) (c : Cell) (f : c.flag ≤ largest_flag) (g : length c.regs ≡ fields) where
  pub celled_sound : SoundTable (with_records v (celled v.records p c))
  celled_sound =
      let l = celled_length v.records p c in
      record {
        room = omega (arith, w.room);
        most = w.most;
        sound = λ i m n. go i m (omega arith) (test (eqb i p));
        single = distinct_keys_lem _ _ (celled_keys v.records p c) ∙ w.single;
      }
    where
      go : (i : ℕ) → 1 ≤ i → i ≤ length v.records → (eqb i p ≡ true) ⊎ (eqb i p ≡ false) → SoundRecord (nth (celled v.records p c) i)
      go i m n (inl e) =
          let q : i ≡ p = eqb-true i p e in
          let x = w.sound p a b in
          rw q (rw (celled_here v.records p c a b) (record { least = x.least; most = x.most; labelled = x.labelled; flagged = f; wide = g }))
      go i m n (inr e) = rw (celled_there v.records p c i m a (eqb-false i p e)) (w.sound i m n)

  -- words that differ from the table's in that record's flag, values and stamps alone
  pub celled_words : (t' : List ℕ) → length t' ≡ length (encode v)
      → ((k : ℕ) → ((h : ℕ) → 3 ≤ h → h < record_words → k ≢ base p + h) → word t' k ≡ word (encode v) k)
      → word t' (base p + 3) ≡ c.flag
      → ((j : ℕ) → j < fields → word t' (base p + head_words + j) ≡ (get_or c.regs j no_reg).value)
      → ((j : ℕ) → j < fields → word t' (base p + head_words + fields + j) ≡ (get_or c.regs j no_reg).stamp)
      → t' ≡ encode (with_records v (celled v.records p c))
  celled_words t' size off flag values stamps = spells_encode t' _ (fits _ celled_sound) spelled
    where
      old : Spells (encode v) v
      old = encode_spells v (fits v w)

      link : (r k : ℕ) → follower v.records r k ≡ follower (celled v.records p c) r k
      link r k = sym (follower_keys _ _ r k (celled_keys v.records p c))

      key : (i : ℕ) → 1 ≤ i → (nth v.records i).key ≡ (nth (celled v.records p c) i).key
      key i m = sym (celled_key v.records p c i a b m)

      within : (i : ℕ) → i ≤ length (celled v.records p c) → i ≤ length v.records
      within i n = omega (arith, celled_length v.records p c)

      flag_at_lem : (i : ℕ) → 1 ≤ i → i ≤ length v.records → (eqb i p ≡ true) ⊎ (eqb i p ≡ false) → word t' (base i + 3) ≡ (nth (celled v.records p c) i).cell.flag
      flag_at_lem i m n (inl e) = let q : i ≡ p = eqb-true i p e in rw q (flag ∙ sym (ap (λ (x : Rec). x.cell.flag) (celled_here v.records p c a b)))
      flag_at_lem i m n (inr e) =
          let q = eqb-false i p e in
          off (base i + 3) (λ h x y. off_record p i h 3 a m q y (omega arith)) ∙ old.flags i m n ∙ sym (ap (λ (x : Rec). x.cell.flag) (celled_there v.records p c i m a q))

      value_at_lem : (i : ℕ) → 1 ≤ i → i ≤ length v.records → (j : ℕ) → j < fields → (eqb i p ≡ true) ⊎ (eqb i p ≡ false) → word t' (base i + head_words + j) ≡ (get_or (nth (celled v.records p c) i).cell.regs j no_reg).value
      value_at_lem i m n j l (inl e) = let q : i ≡ p = eqb-true i p e in rw q (values j l ∙ sym (ap (λ (x : Rec). (get_or x.cell.regs j no_reg).value) (celled_here v.records p c a b)))
      value_at_lem i m n j l (inr e) =
          let q = eqb-false i p e in
          off (base i + head_words + j) (λ h x y z. off_record p i h (head_words + j) a m q y (omega arith) (omega arith)) ∙ old.values i m n j l
          ∙ sym (ap (λ (x : Rec). (get_or x.cell.regs j no_reg).value) (celled_there v.records p c i m a q))

      stamp_at_lem : (i : ℕ) → 1 ≤ i → i ≤ length v.records → (j : ℕ) → j < fields → (eqb i p ≡ true) ⊎ (eqb i p ≡ false) → word t' (base i + head_words + fields + j) ≡ (get_or (nth (celled v.records p c) i).cell.regs j no_reg).stamp
      stamp_at_lem i m n j l (inl e) = let q : i ≡ p = eqb-true i p e in rw q (stamps j l ∙ sym (ap (λ (x : Rec). (get_or x.cell.regs j no_reg).stamp) (celled_here v.records p c a b)))
      stamp_at_lem i m n j l (inr e) =
          let q = eqb-false i p e in
          off (base i + head_words + fields + j) (λ h x y z. off_record p i h (head_words + fields + j) a m q y (omega arith) (omega arith)) ∙ old.stamps i m n j l
          ∙ sym (ap (λ (x : Rec). (get_or x.cell.regs j no_reg).stamp) (celled_there v.records p c i m a q))

      spelled : Spells t' (with_records v (celled v.records p c))
      spelled =
          record {
            size = size ∙ old.size;
            replica = off 0 (λ h x y. off_header p h 0 (omega arith)) ∙ old.replica;
            clock = off 1 (λ h x y. off_header p h 1 (omega arith)) ∙ old.clock;
            used = off 2 (λ h x y. off_header p h 2 (omega arith)) ∙ old.used ∙ sym (celled_length v.records p c);
            third = off 3 (λ h x y. off_header p h 3 (omega arith)) ∙ old.third;
            firsts = λ k m n. off k (λ h x y. off_header p h k (omega arith)) ∙ old.firsts k m n ∙ link _ 0;
            zeros = λ k m n. off k (λ h x y. off_header p h k n) ∙ old.zeros k m n;
            nexts = λ i m n. off (base i) (λ h x y. off_next p i h a m (omega arith) y) ∙ old.nexts i m (within i n) ∙ ap (λ (k : ℕ). follower v.records (k / label_span) k) (key i m) ∙ link _ _;
            relations = λ i m n. off (base i + 1) (λ h x y. off_field p i h 1 a m (omega arith) y (omega arith)) ∙ old.relations i m (within i n) ∙ ap (λ (k : ℕ). k / label_span) (key i m);
            labels = λ i m n. off (base i + 2) (λ h x y. off_field p i h 2 a m (omega arith) y (omega arith)) ∙ old.labels i m (within i n) ∙ ap (λ (k : ℕ). k % label_span) (key i m);
            flags = λ i m n. flag_at_lem i m (within i n) (test (eqb i p));
            values = λ i m n j l. value_at_lem i m (within i n) j l (test (eqb i p));
            stamps = λ i m n j l. stamp_at_lem i m (within i n) j l (test (eqb i p));
            rest = λ k m. let m' = rw (celled_length v.records p c) at m in off k (λ h x y. off_rest p (length v.records) h k a b y m') ∙ old.rest k m';
          }

  inside : (h : ℕ) → h < record_words → base p + h < length (encode v)
  unfolding base
  inside h l = let e = (encode_spells v (fits v w)).size in omega (arith, w.room)

  -- a flag
  pub flag_words : c.regs ≡ (nth v.records p).cell.regs → set (encode v) (base p + 3) c.flag ≡ encode (with_records v (celled v.records p c))
  flag_words e =
      let old = encode_spells v (fits v w) in
      let t = encode v in
      celled_words (set t (base p + 3) c.flag) (length-set t (base p + 3) c.flag)
      (λ k n. set_there t (base p + 3) c.flag k (n 3 (omega arith) (omega arith)))
      (set_here t (base p + 3) c.flag (inside 3 (omega arith)))
      (λ j l. set_there t (base p + 3) c.flag (base p + head_words + j) (omega arith) ∙ old.values p a b j l ∙ ap (λ (q : List Reg). (get_or q j no_reg).value) (sym e))
      (λ j l. set_there t (base p + 3) c.flag (base p + head_words + fields + j) (omega arith) ∙ old.stamps p a b j l ∙ ap (λ (q : List Reg). (get_or q j no_reg).stamp) (sym e))

  -- a register
  pub register_words : (j : ℕ) (q : Reg) → j < fields → c.flag ≡ (nth v.records p).cell.flag → c.regs ≡ set (nth v.records p).cell.regs j q
      → set (set (encode v) (base p + head_words + j) q.value) (base p + head_words + fields + j) q.stamp ≡ encode (with_records v (celled v.records p c))
  register_words j q l e d = celled_words t' (length-set u x q.stamp ∙ length-set t y q.value) off flag values stamps
    where
      t : List ℕ
      t = encode v

      x : ℕ
      x = base p + head_words + fields + j

      y : ℕ
      y = base p + head_words + j

      u : List ℕ
      u = set (encode v) (base p + head_words + j) q.value

      t' : List ℕ
      t' = set (set (encode v) (base p + head_words + j) q.value) (base p + head_words + fields + j) q.stamp

      old : Spells (encode v) v
      old = encode_spells v (fits v w)

      wide : length (nth v.records p).cell.regs ≡ fields
      wide = (w.sound p a b).wide

      two : (k : ℕ) → k ≢ base p + head_words + j → k ≢ base p + head_words + fields + j → word (set (set (encode v) (base p + head_words + j) q.value) (base p + head_words + fields + j) q.stamp) k ≡ word (encode v) k
      two k m n = set_there (set (encode v) (base p + head_words + j) q.value) (base p + head_words + fields + j) q.stamp k n ∙ set_there (encode v) (base p + head_words + j) q.value k m

      off : (k : ℕ) → ((h : ℕ) → 3 ≤ h → h < record_words → k ≢ base p + h) → word (set (set (encode v) (base p + head_words + j) q.value) (base p + head_words + fields + j) q.stamp) k ≡ word (encode v) k
      off k n = two k (λ z. n (head_words + j) (omega arith) (omega arith) (omega arith)) (λ z. n (head_words + fields + j) (omega arith) (omega arith) (omega arith))

      flag : word (set (set (encode v) (base p + head_words + j) q.value) (base p + head_words + fields + j) q.stamp) (base p + 3) ≡ c.flag
      flag = two (base p + 3) (omega arith) (omega arith) ∙ old.flags p a b ∙ sym e

      value : (i : ℕ) → i < fields → (eqb i j ≡ true) ⊎ (eqb i j ≡ false) → word (set (set (encode v) (base p + head_words + j) q.value) (base p + head_words + fields + j) q.stamp) (base p + head_words + i) ≡ (get_or (set (nth v.records p).cell.regs j q) i no_reg).value
      value i m (inl z) =
          let o : i ≡ j = eqb-true i j z in
          let n : base p + head_words + j < length (encode v) = omega (arith, inside (head_words + j) (omega arith)) in
          rw o (set_there (set (encode v) (base p + head_words + j) q.value) (base p + head_words + fields + j) q.stamp (base p + head_words + j) (omega arith)
          ∙ set_here (encode v) (base p + head_words + j) q.value n ∙ sym (ap (λ (g : Reg). g.value) (get_or-set_same (nth v.records p).cell.regs j q no_reg (omega (arith, wide)))))
      value i m (inr z) =
          let n = eqb-false i j z in
          two (base p + head_words + i) (omega arith) (omega arith) ∙ old.values p a b i m ∙ sym (ap (λ (g : Reg). g.value) (get_or-set_other (nth v.records p).cell.regs j i q no_reg n))

      stamp : (i : ℕ) → i < fields → (eqb i j ≡ true) ⊎ (eqb i j ≡ false) → word (set (set (encode v) (base p + head_words + j) q.value) (base p + head_words + fields + j) q.stamp) (base p + head_words + fields + i) ≡ (get_or (set (nth v.records p).cell.regs j q) i no_reg).stamp
      stamp i m (inl z) =
          let o : i ≡ j = eqb-true i j z in
          let n : base p + head_words + fields + j < length (set (encode v) (base p + head_words + j) q.value) = omega (arith, inside (head_words + fields + j) (omega arith), length-set (encode v) (base p + head_words + j) q.value) in
          rw o (set_here (set (encode v) (base p + head_words + j) q.value) (base p + head_words + fields + j) q.stamp n
          ∙ sym (ap (λ (g : Reg). g.stamp) (get_or-set_same (nth v.records p).cell.regs j q no_reg (omega (arith, wide)))))
      stamp i m (inr z) =
          let n = eqb-false i j z in
          two (base p + head_words + fields + i) (omega arith) (omega arith) ∙ old.stamps p a b i m ∙ sym (ap (λ (g : Reg). g.stamp) (get_or-set_other (nth v.records p).cell.regs j i q no_reg n))

      values : (i : ℕ) → i < fields → word (set (set (encode v) (base p + head_words + j) q.value) (base p + head_words + fields + j) q.stamp) (base p + head_words + i) ≡ (get_or c.regs i no_reg).value
      values i m = value i m (test (eqb i j)) ∙ ap (λ (l : List Reg). (get_or l i no_reg).value) (sym d)

      stamps : (i : ℕ) → i < fields → word (set (set (encode v) (base p + head_words + j) q.value) (base p + head_words + fields + j) q.stamp) (base p + head_words + fields + i) ≡ (get_or c.regs i no_reg).stamp
      stamps i m = stamp i m (test (eqb i j)) ∙ ap (λ (l : List Reg). (get_or l i no_reg).stamp) (sym d)
