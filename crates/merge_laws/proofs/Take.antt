-- One record of another table taken in, and the records of a chain.
-- Assumes nothing.
use Prim.Native.Nat.{ℕ, ◌+◌, ◌-◌, ◌/◌, ◌%◌, ◌≤◌}
use mathlib.Core.Path.{◌≡◌, refl, sym, ◌∙◌, ap, ap₂}
use mathlib.Core.Bool.{Bool, true, false, cond, ◌||◌}
use mathlib.Core.List.{List, [], ◌∷◌, ◌++◌}
use mathlib.Core.Logic.{◌⊎◌, inl, inr}
use native.Mathlib.Omega.{arith}
use lib.Dec.{ltb}
use lib.ListN.{length}
use borrow.Author.Tests.{lt-ltb, le-ltb}
use Rattle.crdt.specs.Flags.{largest_flag}
use Rattle.crdt.specs.Cells.{join_cell, cell_changed}
use Rattle.crdt.proofs.Tests.{test, or_right, or_off}
use Rattle.model.specs.Layout.{most_records, word, used_at, relation_at, label_at, flag_at}
use Rattle.model.specs.Records.{Rec, place, relation, label, label_span, has, distinct, position}
use Rattle.model.specs.Tables.{Table, decode, encode, record_of}
use Rattle.model.specs.Merge.{changes}
use Rattle.wellformed.proofs.Follow.{position_some, position_at, Placed}
use Rattle.wellformed.proofs.Words.{enc_used}
use Rattle.merge_laws.specs.Absorb.{nth, records_in, with_records, blank, spaced, joined_at, absorb, SoundRecord, SoundTable, Whole, Linked, first, next, meets, Open, Takeable, added, record_joined, record_changed}
use Rattle.merge_laws.proofs.Links.{more_length, more_old, more_new}
use Rattle.merge_laws.proofs.Frames.{celled_sound, celled_key, celled_length}
use Rattle.merge_laws.proofs.Added.{blank_key, more_sound}
use Rattle.merge_laws.proofs.Joined.{join_length, record_words_lem, record_changes}
use Rattle.merge_laws.proofs.Step.{blank_last}
use Rattle.merge_laws.proofs.Changes.{absorb_changes}
use Rattle.merge_laws.proofs.Walk.{encode_decode, whole_encode, used_is, record_is, relation_is, label_is, flag_is, found, not_found, added_there}

-- records with one of key k
module _ (s : List Rec) (k : ℕ) where
  spaced_yes : has s k ≡ true → spaced s k ≡ s
  unfolding spaced
  spaced_yes h = rw h

  spaced_no : has s k ≡ false → spaced s k ≡ s ++ (blank k ∷ [])
  unfolding spaced
  spaced_no h = rw h

  pub spaced_has : has (spaced s k) k ≡ true
  spaced_has = go (test (has s k))
    where
      go : (has s k ≡ true) ⊎ (has s k ≡ false) → has (spaced s k) k ≡ true
      go (inl h) = rw (spaced_yes h) h
      go (inr h) = rw (spaced_no h) (blank_last s k)

  pub spaced_old : (p : ℕ) → 1 ≤ p → p ≤ length s → (nth (spaced s k) p ≡ nth s p) × (p ≤ length (spaced s k))
  spaced_old p a b = go (test (has s k))
    where
      go : (has s k ≡ true) ⊎ (has s k ≡ false) → (nth (spaced s k) p ≡ nth s p) × (p ≤ length (spaced s k))
      go (inl h) = rw (spaced_yes h) (refl, b)
      go (inr h) = rw (spaced_no h) (more_old s (blank k) p a b, omega (arith, more_length s (blank k)))

last_position : (s : List Rec) (k : ℕ) → distinct (s ++ (blank k ∷ [])) ≡ true → position k (s ++ (blank k ∷ [])) ≡ length s + 1
last_position s k d =
    let n = more_length s (blank k) in
    let e : (nth (s ++ (blank k ∷ [])) (length s + 1)).key ≡ k = ap (λ (x : Rec). x.key) (more_new s (blank k) (length s + 1) refl) ∙ blank_key k in
    rw e at (position_at (length s + 1) (s ++ (blank k ∷ [])) d (omega arith) (omega arith))

module _ (t : List ℕ) (r l a : ℕ) (q : Open t r l a) where
  pub spaced_sound : SoundTable (with_records (decode t) (spaced (records_in t) (place r l)))
  spaced_sound = go (test (has (records_in t) (place r l)))
    where
      go : (has (records_in t) (place r l) ≡ true) ⊎ (has (records_in t) (place r l) ≡ false) → SoundTable (with_records (decode t) (spaced (records_in t) (place r l)))
      go (inl h) = rw (spaced_yes (records_in t) (place r l) h) q.whole.value
      go (inr h) = rw (spaced_no (records_in t) (place r l) h) (more_sound (decode t) q.whole.value r l q.least q.most q.labelled q.below h (q.room h))

  pub space_here : meets t a l ≡ true → (t ≡ encode (with_records (decode t) (spaced (records_in t) (place r l)))) × (word t a ≡ position (place r l) (spaced (records_in t) (place r l)))
  space_here h =
      let f = found t q.whole r l q.least q.most a q.sought q.labelled q.below h in
      rw (spaced_yes (records_in t) (place r l) f.0) (sym q.whole.words, sym f.1)

  pub space_new : meets t a l ≡ false → (t' : List ℕ) → t' ≡ added t a r l → (t' ≡ encode (with_records (decode t) (spaced (records_in t) (place r l)))) × (used_at t' ≡ position (place r l) (spaced (records_in t) (place r l)))
  space_new h t' e =
      let n = not_found t q.whole r l q.least q.most a q.sought q.labelled q.below h in
      let w : SoundTable (with_records (decode t) (records_in t ++ (blank (place r l) ∷ []))) = more_sound (decode t) q.whole.value r l q.least q.most q.labelled q.below n (q.room n) in
      let d : t' ≡ encode (with_records (decode t) (records_in t ++ (blank (place r l) ∷ []))) = e ∙ added_there t q.whole r l q.least q.most a q.sought q.labelled q.below h (q.room n) in
      let u = more_length (records_in t) (blank (place r l)) in
      rw (spaced_no (records_in t) (place r l) n) (d, ap used_at d ∙ enc_used (with_records (decode t) (records_in t ++ (blank (place r l) ∷ []))) ∙ u ∙ sym (last_position (records_in t) (place r l) w.single))

-- Record y taken in keeps the keys and the places of the others.
module _ (s : List Rec) (y : Rec) where
  pub absorb_old : (p : ℕ) → 1 ≤ p → p ≤ length s → ((nth (absorb s y) p).key ≡ (nth s p).key) × (p ≤ length (absorb s y))
  unfolding absorb joined_at
  absorb_old p a b =
      let o = spaced_old s y.key p a b in
      let q = position_some y.key (spaced s y.key) (spaced_has s y.key) in
      let c = join_cell (nth (spaced s y.key) (position y.key (spaced s y.key))).cell y.cell in (
        celled_key (spaced s y.key) (position y.key (spaced s y.key)) c p q.from_one q.within a ∙ ap (λ (x : Rec). x.key) o.0,
        omega (arith, o.1, celled_length (spaced s y.key) (position y.key (spaced s y.key)) c),
      )

  pub absorb_linked : (r l a : ℕ) → Linked s r l a → Linked (absorb s y) r l a
  absorb_linked r l _ first = first
  absorb_linked r l _ (next p a b e h) =
      let o = absorb_old p a b in
      next p a o.1 (ap (λ (k : ℕ). k / label_span) o.0 ∙ e) (omega (arith, ap (λ (k : ℕ). k % label_span) o.0))

pub linked_more : (s : List Rec) (r l m a : ℕ) → l ≤ m → Linked s r l a → Linked s r m a
linked_more s r l m _ h first = first
linked_more s r l m _ h (next p a b e c) = next p a b e (omega arith)

module _ (t b : List ℕ) (j a : ℕ) (q : Takeable t b j a) where
  y_sound : SoundRecord (nth (records_in b) j)
  y_sound = q.other.value.sound j q.least q.most

  same_relation : relation_at b j ≡ relation (nth (records_in b) j)
  same_relation = relation_is b q.other j q.least q.most

  same_label : label_at b j ≡ label (nth (records_in b) j)
  same_label = label_is b q.other j q.least q.most

  pub same_key : place (relation_at b j) (label_at b j) ≡ (nth (records_in b) j).key
  same_key = omega (arith, same_relation, same_label)

  pub take_open : Open t (relation_at b j) (label_at b j) a
  take_open =
      record {
        whole = q.own;
        least = rw same_relation y_sound.least;
        most = rw same_relation y_sound.most;
        labelled = rw same_label y_sound.labelled;
        below = omega (arith, same_label);
        sought = q.sought;
        room = rw same_key q.room;
      }

  abbrev s₁ : List Rec
  s₁ = spaced (records_in t) (place (relation_at b j) (label_at b j))

  abbrev p₁ : ℕ
  p₁ = position (place (relation_at b j) (label_at b j)) (spaced (records_in t) (place (relation_at b j) (label_at b j)))

  sound₁ : SoundTable (with_records (decode t) (spaced (records_in t) (place (relation_at b j) (label_at b j))))
  sound₁ = spaced_sound t (relation_at b j) (label_at b j) a take_open

  placed : Placed (place (relation_at b j) (label_at b j)) (spaced (records_in t) (place (relation_at b j) (label_at b j)))
  placed = position_some (place (relation_at b j) (label_at b j)) s₁ (spaced_has (records_in t) (place (relation_at b j) (label_at b j)))

  joined_flag : (record_of b j).cell.flag ≤ largest_flag
  joined_flag = rw (record_is b q.other j q.least q.most) y_sound.flagged

  -- what joining asks for
  pub take_bounds : (t₁ : List ℕ) (i : ℕ) → t₁ ≡ encode (with_records (decode t) s₁) → i ≡ p₁
      → (1 ≤ i) × (i ≤ most_records) × (1 ≤ j) × (j ≤ most_records) × (flag_at t₁ i ≤ largest_flag) × (flag_at b j ≤ largest_flag)
  take_bounds t₁ i e d =
      let w = sound₁ in
      let x = q.other.value in
      let o = whole_encode (with_records (decode t) s₁) sound₁ in
      let c = encode_decode (with_records (decode t) s₁) sound₁ in
      let z : length (records_in t₁) ≡ length s₁ = ap (λ (u : List ℕ). length (records_in u)) e ∙ ap (λ (u : Table). length u.records) c in
      let n : i ≤ length (records_in t₁) = omega (arith, placed.within) in
      let m : Whole t₁ = rw e o in (
        omega (arith, placed.from_one),
        omega (arith, placed.within, w.room, w.most),
        q.least,
        omega (arith, q.most, x.room, x.most),
        flag_is t₁ m i (omega (arith, placed.from_one)) n,
        flag_is b q.other j q.least q.most,
      )

  pub take_done : (t₁ t₂ : List ℕ) (i : ℕ) → t₁ ≡ encode (with_records (decode t) s₁) → i ≡ p₁ → t₂ ≡ record_joined t₁ i b j
      → t₂ ≡ encode (with_records (decode t) (absorb (records_in t) (nth (records_in b) j)))
  take_done t₁ t₂ i e d h = h ∙ rw (e, d) (record_words_lem p₁ placed.from_one b j (with_records (decode t) s₁) sound₁ placed.within joined_flag ∙ rw (record_is b q.other j q.least q.most, same_key) (unfold absorb in refl))

  -- 1 where the record changed or is past the old ones
  pub take_counted : (t₁ : List ℕ) (i u : ℕ) (x : Bool) → t₁ ≡ encode (with_records (decode t) s₁) → i ≡ p₁ → u ≡ used_at t → x ≡ record_changed t₁ i b j
      → cond {A = ℕ} (x || ltb u i) 1 0 ≡ changes (records_in t) (absorb (records_in t) (nth (records_in b) j))
  take_counted t₁ i u x e d f h = go (test (has (records_in t) (nth (records_in b) j).key))
    where
      i_is : i ≡ position (nth (records_in b) j).key (spaced (records_in t) (nth (records_in b) j).key)
      i_is = rw same_key at d

      x_is : x ≡ cell_changed (nth (spaced (records_in t) (nth (records_in b) j).key) (position (nth (records_in b) j).key (spaced (records_in t) (nth (records_in b) j).key))).cell
          (join_cell (nth (spaced (records_in t) (nth (records_in b) j).key) (position (nth (records_in b) j).key (spaced (records_in t) (nth (records_in b) j).key))).cell (nth (records_in b) j).cell)
      x_is =
          h ∙ ap₂ (λ (w : List ℕ) (n : ℕ). record_changed w n b j) e d
          ∙ rw (← same_key, ← record_is b q.other j q.least q.most) (record_changes p₁ placed.from_one b j (with_records (decode t) s₁) sound₁ placed.within joined_flag)

      single : distinct (spaced (records_in t) (nth (records_in b) j).key) ≡ true
      single = rw same_key at sound₁.single

      counted : changes (records_in t) (absorb (records_in t) (nth (records_in b) j)) ≡ cond {A = ℕ} (has (records_in t) (nth (records_in b) j).key) (cond {A = ℕ} (cell_changed (nth (records_in t) (position (nth (records_in b) j).key (records_in t))).cell (join_cell (nth (records_in t) (position (nth (records_in b) j).key (records_in t))).cell (nth (records_in b) j).cell)) 1 0) 1
      counted = absorb_changes (records_in t) (nth (records_in b) j) y_sound.wide

      go : (has (records_in t) (nth (records_in b) j).key ≡ true) ⊎ (has (records_in t) (nth (records_in b) j).key ≡ false) → cond {A = ℕ} (x || ltb u i) 1 0 ≡ changes (records_in t) (absorb (records_in t) (nth (records_in b) j))
      go (inl g) =
          let k = (nth (records_in b) j).key in
          let o = spaced_yes (records_in t) k g in
          let n : i ≡ position (nth (records_in b) j).key (records_in t) = rw o at i_is in
          let c = rw o at x_is in
          let l : ltb u i ≡ false = le-ltb u i (omega (arith, n, f, used_is t q.own, (position_some k (records_in t) g).within)) in
          rw l (ap (λ (z : Bool). cond {A = ℕ} z 1 0) (or_off x ∙ c) ∙ sym (counted ∙ rw g))
      go (inr g) =
          let k = (nth (records_in b) j).key in
          let o = spaced_no (records_in t) k g in
          let n : i ≡ position (nth (records_in b) j).key (records_in t ++ (blank (nth (records_in b) j).key ∷ [])) = rw o at i_is in
          let d' : distinct (records_in t ++ (blank (nth (records_in b) j).key ∷ [])) ≡ true = rw o at single in
          let l : ltb u i ≡ true = lt-ltb u i (omega (arith, n, f, used_is t q.own, last_position (records_in t) k d')) in
          rw (or_right x (ltb u i) l) (sym (counted ∙ rw g))

  pub absorb_sound : SoundTable (with_records (decode t) (absorb (records_in t) (nth (records_in b) j)))
  unfolding absorb joined_at join_cell
  absorb_sound =
      let k = (nth (records_in b) j).key in
      let s₂ = spaced (records_in t) k in
      let sound₂ : SoundTable (with_records (decode t) (spaced (records_in t) (nth (records_in b) j).key)) = rw same_key at sound₁ in
      let p = position_some k s₂ (spaced_has (records_in t) k) in
      let x = sound₂.sound (position k s₂) p.from_one p.within in
      let c = (nth s₂ (position k s₂)).cell in
      celled_sound (with_records (decode t) s₂) sound₂ (position k s₂) p.from_one p.within (join_cell c (nth (records_in b) j).cell) (omega (arith, x.flagged, y_sound.flagged))
      (join_length c.regs (nth (records_in b) j).cell.regs (x.wide ∙ sym y_sound.wide) ∙ x.wide)
