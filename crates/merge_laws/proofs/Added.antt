-- A record more: the words of a table to which a blank record was added at the end and linked in.
-- Assumes nothing.
use Prim.Native.Nat.{ℕ, ◌+◌, ◌-◌, ◌/◌, ◌%◌, ◌≤◌, ◌<◌}
use mathlib.Core.Path.{◌≡◌, refl, sym, ◌∙◌, ap}
use mathlib.Core.Bool.{true, false}
use mathlib.Core.List.Memᴰ
use mathlib.Core.List.{List, [], ◌∷◌, ◌++◌}
use mathlib.Core.Logic.{◌⊎◌, inl, inr, ◌≢◌}
use native.Mathlib.Omega.{arith}
use lib.Dec.{eqb, leb}
use lib.ListN.{length, get_or, set, length-set, length-replicate, get_or-replicate}
use borrow.Author.Tests.{eqb-true, eqb-false, leb-true, leb-false}
use Rattle.crdt.specs.Cells.{Reg, no_reg}
use Rattle.crdt.proofs.Tests.{test, Tri, low, same, high, tri}
use Rattle.model.specs.Layout.{fields, most_relations, first_words, head_words, header_words, record_words, used_word, word, base}
use Rattle.model.specs.Records.{Rec, place, relation, label, label_span, has}
use Rattle.model.specs.Tables.{Table, encode, follower}
use Rattle.laws.proofs.Valid.{distinct_true, true_distinct}
use Rattle.laws.proofs.Merge.{append_distinct}
use Rattle.laws.proofs.Lists.{◌∈◌}
use Rattle.wellformed.proofs.Follow.{has_none, has_record, same_position}
use Rattle.wellformed.proofs.Words.{enc_used}
use Rattle.merge_laws.specs.Absorb.{nth, with_records, blank, SoundRecord, SoundTable, added}
use Rattle.merge_laws.proofs.Spell.{Spells, encode_spells, spells_encode}
use Rattle.merge_laws.proofs.Links.{more_length, more_old, more_new, stays, leads, goes_on}
use Rattle.merge_laws.proofs.Frames.{set_here, set_there, fits, sound_key, no_zero}

pub blank_key : (k : ℕ) → (blank k).key ≡ k
unfolding blank
blank_key k = refl

blank_flag : (k : ℕ) → (blank k).cell.flag ≡ 0
unfolding blank
blank_flag k = refl

blank_at : (k j : ℕ) → j < fields → get_or (blank k).cell.regs j no_reg ≡ no_reg
unfolding blank
blank_at k j h = get_or-replicate fields j no_reg no_reg h

blank_wide : (k : ℕ) → length (blank k).cell.regs ≡ fields
unfolding blank
blank_wide k = length-replicate fields no_reg

-- A word that may hold a link, of a table of n records.
pub record LinkWord (n a : ℕ) : Type 0 where
  pub low : first_words ≤ a
  pub clear : (k : ℕ) → first_words + most_relations ≤ k → k < header_words → k ≢ a
  pub heads : (i f : ℕ) → 1 ≤ i → 1 ≤ f → f < record_words → base i + f ≢ a
  pub under : a < base (n + 1)

module _ (v : Table) (w : SoundTable v) (r l : ℕ) (a₁ : 1 ≤ r) (a₂ : r ≤ most_relations) (a₃ : 1 ≤ l) (a₄ : l < label_span)
    (new : has v.records (place r l) ≡ false) (room : length v.records < v.capacity) where
  abbrev s : List Rec
  s = v.records

  abbrev s' : List Rec
  s' = v.records ++ (blank (place r l) ∷ [])

  of_r : (blank (place r l)).key / label_span ≡ r
  of_r = rw (blank_key (place r l)) (omega arith)

  of_l : (blank (place r l)).key % label_span ≡ l
  of_l = rw (blank_key (place r l)) (omega arith)

  blank_sound : SoundRecord (blank (place r l))
  blank_sound =
      record {
        least = rw of_r a₁;
        most = rw of_r a₂;
        labelled = rw of_l a₃;
        flagged = rw (blank_flag (place r l)) (omega arith);
        wide = blank_wide (place r l);
      }

  pub more_sound : SoundTable (with_records v (v.records ++ (blank (place r l) ∷ [])))
  more_sound =
      let n = more_length s (blank (place r l)) in
      record {
        room = omega (arith, n);
        most = w.most;
        sound = λ i x y. go i x (omega (arith, n)) (test (leb i (length s)));
        single = true_distinct _ (append_distinct s (blank (place r l) ∷ []) (distinct_true s w.single) (has_none _, tt) apart);
      }
    where
      apart : (y : Rec) → y ∈ (blank (place r l) ∷ []) → has v.records y.key ≡ false
      apart y (Memᴰ.head e) = rw (e, blank_key (place r l)) new
      apart y (Memᴰ.tail m) = absurd (Memᴰ.not-nil m)

      go : (i : ℕ) → 1 ≤ i → i ≤ length v.records + 1 → (leb i (length v.records) ≡ true) ⊎ (leb i (length v.records) ≡ false) → SoundRecord (nth s' i)
      go i x y (inl e) = let h = leb-true i (length v.records) e in rw (more_old s (blank (place r l)) i x h) (w.sound i x h)
      go i x y (inr e) = let h = leb-false i (length v.records) e in rw (more_new s (blank (place r l)) i (omega arith)) blank_sound

  module _ (a k : ℕ) (lw : LinkWord (length v.records) a) (link : word (encode v) a ≡ follower v.records r k)
      (on : follower (v.records ++ (blank (place r l) ∷ [])) r (place r l) ≡ follower v.records r k)
      (firsts : (q : ℕ) → first_words ≤ q → q < first_words + most_relations
      → ((q ≡ a) × (length v.records + 1 ≡ follower (v.records ++ (blank (place r l) ∷ [])) (q - (first_words - 1)) 0))
      ⊎ ((q ≢ a) × (follower v.records (q - (first_words - 1)) 0 ≡ follower (v.records ++ (blank (place r l) ∷ [])) (q - (first_words - 1)) 0)))
      (nexts : (i : ℕ) → 1 ≤ i → i ≤ length v.records
      → ((base i ≡ a) × (length v.records + 1 ≡ follower (v.records ++ (blank (place r l) ∷ [])) (relation (nth v.records i)) (nth v.records i).key))
      ⊎ ((base i ≢ a) × (follower v.records (relation (nth v.records i)) (nth v.records i).key ≡ follower (v.records ++ (blank (place r l) ∷ [])) (relation (nth v.records i)) (nth v.records i).key))) where
    u : ℕ
    u = length v.records + 1

    t₁ : List ℕ
    t₁ = set (encode v) (base u) (word (encode v) a)

    t₂ : List ℕ
    t₂ = set t₁ (base u + 1) r

    t₃ : List ℕ
    t₃ = set t₂ (base u + 2) l

    t₄ : List ℕ
    t₄ = set t₃ used_word u

    t₅ : List ℕ
    t₅ = set t₄ a u

    old : Spells (encode v) v
    old = encode_spells v (fits v w)

    sizes : (length t₁ ≡ length (encode v)) × (length t₂ ≡ length (encode v)) × (length t₃ ≡ length (encode v)) × (length t₄ ≡ length (encode v)) × (length t₅ ≡ length (encode v))
    unfolding t₁ t₂ t₃ t₄ t₅
    sizes =
        let t = encode v in
        let e₁ = length-set t (base u) (word t a) in
        let e₂ = length-set t₁ (base u + 1) r ∙ e₁ in
        let e₃ = length-set t₂ (base u + 2) l ∙ e₂ in
        let e₄ = length-set t₃ used_word u ∙ e₃ in
        (e₁, e₂, e₃, e₄, length-set t₄ a u ∙ e₄)

    inside : base u + record_words ≤ length (encode v)
    unfolding base u
    inside = omega (arith, old.size)

    under : a < base u
    unfolding u
    under = lw.under

    other : (q : ℕ) → q ≢ a → q ≢ used_word → q ≢ base u + 2 → q ≢ base u + 1 → q ≢ base u → word t₅ q ≡ word (encode v) q
    unfolding t₁ t₂ t₃ t₄ t₅
    other q n₅ n₄ n₃ n₂ n₁ = set_there t₄ a u q n₅ ∙ set_there t₃ used_word u q n₄ ∙ set_there t₂ (base u + 2) l q n₃ ∙ set_there t₁ (base u + 1) r q n₂ ∙ set_there (encode v) (base u) (word (encode v) a) q n₁

    at_link : word t₅ a ≡ u
    unfolding t₅
    at_link = set_here t₄ a u (omega (arith, sizes.3, inside, under))

    at_used : word t₅ used_word ≡ u
    unfolding t₄ t₅
    at_used = set_there t₄ a u used_word (omega (arith, lw.low)) ∙ set_here t₃ used_word u (omega (arith, sizes.2, old.size))

    at_label : word t₅ (base u + 2) ≡ l
    unfolding t₃ t₄ t₅
    at_label = set_there t₄ a u (base u + 2) (omega (arith, under)) ∙ set_there t₃ used_word u (base u + 2) (omega (arith, lw.low, under)) ∙ set_here t₂ (base u + 2) l (omega (arith, sizes.1, inside))

    at_relation : word t₅ (base u + 1) ≡ r
    unfolding t₂ t₃ t₄ t₅
    at_relation =
        set_there t₄ a u (base u + 1) (omega (arith, under)) ∙ set_there t₃ used_word u (base u + 1) (omega (arith, lw.low, under)) ∙ set_there t₂ (base u + 2) l (base u + 1) (omega arith)
        ∙ set_here t₁ (base u + 1) r (omega (arith, sizes.0, inside))

    at_next : word t₅ (base u) ≡ word (encode v) a
    unfolding t₁ t₂ t₃ t₄ t₅
    at_next =
        set_there t₄ a u (base u) (omega (arith, under)) ∙ set_there t₃ used_word u (base u) (omega (arith, lw.low, under)) ∙ set_there t₂ (base u + 2) l (base u) (omega arith)
        ∙ set_there t₁ (base u + 1) r (base u) (omega arith) ∙ set_here (encode v) (base u) (word (encode v) a) (omega (arith, inside))

    -- words of the header that are no link, of the other records, and above them
    in_header : (q : ℕ) → q < header_words → q ≢ a → q ≢ used_word → word t₅ q ≡ word (encode v) q
    unfolding base
    in_header q h n m = other q n m (omega arith) (omega arith) (omega arith)

    in_record : (i f : ℕ) → 1 ≤ i → i ≤ length v.records → f < record_words → base i + f ≢ a → word t₅ (base i + f) ≡ word (encode v) (base i + f)
    unfolding base u
    in_record i f x y h n = other (base i + f) n (omega arith) (omega arith) (omega arith) (omega arith)

    in_rest : (q : ℕ) → base u + 3 ≤ q → word t₅ q ≡ 0
    unfolding base u
    in_rest q h = other q (omega (arith, under)) (omega arith) (omega arith) (omega arith) (omega arith) ∙ old.rest q (omega arith)

    in_next : (i : ℕ) → 1 ≤ i → i ≤ length v.records → base i ≢ a → word t₅ (base i) ≡ word (encode v) (base i)
    unfolding base u
    in_next i x y n = other (base i) n (omega arith) (omega arith) (omega arith) (omega arith)

    -- a record of the table, or the new one
    abbrev Of : ℕ → Type 0
    Of i = (i ≤ length v.records) ⊎ (i ≡ length v.records + 1)

    of : (i : ℕ) → i ≤ length s' → Of i
    of i h = go (test (leb i (length s)))
      where
        go : (leb i (length s) ≡ true) ⊎ (leb i (length s) ≡ false) → Of i
        go (inl e) = inl (leb-true i _ e)
        go (inr e) = let n = leb-false i (length s) e in inr (omega (arith, more_length s (blank (place r l))))

    was : (i : ℕ) → 1 ≤ i → i ≤ length s → nth s' i ≡ nth s i
    was i x h = more_old s (blank (place r l)) i x h

    is : (i : ℕ) → i ≡ length s + 1 → nth s' i ≡ blank (place r l)
    is i e = more_new s (blank (place r l)) i e

    first_at_lem : (q : ℕ) → first_words ≤ q → q < first_words + most_relations → word t₅ q ≡ follower s' (q - (first_words - 1)) 0
    first_at_lem q x y = go (firsts q x y)
      where
        go : ((q ≡ a) × (length s + 1 ≡ follower s' (q - (first_words - 1)) 0)) ⊎ ((q ≢ a) × (follower s (q - (first_words - 1)) 0 ≡ follower s' (q - (first_words - 1)) 0)) → word t₅ q ≡ follower s' (q - (first_words - 1)) 0
        go (inl c) = ap (word t₅) c.0 ∙ at_link ∙ unfold u in c.1
        go (inr c) = in_header q (omega arith) c.0 (omega arith) ∙ old.firsts q x y ∙ c.1

    next_at_lem : (i : ℕ) → 1 ≤ i → Of i → word t₅ (base i) ≡ follower s' (relation (nth s' i)) (nth s' i).key
    next_at_lem i x (inl h) = rw (was i x h) (go (nexts i x h))
      where
        go : ((base i ≡ a) × (length s + 1 ≡ follower s' (relation (nth s i)) (nth s i).key)) ⊎ ((base i ≢ a) × (follower s (relation (nth s i)) (nth s i).key ≡ follower s' (relation (nth s i)) (nth s i).key))
            → word t₅ (base i) ≡ follower s' (relation (nth s i)) (nth s i).key
        go (inl c) = ap (word t₅) c.0 ∙ at_link ∙ unfold u in c.1
        go (inr c) = in_next i x h c.0 ∙ old.nexts i x h ∙ c.1
    next_at_lem i x (inr h) =
        let g : follower s' r (place r l) ≡ follower s' (relation (blank (place r l))) (blank (place r l)).key = rw (of_r, blank_key (place r l)) in
        let e : base i ≡ base u = unfold u in ap base h in
        rw (is i h) (ap (word t₅) e ∙ at_next ∙ link ∙ sym on ∙ g)

    -- a field that stays as it was, or is the new record's
    field_at : (i f : ℕ) (of-record : Rec → ℕ) → 1 ≤ i → 1 ≤ f → f < record_words → Of i → ((i : ℕ) → 1 ≤ i → i ≤ length s → word (encode v) (base i + f) ≡ of-record (nth s i))
        → word t₅ (base u + f) ≡ of-record (blank (place r l)) → word t₅ (base i + f) ≡ of-record (nth s' i)
    field_at i f g x y z (inl h) o n = rw (was i x h) (in_record i f x h z (lw.heads i f x y z) ∙ o i x h)
    field_at i f g x y z (inr h) o n = let e : base i + f ≡ base u + f = unfold u in ap (λ (q : ℕ). base q + f) h in rw (is i h) (ap (word t₅) e ∙ n)

    to : (x y n : ℕ) → x ≡ y → word t₅ x ≡ n → word t₅ y ≡ n
    to x y n e h = rw e at h

    to_old : (x y n : ℕ) → x ≡ y → word (encode v) x ≡ n → word (encode v) y ≡ n
    to_old x y n e h = rw e at h

    value_at_lem : (i j : ℕ) → 1 ≤ i → j < fields → Of i → word t₅ (base i + head_words + j) ≡ (get_or (nth s' i).cell.regs j no_reg).value
    value_at_lem i j x m o =
        to (base i + (head_words + j)) _ _ (omega arith)
        (field_at i (head_words + j) (λ (q : Rec). (get_or q.cell.regs j no_reg).value) x (omega arith) (omega arith) o
        (λ i x h. to_old (base i + head_words + j) (base i + (head_words + j)) _ (omega arith) (old.values i x h j m))
        (in_rest (base u + (head_words + j)) (omega arith) ∙ sym (ap (λ (g : Reg). g.value) (blank_at (place r l) j m))))

    stamp_at_lem : (i j : ℕ) → 1 ≤ i → j < fields → Of i → word t₅ (base i + head_words + fields + j) ≡ (get_or (nth s' i).cell.regs j no_reg).stamp
    stamp_at_lem i j x m o =
        to (base i + (head_words + fields + j)) _ _ (omega arith)
        (field_at i (head_words + fields + j) (λ (q : Rec). (get_or q.cell.regs j no_reg).stamp) x (omega arith) (omega arith) o
        (λ i x h. to_old (base i + head_words + fields + j) (base i + (head_words + fields + j)) _ (omega arith) (old.stamps i x h j m))
        (in_rest (base u + (head_words + fields + j)) (omega arith) ∙ sym (ap (λ (g : Reg). g.stamp) (blank_at (place r l) j m))))

    past : (q : ℕ) → base (length s' + 1) ≤ q → base u + 3 ≤ q
    unfolding base u
    past q h = omega (arith, more_length s (blank (place r l)))

    spelled : Spells t₅ (with_records v (v.records ++ (blank (place r l) ∷ [])))
    spelled =
        record {
          size = sizes.4 ∙ old.size;
          replica = in_header 0 (omega arith) (omega (arith, lw.low)) (omega arith) ∙ old.replica;
          clock = in_header 1 (omega arith) (omega (arith, lw.low)) (omega arith) ∙ old.clock;
          used = at_used ∙ unfold u in sym (more_length s (blank (place r l)));
          third = in_header 3 (omega arith) (omega (arith, lw.low)) (omega arith) ∙ old.third;
          firsts = first_at_lem;
          zeros = λ q x y. in_header q y (lw.clear q x y) (omega arith) ∙ old.zeros q x y;
          nexts = λ i x h. next_at_lem i x (of i h);
          relations = λ i x h. field_at i 1 (λ (q : Rec). relation q) x (omega arith) (omega arith) (of i h) old.relations (at_relation ∙ sym of_r);
          labels = λ i x h. field_at i 2 (λ (q : Rec). label q) x (omega arith) (omega arith) (of i h) old.labels (at_label ∙ sym of_l);
          flags = λ i x h. field_at i 3 (λ (q : Rec). q.cell.flag) x (omega arith) (omega arith) (of i h) old.flags (in_rest (base u + 3) (omega arith) ∙ sym (blank_flag (place r l)));
          values = λ i x h j m. value_at_lem i j x m (of i h);
          stamps = λ i x h j m. stamp_at_lem i j x m (of i h);
          rest = λ q h. in_rest q (past q h);
        }

    pub added_words : added (encode v) a r l ≡ encode (with_records v (v.records ++ (blank (place r l) ∷ [])))
    unfolding added u t₁ t₂ t₃ t₄ t₅
    added_words = rw (enc_used v) (spells_encode _ _ (fits _ more_sound) spelled)

  -- no key of s' is 0
  zero_free : has (v.records ++ (blank (place r l) ∷ [])) 0 ≡ false
  zero_free = no_zero (with_records v s') more_sound

  -- a link that does not lead past the new key, one that leads to it, and the new record's own
  same_link : (q k : ℕ) → (r ≡ q → k < place r l → (m : ℕ) × (has v.records m ≡ true) × (m / label_span ≡ q) × (k < m) × (m < place r l)) → follower s q k ≡ follower s' q k
  unfolding blank
  same_link q k h = sym (stays s (blank (place r l)) (no_zero v w) zero_free w.single more_sound.single q k (λ e b. h (sym of_r ∙ e) b))

  new_link : (k : ℕ) → k < place r l → ((j : ℕ) → has v.records j ≡ true → j / label_span ≡ r → k < j → place r l < j) → length s + 1 ≡ follower s' r k
  unfolding blank
  new_link k b h = sym (leads s (blank (place r l)) (no_zero v w) zero_free w.single more_sound.single r k of_r b h)

  own_link : (k : ℕ) → k < place r l → ((j : ℕ) → has v.records j ≡ true → j / label_span ≡ r → k < j → place r l < j) → follower s' r (place r l) ≡ follower s r k
  unfolding blank
  own_link k b h = goes_on s (blank (place r l)) (no_zero v w) zero_free w.single more_sound.single r k b h

  -- linked in at the first word of its relation
  pub added_first : ((j : ℕ) → has v.records j ≡ true → j / label_span ≡ r → place r l < j)
      → added (encode v) (first_words + (r - 1)) r l ≡ encode (with_records v (v.records ++ (blank (place r l) ∷ [])))
  added_first gap = added_words (first_words + (r - 1)) 0 word_of (rw back at (old₀.firsts (first_words + (r - 1)) (omega arith) (omega arith))) (own_link 0 (omega arith) (λ j g e c. gap j g e)) firsts nexts
    where
      old₀ : Spells (encode v) v
      old₀ = encode_spells v (fits v w)

      back : first_words + (r - 1) - (first_words - 1) ≡ r
      back = omega arith

      word_of : LinkWord (length s) (first_words + (r - 1))
      word_of = record { low = omega arith; clear = λ k x y. omega arith; heads = λ i f x y z. far i f; under = near }
        where
          far : (i f : ℕ) → base i + f ≢ first_words + (r - 1)
          far i f = unfold base in omega arith

          near : first_words + (r - 1) < base (length s + 1)
          near = unfold base in omega arith

      firsts : (q : ℕ) → first_words ≤ q → q < first_words + most_relations
          → ((q ≡ first_words + (r - 1)) × (length s + 1 ≡ follower s' (q - (first_words - 1)) 0)) ⊎ ((q ≢ first_words + (r - 1)) × (follower s (q - (first_words - 1)) 0 ≡ follower s' (q - (first_words - 1)) 0))
      firsts q x y = go (test (eqb q (first_words + (r - 1))))
        where
          go : (eqb q (first_words + (r - 1)) ≡ true) ⊎ (eqb q (first_words + (r - 1)) ≡ false) → ((q ≡ first_words + (r - 1)) × (length s + 1 ≡ follower s' (q - (first_words - 1)) 0)) ⊎ ((q ≢ first_words + (r - 1)) × (follower s (q - (first_words - 1)) 0 ≡ follower s' (q - (first_words - 1)) 0))
          go (inl e) =
              let o : q ≡ first_words + (r - 1) = eqb-true q (first_words + (r - 1)) e in
              let o' : q - (first_words - 1) ≡ r = omega arith in
              inl (o, rw o' (new_link 0 (omega arith) (λ j g e c. gap j g e)))
          go (inr e) = let o = eqb-false q (first_words + (r - 1)) e in inr (o, same_link (q - (first_words - 1)) 0 (λ h b. absurd (omega arith)))

      nexts : (i : ℕ) → 1 ≤ i → i ≤ length s
          → ((base i ≡ first_words + (r - 1)) × (length s + 1 ≡ follower s' (relation (nth s i)) (nth s i).key)) ⊎ ((base i ≢ first_words + (r - 1)) × (follower s (relation (nth s i)) (nth s i).key ≡ follower s' (relation (nth s i)) (nth s i).key))
      nexts i x y = inr (far, same_link (relation (nth s i)) (nth s i).key (λ h b. absurd (omega (arith, gap (nth s i).key (has_record i s x y) (sym h)))))
        where
          far : base i ≢ first_words + (r - 1)
          far = unfold base in omega arith

  -- linked in behind record p
  pub added_behind : (p : ℕ) → 1 ≤ p → p ≤ length v.records → relation (nth v.records p) ≡ r → (nth v.records p).key < place r l
      → ((j : ℕ) → has v.records j ≡ true → j / label_span ≡ r → (nth v.records p).key < j → place r l < j)
      → added (encode v) (base p) r l ≡ encode (with_records v (v.records ++ (blank (place r l) ∷ [])))
  added_behind p x y e b gap = added_words (base p) (nth s p).key word_of (old₀.nexts p x y ∙ ap (λ (q : ℕ). follower s q (nth s p).key) e) (own_link (nth s p).key b gap) firsts nexts
    where
      old₀ : Spells (encode v) v
      old₀ = encode_spells v (fits v w)

      known : has s (nth s p).key ≡ true
      known = has_record p s x y

      word_of : LinkWord (length s) (base p)
      word_of = record { low = far₁; clear = λ k m n. far₂ k n; heads = λ i f m n o. far₃ i f m n o; under = near }
        where
          far₁ : first_words ≤ base p
          far₁ = unfold base in omega arith

          far₂ : (k : ℕ) → k < header_words → k ≢ base p
          far₂ k n = unfold base in omega arith

          far₃ : (i f : ℕ) → 1 ≤ i → 1 ≤ f → f < record_words → base i + f ≢ base p
          far₃ i f m n o = unfold base in omega arith

          near : base p < base (length s + 1)
          near = unfold base in omega arith

      firsts : (q : ℕ) → first_words ≤ q → q < first_words + most_relations
          → ((q ≡ base p) × (length s + 1 ≡ follower s' (q - (first_words - 1)) 0)) ⊎ ((q ≢ base p) × (follower s (q - (first_words - 1)) 0 ≡ follower s' (q - (first_words - 1)) 0))
      firsts q m n = inr (far, same_link (q - (first_words - 1)) 0 (λ h c. ((nth s p).key, known, e ∙ h, omega (arith, sound_key _ (w.sound p x y)), b)))
        where
          far : q ≢ base p
          far = unfold base in omega arith

      nexts : (i : ℕ) → 1 ≤ i → i ≤ length s
          → ((base i ≡ base p) × (length s + 1 ≡ follower s' (relation (nth s i)) (nth s i).key)) ⊎ ((base i ≢ base p) × (follower s (relation (nth s i)) (nth s i).key ≡ follower s' (relation (nth s i)) (nth s i).key))
      nexts i m n = go (test (eqb i p))
        where
          go : (eqb i p ≡ true) ⊎ (eqb i p ≡ false) → ((base i ≡ base p) × (length s + 1 ≡ follower s' (relation (nth s i)) (nth s i).key)) ⊎ ((base i ≢ base p) × (follower s (relation (nth s i)) (nth s i).key ≡ follower s' (relation (nth s i)) (nth s i).key))
          go (inl c) =
              let o : i ≡ p = eqb-true i p c in
              inl (ap base o, rw o (rw e (new_link (nth s p).key b gap)))
          go (inr c) = inr (far, same_link (relation (nth s i)) (nth s i).key (λ h d. between (tri (nth s i).key (nth s p).key) h d))
            where
              o : i ≢ p
              o = eqb-false i p c

              far : base i ≢ base p
              far = unfold base in omega (arith, o)

              between : Tri (nth s i).key (nth s p).key → r ≡ relation (nth s i) → (nth s i).key < place r l → (j : ℕ) × (has s j ≡ true) × (j / label_span ≡ relation (nth s i)) × ((nth s i).key < j) × (j < place r l)
              between (low z) h d = ((nth s p).key, known, e ∙ h, z, b)
              between (same z) h d = absurd (o (same_position i p s w.single m n x y z))
              between (high z) h d = absurd (omega (arith, gap (nth s i).key (has_record i s m n) (sym h) z))
