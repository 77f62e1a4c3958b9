-- The links of records: they follow from the keys alone, and of records with one more at the end, one link is new and the others stay.
-- Assumes nothing.
use Prim.Native.Nat.{ℕ, suc, ◌+◌, ◌-◌, ◌/◌, ◌≤◌, ◌<◌}
use mathlib.Core.Path.{◌≡◌, refl, sym, ◌∙◌, ap}
use mathlib.Core.Bool.{Bool, true, false, cond, ◌&&◌, ◌||◌, not}
use mathlib.Core.List.{List, [], ◌∷◌, ◌++◌, map}
use mathlib.Core.Logic.{◌⊎◌, inl, inr}
use native.Mathlib.Omega.{arith}
use lib.Dec.{eqb, ltb}
use lib.ListN.{length, get_or, length-append, get_or-append}
use lib.Seq.{get_or-append_seam}
use borrow.Author.Tests.{ltb-true, ltb-false}
use Rattle.crdt.proofs.Tests.{test, clash, or_cases, or_left, or_right}
use Rattle.model.specs.Lists.{only, some_of}
use Rattle.model.specs.Records.{Rec, relation, label_span, has, distinct, least_above, position_from, position}
use Rattle.model.specs.Tables.{follower}
use Rattle.laws.proofs.Merge.{has_append}
use Rattle.wellformed.proofs.Follow.{has_here, has_none, has_cases, has_record, Follows, Last, follows, follows_is, last_is}
use Rattle.merge_laws.specs.Absorb.{no_rec, nth}

-- the keys of records, by position
abbrev pub keys : List Rec → List ℕ
keys s = map (λ (x : Rec). x.key) s

least_key : ℕ → ℕ → List ℕ → ℕ
least_key k r [] = 0
least_key k r (x ∷ xs) =
    let m = least_key k r xs in
    cond (eqb (x / label_span) r) (cond (ltb k x && (eqb m 0 || ltb x m)) x m) m

key_place : ℕ → ℕ → List ℕ → ℕ
key_place i k [] = 0
key_place i k (x ∷ xs) = let r = key_place (suc i) k xs in cond (eqb k x) i r

least_keys : (k r : ℕ) (s : List Rec) → least_above k (only (λ (x : Rec). eqb (relation x) r) s) ≡ least_key k r (keys s)
unfolding least_above only least_key
least_keys k r [] = refl
least_keys k r (x ∷ xs) = go (eqb (relation x) r) (least_keys k r xs)
  where
    go : (b : Bool) → least_above k (only (λ (x : Rec). eqb (relation x) r) xs) ≡ least_key k r (keys xs)
        → least_above k (cond b (x ∷ only (λ (x : Rec). eqb (relation x) r) xs) (only (λ (x : Rec). eqb (relation x) r) xs))
        ≡ cond b (cond (ltb k x.key && (eqb (least_key k r (keys xs)) 0 || ltb x.key (least_key k r (keys xs)))) x.key (least_key k r (keys xs))) (least_key k r (keys xs))
    go true h = rw h
    go false h = h

place_keys : (i k : ℕ) (s : List Rec) → position_from i k s ≡ key_place i k (keys s)
unfolding position_from key_place
place_keys i k [] = refl
place_keys i k (x ∷ xs) = ap (λ (n : ℕ). cond (eqb k x.key) i n) (place_keys (suc i) k xs)

-- Records of the same keys have the same positions and links.
pub position_keys : (s t : List Rec) (k : ℕ) → keys s ≡ keys t → position k s ≡ position k t
position_keys s t k e = place_keys 1 k s ∙ ap (key_place 1 k) e ∙ sym (place_keys 1 k t)

pub follower_keys : (s t : List Rec) (r k : ℕ) → keys s ≡ keys t → follower s r k ≡ follower t r k
unfolding follower
follower_keys s t r k e =
    let m : least_above k (only (λ (x : Rec). eqb (relation x) r) s) ≡ least_above k (only (λ (x : Rec). eqb (relation x) r) t) = least_keys k r s ∙ ap (least_key k r) e ∙ sym (least_keys k r t) in
    ap (λ (n : ℕ). position n s) m ∙ position_keys s t _ e

has_key : (k : ℕ) (s : List Rec) → has s k ≡ some_of (λ (x : ℕ). eqb k x) (keys s)
unfolding has some_of
has_key k [] = refl
has_key k (x ∷ xs) = ap (λ (b : Bool). eqb k x.key || b) (has_key k xs)

pub has_keys : (s t : List Rec) (k : ℕ) → keys s ≡ keys t → has s k ≡ has t k
has_keys s t k e = has_key k s ∙ ap (λ (l : List ℕ). some_of (λ (x : ℕ). eqb k x) l) e ∙ sym (has_key k t)

-- the test of distinct records, by keys
distinct_keys : List ℕ → Bool
distinct_keys [] = true
distinct_keys (x ∷ xs) = not (some_of (λ (y : ℕ). eqb x y) xs) && distinct_keys xs

distinct_key : (s : List Rec) → distinct s ≡ distinct_keys (keys s)
unfolding distinct distinct_keys
distinct_key [] = refl
distinct_key (x ∷ xs) = rw (has_key x.key xs, distinct_key xs)

pub distinct_keys_lem : (s t : List Rec) → keys s ≡ keys t → distinct s ≡ distinct t
distinct_keys_lem s t e = distinct_key s ∙ ap distinct_keys e ∙ sym (distinct_key t)

-- One record more at the end.
module _ (s : List Rec) (x : Rec) where
  abbrev more : List Rec
  more = s ++ (x ∷ [])

  pub more_length : length (s ++ (x ∷ [])) ≡ length s + 1
  more_length = length-append s (x ∷ [])

  pub more_old : (i : ℕ) → 1 ≤ i → i ≤ length s → nth (s ++ (x ∷ [])) i ≡ nth s i
  more_old i a b = get_or-append s (x ∷ []) no_rec (i - 1) (omega arith)

  pub more_new : (i : ℕ) → i ≡ length s + 1 → nth (s ++ (x ∷ [])) i ≡ x
  more_new i e = let q : i - 1 ≡ length s = omega arith in ap (λ (n : ℕ). get_or (s ++ (x ∷ [])) n no_rec) q ∙ get_or-append_seam s x [] no_rec

  pub more_has : (k : ℕ) → has (s ++ (x ∷ [])) k ≡ true → (has s k ≡ true) ⊎ (k ≡ x.key)
  more_has k h = go (or_cases (has s k) (has (x ∷ []) k) (rw (has_append k s (x ∷ [])) at h))
    where
      last : (k ≡ x.key) ⊎ (has [] k ≡ true) → (has s k ≡ true) ⊎ (k ≡ x.key)
      last (inl p) = inr p
      last (inr p) = clash p (has_none k)

      go : (has s k ≡ true) ⊎ (has (x ∷ []) k ≡ true) → (has s k ≡ true) ⊎ (k ≡ x.key)
      go (inl p) = inl p
      go (inr p) = last (has_cases x [] k p)

  pub has_more : (k : ℕ) → has s k ≡ true → has (s ++ (x ∷ [])) k ≡ true
  has_more k h = rw (has_append k s (x ∷ [])) (or_left _ _ h)

  pub has_last : has (s ++ (x ∷ [])) x.key ≡ true
  has_last = rw (has_append x.key s (x ∷ [])) (or_right (has s x.key) _ (has_here x []))

  module _ (z : has s 0 ≡ false) (z' : has (s ++ (x ∷ [])) 0 ≡ false) (c : distinct s ≡ true) (d : distinct (s ++ (x ∷ [])) ≡ true) where
    -- a link that does not lead past the new key stays
    pub stays : (r k : ℕ) → (x.key / label_span ≡ r → k < x.key → (m : ℕ) × (has s m ≡ true) × (m / label_span ≡ r) × (k < m) × (m < x.key))
        → follower (s ++ (x ∷ [])) r k ≡ follower s r k
    stays r k m = go (follows s r k z)
      where
        least : Follows s r k (follower s r k) → (j : ℕ) → (has s j ≡ true) ⊎ (j ≡ x.key) → j / label_span ≡ r → k < j → (nth s (follower s r k)).key ≤ j
        least f j (inl h) e b = f.least j h e b
        least f j (inr h) e b =
            let g = m (rw h at e) (rw h at b) in
            omega (arith, f.least g.0 g.1 g.2 g.3, g.4)

        last : Last s r k (follower s r k) → (j : ℕ) → (has s j ≡ true) ⊎ (j ≡ x.key) → j / label_span ≡ r → j ≤ k
        last f j (inl h) e = f.least j h e
        last f j (inr h) e = below (test (ltb k j))
          where
            below : (ltb k j ≡ true) ⊎ (ltb k j ≡ false) → j ≤ k
            below (inl p) =
                let g = m (rw h at e) (rw h at (ltb-true k j p)) in
                absurd (omega (arith, f.least g.0 g.1 g.2, g.3))
            below (inr p) = ltb-false k j p

        go : Follows s r k (follower s r k) ⊎ Last s r k (follower s r k) → follower (s ++ (x ∷ [])) r k ≡ follower s r k
        go (inl f) =
            let o = more_old (follower s r k) f.here f.within in
            follows_is more r k (follower s r k) d
            (record {
              here = f.here;
              within = omega (arith, f.within, more_length);
              above = rw o f.above;
              related = rw o f.related;
              least = λ j h e b. rw o (least f j (more_has j h) e b);
            })
        go (inr f) = last_is more r k (follower s r k) z' (record { none = f.none; least = λ j h e. last f j (more_has j h) e })

    -- the link of the record before the new one leads to it
    pub leads : (r k : ℕ) → x.key / label_span ≡ r → k < x.key → ((j : ℕ) → has s j ≡ true → j / label_span ≡ r → k < j → x.key < j)
        → follower (s ++ (x ∷ [])) r k ≡ length s + 1
    leads r k e b h =
        let o = more_new (length s + 1) refl in
        follows_is more r k (length s + 1) d
        (record {
          here = omega arith;
          within = omega (arith, more_length);
          above = rw o b;
          related = rw o e;
          least = λ j g p q. rw o (least j (more_has j g) p q);
        })
      where
        least : (j : ℕ) → (has s j ≡ true) ⊎ (j ≡ x.key) → j / label_span ≡ r → k < j → x.key ≤ j
        least j (inl g) p q = omega (arith, h j g p q)
        least j (inr g) p q = omega arith

    -- and the new one leads on where that link led
    pub goes_on : (r k : ℕ) → k < x.key → ((j : ℕ) → has s j ≡ true → j / label_span ≡ r → k < j → x.key < j)
        → follower (s ++ (x ∷ [])) r x.key ≡ follower s r k
    goes_on r k b h = stays r x.key (λ e l. absurd (omega arith)) ∙ go (follows s r k z)
      where
        go : Follows s r k (follower s r k) ⊎ Last s r k (follower s r k) → follower s r x.key ≡ follower s r k
        go (inl f) =
            follows_is s r x.key (follower s r k) c
            (record {
              here = f.here;
              within = f.within;
              above = h _ (has_record (follower s r k) s f.here f.within) f.related f.above;
              related = f.related;
              least = λ j g e q. f.least j g e (omega arith);
            })
        go (inr f) = last_is s r x.key (follower s r k) z (record { none = f.none; least = λ j g e. omega (arith, f.least j g e) })
