-- A chain of another table, walked in lockstep with the own: its records taken in, or counted where they are missing.
-- Assumes nothing.
use Prim.Native.Nat.{ℕ, ◌+◌, ◌-◌, ◌/◌, ◌%◌, ◌≤◌, ◌<◌}
use mathlib.Core.Path.{◌≡◌, refl, sym, ◌∙◌, ap, subst}
use mathlib.Core.Bool.{Bool, true, false, cond, not}
use mathlib.Core.List.{List, [], ◌∷◌, map}
use mathlib.Core.Logic.{◌⊎◌, inl, inr}
use native.Mathlib.Omega.{arith}
use lib.Dec.{ltb}
use lib.ListN.{length, length-append, length-map}
use Rattle.model.specs.Layout.{most_relations, most_records, first_words, first_at, next_at, relation_at, label_at}
use Rattle.model.specs.Lists.{only}
use Rattle.model.specs.Records.{Rec, place, relation, label, label_span, has, at, in_order, Rising, distinct}
use Rattle.model.specs.Tables.{Table, decode, encode, follower}
use Rattle.model.specs.Merge.{joined_with, merged_records, changes}
use Rattle.laws.proofs.Lists.{only_length}
use Rattle.laws.proofs.Order.{order_rising, at_order, order_length}
use Rattle.laws.proofs.Members.{order_rising_same}
use Rattle.laws.proofs.Merge.{new, append_nil}
use Rattle.laws.proofs.Changes.{changes_self, changes_within}
use Rattle.laws.proofs.Valid.{distinct_true}
use Rattle.wellformed.proofs.Follow.{Follows, Last, follows}
use Rattle.merge_laws.specs.Absorb.{nth, records_in, with_records, absorb, beyond, missing, ahead, SoundTable, Whole, Linked, first, meets, Sought, Seekable, Takeable, Chained, Taken, Mergeable}
use Rattle.merge_laws.proofs.Frames.{no_zero}
use Rattle.merge_laws.proofs.Step.{step}
use Rattle.merge_laws.proofs.Changes.{changes_step}
use Rattle.merge_laws.proofs.Beyond.{beyond_rising, beyond_next, beyond_last, beyond_all, beyond_none, follower_first}
use Rattle.merge_laws.proofs.Walk.{encode_decode, whole_encode, first_is, next_is, relation_is, label_is, ahead_less, met}
use Rattle.merge_laws.proofs.Take.{absorb_linked, linked_more, absorb_sound}

-- how many records a merge gives
merged_count : (s o : List Rec) → length (merged_records s o) ≡ length s + length (only (new s) (in_order o))
unfolding merged_records
merged_count s o = length-append (map (joined_with o) s) (only (new s) (in_order o)) ∙ ap (λ (n : ℕ). n + length (only (new s) (in_order o))) (length-map s (joined_with o))

only_cons : (s : List Rec) (y : Rec) (ys : List Rec) → length (only (new s) (y ∷ ys)) ≡ cond (has s y.key) 0 1 + length (only (new s) ys)
unfolding only
only_cons s y ys = go (has s y.key)
  where
    go : (b : Bool) → length (cond (not b) (y ∷ only (new s) ys) (only (new s) ys)) ≡ cond b 0 1 + length (only (new s) ys)
    go true = omega arith
    go false = omega arith

pub merged_more : (s : List Rec) (y : Rec) (ys : List Rec) → Rising 0 (y ∷ ys) → has s y.key ≡ false → length s < length (merged_records s (y ∷ ys))
merged_more s y ys r h =
    let e : length (only (new s) (in_order (y ∷ ys))) ≡ cond (has s y.key) 0 1 + length (only (new s) ys) = rw (order_rising_same (y ∷ ys) r) (only_cons s y ys) in
    let n : ◌≡◌ {A = ℕ} (cond (has s y.key) 0 1) 1 = rw h in
    omega (arith, merged_count s (y ∷ ys))

-- The state of a walk along the chain of relation r of table b, at its record j, with the own link at word a.
pub record Going (t b : List ℕ) (r j a : ℕ) : Type 0 where
  pub key : ℕ
  pub related : key / label_span ≡ r
  pub index : j ≡ follower (decode b).records r key
  pub linked : Linked (decode t).records r (key % label_span) a

module _ (t b : List ℕ) (wt : Whole t) (wb : Whole b) (r : ℕ) (r₁ : 1 ≤ r) (r₂ : r ≤ most_relations) where
  unfoldable pub going_start : (j a : ℕ) → j ≡ first_at b r → a ≡ first_words + (r - 1) → Going t b r j a
  going_start j a e d =
      record {
        key = place r 0;
        related = omega arith;
        index = e ∙ first_is b wb r r₁ r₂ ∙ sym (follower_first (decode b) wb.value r);
        linked = rw d first;
      }

  module _ (j a : ℕ) (g : Going t b r j a) where
    leads : Follows (records_in b) r g.key j ⊎ Last (records_in b) r g.key j
    leads = subst (λ (i : ℕ). Follows (records_in b) r g.key i ⊎ Last (records_in b) r g.key i) (sym g.index) (follows (records_in b) r g.key (no_zero (decode b) wb.value))

    pub going_end : j ≡ 0 → beyond g.key (records_in b) ≡ beyond (place (r + 1) 0) (records_in b)
    going_end e = go leads
      where
        go : Follows (records_in b) r g.key j ⊎ Last (records_in b) r g.key j → beyond g.key (records_in b) ≡ beyond (place (r + 1) 0) (records_in b)
        go (inl f) = absurd (omega (arith, f.here))
        go (inr f) = beyond_last (decode b) wb.value r g.key j g.related f

    module _ (n : 0 < j) where
      pub in_chain : Follows (records_in b) r g.key j
      in_chain = go leads
        where
          go : Follows (records_in b) r g.key j ⊎ Last (records_in b) r g.key j → Follows (records_in b) r g.key j
          go (inl f) = f
          go (inr f) = absurd (omega (arith, f.none))

      pub of_relation_lem : relation_at b j ≡ r
      of_relation_lem = relation_is b wb j in_chain.here in_chain.within ∙ in_chain.related

      pub of_label : label_at b j ≡ label (nth (records_in b) j)
      of_label = label_is b wb j in_chain.here in_chain.within

      pub of_key : place r (label_at b j) ≡ (nth (records_in b) j).key
      of_key = omega (arith, of_label, in_chain.related)

      pub going_linked : Linked (records_in t) r (label_at b j) a
      going_linked = linked_more (records_in t) r (g.key % label_span) (label_at b j) a (omega (arith, of_label, in_chain.related, in_chain.above, g.related)) g.linked

      pub going_seek : Seekable t (label_at b j) a
      going_seek = record { whole = wt; relation = r; least = r₁; most = r₂; linked = going_linked }

      pub going_rest : beyond g.key (records_in b) ≡ nth (records_in b) j ∷ beyond (nth (records_in b) j).key (records_in b)
      going_rest = beyond_next (decode b) wb.value r g.key j g.related in_chain

      unfoldable pub going_on : (t' : List ℕ) (j' a' : ℕ) → Linked (records_in t') r (label_at b j) a' → j' ≡ next_at b j → Going t' b r j' a'
      going_on t' j' a' l e =
          record {
            key = (nth (records_in b) j).key;
            related = in_chain.related;
            index = e ∙ next_is b wb j in_chain.here in_chain.within ∙ ap (λ (q : ℕ). follower (records_in b) q (nth (records_in b) j).key) in_chain.related;
            linked = subst (λ (q : ℕ). Linked (records_in t') r q a') of_label l;
          }

      pub going_less : (j' : ℕ) → j' ≡ next_at b j → ahead (records_in b) j' < ahead (records_in b) j
      going_less j' e = rw e (ahead_less b wb j in_chain.here in_chain.within)

      pub going_met : (a' : ℕ) → Sought t r (label_at b j) a' → has (records_in t) (nth (records_in b) j).key ≡ meets t a' (label_at b j)
      going_met a' s =
          let x = wb.value.sound j in_chain.here in_chain.within in
          rw of_key at (met t wt r (label_at b j) r₁ r₂ a' s (rw of_label x.labelled) (omega (arith, of_label)))

-- Taking in: what is left to take in gives the same records, and changes those that are not yet counted in n.
pub record Along (t₀ t b : List ℕ) (r j a n : ℕ) : Type 0 where
  pub whole : Whole t
  pub kept : decode t ≡ with_records (decode t₀) (decode t).records
  pub going : Going t b r j a
  pub same : merged_records (decode t).records (beyond going.key (decode b).records) ≡ merged_records (decode t₀).records (beyond (place r 0) (decode b).records)
  pub count : n + changes (decode t).records (merged_records (decode t).records (beyond going.key (decode b).records)) ≡ changes (decode t₀).records (merged_records (decode t₀).records (beyond (place r 0) (decode b).records))

module _ (t₀ b : List ℕ) (r : ℕ) (c : Chained t₀ b r) where
  pub along_start : (j a : ℕ) → j ≡ first_at b r → a ≡ first_words + (r - 1) → Along t₀ t₀ b r j a 0
  unfolding going_start
  along_start j a e d = record { whole = c.own; kept = refl; going = going_start t₀ b c.own c.other r c.least c.most j a e d; same = refl; count = omega arith }

  module _ (t : List ℕ) (j a q : ℕ) (g : Along t₀ t b r j a q) where
    pub along_end : j ≡ 0 → Taken t₀ t (records_in b) (place r 0) (place (r + 1) 0) q
    along_end e =
        let l = going_end t b g.whole c.other r c.least c.most j a g.going e in
        record { whole = g.whole; kept = g.kept; same = rw l at g.same; count = rw l at g.count }

    -- as many as the table has room for
    pub along_within : q ≤ most_records
    along_within = omega (arith, g.count, changes_within (records_in t₀) (merged_records (records_in t₀) (beyond (place r 0) (records_in b))), c.room, c.own.value.most)

    module _ (n : 0 < j) where
      pub along_seek : Seekable t (label_at b j) a
      along_seek = going_seek t b g.whole c.other r c.least c.most j a g.going n

      rest : beyond g.going.key (records_in b) ≡ nth (records_in b) j ∷ beyond (nth (records_in b) j).key (records_in b)
      rest = going_rest t b g.whole c.other r c.least c.most j a g.going n

      rising : Rising 0 (nth (records_in b) j ∷ beyond (nth (records_in b) j).key (records_in b))
      rising = (omega arith, beyond_rising (nth (records_in b) j).key (records_in b))

      same_rest : merged_records (records_in t) (nth (records_in b) j ∷ beyond (nth (records_in b) j).key (records_in b)) ≡ merged_records (records_in t₀) (beyond (place r 0) (records_in b))
      same_rest = ap (λ (l : List Rec). merged_records (records_in t) l) (sym rest) ∙ g.same

      pub along_take : (a' : ℕ) → Sought t r (label_at b j) a' → Takeable t b j a'
      along_take a' s =
          let f = in_chain t b g.whole c.other r c.least c.most j a g.going n in
          let e : (decode t).capacity ≡ (decode t₀).capacity = ap (λ (v : Table). v.capacity) g.kept in
          let m : length (merged_records (records_in t) (nth (records_in b) j ∷ beyond (nth (records_in b) j).key (records_in b))) ≤ (decode t).capacity = omega (arith, ap length same_rest, c.room) in
          record {
            own = g.whole;
            other = c.other;
            least = f.here;
            most = f.within;
            sought = rw (of_relation_lem t b g.whole c.other r c.least c.most j a g.going n) s;
            room = λ h. omega (arith, merged_more (records_in t) (nth (records_in b) j) (beyond (nth (records_in b) j).key (records_in b)) rising h);
          }

      pub along_on : (a' : ℕ) (s : Sought t r (label_at b j) a') (t' : List ℕ) (j' x : ℕ) → t' ≡ encode (with_records (decode t) (absorb (records_in t) (nth (records_in b) j)))
          → x ≡ changes (records_in t) (absorb (records_in t) (nth (records_in b) j)) → j' ≡ next_at b j → Along t₀ t' b r j' a' (q + x)
      unfolding going_on
      along_on a' s t' j' z e f d =
          let x = nth (records_in b) j in
          let u = along_take a' s in
          let w' : SoundTable (with_records (decode t) (absorb (records_in t) x)) = absorb_sound t b j a' u in
          let dc : decode t' ≡ with_records (decode t) (absorb (records_in t) x) = ap decode e ∙ encode_decode (with_records (decode t) (absorb (records_in t) x)) w' in
          let hd : records_in t' ≡ absorb (records_in t) x = ap (λ (v : Table). v.records) dc in
          let ys = beyond x.key (records_in b) in
          let wide = (c.other.value.sound j u.least u.most).wide in
          let st : merged_records (absorb (records_in t) x) ys ≡ merged_records (records_in t) (x ∷ ys) = step (records_in t) x ys (distinct_true (records_in t) g.whole.value.single) wide rising in
          let before : q + changes (records_in t) (merged_records (absorb (records_in t) x) ys) ≡ changes (records_in t₀) (merged_records (records_in t₀) (beyond (place r 0) (records_in b))) =
          ap (λ (l : List Rec). q + changes (records_in t) l) (st ∙ ap (λ (l : List Rec). merged_records (records_in t) l) (sym rest)) ∙ g.count in
          let after : (q + z) + changes (absorb (records_in t) x) (merged_records (absorb (records_in t) x) ys) ≡ changes (records_in t₀) (merged_records (records_in t₀) (beyond (place r 0) (records_in b))) =
          omega (arith, before, f, changes_step (records_in t) x ys wide rising.1) in
          record {
            whole = subst (λ (l : List ℕ). Whole l) (sym e) (whole_encode (with_records (decode t) (absorb (records_in t) x)) w');
            kept = dc ∙ ap (λ (v : Table). with_records v (absorb (records_in t) x)) g.kept ∙ ap (λ (l : List Rec). with_records (decode t₀) l) (sym hd);
            going =
                going_on t b g.whole c.other r c.least c.most j a g.going n t' j' a'
                (subst (λ (l : List Rec). Linked l r (label_at b j) a') (sym hd) (absorb_linked (records_in t) x r (label_at b j) a' s.linked)) d;
            same =
                ap (λ (l : List Rec). merged_records l (beyond x.key (records_in b))) hd ∙ st ∙ same_rest;
            count = ap (λ (l : List Rec). (q + z) + changes l (merged_records l (beyond x.key (records_in b)))) hd ∙ after;
          }

      pub along_less : (j' : ℕ) → j' ≡ next_at b j → ahead (records_in b) j' < ahead (records_in b) j
      along_less j' e = going_less t b g.whole c.other r c.least c.most j a g.going n j' e

-- All chains.
pub taken_none : (t b : List ℕ) (k : ℕ) → Whole t → Taken t t (records_in b) k k 0
taken_none t b k w = record { whole = w; kept = refl; same = refl; count = omega arith }

pub taken_more : (t₀ t t' : List ℕ) (o : List Rec) (k m n x y : ℕ) → Taken t₀ t o k m x → Taken t t' o m n y → Taken t₀ t' o k n (x + y)
taken_more t₀ t t' o k m n x y a b =
    record {
      whole = b.whole;
      kept = b.kept ∙ ap (λ (v : Table). with_records v (records_in t')) a.kept;
      same = b.same ∙ a.same;
      count = omega (arith, a.count, b.count);
    }

map_none : (s : List Rec) → map (joined_with []) s ≡ s
unfolding joined_with at
map_none [] = refl
map_none (x ∷ xs) = ap (λ (l : List Rec). x ∷ l) (map_none xs)

map_order : (o s : List Rec) → map (joined_with (in_order o)) s ≡ map (joined_with o) s
unfolding joined_with
map_order o [] = refl
map_order o (x ∷ xs) = rw (at_order x.key o, map_order o xs)

merged_none : (s : List Rec) → merged_records s [] ≡ s
unfolding merged_records in_order only
merged_none s = append_nil (map (joined_with []) s) ∙ map_none s

merged_order : (s o : List Rec) → merged_records s (in_order o) ≡ merged_records s o
unfolding merged_records
merged_order s o = rw (map_order o s, order_rising_same (in_order o) (order_rising o))

module _ (t₀ b : List ℕ) (m : Mergeable t₀ b) where
  first_rest : merged_records (records_in t₀) (beyond (place 1 0) (records_in b)) ≡ merged_records (records_in t₀) (records_in b)
  first_rest = ap (λ (l : List Rec). merged_records (records_in t₀) l) (beyond_all (decode b) m.other.value) ∙ merged_order (records_in t₀) (records_in b)

  pub chained : (t : List ℕ) (r n : ℕ) → 1 ≤ r → r ≤ most_relations → Taken t₀ t (records_in b) (place 1 0) (place r 0) n → Chained t b r
  chained t r n r₁ r₂ k =
      let e : (decode t).capacity ≡ (decode t₀).capacity = ap (λ (v : Table). v.capacity) k.kept in
      record { own = k.whole; other = m.other; least = r₁; most = r₂; room = omega (arith, ap length (k.same ∙ first_rest), m.room) }

  -- as many as the table has room for
  pub taken_within : (t : List ℕ) (k n : ℕ) → Taken t₀ t (records_in b) (place 1 0) k n → n ≤ most_records
  taken_within t k n h =
      omega (arith, h.count, changes_within (records_in t₀) (merged_records (records_in t₀) (beyond (place 1 0) (records_in b))), ap length first_rest, m.room, m.own.value.most)

  module _ (t : List ℕ) (n : ℕ) (k : Taken t₀ t (records_in b) (place 1 0) (place (most_relations + 1) 0) n) where
    none_left : merged_records (records_in t) (beyond (place (most_relations + 1) 0) (records_in b)) ≡ records_in t
    none_left = ap (λ (l : List Rec). merged_records (records_in t) l) (beyond_none (decode b) m.other.value) ∙ merged_none (records_in t)

    pub taken_all : t ≡ encode (with_records (decode t₀) (merged_records (records_in t₀) (records_in b)))
    taken_all =
        let e : records_in t ≡ merged_records (records_in t₀) (records_in b) = sym none_left ∙ k.same ∙ first_rest in
        sym k.whole.words ∙ ap encode (k.kept ∙ ap (λ (l : List Rec). with_records (decode t₀) l) e)

    pub taken_count : n ≡ changes (records_in t₀) (merged_records (records_in t₀) (records_in b))
    taken_count =
        omega (arith, k.count, ap (λ (l : List Rec). changes (records_in t) l) none_left, changes_self (records_in t), ap (λ (l : List Rec). changes (records_in t₀) l) first_rest)

-- Counting.
pub record Counting (t b : List ℕ) (r j a n : ℕ) : Type 0 where
  pub going : Going t b r j a
  pub same : n + missing (decode t).records going.key (decode b).records ≡ missing (decode t).records (place r 0) (decode b).records

pub missing_within : (s o : List Rec) (k : ℕ) → distinct o ≡ true → missing s k o ≤ length o
unfolding missing beyond
missing_within s o k d =
    omega (arith, only_length (new s) (only (λ (x : Rec). ltb k x.key) (in_order o)), only_length (λ (x : Rec). ltb k x.key) (in_order o), order_length o (distinct_true o d))

pub missing_none : (s : List Rec) (b : List ℕ) → Whole b → missing s (place (most_relations + 1) 0) (records_in b) ≡ 0
unfolding missing only
missing_none s b wb = rw (beyond_none (decode b) wb.value)

pub merged_missing : (s : List Rec) (b : List ℕ) → Whole b → length (merged_records s (records_in b)) ≡ length s + missing s (place 1 0) (records_in b)
unfolding missing
merged_missing s b wb = rw (beyond_all (decode b) wb.value) (merged_count s (records_in b))

module _ (t b : List ℕ) (wt : Whole t) (wb : Whole b) (r : ℕ) (r₁ : 1 ≤ r) (r₂ : r ≤ most_relations) where
  pub count_start : (j a : ℕ) → j ≡ first_at b r → a ≡ first_words + (r - 1) → Counting t b r j a 0
  unfolding going_start
  count_start j a e d = record { going = going_start t b wt wb r r₁ r₂ j a e d; same = omega arith }

  module _ (j a n : ℕ) (g : Counting t b r j a n) where
    pub count_end : j ≡ 0 → n + missing (records_in t) (place (r + 1) 0) (records_in b) ≡ missing (records_in t) (place r 0) (records_in b)
    unfolding missing
    count_end e = rw (going_end t b wt wb r r₁ r₂ j a g.going e) at g.same

    pub count_within : n ≤ length (records_in b)
    count_within = omega (arith, g.same, missing_within (records_in t) (records_in b) (place r 0) wb.value.single)

    module _ (p : 0 < j) where
      pub count_on : (a' j' n' : ℕ) → Sought t r (label_at b j) a' → j' ≡ next_at b j → n' ≡ n + cond (meets t a' (label_at b j)) 0 1 → Counting t b r j' a' n'
      unfolding going_on missing
      count_on a' j' n' s e d =
          let x = nth (records_in b) j in
          let h = going_met t b wt wb r r₁ r₂ j a g.going p a' s in
          let q = rw (going_rest t b wt wb r r₁ r₂ j a g.going p) at g.same in
          let c : ◌≡◌ {A = ℕ} (cond (has (records_in t) x.key) 0 1) (cond (meets t a' (label_at b j)) 0 1) = ap (λ (u : Bool). cond {A = ℕ} u 0 1) h in
          record {
            going = going_on t b wt wb r r₁ r₂ j a g.going p t j' a' s.linked e;
            same = omega (arith, q, only_cons (records_in t) x (beyond x.key (records_in b)));
          }

      pub count_linked : Linked (records_in t) r (label_at b j) a
      count_linked = going_linked t b wt wb r r₁ r₂ j a g.going p

      pub count_seek : Seekable t (label_at b j) a
      count_seek = going_seek t b wt wb r r₁ r₂ j a g.going p

      pub count_less : (j' : ℕ) → j' ≡ next_at b j → ahead (records_in b) j' < ahead (records_in b) j
      count_less j' e = going_less t b wt wb r r₁ r₂ j a g.going p j' e
