-- The steps of a merge in the forms in which the code asks for them.
-- Assumes nothing.
use Prim.Native.Nat.{ℕ, ◌+◌, ◌≤◌, ◌<◌, max}
use mathlib.Core.Path.{◌≡◌, refl, ◌∙◌}
use mathlib.Core.Bool.{Bool, true, false, cond, ◌||◌}
use mathlib.Core.List.{List}
use native.Mathlib.Omega.{arith}
use lib.Dec.{ltb}
use Rattle.std.specs.Int.{from_bool}
use lib.ListN.{set}
use Rattle.crdt.specs.Flags.{largest_flag}
use Rattle.model.specs.Layout.{most_relations, most_records, clock_word, clock_at, used_at, next_at, relation_at, label_at, flag_at}
use Rattle.model.specs.Records.{place, position}
use Rattle.model.specs.Tables.{decode, encode}
use Rattle.model.specs.Merge.{merged_records, merged, changes}
use Rattle.merge_laws.specs.Absorb.{nth, records_in, with_records, spaced, absorb, Open, Takeable, Chained, Taken, Sought, Seekable, Mergeable, record_joined, record_changed}
use Rattle.merge_laws.proofs.Take.{take_open, take_bounds, take_done, take_counted}
use Rattle.merge_laws.proofs.Chain.{Along, along_end, along_seek, along_take, along_on, going_linked, taken_all, taken_count}
use Rattle.wellformed.proofs.Words.{clock_words}
use Rattle.merge_seek.proofs.Forms.{Seeks, sought_at}

-- a bool as a number
pub bit : (b : Bool) → from_bool b ≡ cond b 1 0
bit true = refl
bit false = refl

-- the clock
pub act_is : (t t₁ t₂ b : List ℕ) (x y c : ℕ) → x ≡ clock_at t → y ≡ clock_at b → c ≡ max x y → t₁ ≡ encode (with_records (decode t) (merged_records (records_in t) (records_in b))) → t₂ ≡ set t₁ clock_word c
    → t₂ ≡ encode (merged (decode t) (decode b))
unfolding merged decode
act_is t t₁ t₂ b x y c e d g h k = k ∙ rw (h, g, e, d) (clock_words (with_records (decode t) (merged_records (records_in t) (records_in b))) (max (clock_at t) (clock_at b)))

-- one record taken in
module _ (t b : List ℕ) (j a r l : ℕ) (q : Takeable t b j a) (e : r ≡ relation_at b j) (d : l ≡ label_at b j) where
  pub take_space : Open t r l a
  take_space = rw (e, d) (take_open t b j a q)

  module _ (t₁ : List ℕ) (i : ℕ) (g : t₁ ≡ encode (with_records (decode t) (spaced (records_in t) (place r l)))) (h : i ≡ position (place r l) (spaced (records_in t) (place r l))) where
    pub take_join : (i ≤ most_records) × (flag_at t₁ i ≤ largest_flag) × (flag_at b j ≤ largest_flag)
    take_join = let n = take_bounds t b j a q t₁ i (rw (e, d) at g) (rw (e, d) at h) in (n.1, n.4, n.5)

    pub take_is : (t₂ : List ℕ) → t₂ ≡ record_joined t₁ i b j → t₂ ≡ encode (with_records (decode t) (absorb (records_in t) (nth (records_in b) j)))
    take_is t₂ k = take_done t b j a q t₁ t₂ i (rw (e, d) at g) (rw (e, d) at h) k

    -- 1 or 0, as the test comes out
    module _ (u : ℕ) (x : Bool) (f : u ≡ used_at t) (k : x ≡ record_changed t₁ i b j) where
      pub take_counts : cond {A = ℕ} (x || ltb u i) 1 0 ≡ changes (records_in t) (absorb (records_in t) (nth (records_in b) j))
      take_counts = take_counted t b j a q t₁ i u x (rw (e, d) at g) (rw (e, d) at h) f k

-- a chain taken in
module _ (t₀ t b : List ℕ) (r : ℕ) (c : Chained t₀ b r) (j a n : ℕ) (g : Along t₀ t b r j a n) where
  pub chain_seeks : (l : ℕ) → 0 < j → l ≡ label_at b j → Seekable t l a
  chain_seeks l p e = rw e (along_seek t₀ b r c t j a n g p)

  chain_sought : (l a' : ℕ) → 0 < j → l ≡ label_at b j → Seeks t l a a' → Sought t r (label_at b j) a'
  chain_sought l a' p e s = sought_at t b r j a l a' c.least c.most e (going_linked t b g.whole c.other r c.least c.most j a g.going p) s

  pub chain_takes : (l a' : ℕ) → 0 < j → l ≡ label_at b j → Seeks t l a a' → Takeable t b j a'
  chain_takes l a' p e s = along_take t₀ b r c t j a n g p a' (chain_sought l a' p e s)

  pub chain_turn : (l a' j' x : ℕ) (t' : List ℕ) → 0 < j → l ≡ label_at b j → Seeks t l a a' → t' ≡ encode (with_records (decode t) (absorb (records_in t) (nth (records_in b) j)))
      → x ≡ changes (records_in t) (absorb (records_in t) (nth (records_in b) j)) → j' ≡ next_at b j → Along t₀ t' b r j' a' (n + x)
  chain_turn l a' j' x t' p e s d f h = along_on t₀ b r c t j a n g p a' (chain_sought l a' p e s) t' j' x d f h

  pub chain_done : j ≤ 0 → Taken t₀ t (records_in b) (place r 0) (place (r + 1) 0) n
  chain_done p = along_end t₀ b r c t j a n g (omega arith)

-- all chains taken in
module _ (t₀ t b : List ℕ) (r n : ℕ) (m : Mergeable t₀ b) (h : r ≤ most_relations + 1) (p : most_relations < r) (k : Taken t₀ t (records_in b) (place 1 0) (place r 0) n) where
  last : Taken t₀ t (records_in b) (place 1 0) (place (most_relations + 1) 0) n
  last = let q : r ≡ most_relations + 1 = omega arith in rw q at k

  pub chains_all : t ≡ encode (with_records (decode t₀) (merged_records (records_in t₀) (records_in b)))
  chains_all = taken_all t₀ b m t n last

  pub chains_count : n ≡ changes (records_in t₀) (merged_records (records_in t₀) (records_in b))
  chains_count = taken_count t₀ b m t n last
