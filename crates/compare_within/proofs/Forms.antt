-- The steps of a comparison in the forms in which the code asks for them.
-- Assumes nothing.
use Prim.Native.Nat.{ℕ, ◌+◌, ◌-◌, ◌≤◌, ◌<◌}
use mathlib.Core.Path.{◌≡◌, sym, ◌∙◌}
use mathlib.Core.Bool.{Bool, true, false, ◌&&◌, ◌||◌}
use mathlib.Core.List.{List}
use native.Mathlib.Omega.{arith}
use lib.Dec.{eqb, ltb, leb}
use borrow.Author.Tests.{le-leb, lt-leb}
use Rattle.crdt.specs.Cells.{up_to}
use Rattle.crdt.proofs.Tests.{Tri, low, same, high, tri}
use Rattle.model.specs.Layout.{fields, most_relations, most_records, head_words, word, base, clock_at, next_at, label_at, flag_at}
use Rattle.model.specs.Tables.{contents}
use Rattle.model.specs.Compare.{join_contents, same_contents}
use Rattle.merge_laws.specs.Absorb.{records_in, Whole, meets, Seekable}
use Rattle.merge_seek.proofs.Forms.{Seeks, sought_at}
use Rattle.compare_laws.specs.UpTo.{chain_up_to, records_up_to, field_up_to, fields_up_to, record_up_to}
use Rattle.compare_laws.proofs.Steps.{Comparing, compare_end, compare_linked, compare_seek, compare_small, compare_on, compare_fails}
use Rattle.compare_laws.proofs.Chains.{chains_up}
use Rattle.compare_laws.proofs.Within.{within_late, within_is}

-- a register, a record
pub field_is : (t b : List ℕ) (p q f s s' v v' : ℕ) → s ≡ word t (p + fields + f) → s' ≡ word b (q + fields + f) → v ≡ word t (p + f) → v' ≡ word b (q + f) → (ltb s s' || (eqb s s' && leb v v')) ≡ field_up_to t p b q f
unfolding field_up_to up_to
field_is t b p q f s s' v v' e d g h = rw (e, d, g, h)

module _ (t b : List ℕ) (j i x y : ℕ) (e : x ≡ flag_at b i) (d : y ≡ flag_at t j) where
  pub flag_later : x < y → false ≡ record_up_to t j b i
  unfolding record_up_to
  flag_later l = let q : leb (flag_at t j) (flag_at b i) ≡ false = lt-leb (flag_at t j) (flag_at b i) (omega (arith, e, d)) in rw q

  pub record_is : y ≤ x → (n m : ℕ) → n ≡ base j → m ≡ base i → (z : Bool) → z ≡ fields_up_to fields t (n + (head_words - 1)) b (m + (head_words - 1)) → z ≡ record_up_to t j b i
  unfolding record_up_to
  record_is l n m f g z h = let q : leb (flag_at t j) (flag_at b i) ≡ true = le-leb (flag_at t j) (flag_at b i) (omega (arith, e, d)) in rw q (rw (f, g) at h)

module _ (t b : List ℕ) (j a l i : ℕ) (x : Bool) (e : l ≡ label_at t j) (h : x ≡ meets b a l) where
  pub link_there : x ≡ true → i ≡ word b a → (z : Bool) → z ≡ record_up_to t j b i → z ≡ (meets b a (label_at t j) && record_up_to t j b (word b a))
  link_there p d z g = let m : meets b a (label_at t j) ≡ true = sym (rw e at h) ∙ p in rw m (rw d at g)

  pub link_not : x ≡ false → false ≡ (meets b a (label_at t j) && record_up_to t j b (word b a))
  link_not p = let m : meets b a (label_at t j) ≡ false = sym (rw e at h) ∙ p in rw m

-- a chain: table b is the first, t the second
module _ (t b : List ℕ) (wt : Whole t) (wb : Whole b) (r : ℕ) (r₁ : 1 ≤ r) (r₂ : r ≤ most_relations) (j a : ℕ) (g : Comparing t b r j a) where
  pub chain_seek : (l : ℕ) → 0 < j → l ≡ label_at b j → Seekable t l a
  chain_seek l p e = rw e (compare_seek t b wt wb r r₁ r₂ j a g p)

  pub chain_small : 0 < j → (l a' : ℕ) → l ≡ label_at b j → Seeks t l a a' → (j ≤ most_records) × (word t a' ≤ most_records)
  chain_small p l a' e s = compare_small t b wt wb r r₁ r₂ j a g p a' (sought_at t b r j a l a' r₁ r₂ e (compare_linked t b wt wb r r₁ r₂ j a g p) s)

  pub chain_turn : 0 < j → (l a' j' : ℕ) (x : Bool) → l ≡ label_at b j → Seeks t l a a' → x ≡ (meets t a' (label_at b j) && record_up_to b j t (word t a')) → x ≡ true → j' ≡ next_at b j → Comparing t b r j' a'
  chain_turn p l a' j' x e s d h n = compare_on t b wt wb r r₁ r₂ j a g p a' (sought_at t b r j a l a' r₁ r₂ e (compare_linked t b wt wb r r₁ r₂ j a g p) s) j' n (sym d ∙ h)

  pub chain_stop : 0 < j → (l a' : ℕ) (x : Bool) → l ≡ label_at b j → Seeks t l a a' → x ≡ (meets t a' (label_at b j) && record_up_to b j t (word t a')) → x ≡ false → false ≡ chain_up_to (records_in t) r (records_in b)
  chain_stop p l a' x e s d h = compare_fails t b wt wb r r₁ r₂ j a g p a' (sought_at t b r j a l a' r₁ r₂ e (compare_linked t b wt wb r r₁ r₂ j a g p) s) (sym d ∙ h)

  pub chain_done : j ≤ 0 → true ≡ chain_up_to (records_in t) r (records_in b)
  chain_done p = compare_end t b wt wb r r₁ r₂ j a g (omega arith)

-- all chains
abbrev pub UpToBelow : List ℕ → List ℕ → ℕ → Type 0
UpToBelow t b r = (q : ℕ) → 1 ≤ q → q < r → chain_up_to (records_in t) q (records_in b) ≡ true

pub below_first : (t b : List ℕ) → UpToBelow t b 1
below_first t b q h l = absurd (omega arith)

pub below_next : (t b : List ℕ) (r : ℕ) (x : Bool) → UpToBelow t b r → x ≡ chain_up_to (records_in t) r (records_in b) → x ≡ true → UpToBelow t b (r + 1)
below_next t b r x f e h q a l = go (tri q r)
  where
    go : Tri q r → chain_up_to (records_in t) q (records_in b) ≡ true
    go (low p) = f q a p
    go (same p) = rw p (sym e ∙ h)
    go (high p) = absurd (omega arith)

pub below_all : (t b : List ℕ) → Whole b → (r : ℕ) → most_relations < r → UpToBelow t b r → true ≡ records_up_to (records_in t) (records_in b)
below_all t b w r l f = chains_up (records_in t) b w (λ q a h. f q a (omega arith))

-- the clocks
module _ (b t : List ℕ) (c d : ℕ) (e : c ≡ clock_at t) (f : d ≡ clock_at b) where
  pub clock_late : c < d → false ≡ same_contents (join_contents (contents b) (contents t)) (contents t)
  clock_late l = within_late b t (omega (arith, e, f))

  pub clock_good : d ≤ c → (x : Bool) → x ≡ records_up_to (records_in t) (records_in b) → x ≡ same_contents (join_contents (contents b) (contents t)) (contents t)
  clock_good l x h = within_is b t (omega (arith, e, f)) x h
