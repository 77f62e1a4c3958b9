-- Records are up to another table's if those of each relation are; and those of a relation are read along its chain.
-- Assumes nothing.
use Prim.Native.Nat.{ℕ, suc, ◌+◌, ◌≤◌}
use mathlib.Core.Path.{◌≡◌, refl, sym, ◌∙◌, ap}
use mathlib.Core.Bool.{Bool, true, false}
use mathlib.Core.List.Memᴰ
use mathlib.Core.List.{List, [], ◌∷◌}
use mathlib.Core.Logic.{◌⊎◌, inl, inr}
use native.Mathlib.Omega.{arith}
use lib.Dec.{eqb, ltb}
use borrow.Author.Tests.{eqb-true, eq-eqb, ne_eqb, lt-ltb}
use Rattle.crdt.proofs.Tests.{test, clash}
use Rattle.model.specs.Layout.{most_relations}
use Rattle.model.specs.Lists.{only, all_of}
use Rattle.model.specs.Records.{Rec, place, relation, label, in_order, Rising}
use Rattle.model.specs.Tables.{decode}
use Rattle.laws.proofs.Lists.{◌∈◌, only_in, in_only, all_in, in_all}
use Rattle.laws.proofs.Shown.{in_has}
use Rattle.laws.proofs.Drafts.{has_order}
use Rattle.merge_laws.specs.Absorb.{records_in, beyond, Whole}
use Rattle.merge_laws.proofs.Beyond.{beyond_rising, key_sound}
use Rattle.compare_laws.specs.UpTo.{up_to_in, chain_up_to, records_up_to}

abbrev pub of : ℕ → Rec → Bool
of r x = eqb (relation x) r

-- a record of a whole table
sound_in : (b : List ℕ) → Whole b → (y : Rec) → y ∈ in_order (records_in b) → (1 ≤ relation y) × (relation y ≤ most_relations) × (1 ≤ label y)
sound_in b w y m = key_sound (decode b) w.value y.key (sym (has_order (records_in b) y.key) ∙ in_has (in_order (records_in b)) y y.key m refl)

only_within : (p q : Rec → Bool) (l : List Rec) → ((x : Rec) → x ∈ l → p x ≡ true → q x ≡ true) → only p (only q l) ≡ only p l
only_within p q [] h = unfold only in refl
only_within p q (x ∷ xs) h = go (test (p x)) (test (q x)) (only_within p q xs (λ y m. h y (Memᴰ.tail m)))
  where
    go : (p x ≡ true) ⊎ (p x ≡ false) → (q x ≡ true) ⊎ (q x ≡ false) → only p (only q xs) ≡ only p xs → only p (only q (x ∷ xs)) ≡ only p (x ∷ xs)
    go (inl e) (inl d) ih = unfold only in rw d (rw e (ap (λ (l : List Rec). x ∷ l) ih))
    go (inl e) (inr d) ih = clash (h x (Memᴰ.head refl) e) d
    go (inr e) (inl d) ih = unfold only in rw d (rw e ih)
    go (inr e) (inr d) ih = unfold only in rw d (rw e ih)

-- all records of a relation lie above its label 0
pub chain_all : (b : List ℕ) → Whole b → (r : ℕ) → only (of r) (beyond (place r 0) (records_in b)) ≡ only (of r) (in_order (records_in b))
unfolding beyond
chain_all b w r = only_within (of r) (λ (x : Rec). ltb (place r 0) x.key) (in_order (records_in b)) go
  where
    go : (x : Rec) → x ∈ in_order (records_in b) → of r x ≡ true → ltb (place r 0) x.key ≡ true
    go x m e = lt-ltb (place r 0) x.key (omega (arith, eqb-true (relation x) r e, sound_in b w x m))

-- none of them above that of the next relation
above_none : (r k : ℕ) (l : List Rec) → place (r + 1) 0 ≤ k → Rising k l → only (of r) l ≡ []
unfolding only
above_none r k [] h q = refl
above_none r k (x ∷ xs) h q =
    let e : eqb (relation x) r ≡ false = ne_eqb (relation x) r (omega (arith, q.0)) in
    rw e (above_none r (suc x.key) xs (omega (arith, q.0)) q.1)

pub chain_none : (o : List Rec) (r : ℕ) → only (of r) (beyond (place (r + 1) 0) o) ≡ []
chain_none o r = above_none r (suc (place (r + 1) 0)) (beyond (place (r + 1) 0) o) (omega arith) (beyond_rising (place (r + 1) 0) o)

-- all relations
module _ (s : List Rec) (b : List ℕ) (w : Whole b) where
  pub chains_up : ((q : ℕ) → 1 ≤ q → q ≤ most_relations → chain_up_to s q (records_in b) ≡ true) → true ≡ records_up_to s (records_in b)
  unfolding chain_up_to records_up_to
  chains_up h = sym (in_all (up_to_in s) (in_order (records_in b)) go)
    where
      go : (y : Rec) → y ∈ in_order (records_in b) → up_to_in s y ≡ true
      go y m =
          let k = sound_in b w y m in
          all_in (up_to_in s) y (only (of (relation y)) (in_order (records_in b))) (h (relation y) k.0 k.1)
          (in_only (of (relation y)) y (in_order (records_in b)) m (eq-eqb (relation y) (relation y) refl))

  pub chain_fails : (q : ℕ) → chain_up_to s q (records_in b) ≡ false → false ≡ records_up_to s (records_in b)
  unfolding chain_up_to records_up_to
  chain_fails q h = go (test (all_of (up_to_in s) (in_order (records_in b))))
    where
      go : (all_of (up_to_in s) (in_order (records_in b)) ≡ true) ⊎ (all_of (up_to_in s) (in_order (records_in b)) ≡ false) → false ≡ all_of (up_to_in s) (in_order (records_in b))
      go (inl e) = clash (in_all (up_to_in s) (only (of q) (in_order (records_in b))) (λ y m. all_in (up_to_in s) y (in_order (records_in b)) e (only_in (of q) y (in_order (records_in b)) m).0)) h
      go (inr e) = sym e
