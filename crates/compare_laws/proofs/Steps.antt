-- A chain of the first table, walked side by side with the second's: whether its records are up to the second's.
-- Assumes nothing.
use Prim.Native.Nat.{ℕ, ◌+◌, ◌-◌, ◌≤◌, ◌<◌}
use mathlib.Core.Path.{◌≡◌, refl, sym, ◌∙◌, ap}
use mathlib.Core.Bool.{Bool, true, false, ◌&&◌}
use mathlib.Core.List.{List}
use mathlib.Core.Logic.{◌⊎◌, inl, inr}
use mathlib.Core.Option.{some}
use native.Mathlib.Omega.{arith}
use lib.ListN.{length}
use borrow.Author.Tests.{eq-eqb}
use Rattle.crdt.proofs.Tests.{test}
use Rattle.model.specs.Layout.{most_relations, most_records, first_words, word, first_at, next_at, label_at}
use Rattle.model.specs.Lists.{only, all_of}
use Rattle.model.specs.Records.{Rec, place, relation, at}
use Rattle.model.specs.Tables.{decode, record_of}
use Rattle.laws.proofs.Members.{absent, at_key}
use Rattle.laws.proofs.Valid.{distinct_true}
use Rattle.wellformed.proofs.Follow.{position_some}
use Rattle.merge_laws.specs.Absorb.{nth, records_in, beyond, ahead, Whole, Linked, meets, Sought, Seekable}
use Rattle.merge_laws.proofs.Beyond.{in_at}
use Rattle.merge_laws.proofs.Walk.{record_is, link_within, found}
use Rattle.merge_laws.proofs.Chain.{Going, going_start, going_end, in_chain, of_label, of_key, going_linked, going_seek, going_rest, going_on, going_less, going_met}
use Rattle.compare_laws.specs.UpTo.{opt_up_to, up_to_in, chain_up_to, record_up_to}
use Rattle.compare_laws.proofs.Fields.{record_cells}
use Rattle.compare_laws.proofs.Chains.{of, chain_all, chain_none}

-- Each record of relation r above key k of o is up to records s.
abbrev pub up_to_beyond : List Rec → ℕ → ℕ → List Rec → Bool
up_to_beyond s r k o = all_of (up_to_in s) (only (of r) (beyond k o))

-- The records of the chain of the first table b before its record j are up to those of the second table t, whose link stands at word a.
pub record Comparing (t b : List ℕ) (r j a : ℕ) : Type 0 where
  pub going : Going t b r j a
  pub same : up_to_beyond (decode t).records r going.key (decode b).records ≡ chain_up_to (decode t).records r (decode b).records

module _ (t b : List ℕ) (wt : Whole t) (wb : Whole b) (r : ℕ) (r₁ : 1 ≤ r) (r₂ : r ≤ most_relations) where
  pub compare_start : (j a : ℕ) → j ≡ first_at b r → a ≡ first_words + (r - 1) → Comparing t b r j a
  unfolding going_start chain_up_to
  compare_start j a e d = record { going = going_start t b wt wb r r₁ r₂ j a e d; same = ap (all_of (up_to_in (records_in t))) (chain_all b wb r) }

  module _ (j a : ℕ) (h : Comparing t b r j a) where
    pub compare_end : j ≡ 0 → true ≡ chain_up_to (records_in t) r (records_in b)
    unfolding all_of
    compare_end e =
        let l = ap (only (of r)) (going_end t b wt wb r r₁ r₂ j a h.going e) ∙ chain_none (records_in b) r in
        ap (all_of (up_to_in (records_in t))) (sym l) ∙ h.same

    module _ (n : 0 < j) where
      first : of r (nth (records_in b) j) ≡ true
      first = eq-eqb (relation (nth (records_in b) j)) r (in_chain t b wt wb r r₁ r₂ j a h.going n).related

      rest : chain_up_to (records_in t) r (records_in b) ≡ (up_to_in (records_in t) (nth (records_in b) j) && up_to_beyond (records_in t) r (nth (records_in b) j).key (records_in b))
      unfolding all_of only
      rest = sym h.same ∙ ap (λ (l : List Rec). all_of (up_to_in (records_in t)) (only (of r) l)) (going_rest t b wt wb r r₁ r₂ j a h.going n) ∙ rw first refl

      pub compare_linked : Linked (records_in t) r (label_at b j) a
      compare_linked = going_linked t b wt wb r r₁ r₂ j a h.going n

      pub compare_seek : Seekable t (label_at b j) a
      compare_seek = going_seek t b wt wb r r₁ r₂ j a h.going n

      pub compare_less : (j' : ℕ) → j' ≡ next_at b j → ahead (records_in b) j' < ahead (records_in b) j
      compare_less j' e = going_less t b wt wb r r₁ r₂ j a h.going n j' e

      module _ (a' : ℕ) (s : Sought t r (label_at b j) a') where
        pub compare_small : (j ≤ most_records) × (word t a' ≤ most_records)
        compare_small =
            let f = in_chain t b wt wb r r₁ r₂ j a h.going n in
            (omega (arith, f.within, wb.value.room, wb.value.most), omega (arith, link_within t wt r (label_at b j) r₁ r₂ a' s.linked, wt.value.room, wt.value.most))

        -- the record met, or none
        missing : meets t a' (label_at b j) ≡ false → up_to_in (records_in t) (nth (records_in b) j) ≡ false
        unfolding up_to_in opt_up_to
        missing e = rw (absent (records_in t) (nth (records_in b) j).key (going_met t b wt wb r r₁ r₂ j a h.going n a' s ∙ e)) refl

        there : meets t a' (label_at b j) ≡ true → at (nth (records_in b) j).key (records_in t) ≡ some (record_of t (word t a')).cell
        there e =
            let f = in_chain t b wt wb r r₁ r₂ j a h.going n in
            let l = of_label t b wt wb r r₁ r₂ j a h.going n in
            let x = wb.value.sound j f.here f.within in
            let q = found t wt r (label_at b j) r₁ r₂ a' s (rw l x.labelled) (omega (arith, l)) e in
            let p = position_some (place r (label_at b j)) (records_in t) q.0 in
            let i₁ : 1 ≤ word t a' = omega (arith, p.from_one, q.1) in
            let i₂ : word t a' ≤ length (records_in t) = omega (arith, p.within, q.1) in
            let k : (nth (records_in t) (word t a')).key ≡ (nth (records_in b) j).key = rw q.1 at p.keyed ∙ of_key t b wt wb r r₁ r₂ j a h.going n in
            at_key (records_in t) (nth (records_in t) (word t a')) (nth (records_in b) j).key (distinct_true (records_in t) wt.value.single) (in_at (records_in t) (word t a' - 1) (omega (arith, i₁, i₂))) k
            ∙ ap (λ (y : Rec). some y.cell) (sym (record_is t wt (word t a') i₁ i₂))

        met : meets t a' (label_at b j) ≡ true → up_to_in (records_in t) (nth (records_in b) j) ≡ record_up_to b j t (word t a')
        unfolding up_to_in opt_up_to
        met e =
            let f = in_chain t b wt wb r r₁ r₂ j a h.going n in
            rw (there e, ← record_is b wb j f.here f.within) (sym (record_cells b t j (word t a')))

        pub compare_met : up_to_in (records_in t) (nth (records_in b) j) ≡ (meets t a' (label_at b j) && record_up_to b j t (word t a'))
        compare_met = go (test (meets t a' (label_at b j)))
          where
            go : (meets t a' (label_at b j) ≡ true) ⊎ (meets t a' (label_at b j) ≡ false) → up_to_in (records_in t) (nth (records_in b) j) ≡ (meets t a' (label_at b j) && record_up_to b j t (word t a'))
            go (inl e) = rw e (met e)
            go (inr e) = rw e (missing e)

        pub compare_on : (j' : ℕ) → j' ≡ next_at b j → (meets t a' (label_at b j) && record_up_to b j t (word t a')) ≡ true → Comparing t b r j' a'
        unfolding going_on
        compare_on j' e q = record { going = going_on t b wt wb r r₁ r₂ j a h.going n t j' a' s.linked e; same = sym (rest ∙ rw (compare_met ∙ q) refl) }

        pub compare_fails : (meets t a' (label_at b j) && record_up_to b j t (word t a')) ≡ false → false ≡ chain_up_to (records_in t) r (records_in b)
        compare_fails q = sym (rest ∙ rw (compare_met ∙ q) refl)
