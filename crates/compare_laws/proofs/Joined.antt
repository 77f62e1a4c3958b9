-- Records are up to those of another table exactly if the join of both is the other's.
-- Assumes nothing.
use Prim.Native.Nat.{ℕ}
use mathlib.Core.Path.{◌≡◌, refl, sym, ◌∙◌, ap}
use mathlib.Core.Logic.{◌⊎◌, inl, inr}
use mathlib.Core.Bool.{true, false}
use mathlib.Core.List.{List}
use mathlib.Core.Option.{Option}
use Rattle.crdt.specs.Cells.{Cell, join_opt}
use Rattle.crdt.proofs.Tests.{test}
use Rattle.model.specs.Lists.{all_of}
use Rattle.model.specs.Records.{Rec, has, at, join, Rising}
use Rattle.laws.proofs.Lists.{◌∈◌, all_in, in_all}
use Rattle.laws.proofs.Shown.{has_in}
use Rattle.laws.proofs.Join.{ext, join_rising, at_join}
use Rattle.laws.proofs.Members.{absent, at_member, at_key, rising_distinct}
use Rattle.compare_laws.specs.UpTo.{opt_up_to, up_to_in}
use Rattle.compare_laws.proofs.Cells.{opt_up, opt_join}

module _ (s t : List Rec) (rs : Rising 0 s) (rt : Rising 0 t) where
  pub up_joins : all_of (up_to_in t) s ≡ true → join s t ≡ t
  unfolding up_to_in join_opt
  up_joins h = ext 0 _ _ (join_rising s t rs) rt (λ k. at_join k s t ∙ go k (test (has s k)))
    where
      go : (k : ℕ) → (has s k ≡ true) ⊎ (has s k ≡ false) → join_opt (at k s) (at k t) ≡ at k t
      go k (inl p) =
          let r = has_in s k p in
          let y = r.0 in
          let q : opt_up_to (at k t) y.cell ≡ true = rw r.2 at (all_in (up_to_in t) y s h r.1) in
          rw (at_key s y k (rising_distinct 0 s rs) r.1 r.2) (opt_up (at k t) y.cell q)
      go k (inr p) = rw (absent s k p) refl

  pub joins_up : join s t ≡ t → all_of (up_to_in t) s ≡ true
  unfolding up_to_in
  joins_up e = in_all (up_to_in t) s go
    where
      go : (y : Rec) → y ∈ s → up_to_in t y ≡ true
      go y m =
          opt_join (at y.key t) y.cell
          (ap (λ (o : Option Cell). join_opt o (at y.key t)) (sym (at_member s y (rising_distinct 0 s rs) m)) ∙ sym (at_join y.key s t) ∙ ap (at y.key) e)
