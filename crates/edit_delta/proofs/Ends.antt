-- The words of the finished deltas of an insertion, an update and a deletion.
-- Assumes nothing.
use Prim.Native.Nat.{ℕ, zero, suc, ◌+◌, ◌-◌, ◌≤◌, ◌<◌, max}
use mathlib.Core.Path.{◌≡◌, refl, sym, ◌∙◌, ap, ap₂}
use mathlib.Core.Bool.{Bool, true, false, cond, ◌||◌}
use mathlib.Core.List.{List, ◌∷◌, ◌++◌, map}
use mathlib.Core.Option.{Option, none, some}
use mathlib.Core.Logic.{◌⊎◌, inl, inr, ◌≢◌}
use native.Mathlib.Omega.{arith}
use lib.Dec.{eqb}
use lib.ListN.{length, set, replicate, length-set}
use lib.Seq.{take-length}
use borrow.Author.Tests.{eq-eqb}
use Rattle.crdt.specs.Labels.{largest_counter}
use Rattle.crdt.specs.Flags.{largest_flag, redone, deleted}
use Rattle.crdt.specs.Cells.{Reg, reg, no_reg, join_regs, Cell, join_cell, join_opt}
use Rattle.crdt.proofs.Tests.{or_right}
use Rattle.crdt.proofs.Order.{join_earlier}
use Rattle.crdt.proofs.Lattice.{reg_lattice}
use Rattle.model.specs.Layout.{fields, most_relations, delta_records, head_words, clock_word, base, clock_at, flag_at}
use Rattle.model.specs.Records.{Rec, place, label_span, has, at, in_order, Rising}
use Rattle.model.specs.Tables.{Table, record_of, decode, encode}
use Rattle.model.specs.Edits.{flag_only, redoing, new_label, new_record, with_register}
use Rattle.laws.proofs.Join.{opt_none, own_self, own_other}
use Rattle.laws.proofs.Members.{at_member, rising_distinct}
use Rattle.laws.proofs.Order.{has_at, is_some}
use Rattle.laws.proofs.Drafts.{deleted_flag}
use Rattle.edit_delta.specs.Picked.{picked_keys, draft_of}
use Rattle.edit_record.specs.Record.{marked}
use Rattle.edit_delta.specs.Drafting.{Source, Edited, key_of, wanted, registered, all_registered, Findable}
use Rattle.wellformed.proofs.Words.{clock_words}
use Rattle.merge_laws.specs.Absorb.{nth, with_records, celled, SoundTable, with_clock}
use Rattle.merge_laws.proofs.Frames.{flag_words, register_words}
use Rattle.edit_delta.proofs.Behind.{fresh_key, fresh_flag, fresh_wide}
use Rattle.edit_delta.proofs.Wanted.{nth_in, own_redone, draft_rising, draft_at, draft_new}
use Rattle.edit_delta.proofs.Steps.{none_joined, label_new, HeldKey, NewKey, kind, own_not_new, wanted_own, wanted_new, drafted_sound, end_drafted, flag_of_lem}
use Rattle.edit_delta.proofs.Finish.{celled_order, findable, cell_of, values_words}

-- registers joined with none, where one of them is stamped and the others are none
one_joined : (n j v l : ℕ) → 0 < l → join_regs (set (replicate n no_reg) j (reg v l)) (replicate n no_reg) ≡ set (replicate n no_reg) j (reg v l)
unfolding join_regs
one_joined zero j v l h = refl
one_joined (suc n) zero v l h = ap₂ (λ (g : Reg) (gs : List Reg). g ∷ gs) (sym (join_earlier v l 0 0 h)) (none_joined n)
one_joined (suc n) (suc j) v l h = ap₂ (λ (g : Reg) (gs : List Reg). g ∷ gs) (reg_lattice.idem no_reg) (one_joined n j v l h)

one_met : (k f j v l : ℕ) → 0 < l → join_cell (with_register (flag_only fields k 0) j (reg v l)).cell (flag_only fields k f).cell ≡ (with_register (flag_only fields k f) j (reg v l)).cell
unfolding join_cell with_register flag_only
one_met k f j v l h = let a : max 0 f ≡ f = omega arith in let b = one_joined fields (j - 1) v l h in λ i. record { flag = a i; regs = b i }

new_key : (t : Table) (n : ℕ) (vs : List ℕ) → (new_record fields t n vs).key ≡ place n (new_label t)
unfolding new_record
new_key t n vs = refl

blank_cell : (k : ℕ) → (flag_only fields k 0).cell ≡ record { flag = 0; regs = replicate fields no_reg }
unfolding flag_only
blank_cell k = refl

same_regs_lem : (k f g : ℕ) → (flag_only fields k f).cell.regs ≡ (flag_only fields k g).cell.regs
unfolding flag_only
same_regs_lem k f g = refl

one_register : (d : List ℕ) (p j : ℕ) (g : Reg) → registered d p j g ≡ set (set d (base p + head_words + j) g.value) (base p + head_words + fields + j) g.stamp
unfolding registered
one_register d p j g = refl

some_is : (p q : Cell) → ◌≡◌ {A = Option Cell} (some p) (some q) → p ≡ q
some_is p q z = cc

module _ (t m : List ℕ) (src : Source t m) (e n : ℕ) (ed : Edited t e n) where
  abbrev K : ℕ
  K = key_of t e n

  abbrev v₀ : Table
  v₀ = draft_of t (clock_at t) (flag_only fields (key_of t e n) 0) m

  abbrev F₀ : List Rec
  F₀ = (draft_of t (clock_at t) (flag_only fields (key_of t e n) 0) m).records

  pub draft_sound : SoundTable (draft_of t (clock_at t) (flag_only fields (key_of t e n) 0) m)
  draft_sound = rw (end_drafted t m src e n ed) at (drafted_sound t m src e n ed (place (most_relations + 1) 0))

  rising₀ : Rising 0 (draft_of t (clock_at t) (flag_only fields (key_of t e n) 0) m).records
  rising₀ = draft_rising t m src (clock_at t) (flag_only fields K 0)

  -- the cell of the edited record
  held_cell : HeldKey t e n → at (key_of t e n) (draft_of t (clock_at t) (flag_only fields (key_of t e n) 0) m).records ≡ some (flag_only fields (key_of t e n) (cond (marked m e) (redone (flag_at t e)) 0)).cell
  unfolding wanted
  held_cell w = let z = wanted_own t m src e n ed e w.least w.most in rw w.is (z' (rw w.is at z))
    where
      z' : at (record_of t e).key (draft_of t (clock_at t) (flag_only fields (record_of t e).key 0) m).records ≡ cond (marked m e || eqb e e) (some (flag_only fields (record_of t e).key (cond (marked m e) (redone (flag_at t e)) 0)).cell) none
          → at (record_of t e).key (draft_of t (clock_at t) (flag_only fields (record_of t e).key 0) m).records ≡ some (flag_only fields (record_of t e).key (cond (marked m e) (redone (flag_at t e)) 0)).cell
      z' h = h ∙ rw (or_right (marked m e) (eqb e e) (eq-eqb e e refl))

  new_cell : NewKey t e n → at (key_of t e n) (draft_of t (clock_at t) (flag_only fields (key_of t e n) 0) m).records ≡ some (flag_only fields (key_of t e n) 0).cell
  unfolding wanted
  new_cell w = wanted_new t m src e n ed w

  pub draft_holds : has (draft_of t (clock_at t) (flag_only fields (key_of t e n) 0) m).records (key_of t e n) ≡ true
  draft_holds = has_at F₀ K ∙ go (kind t m src e n ed)
    where
      go : HeldKey t e n ⊎ NewKey t e n → is_some (at (key_of t e n) (draft_of t (clock_at t) (flag_only fields (key_of t e n) 0) m).records) ≡ true
      go (inl w) = rw (held_cell w) (unfold is_some in refl)
      go (inr w) = rw (new_cell w) (unfold is_some in refl)

  pub draft_findable : (r l : ℕ) → key_of t e n ≡ place r l → l < label_span → Findable (encode (draft_of t (clock_at t) (flag_only fields (key_of t e n) 0) m)) r l
  draft_findable r l z h = findable v₀ draft_sound r l h (ap (has F₀) (sym z) ∙ draft_holds)

  -- record p of the delta is the edited one
  module _ (p : ℕ) (a : 1 ≤ p) (b : p ≤ length (draft_of t (clock_at t) (flag_only fields (key_of t e n) 0) m).records)
      (keyed : (nth (draft_of t (clock_at t) (flag_only fields (key_of t e n) 0) m).records p).key ≡ key_of t e n) where
    cell_is : (c : Cell) → at (key_of t e n) (draft_of t (clock_at t) (flag_only fields (key_of t e n) 0) m).records ≡ some c → (nth (draft_of t (clock_at t) (flag_only fields (key_of t e n) 0) m).records p).cell ≡ c
    cell_is c h = some_is _ _ (sym (at_member F₀ (nth F₀ p) (rising_distinct 0 F₀ rising₀) (nth_in F₀ (p - 1) (omega arith))) ∙ rw keyed h)

    -- what changes its cell alone gives the draft of another record with its key
    finish : (c' : ℕ) (x : Rec) (c : Cell) → x.key ≡ key_of t e n → at (key_of t e n) (draft_of t c' x m).records ≡ some c
        → celled (draft_of t (clock_at t) (flag_only fields (key_of t e n) 0) m).records p c ≡ (draft_of t c' x m).records
    finish c' x c z h = celled_order F₀ (draft_of t c' x m).records p c rising₀ (draft_rising t m src c' x) a b (rw keyed h) (λ k d. other k (λ q. d (q ∙ sym keyed)))
      where
        other : (k : ℕ) → k ≢ key_of t e n → at k (draft_of t c' x m).records ≡ at k (draft_of t (clock_at t) (flag_only fields (key_of t e n) 0) m).records
        other k d =
            draft_at t m src c' x k ∙ ap (λ (o : Option Cell). join_opt o (at k (redoing fields (in_order (decode t).records) (picked_keys (decode t).records m)))) (own_other k x (λ q. d (q ∙ z)) ∙ sym (own_other k (flag_only fields K 0) (λ q. d (q ∙ fresh_key K 0))))
            ∙ sym (draft_at t m src (clock_at t) (flag_only fields K 0) k)

    whole : (c' : ℕ) (x : Rec) (s : List Rec) → s ≡ (draft_of t c' x m).records
        → with_clock (with_records (draft_of t (clock_at t) (flag_only fields (key_of t e n) 0) m) s) c' ≡ draft_of t c' x m
    unfolding draft_of
    whole c' x s z = λ i. record { capacity = delta_records; replica = (decode t).replica; clock = c'; records = z i }

    same_clock : (x : Rec) (s : List Rec) → s ≡ (draft_of t (clock_at t) x m).records
        → with_records (draft_of t (clock_at t) (flag_only fields (key_of t e n) 0) m) s ≡ draft_of t (clock_at t) x m
    unfolding draft_of
    same_clock x s z = λ i. record { capacity = delta_records; replica = (decode t).replica; clock = clock_at t; records = z i }

    -- an insertion: the values are written, and the clock rises
    pub insertion_words : (vs : List ℕ) → length vs ≤ fields → NewKey t e n
        → set (all_registered (length vs) (encode (draft_of t (clock_at t) (flag_only fields (key_of t e n) 0) m)) p vs (new_label (decode t))) clock_word (clock_at t + 1)
        ≡ encode (draft_of t (clock_at t + 1) (new_record fields (decode t) n vs) m)
    insertion_words vs few w =
        let l = new_label (decode t) in
        let x = new_record fields (decode t) n vs in
        let k : (new_record fields (decode t) n vs).key ≡ key_of t e n = new_key (decode t) n vs ∙ sym w.is in
        let c : cell_of l vs (length vs) ≡ x.cell = stamped_cell in
        let e₁ = values_words v₀ draft_sound p a b l vs few (cell_is _ (new_cell w) ∙ blank_cell K) (length vs) (omega arith) in
        let h : at (key_of t e n) (draft_of t (clock_at t + 1) x m).records ≡ some x.cell = rw (← k) (draft_new t m src (clock_at t + 1) x (rw k (own_not_new t m src e n w))) in
        ap (λ (d : List ℕ). set d clock_word (clock_at t + 1)) e₁ ∙ clock_words _ (clock_at t + 1)
        ∙ ap encode (whole (clock_at t + 1) x _ (ap (celled F₀ p) c ∙ finish (clock_at t + 1) x x.cell k h))
      where
        stamped_cell : cell_of (new_label (decode t)) vs (length vs) ≡ (new_record fields (decode t) n vs).cell
        stamped_cell = unfold cell_of new_record in (λ i. record { flag = 0; regs = map (λ (y : ℕ). reg y (new_label (decode t))) (take-length vs i) ++ replicate (fields - length vs) no_reg })

    module _ (w : HeldKey t e n) where
      abbrev f₀ : ℕ
      f₀ = cond (marked m e) (redone (flag_at t e)) 0

      abbrev X : ℕ → ℕ → Rec
      X f v = with_register (flag_only fields (key_of t e n) 0) f (reg v (new_label (decode t)))

      X-key : (f v : ℕ) → (with_register (flag_only fields (key_of t e n) 0) f (reg v (new_label (decode t)))).key ≡ key_of t e n
      unfolding with_register flag_only
      X-key f v = refl

      label_some : clock_at t < largest_counter → 0 < new_label (decode t)
      label_some h = omega (arith, label_new t h src.replica)

      own_redone_at : at (key_of t e n) (redoing fields (in_order (decode t).records) (picked_keys (decode t).records m)) ≡ cond (marked m e) (some (flag_only fields (key_of t e n) (redone (flag_at t e))).cell) none
      own_redone_at = rw w.is (own_redone t m src e w.least w.most)

      own_at : (c' : ℕ) (x : Rec) → x.key ≡ key_of t e n → at (key_of t e n) (draft_of t c' x m).records ≡ join_opt (some x.cell) (cond (marked m e) (some (flag_only fields (key_of t e n) (redone (flag_at t e))).cell) none)
      own_at c' x z = draft_at t m src c' x (key_of t e n) ∙ ap₂ join_opt (rw (← z) (own_self x)) own_redone_at

      update_cell : (f v : ℕ) → clock_at t < largest_counter → at (key_of t e n) (draft_of t (clock_at t + 1) (with_register (flag_only fields (key_of t e n) 0) f (reg v (new_label (decode t)))) m).records
          ≡ some (with_register (flag_only fields (key_of t e n) (cond (marked m e) (redone (flag_at t e)) 0)) f (reg v (new_label (decode t)))).cell
      update_cell f v h = own_at (clock_at t + 1) (X f v) (X-key f v) ∙ go (marked m e)
        where
          go : (c : Bool) → join_opt (some (with_register (flag_only fields (key_of t e n) 0) f (reg v (new_label (decode t)))).cell) (cond c (some (flag_only fields (key_of t e n) (redone (flag_at t e))).cell) none)
              ≡ some (with_register (flag_only fields (key_of t e n) (cond c (redone (flag_at t e)) 0)) f (reg v (new_label (decode t)))).cell
          go true = unfold join_opt in ap some (one_met (key_of t e n) (redone (flag_at t e)) f v (new_label (decode t)) (label_some h))
          go false = opt_none _

      cell_flag : (k f j : ℕ) (g : Reg) → (with_register (flag_only fields k f) j g).cell.flag ≡ (flag_only fields k f).cell.flag
      unfolding with_register
      cell_flag k f j g = refl

      cell_regs : (k f j : ℕ) (g : Reg) → (with_register (flag_only fields k f) j g).cell.regs ≡ set (flag_only fields k f).cell.regs (j - 1) g
      unfolding with_register
      cell_regs k f j g = refl

      -- an update: one register is written, and the clock rises
      pub update_words : (f v : ℕ) → 1 ≤ f → f ≤ fields → clock_at t < largest_counter
          → set (registered (encode (draft_of t (clock_at t) (flag_only fields (key_of t e n) 0) m)) p (f - 1) (reg v (new_label (decode t)))) clock_word (clock_at t + 1)
          ≡ encode (draft_of t (clock_at t + 1) (with_register (flag_only fields (key_of t e n) 0) f (reg v (new_label (decode t)))) m)
      update_words f v x y h =
          let g = reg v (new_label (decode t)) in
          let c = (with_register (flag_only fields K f₀) f g).cell in
          let here = cell_is _ (held_cell w) in
          let wide : length (with_register (flag_only fields K f₀) f g).cell.regs ≡ fields = ap length (cell_regs K f₀ f g) ∙ length-set (flag_only fields K f₀).cell.regs (f - 1) g ∙ fresh_wide K f₀ in
          let small : (with_register (flag_only fields K f₀) f g).cell.flag ≤ largest_flag = rw (cell_flag K f₀ f g, fresh_flag K f₀) (flag_of_lem t m src e n ed e w.least w.most (marked m e)) in
          let e₁ : registered (encode v₀) p (f - 1) g ≡ encode (with_records v₀ (celled F₀ p c)) =
          one_register (encode v₀) p (f - 1) g ∙ (register_words v₀ draft_sound p a b c small wide (f - 1) g (omega arith)
          (cell_flag K f₀ f g ∙ ap (λ (q : Cell). q.flag) (sym here)) (cell_regs K f₀ f g ∙ ap (λ (q : Cell). set q.regs (f - 1) g) (sym here))) in
          ap (λ (d : List ℕ). set d clock_word (clock_at t + 1)) e₁ ∙ clock_words _ (clock_at t + 1)
          ∙ ap encode (whole (clock_at t + 1) (X f v) _ (finish (clock_at t + 1) (X f v) c (X-key f v) (update_cell f v h)))

      -- a deletion: the flag is written
      pub deletion_words : marked m e ≡ false
          → set (encode (draft_of t (clock_at t) (flag_only fields (key_of t e n) 0) m)) (base p + 3) (deleted (flag_at t e))
          ≡ encode (draft_of t (clock_at t) (flag_only fields (key_of t e n) (deleted (flag_at t e))) m)
      deletion_words u =
          let f = deleted (flag_at t e) in
          let y = flag_only fields K (deleted (flag_at t e)) in
          let here : (nth F₀ p).cell ≡ (flag_only fields K 0).cell = cell_is _ (held_cell w ∙ rw u) in
          let c = (flag_only fields K (deleted (flag_at t e))).cell in
          let h : at K (draft_of t (clock_at t) y m).records ≡ some c = own_at (clock_at t) y (fresh_key K f) ∙ rw u (opt_none _) in
          let same : c.regs ≡ (nth F₀ p).cell.regs = same_regs_lem K f 0 ∙ ap (λ (q : Cell). q.regs) (sym here) in
          ap (set (encode v₀) (base p + 3)) (sym (fresh_flag K f))
          ∙ flag_words v₀ draft_sound p a b c (rw (fresh_flag K f) (deleted_flag (flag_at t e) (src.flagged e w.least w.most))) (fresh_wide K f) same
          ∙ ap encode (same_clock y _ (finish (clock_at t) y c (fresh_key K f) h))
