-- What the functions' steps need: words after stores, and the turns of their loops.
-- Assumes nothing.
use Prim.Native.Nat.{ℕ, ◌+◌, ◌-◌, ◌≤◌, ◌<◌}
use mathlib.Core.Path.{◌≡◌, refl, sym, ◌∙◌, ap}
use mathlib.Core.Bool.{Bool, false, ◌&&◌}
use mathlib.Core.List.{List, []}
use mathlib.Core.Logic.{◌⊎◌, inl, inr, ◌≢◌}
use native.Mathlib.Omega.{arith}
use native.Mathlib.Numerals.{add-one}
use lib.Dec.{eqb}
use lib.ListN.{length, get_or, set}
use borrow.Author.Tests.{eq-eqb}
use Rattle.crdt.specs.Labels.{largest_counter}
use Rattle.crdt.specs.Flags.{deleted}
use Rattle.crdt.specs.Cells.{reg}
use Rattle.crdt.proofs.Tests.{clash, and_both}
use Rattle.model.specs.Layout.{fields, most_relations, most_records, delta_records, head_words, clock_word, base, replica_at, clock_at, used_at, first_at, next_at, relation_at, label_at, flag_at}
use Rattle.model.specs.Records.{place}
use Rattle.model.specs.Tables.{record_of, decode, encode}
use Rattle.model.specs.Edits.{new_label, new_record, flag_only, with_register}
use Rattle.wellformed.proofs.Words.{enc_used}
use Rattle.edit_delta.specs.Picked.{draft_of}
use Rattle.edit_record.specs.Record.{appended, marked, Steppable, stepped}
use Rattle.edit_delta.specs.Drafting.{Source, Edited, Ready, ReadyToInsert, key_of, drafted, end_of, registered, all_registered, Findable, Found}
use Rattle.edit_delta.proofs.Wanted.{key_of_lem}
use Rattle.edit_delta.proofs.Steps.{cursor, cursor_at, cursor_end, Stands, HeldKey, NewKey, kind, key_held, drafted_sound, step_words, first_words_lem, next_words, relation_words, new_words, begin_drafted, end_drafted}
use Rattle.edit_delta.proofs.Given.{source}
use Rattle.edit_delta.proofs.Finish.{found_within, found_key}
use Rattle.edit_delta.proofs.Ends.{draft_sound, draft_findable, insertion_words, update_words, deletion_words}

-- the walk of a chain
module _ (t m : List ℕ) (src : Source t m) (e n : ℕ) (ed : Edited t e n) where
  abbrev At : ℕ → List ℕ
  At b = encode (drafted t (key_of t e n) m b)

  drafted_size : (b : ℕ) → (drafted t (key_of t e n) m b).capacity ≡ delta_records
  unfolding drafted
  drafted_size b = refl

  pub walk_used : (b : ℕ) → used_at (encode (drafted t (key_of t e n) m b)) ≤ most_records
  walk_used b = omega (arith, enc_used (drafted t (key_of t e n) m b), (drafted_sound t m src e n ed b).room, drafted_size b)

  pub walk_room : (d : List ℕ) (b : ℕ) → d ≡ encode (drafted t (key_of t e n) m b) → used_at d ≤ most_records
  walk_room d b p = rw p (walk_used b)

  module _ (r : ℕ) (a : 1 ≤ r) (b : r ≤ most_relations) where
    pub chain_starts : (d : List ℕ) (i : ℕ) → d ≡ encode (drafted t (key_of t e n) m (place r 0)) → i ≡ first_at t r → Stands t r i × (d ≡ encode (drafted t (key_of t e n) m (cursor t r i)))
    chain_starts d i p q = let g = first_words_lem t m src e n ed r a b in rw q (g.0, p ∙ ap encode g.1)

    module _ (d : List ℕ) (i : ℕ) (pos : 0 < i) (w : Stands t r i) (p : d ≡ encode (drafted t (key_of t e n) m (cursor t r i))) where
      pub chain_steppable : Steppable t m d i
      chain_steppable =
          record {
            least = omega arith;
            most = omega (arith, w.within, src.marks);
            from = omega (arith, w.related (omega arith));
            to = omega (arith, w.related (omega arith));
            room = rw p (walk_used (cursor t r i));
          }

      pub chain_turns : (d' : List ℕ) (j : ℕ) → d' ≡ stepped t m e d i → j ≡ next_at t i → Stands t r j × (d' ≡ encode (drafted t (key_of t e n) m (cursor t r j)))
      chain_turns d' j q z =
          let g = next_words t m src e n ed r a b i (omega arith) w in
          let y : d ≡ encode (drafted t (key_of t e n) m (record_of t i).key) = p ∙ ap (λ (k : ℕ). encode (drafted t (key_of t e n) m k)) (cursor_at t r i (omega arith)) in
          rw z (g.0, q ∙ ap (λ (l : List ℕ). stepped t m e l i) y ∙ step_words t m src e n ed i (omega arith) w.within ∙ ap encode g.3)

      pub chain_less : (j : ℕ) → j ≡ next_at t i → end_of t r - cursor t r j < end_of t r - cursor t r i
      chain_less j z =
          let g = next_words t m src e n ed r a b i (omega arith) w in
          let c = cursor_at t r i (omega arith) in
          rw (z, c) (omega (arith, g.1, g.2))

    pub chain_ends : (d : List ℕ) (i : ℕ) → i ≡ 0 → d ≡ encode (drafted t (key_of t e n) m (cursor t r i)) → d ≡ encode (drafted t (key_of t e n) m (end_of t r))
    chain_ends d i z p = p ∙ ap (λ (k : ℕ). encode (drafted t (key_of t e n) m k)) (cursor_end t r i z)

    pub relation_ends : (d : List ℕ) → d ≡ encode (drafted t (key_of t e n) m (end_of t r)) → r ≢ n → d ≡ encode (drafted t (key_of t e n) m (place (r + 1) 0))
    relation_ends d p z = p ∙ ap encode (relation_words t m src e n ed r a b z)

    pub relation_adds : (d d' : List ℕ) (l : ℕ) → d ≡ encode (drafted t (key_of t e n) m (end_of t r)) → r ≡ n → l ≡ new_label (decode t) → d' ≡ appended d r l 0 → d' ≡ encode (drafted t (key_of t e n) m (place (r + 1) 0))
    relation_adds d d' l p z y q = q ∙ rw (p, y) (new_words t m src e n ed r a b z)

  pub walk_begins : (d : List ℕ) (r c : ℕ) → r ≡ replica_at t → c ≡ clock_at t → d ≡ encode (record { capacity = delta_records; replica = r; clock = c; records = [] }) → d ≡ encode (drafted t (key_of t e n) m (place 1 0))
  walk_begins d r c x y p = p ∙ rw (x, y) (ap encode (begin_drafted t m src e n ed))

  pub walk_ends : (d : List ℕ) (r : ℕ) → r ≡ most_relations + 1 → d ≡ encode (drafted t (key_of t e n) m (place r 0)) → d ≡ encode (draft_of t (clock_at t) (flag_only fields (key_of t e n) 0) m)
  walk_ends d r z p = p ∙ rw z (ap encode (end_drafted t m src e n ed))

  pub new_clock : (r : ℕ) → 1 ≤ r → r ≡ n → clock_at t < largest_counter
  new_clock r a z = go (kind t m src e n ed)
    where
      go : HeldKey t e n ⊎ NewKey t e n → clock_at t < largest_counter
      go (inl w) = absurd (omega (arith, w.named))
      go (inr w) = w.clock

-- the search for a record
pub found_not : (d : List ℕ) (r l i : ℕ) (f : Findable d r l) (b : Bool) → b ≡ (eqb (relation_at d i) r && eqb (label_at d i) l) → b ≡ false → i ≢ f.index
found_not d r l i f b p q z =
    clash (and_both (eqb (relation_at d i) r) (eqb (label_at d i) l) (eq-eqb _ _ (ap (relation_at d) z ∙ f.related)) (eq-eqb _ _ (ap (label_at d) z ∙ f.labelled))) (sym p ∙ q)

-- the registers of a record
pub registered_is : (d d₁ d₂ : List ℕ) (p j v l b : ℕ) → b ≡ base p → d₁ ≡ set d (b + head_words + j) v → d₂ ≡ set d₁ (b + head_words + fields + j) l → d₂ ≡ registered d p j (reg v l)
unfolding registered
registered_is d d₁ d₂ p j v l b e f g = g ∙ rw (f, e) refl

pub registered_none : (d : List ℕ) (p : ℕ) (vs : List ℕ) (l : ℕ) → d ≡ all_registered 0 d p vs l
unfolding all_registered
registered_none d p vs l = refl

pub registered_next : (d d₁ d₂ : List ℕ) (p j : ℕ) (vs : List ℕ) (l : ℕ) → d₁ ≡ all_registered j d p vs l → d₂ ≡ registered d₁ p j (reg (get_or vs j 0) l) → d₂ ≡ all_registered (j + 1) d p vs l
unfolding all_registered
registered_next d d₁ d₂ p j vs l e f = rw add-one (f ∙ rw e refl)

-- a found record is one of few
pub found_small : (t m : List ℕ) (src : Source t m) (e n : ℕ) (ed : Edited t e n) (d : List ℕ) (r l p : ℕ) → d ≡ encode (draft_of t (clock_at t) (flag_only fields (key_of t e n) 0) m) → Found d r l p → p ≤ most_records
found_small t m src e n ed d r l p z f =
    let v = draft_of t (clock_at t) (flag_only fields (key_of t e n) 0) m in
    let w = draft_sound t m src e n ed in
    omega (arith, found_within v r l p (rw z at f), w.room, w.most)

-- the edited record is that of index i
pub held_edited : (t : List ℕ) (i : ℕ) → 1 ≤ i → i ≤ used_at t → Edited t i 0
held_edited t i a b = record { existing = λ _. (b, refl); new = λ h. absurd (omega arith) }

-- the finished deltas
module _ (s t d m : List ℕ) where
  pub insertion_edited : (r : ℕ) (vs : List ℕ) → ReadyToInsert s t d r vs m → Edited t 0 r
  insertion_edited r vs q = record { existing = λ h. absurd (omega arith); new = λ _. (q.least, q.most, q.clock) }

  pub insertion_findable : (r : ℕ) (vs : List ℕ) (q : ReadyToInsert s t d r vs m) (d₁ : List ℕ) (l : ℕ) → d₁ ≡ encode (draft_of t (clock_at t) (flag_only fields (key_of t 0 r) 0) m) → l ≡ new_label (decode t) → Findable d₁ r l
  insertion_findable r vs q d₁ l p z = rw (p, z) (go (kind t m src 0 r ed))
    where
      src : Source t m
      src = source s t d m q.ready

      ed : Edited t 0 r
      ed = insertion_edited r vs q

      go : HeldKey t 0 r ⊎ NewKey t 0 r → Findable (encode (draft_of t (clock_at t) (flag_only fields (key_of t 0 r) 0) m)) r (new_label (decode t))
      go (inl w) = absurd (omega (arith, w.least))
      go (inr w) = draft_findable t m src 0 r ed r (new_label (decode t)) w.is w.label

  pub insertion_done : (r : ℕ) (vs : List ℕ) (q : ReadyToInsert s t d r vs m) (d₁ d₂ d₃ : List ℕ) (l p c : ℕ) → d₁ ≡ encode (draft_of t (clock_at t) (flag_only fields (key_of t 0 r) 0) m) → l ≡ new_label (decode t) → Found d₁ r l p
      → d₂ ≡ all_registered (length vs) d₁ p vs l → c ≡ clock_at t → d₃ ≡ set d₂ clock_word (c + 1) → d₃ ≡ encode (draft_of t (clock_at t + 1) (new_record fields (decode t) r vs) m)
  insertion_done r vs q d₁ d₂ d₃ l p c e₁ e₂ f e₃ e₄ e₅ = e₅ ∙ rw (e₃, e₁, e₂, e₄) (go (kind t m src 0 r ed) (rw (e₁, e₂) at f))
    where
      src : Source t m
      src = source s t d m q.ready

      ed : Edited t 0 r
      ed = insertion_edited r vs q

      go : HeldKey t 0 r ⊎ NewKey t 0 r → Found (encode (draft_of t (clock_at t) (flag_only fields (key_of t 0 r) 0) m)) r (new_label (decode t)) p
          → set (all_registered (length vs) (encode (draft_of t (clock_at t) (flag_only fields (key_of t 0 r) 0) m)) p vs (new_label (decode t))) clock_word (clock_at t + 1) ≡ encode (draft_of t (clock_at t + 1) (new_record fields (decode t) r vs) m)
      go (inl w) g = absurd (omega (arith, w.least))
      go (inr w) g =
          let v = draft_of t (clock_at t) (flag_only fields (key_of t 0 r) 0) m in
          insertion_words t m src 0 r ed p g.least (found_within v r (new_label (decode t)) p g) (found_key v (draft_sound t m src 0 r ed) r (new_label (decode t)) p g ∙ sym w.is) vs q.count w

  -- the record of index i
  module _ (q : Ready s t d m) (i : ℕ) (a : 1 ≤ i) (b : i ≤ used_at t) where
    src : Source t m
    src = source s t d m q

    ed : Edited t i 0
    ed = held_edited t i a b

    key_place_lem : key_of t i 0 ≡ place (relation_at t i) (label_at t i)
    key_place_lem = key_held t i 0 a ∙ key_of_lem t i

    pub held_findable : (d₁ : List ℕ) (r l : ℕ) → d₁ ≡ encode (draft_of t (clock_at t) (flag_only fields (key_of t i 0) 0) m) → r ≡ relation_at t i → l ≡ label_at t i → Findable d₁ r l
    held_findable d₁ r l p y z = rw (p, y, z) (draft_findable t m src i 0 ed (relation_at t i) (label_at t i) key_place_lem (omega (arith, src.below i a b, src.clock)))

    go_held : HeldKey t i 0 ⊎ NewKey t i 0 → HeldKey t i 0
    go_held (inl w) = w
    go_held (inr w) = absurd (omega (arith, w.index))

    held_key : HeldKey t i 0
    held_key = go_held (kind t m src i 0 ed)

    module _ (d₁ : List ℕ) (r l p : ℕ) (e₁ : d₁ ≡ encode (draft_of t (clock_at t) (flag_only fields (key_of t i 0) 0) m)) (e₂ : r ≡ relation_at t i) (e₃ : l ≡ label_at t i) (f : Found d₁ r l p) where
      found : Found (encode (draft_of t (clock_at t) (flag_only fields (key_of t i 0) 0) m)) (relation_at t i) (label_at t i) p
      found = rw (e₁, e₂, e₃) at f

      found_is : (Rattle.merge_laws.specs.Absorb.nth (draft_of t (clock_at t) (flag_only fields (key_of t i 0) 0) m).records p).key ≡ key_of t i 0
      found_is = found_key (draft_of t (clock_at t) (flag_only fields (key_of t i 0) 0) m) (draft_sound t m src i 0 ed) (relation_at t i) (label_at t i) p found ∙ sym key_place_lem

      found_in : p ≤ length (draft_of t (clock_at t) (flag_only fields (key_of t i 0) 0) m).records
      found_in = found_within (draft_of t (clock_at t) (flag_only fields (key_of t i 0) 0) m) (relation_at t i) (label_at t i) p found

      pub update_done : (g v : ℕ) → 1 ≤ g → g ≤ fields → clock_at t < largest_counter → (d₂ d₃ : List ℕ) (n c : ℕ) → n ≡ new_label (decode t) → d₂ ≡ registered d₁ p (g - 1) (reg v n) → c ≡ clock_at t → d₃ ≡ set d₂ clock_word (c + 1)
          → d₃ ≡ encode (draft_of t (clock_at t + 1) (with_register (flag_only fields (record_of t i).key 0) g (reg v (new_label (decode t)))) m)
      update_done g v x y h d₂ d₃ n c e₄ e₅ e₆ e₇ =
          let w = update_words t m src i 0 ed p found.least found_in found_is held_key g v x y h in
          e₇ ∙ rw (e₅, e₁, e₄, e₆) (w ∙ ap (λ (k : ℕ). encode (draft_of t (clock_at t + 1) (with_register (flag_only fields k 0) g (reg v (new_label (decode t)))) m)) (key_held t i 0 a))

      pub deletion_done : marked m i ≡ false → (d₂ : List ℕ) (k o : ℕ) → k ≡ base p → o ≡ deleted (flag_at t i) → d₂ ≡ set d₁ (k + 3) o
          → d₂ ≡ encode (draft_of t (clock_at t) (flag_only fields (record_of t i).key (deleted (flag_at t i))) m)
      deletion_done u d₂ k o e₄ e₅ e₆ =
          let w = deletion_words t m src i 0 ed p found.least found_in found_is held_key u in
          e₆ ∙ rw (e₁, e₄, e₅) (w ∙ ap (λ (k : ℕ). encode (draft_of t (clock_at t) (flag_only fields k (deleted (flag_at t i))) m)) (key_held t i 0 a))
