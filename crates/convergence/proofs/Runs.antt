-- After every list of calls each table is good, and holds the join of what the deltas of the edits that it took in hold.
-- Assumes nothing.
use Prim.Native.Nat.{ℕ, zero, suc, ◌<◌}
use mathlib.Core.Path.{◌≡◌, refl, sym, ◌∙◌, ap, subst}
use mathlib.Core.Logic.{◌⊎◌, inl, inr}
use mathlib.Core.Bool.{Bool, true, false, cond}
use mathlib.Core.List.{List, [], ◌∷◌, ◌++◌}
use mathlib.Core.Option.{Option, none, some}
use native.Mathlib.Omega.{arith}
use lib.Dec.{eqb}
use lib.ListN.{length, get_or, drop}
use borrow.Author.Tests.{eqb-true, eqb-false, eq-eqb, ne_eqb}
use Rattle.crdt.proofs.Tests.{test, clash}
use Rattle.model.specs.Schemas.{broken}
use Rattle.model.specs.Records.{Rec, in_order, join, Rising}
use Rattle.model.specs.Tables.{decode}
use Rattle.model.specs.Calls.{schema_length, table_length, done, schema_number, start_number, start_table, merge_number, merge_table, edit_table, insertion_number, insertion_table, insertion_delta, update_number, update_table, update_delta, deletion_number, deletion_table, deletion_delta}
use Rattle.model.specs.Runs.{Source, copy, delta, words, Call, start, merge, insertion, update, deletion, Moment, put, after_call, ago, edit_ago, wrote_words, other_words, other_took, next, history, Lent, AllowedMerge, Allowed, Run, begun}
use Rattle.model.specs.Demand.{SameEdits}
use Rattle.laws.proofs.Join.{join_rising}
use Rattle.laws.proofs.Order.{order_rising}
use Rattle.laws.proofs.Total.{total, nil_join, total_append, total_same}
use Rattle.convergence.proofs.Tables.{Good, Begun, start_good, merge_good}
use Rattle.convergence.proofs.Laws.{held, Merged, merged_left}
use Rattle.convergence.proofs.Edits.{Edited, insertion_edited, update_edited, deletion_edited}

cond_ind : {X : Type 0} (P : X → Type 0) (b : Bool) (x y : X) → P x → P y → P (cond b x y)
cond_ind P true x y p q = p
cond_ind P false x y p q = q

-- the records of what was written
abbrev held_opt : Option (List ℕ) → List Rec
held_opt none = []
held_opt (some d) = held d

-- the delta of the edit that n moments came before; joined to nothing, it is in order whatever was written
written : ℕ → List Moment → List Rec
written n [] = []
written n (m ∷ h) = cond (eqb n (length h)) (join [] (held_opt m.wrote)) (written n h)

written_rising : (n : ℕ) (h : List Moment) → Rising 0 (written n h)
unfolding written
written_rising n [] = tt
written_rising n (m ∷ h) = cond_ind (Rising 0) (eqb n (length h)) _ _ (join_rising [] _ tt) (written_rising n h)

abbrev Agrees : (ℕ → List Rec) → List Moment → Type 0
Agrees D [] = Unit {0}
Agrees D (m ∷ h) = (D (length h) ≡ join [] (held_opt m.wrote)) × Agrees D h

agrees : (D : ℕ → List Rec) (h : List Moment) → ((n : ℕ) → n < length h → D n ≡ written n h) → Agrees D h
unfolding written
agrees D [] e = tt
agrees D (m ∷ h) e = (
  e (length h) (omega arith) ∙ rw (eq-eqb (length h) (length h) refl),
  agrees D h (λ n l. let ne : n ≡ length h → ⊥ = omega arith in e n (omega arith) ∙ rw (ne_eqb n (length h) ne)),
)

held_rising : (t : List ℕ) → Rising 0 (held t)
unfolding held
held_rising t = order_rising (decode t).records

agrees_at : (D : ℕ → List Rec) (first : Moment) → first.wrote ≡ none → (h : List Moment) (k : ℕ) (d : List ℕ) → (get_or h k first).wrote ≡ some d → Agrees D h → D (edit_ago h k) ≡ held d
agrees_at D first f [] k d e g = let z : ◌≡◌ {A = ℕ} 0 1 = cc in absurd (omega arith)
agrees_at D first f (m ∷ h) zero d e g = g.0 ∙ rw e (nil_join (held d) (held_rising d))
agrees_at D first f (m ∷ h) (suc k) d e g = agrees_at D first f h k d e g.1

pub holds_none : (t : List ℕ) → (decode t).records ≡ [] → held t ≡ []
unfolding held in_order
holds_none t e = rw e

-- no words are no table
no_words : (s t : List ℕ) → merge_number s t [] ≡ 0 → ⊥
no_words s t h = let g = merge_good s t [] h in clash g.1.sized empty
  where
    empty : table_length [] ≡ false
    empty = unfold table_length in refl

-- what a call leaves of its table when it is refused
refused : {A : Type 0} (n : ℕ) (a b : A) → eqb n 0 ≡ false → done n a b ≡ b
refused n a b h = rw h

start_refused : (t : List ℕ) (r : ℕ) → eqb (start_number t r) 0 ≡ false → start_table t r ≡ t
unfolding start_table
start_refused t r h = rw h

merge_refused : (s t o : List ℕ) → eqb (merge_number s t o) 0 ≡ false → merge_table s t o ≡ t
unfolding merge_table
merge_refused s t o h = rw h

insertion_refused : (s t d : List ℕ) (r : ℕ) (vs : List ℕ) → eqb (insertion_number s t d r vs) 0 ≡ false → insertion_table s t d r vs ≡ t
unfolding insertion_table edit_table
insertion_refused s t d r vs h = rw h

update_refused : (s t d : List ℕ) (i f new : ℕ) → eqb (update_number s t d i f new) 0 ≡ false → update_table s t d i f new ≡ t
unfolding update_table edit_table
update_refused s t d i f new h = rw h

deletion_refused : (s t d : List ℕ) (i : ℕ) → eqb (deletion_number s t d i) 0 ≡ false → deletion_table s t d i ≡ t
unfolding deletion_table edit_table
deletion_refused s t d i h = rw h

module _ (σ : List ℕ) (lent : schema_length σ ≡ true) (sound : broken σ ≡ false) where
  abbrev GoodOpt : Option (List ℕ) → Type 0
  GoodOpt none = Unit {0}
  GoodOpt (some d) = Good σ d

  -- what holds at each moment: the tables are good, and "the records of a table are the join of the records of the deltas it took in"
  pub record Accounted (D : ℕ → List Rec) (m : Moment) : Type 0 where
    pub fleet : (i : ℕ) → Good σ (m.fleet i)
    pub wrote : GoodOpt m.wrote
    pub sum : (i : ℕ) → held (m.fleet i) ≡ total D (m.took i)

  module _ (D : ℕ → List Rec) (R : (n : ℕ) → Rising 0 (D n)) where
    -- after a call on table i: n is its answer, w its exit words
    call_sound : (m : Moment) (i n : ℕ) (w taken : List ℕ) (d : Option (List ℕ)) → Accounted D m → (n ≡ 0 → Good σ w × (held w ≡ total D taken) × GoodOpt d)
        → (eqb n 0 ≡ false → w ≡ m.fleet i) → Accounted D (after_call m i n w taken d)
    unfolding after_call
    call_sound m i n w taken d s acc ref = go (test (eqb n 0))
      where
        at : (w' taken' : List ℕ) (d' : Option (List ℕ)) → Good σ w' → held w' ≡ total D taken' → GoodOpt d' → Accounted D (record { fleet = put i w' m.fleet; took = put i taken' m.took; wrote = d' })
        at w' taken' d' g e gd =
            record {
              fleet = λ j. cond_ind (Good σ) (eqb j i) w' (m.fleet j) g (s.fleet j);
              wrote = gd;
              sum = λ j. pick j (eqb j i);
            }
          where
            pick : (j : ℕ) (b : Bool) → held (cond b w' (m.fleet j)) ≡ total D (cond b taken' (m.took j))
            pick j true = e
            pick j false = s.sum j

        go : (eqb n 0 ≡ true) ⊎ (eqb n 0 ≡ false) → Accounted D (record { fleet = put i w m.fleet; took = put i (done n taken (m.took i)) m.took; wrote = done n d none })
        go (inl p) = let a = acc (eqb-true n 0 p) in rw p (at w taken d a.0 a.1 a.2)
        go (inr p) = rw p (at w (m.took i) none (rw (ref p) (s.fleet i)) (rw (ref p) (s.sum i)) tt)

    merged_sound : (m : Moment) (i : ℕ) (s o ns : List ℕ) → Accounted D m → Lent σ (merge_number s (m.fleet i) o) s → (merge_number s (m.fleet i) o ≡ 0 → held o ≡ total D ns)
        → Accounted D (after_call m i (merge_number s (m.fleet i) o) (merge_table s (m.fleet i) o) (m.took i ++ ns) none)
    merged_sound m i s o ns f l e =
        call_sound m i _ _ _ none f
        (λ h. let g = merged_left s (m.fleet i) o h in (subst (λ x. Good x (merge_table s (m.fleet i) o)) (l h) g.good, g.holds ∙ cc (f.sum i, e h, total_append D R (m.took i) ns), tt))
        (merge_refused s (m.fleet i) o)

    edited_sound : (m : Moment) (i n k : ℕ) (s w d : List ℕ) → Accounted D m → Lent σ n s → (n ≡ 0 → Edited s (m.fleet i) w d) → (eqb n 0 ≡ false → w ≡ m.fleet i) → D k ≡ join [] (held_opt (done n (some d) none))
        → Accounted D (after_call m i n w (m.took i ++ (k ∷ [])) (some d))
    unfolding total
    edited_sound m i n k s w d f l e ref dk =
        call_sound m i n w _ (some d) f
        (λ h. let x = subst (λ q. Edited q (m.fleet i) w d) (l h) (e h) in
        let dk' : D k ≡ join [] (held d) = rw h at dk in
        (x.table, x.holds ∙ cc (f.sum i, total_append D R (m.took i) (k ∷ []), dk', nil_join (held d) (held_rising d)), x.delta)) ref

  module _ (first : Moment) (fresh : (i : ℕ) → Good σ (first.fleet i) × (held (first.fleet i) ≡ []) × (first.took i ≡ [])) (blank : first.wrote ≡ none) where
    module _ (D : ℕ → List Rec) (R : (n : ℕ) → Rising 0 (D n)) where
      first_sound : Accounted D first
      unfolding total
      first_sound = record { fleet = λ i. (fresh i).0; wrote = rw blank tt; sum = λ i. rw (fresh i).2 (fresh i).1 }

      delta_sound : (h : List Moment) (i k : ℕ) (s : List ℕ) (w : Option (List ℕ)) → (get_or h k first).wrote ≡ w → Agrees D h → Accounted D (get_or h 0 first) → Lent σ (merge_number s ((get_or h 0 first).fleet i) (wrote_words w)) s
          → Accounted D (after_call (get_or h 0 first) i (merge_number s ((get_or h 0 first).fleet i) (wrote_words w)) (merge_table s ((get_or h 0 first).fleet i) (wrote_words w)) ((get_or h 0 first).took i ++ (edit_ago h k ∷ [])) none)
      unfolding total
      delta_sound h i k s none e g f l = merged_sound D R _ i s [] _ f l (λ n. absurd (no_words s _ n))
      delta_sound h i k s (some d) e g f l = merged_sound D R _ i s d _ f l (λ n. sym (nil_join (D (edit_ago h k)) (R (edit_ago h k)) ∙ agrees_at D first blank h k d e g))

      next_sound : (h : List Moment) (c : Call) → Allowed σ first h c → ((k : ℕ) → Accounted D (get_or h k first)) → Agrees D (next first h c ∷ h) → Accounted D (next first h c)
      unfolding next after_call total
      next_sound h (start i r) a s g =
          call_sound D R (get_or h 0 first) i _ _ _ none (s 0) (λ n. let b = start_good σ ((get_or h 0 first).fleet i) r lent sound n in (b.good, holds_none _ b.empty, tt)) (start_refused _ r)
      next_sound h (merge i s' (copy k j)) a s g = merged_sound D R (get_or h 0 first) i s' _ _ (s 0) a (λ n. (s k).sum j)
      next_sound h (merge i s' (delta k)) a s g = delta_sound h i k s' _ refl g.1 (s 0) a
      next_sound h (merge i s' (words o)) a s g =
          call_sound D R (get_or h 0 first) i _ _ _ none (s 0) (λ n. absurd (a n)) (merge_refused s' _ o)
      next_sound h (insertion i s' d r vs) a s g = edited_sound D R (get_or h 0 first) i _ (length h) s' _ _ (s 0) a (insertion_edited s' _ d r vs) (insertion_refused s' _ d r vs) g.0
      next_sound h (update i s' d j f new) a s g = edited_sound D R (get_or h 0 first) i _ (length h) s' _ _ (s 0) a (update_edited s' _ d j f new) (update_refused s' _ d j f new) g.0
      next_sound h (deletion i s' d j) a s g = edited_sound D R (get_or h 0 first) i _ (length h) s' _ _ (s 0) a (deletion_edited s' _ d j) (deletion_refused s' _ d j) g.0

      all_sound : (cs : List Call) → Run σ first cs → Agrees D (history first cs) → (k : ℕ) → Accounted D (get_or (history first cs) k first)
      unfolding history
      all_sound [] f g zero = first_sound
      all_sound [] f g (suc k) = first_sound
      all_sound (c ∷ cs) f g zero = next_sound (history first cs) c f.0 (all_sound cs f.1 g.1) g
      all_sound (c ∷ cs) f g (suc k) = all_sound cs f.1 g.1 k

    -- after any calls: every table is good, and two that took in the same edits hold the same records
    pub run_good : (cs : List Call) → Run σ first cs → (i : ℕ) → Good σ ((ago first (history first cs) 0).fleet i)
    run_good cs f i =
        let H = history first cs in
        (all_sound (λ n. written n H) (λ n. written_rising n H) cs f (agrees (λ n. written n H) H (λ n _. refl)) 0).fleet i

    pub run_same : (cs : List Call) → Run σ first cs → (i j : ℕ) → SameEdits ((ago first (history first cs) 0).took i) ((ago first (history first cs) 0).took j)
        → held ((ago first (history first cs) 0).fleet i) ≡ held ((ago first (history first cs) 0).fleet j)
    run_same cs f i j e =
        let H = history first cs in
        let D : ℕ → List Rec = λ n. written n H in
        let R : (n : ℕ) → Rising 0 (D n) = λ n. written_rising n H in
        let s = all_sound D R cs f (agrees D H (λ n _. refl)) 0 in
        s.sum i ∙ total_same D R _ _ e ∙ sym (s.sum j)
