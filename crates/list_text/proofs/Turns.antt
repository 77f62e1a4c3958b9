-- The lines of the records that the walk gives.
-- Assumes nothing.
use Prim.Native.Nat.{ℕ, zero, suc, ◌+◌}
use mathlib.Core.Path.{◌≡◌, refl, sym, ap, ◌∙◌}
use mathlib.Core.Bool.{true, false, not}
use mathlib.Core.Logic.{◌⊎◌, inl, inr}
use mathlib.Core.List.{List, [], ◌∷◌, ◌++◌, map}
use lib.Dec.{eqb}
use Rattle.crdt.proofs.Tests.{test}
use Rattle.std.specs.Prelude.{Option, Some, None, Result, Ok, Err, IfOk, MatchOption}
use Rattle.std.specs.Result.{result_ok, result_unwrap_or}
use Rattle.answers.specs.declared.Refusal.{Refusal}
use Rattle.answers.specs.declared.Refusal.TheVariants as refusal
use Rattle.answers.specs.Told.{Told, told_ended}
use Rattle.answers.specs.Refused.{refusal_number, number_of, given_told}
use Rattle.model.specs.Layout.{used_at}
use Rattle.model.specs.Lists.{check, lowest}
use Rattle.model.specs.Schemas.{broken}
use Rattle.model.specs.Records.{least_above, position}
use Rattle.model.specs.Tables.{decode}
use Rattle.model.specs.WellFormed.{well_formed}
use Rattle.judged.specs.Checked.{Checked}
use Rattle.judged.specs.declared.Judged.{Judged}
use Rattle.list_step.specs.Given.{given}
use Rattle.list_step.proofs.Steps.{wrong, told_length, told_refused, told_given}
use Rattle.model.specs.Calls.{done, marked, place_key, walk_number, walk_given, walk_ended, Walked, walked, entry_at}
use Rattle.list_text.specs.Text.{line_text, lines_text}
use Rattle.list_text.specs.declared.Out.{Out}
use Rattle.list_text.specs.Written.{Written}
use Rattle.list_text.proofs.Laying.{Leads, leads_start, leads_on_lem, leads_as, leads_end}

not_end : (n g : ℕ) → 0 ≡ n → false ≡ done n (eqb g 0) false → eqb g 0 ≡ false
not_end n g e h = sym (rw (sym e) at h)

module _ (s t m : List ℕ) where
  -- what a step of the walk gives
  pub given_is : (p : ℕ) (r : Result (Option ℕ) Refusal)
      → given_told r ≡ told_ended (walk_number s t m p) (walk_given s t m p) (walk_ended s t m p) → result_unwrap_or r None ≡ given (walk_given s t m p)
  unfolding walk_ended
  given_is p (Ok (Some v)) e =
      let n : 0 ≡ walk_number s t m p = ap (λ (x : Told). x.number) e in
      let g : v ≡ walk_given s t m p = ap (λ (x : Told). x.value) e in
      let f = not_end _ _ n (ap (λ (x : Told). x.ended) e) in
      rw (f, g)
  given_is p (Ok None) e = let g : 0 ≡ walk_given s t m p = ap (λ (x : Told). x.value) e in rw (sym g)
  given_is p (Err x) e = let g : 0 ≡ walk_given s t m p = ap (λ (x : Told). x.value) e in rw (sym g)

  -- where check 1 refuses it
  pub refused_length : (p : ℕ) → wrong s t m p ≡ true → None ≡ given (walk_given s t m p)
  refused_length p h = given_is p (Err refusal.WrongLength) (told_length s t m p h)

  -- where checks 2 and 3 do
  pub refused_judged : (p : ℕ) → wrong s t m p ≡ false → (e : Refusal)
      → refusal_number e ≡ lowest (check 2 (broken s) ∷ check 3 (not (well_formed s t)) ∷ []) → None ≡ given (walk_given s t m p)
  refused_judged p h e f = given_is p (Err e) (told_refused s t m p h e f)

  no_check : Checked s t → 0 ≡ lowest (check 2 (broken s) ∷ check 3 (not (well_formed s t)) ∷ [])
  unfolding lowest
  no_check c = rw (c.schema, c.formed)

  -- and of a judged table
  pub given_on : (p : ℕ) → wrong s t m p ≡ false → Checked s t → (i : Option ℕ)
      → i ≡ given (position (least_above (place_key (decode t) p) (marked m (decode t).records)) (decode t).records) → i ≡ given (walk_given s t m p)
  given_on p h c i e = given_is p (Ok i) (told_given s t m p i h (no_check c) e)

  -- the table judged once: none where the walk's first step refuses
  pub walkable_is : (r : Result Judged Refusal) (o : Option Judged) → o ≡ result_ok r → wrong s t m 0 ≡ false
      → number_of r ≡ lowest (check 2 (broken s) ∷ check 3 (not (well_formed s t)) ∷ []) → IfOk r (λ j. (j.schema.now ≡ s) × (j.table.now ≡ t))
      → MatchOption o (None ≡ given (walk_given s t m 0)) (λ j. (j.schema.now ≡ s) × (j.table.now ≡ t))
  walkable_is (Ok j) o e h n k = rw e k
  walkable_is (Err x) o e h n k = rw e (refused_judged 0 h x n)

  -- The lines from a record on, at most n of them; none is the end.
  unfoldable pub lines_from : ℕ → Option ℕ → List ℕ
  lines_from zero i = []
  lines_from (suc n) None = []
  lines_from (suc n) (Some i) = line_text s (entry_at s t i) ++ lines_from n (given (walk_given s t m i))

  abbrev text : Walked → List ℕ
  text w = lines_text s (map (entry_at s t) w.given)

  walked_on : (n p i : ℕ) → i ≡ walk_given s t m p → (eqb i 0 ≡ true) ⊎ (eqb i 0 ≡ false)
      → text (walked n s t m i) ≡ lines_from n (given (walk_given s t m i)) → text (walked (suc n) s t m p) ≡ lines_from (suc n) (given i)
  unfolding walked lines_from lines_text
  walked_on n p i e (inl h) rec = rw (← e, h)
  walked_on n p i e (inr h) rec = rw (← e, h, rec)

  pub walked_lines : (n p : ℕ) → text (walked n s t m p) ≡ lines_from n (given (walk_given s t m p))
  unfolding walked lines_from lines_text
  walked_lines zero p = refl
  walked_lines (suc n) p = walked_on n p (walk_given s t m p) refl (test (eqb (walk_given s t m p) 0)) (walked_lines n (walk_given s t m p))

  -- the text of all lines, and where the loop begins
  abbrev pub all_lines : List ℕ
  all_lines = lines_text s (map (entry_at s t) (walked (used_at t + 1) s t m 0).given)

  pub lines_start : (a : Out) (n : ℕ) (i : Option ℕ) → n ≡ used_at t + 1 → i ≡ given (walk_given s t m 0) → Leads a all_lines a (lines_from n i)
  lines_start a n i h e =
      leads_as
      (walked_lines (used_at t + 1) 0 ∙ ap (λ (k : ℕ). lines_from k (given (walk_given s t m 0))) (sym h) ∙ ap (λ (k : Option ℕ). lines_from n k) (sym e))
      (leads_start a all_lines)

  from_more : (n i : ℕ) → lines_from (suc n) (Some i) ≡ line_text s (entry_at s t i) ++ lines_from n (given (walk_given s t m i))
  unfolding lines_from
  from_more n i = refl

  from_none : (i : Option ℕ) → lines_from 0 i ≡ []
  unfolding lines_from
  from_none i = refl

  from_end : (n : ℕ) → lines_from n None ≡ []
  unfolding lines_from
  from_end zero = refl
  from_end (suc n) = refl

  module _ {a b : Out} {x : List ℕ} (n : ℕ) (now : Option ℕ) where
    pub lines_on : {c : Out} (k i : ℕ) (next : Option ℕ) → n ≡ suc k → now ≡ Some i → next ≡ given (walk_given s t m i) → Leads a x b (lines_from n now)
        → Written b c (line_text s (entry_at s t i)) → Leads a x c (lines_from k next)
    lines_on k i next e h f l p =
        leads_as (ap (λ (y : Option ℕ). lines_from k y) (sym f))
        (leads_on_lem (line_text s (entry_at s t i)) (lines_from k (given (walk_given s t m i)))
        (leads_as (ap (λ (y : ℕ). lines_from y now) e ∙ ap (λ (y : Option ℕ). lines_from (suc k) y) h ∙ from_more k i) l) p)

    -- no turn is left, or the walk is at its end
    pub lines_out : n ≡ 0 → Leads a x b (lines_from n now) → Written a b x
    lines_out h l = leads_end (leads_as (ap (λ (y : ℕ). lines_from y now) h ∙ from_none now) l)

    pub lines_end : now ≡ None → Leads a x b (lines_from n now) → Written a b x
    lines_end h l = leads_end (leads_as (ap (λ (y : Option ℕ). lines_from n y) h ∙ from_end n) l)

  -- where the first step refuses, no line
  pub lines_refused : (a : Out) → None ≡ given (walk_given s t m 0) → Written a a all_lines
  lines_refused a e = lines_end (used_at t + 1) None refl (lines_start a (used_at t + 1) None refl e)
