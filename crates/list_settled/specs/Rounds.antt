-- Step 4 over resolved references and marks: what a round does to the marks. And how many marks are 1.
-- Assumes nothing.
use Rattle.std.specs.Prelude.{ℕ, zero, suc, ◌+◌, ◌*◌, ◌-◌, Bool, false, cond, ◌||◌, ◌&&◌, not, List, [], ◌∷◌, eqb, get_or, set}
use Rattle.model.specs.Layout.{fields}
use Rattle.model.specs.Lists.{each}
use Rattle.marks.specs.Marks.{is_marked}
use Rattle.references.specs.Resolved.{absent}

-- A resolved reference is empty, or leads to a marked record.
abbrev pub leads_on : List ℕ → ℕ → Bool
leads_on m p = eqb p 0 || (not (eqb p absent) && is_marked m p)

-- Every reference of record i leads to a marked record.
unfoldable pub grounded_at : List ℕ → List ℕ → ℕ → Bool
grounded_at refs m i = each fields (λ j. leads_on m (get_or refs (fields * (i - 1) + (j - 1)) 0))

-- Record i is to be dropped, and the marks with it dropped.
unfoldable pub drops_at : List ℕ → List ℕ → ℕ → Bool
drops_at refs m i = is_marked m i && not (grounded_at refs m i)

unfoldable pub dropped_at : List ℕ → List ℕ → ℕ → List ℕ
dropped_at refs m i = cond (drops_at refs m i) (set m (i - 1) 0) m

-- A round over records 1 to n, one after the other: the marks, and whether it dropped any.
unfoldable pub round_of : List ℕ → List ℕ → ℕ → List ℕ
round_of refs m zero = m
round_of refs m (suc n) = dropped_at refs (round_of refs m n) (suc n)

unfoldable pub drops_any : List ℕ → List ℕ → ℕ → Bool
drops_any refs m zero = false
drops_any refs m (suc n) = drops_any refs m n || drops_at refs (round_of refs m n) (suc n)

-- How many marks are 1.
unfoldable pub ones : List ℕ → ℕ
ones [] = 0
ones (x ∷ xs) = cond (eqb x 1) 1 0 + ones xs
