-- Records, their order, and what records hold under a relation and a label.
-- Assumes nothing.
use Rattle.std.specs.Prelude.{ℕ, zero, suc, ◌+◌, ◌*◌, ◌/◌, ◌%◌, ◌≤◌, ◌≡◌, Bool, true, false, cond, ◌||◌, ◌&&◌, not, List, [], ◌∷◌, ◌++◌, map, eqb, ltb}
use Rattle.std.proofs.Math.Option.{Option, none, some}
use Rattle.crdt.specs.Labels.{largest_counter, largest_replica}
use Rattle.crdt.specs.Cells.{Cell, join_cell, join_opt}
use Rattle.model.specs.Lists.{only, some_of}

-- One more than the largest label.
abbrev pub label_span : ℕ
label_span = (largest_counter + 1) * (largest_replica + 1)

-- Relation and label as one number, the record's key: "The list order is relation, then label" is then the order of the keys.
abbrev pub place : ℕ → ℕ → ℕ
place r l = r * label_span + l

-- A record: its key, flag and registers.
pub record Rec : Type 0 where
  pub key : ℕ
  pub cell : Cell

abbrev pub relation : Rec → ℕ
relation x = x.key / label_span

abbrev pub label : Rec → ℕ
label x = x.key % label_span

unfoldable pub has : List Rec → ℕ → Bool
has s k = some_of (λ (x : Rec). eqb k x.key) s

-- What records hold under a key: the join of all cells of that key.
unfoldable pub own : ℕ → Rec → Option Cell
own k x = cond (eqb k x.key) (some x.cell) none

unfoldable pub at : ℕ → List Rec → Option Cell
at k [] = none
at k (x ∷ xs) = join_opt (own k x) (at k xs)

-- One record joined into records in list order: with the record of its key, or at its place.
unfoldable pub insert : Rec → List Rec → List Rec
insert e [] = e ∷ []
insert e (x ∷ xs) =
    let r = insert e xs in
    cond (ltb e.key x.key) (e ∷ x ∷ xs)
    (cond (eqb e.key x.key) (record { key = x.key; cell = join_cell x.cell e.cell } ∷ xs) (x ∷ r))

-- Records in list order; those of one key are joined.
unfoldable pub in_order : List Rec → List Rec
in_order [] = []
in_order (x ∷ xs) = insert x (in_order xs)

-- Records in list order joined with others.
unfoldable pub join : List Rec → List Rec → List Rec
join s [] = s
join s (e ∷ es) = join (insert e s) es

-- The keys rise strictly, from b on.
abbrev pub Rising : ℕ → List Rec → Type 0
Rising b [] = Unit {0}
Rising b (x ∷ xs) = (b ≤ x.key) × Rising (suc x.key) xs

-- No key twice: as a test, and as a type.
unfoldable pub distinct : List Rec → Bool
distinct [] = true
distinct (x ∷ xs) = not (has xs x.key) && distinct xs

abbrev pub Distinct : List Rec → Type 0
Distinct [] = Unit {0}
Distinct (x ∷ xs) = (has xs x.key ≡ false) × Distinct xs

-- The least key above k, 0 where there is none.
unfoldable pub least_above : ℕ → List Rec → ℕ
least_above k [] = 0
least_above k (x ∷ xs) =
    let m = least_above k xs in
    cond (ltb k x.key && (eqb m 0 || ltb x.key m)) x.key m

-- The position of the record with key k, counted from i; 0 where there is none.
unfoldable pub position_from : ℕ → ℕ → List Rec → ℕ
position_from i k [] = 0
position_from i k (x ∷ xs) = let r = position_from (suc i) k xs in cond (eqb k x.key) i r

abbrev pub position : ℕ → List Rec → ℕ
position k s = position_from 1 k s
