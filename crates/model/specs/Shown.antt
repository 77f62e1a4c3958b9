-- The shown list as a function of the schema and of records in list order (document 01, "The shown list").
-- Assumes nothing.
use Rattle.std.specs.Prelude.{ℕ, zero, suc, ◌-◌, ◌/◌, ◌%◌, Bool, true, false, cond, ◌||◌, ◌&&◌, not, List, [], ◌∷◌, eqb, length}
use Rattle.crdt.specs.Flags.{is_even}
use Rattle.crdt.specs.Cells.{Reg, Cell}
use Rattle.model.specs.Lists.{only, some_of, all_of, times}
use Rattle.model.specs.Schemas.{Relation, is_reference, is_abort, leads_to, relation_numbered}
use Rattle.model.specs.Records.{Rec, place, relation, has}

-- The relation of a record.
unfoldable pub described : List Relation → Rec → Relation
described σ x = relation_numbered σ (relation x)

abbrev pub value : List Reg → ℕ
value [] = 0
value (g ∷ gs) = g.value

abbrev pub rest : List Reg → List Reg
rest [] = []
rest (g ∷ gs) = gs

unfoldable pub stamped : List ℕ → List Reg → Bool
stamped [] gs = true
stamped (k ∷ ks) [] = false
stamped (k ∷ ks) (g ∷ gs) = not (eqb g.stamp 0) && stamped ks gs

-- "A record is complete if all F registers have stamps."
unfoldable pub complete : List Relation → Rec → Bool
complete σ x = stamped (described σ x).kinds x.cell.regs

-- The keys that nonempty references of the chosen kinds lead to.
unfoldable pub leads : (ℕ → Bool) → List ℕ → List Reg → List ℕ
leads p [] gs = []
leads p (k ∷ ks) gs = let r = leads p ks (rest gs) in cond (p k && not (eqb (value gs) 0)) (place (leads_to k) (value gs) ∷ r) r

unfoldable pub targets : List Relation → (ℕ → Bool) → Rec → List ℕ
targets σ p x = leads p (described σ x).kinds x.cell.regs

unfoldable pub references : List Relation → (ℕ → Bool) → ℕ → Rec → Bool
references σ p k x = some_of (λ j. eqb k j) (targets σ p x)

-- "all its fields are equal and no reference among them is empty (0)"; bit 0 of the mask is the first field.
unfoldable pub equal_on : ℕ → List ℕ → List Reg → List Reg → Bool
equal_on m [] xs ys = true
equal_on m (k ∷ ks) xs ys =
    (eqb (m % 2) 0 || (eqb (value xs) (value ys) && not (is_reference k && eqb (value xs) 0)))
    && equal_on (m / 2) ks (rest xs) (rest ys)

-- "Two records conflict on a key": "Mask 0 is no key".
unfoldable pub conflict_on : List Relation → ℕ → Rec → Rec → Bool
conflict_on σ m x y = not (eqb m 0) && equal_on m (described σ x).kinds x.cell.regs y.cell.regs

-- "same relation", "on either key"
unfoldable pub conflict : List Relation → Rec → Rec → Bool
conflict σ x y =
    eqb (relation x) (relation y)
    && (conflict_on σ (described σ x).key1 x y || conflict_on σ (described σ x).key2 x y)

-- "1. Take complete records with even flags."
unfoldable pub live : List Relation → Rec → Bool
live σ x = complete σ x && is_even x.cell.flag

-- "2. Add complete records reached from these by abort references, any number of hops, each hop landing on a complete record."
-- One hop from the records s among the records c; as many hops as there are records reach all that can be reached.
unfoldable pub reached : List Relation → List Rec → Rec → Bool
reached σ s x = some_of (references σ is_abort x.key) s

unfoldable pub hop : List Relation → List Rec → List Rec → List Rec
hop σ c s = only (λ (x : Rec). complete σ x && (has s x.key || reached σ s x)) c

-- "The result is called standing."
unfoldable pub standing : List Relation → List Rec → List Rec
standing σ c = times (length c) (hop σ c) (only (live σ) c)

-- "step 3 goes by rising label and drops a record exactly if it conflicts with an older one that step 3 kept" (document 02, F-5).
-- The records come in list order, and k are those kept so far.
unfoldable pub beaten : List Relation → List Rec → Rec → Bool
beaten σ k x = some_of (λ (y : Rec). conflict σ y x) k

unfoldable pub kept_after : List Relation → List Rec → List Rec → List Rec
kept_after σ k [] = []
kept_after σ k (x ∷ xs) = cond (beaten σ k x) (kept_after σ k xs) (x ∷ kept_after σ (x ∷ k) xs)

unfoldable pub kept : List Relation → List Rec → List Rec
kept σ s = kept_after σ [] s

-- "4. Of the rest, keep the largest set in which every nonempty reference leads to a member."
-- One round drops the records with a reference that leads to no member; as many rounds as there are records drop all that must go.
unfoldable pub grounded : List Relation → List Rec → List Rec
grounded σ s = only (λ (x : Rec). all_of (has s) (targets σ is_reference x)) s

unfoldable pub settled : List Relation → List Rec → List Rec
settled σ s = times (length s) (grounded σ) s

unfoldable pub shown : List Relation → List Rec → List Rec
shown σ c = settled σ (kept σ (standing σ c))
