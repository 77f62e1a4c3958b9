-- Which copy is ahead (document 02, F-3): the order on contents, and the call that compares two tables.
-- Assumes nothing.
use Rattle.std.specs.Prelude.{ℕ, max, ◌≡◌, Bool, true, false, cond, ◌&&◌, not, List, [], ◌∷◌, ◌≢◌, ◌↔◌, eqb}
use Rattle.crdt.specs.Cells.{Reg}
use Rattle.model.specs.Lists.{check, lowest}
use Rattle.model.specs.Schemas.{broken}
use Rattle.model.specs.Records.{Rec, join, Rising}
use Rattle.model.specs.Tables.{Contents, contents}
use Rattle.model.specs.WellFormed.{well_formed}
use Rattle.model.specs.Calls.{schema_length, table_length, done}

-- "the merge of both": the larger clock, and the records joined. "Capacities play no part.": it is defined of any two contents.
unfoldable pub join_contents : Contents → Contents → Contents
join_contents a b = record { clock = max a.clock b.clock; records = join a.records b.records }

-- Equal register by register.
unfoldable pub same_regs : List Reg → List Reg → Bool
same_regs [] [] = true
same_regs [] (y ∷ ys) = false
same_regs (x ∷ xs) [] = false
same_regs (x ∷ xs) (y ∷ ys) = eqb x.value y.value && eqb x.stamp y.stamp && same_regs xs ys

-- Equal record by record: relation and label, flag, registers.
unfoldable pub same_recs : List Rec → List Rec → Bool
same_recs [] [] = true
same_recs [] (y ∷ ys) = false
same_recs (x ∷ xs) [] = false
same_recs (x ∷ xs) (y ∷ ys) = eqb x.key y.key && eqb x.cell.flag y.cell.flag && same_regs x.cell.regs y.cell.regs && same_recs xs ys

-- "exactly the second's clock, records, registers and flags"
unfoldable pub same_contents : Contents → Contents → Bool
same_contents a b = eqb a.clock b.clock && same_recs a.records b.records

-- "say of two tables under one schema whether they are alike, the first is behind, the second is behind, or neither contains the other"
abbrev pub alike : ℕ
alike = 1

abbrev pub first_behind : ℕ
first_behind = 2

abbrev pub second_behind : ℕ
second_behind = 3

abbrev pub neither : ℕ
neither = 4

-- "The first is behind if the merge of both has exactly the second's clock, records, registers and flags, and the first has not."
unfoldable pub compared : Contents → Contents → ℕ
compared a b =
    cond (same_contents a b) alike
    (cond (same_contents (join_contents a b) b) first_behind (cond (same_contents (join_contents a b) a) second_behind neither))

-- "Either table being damaged gives 3 for the first and 4 for the second."
unfoldable pub compare_number : List ℕ → List ℕ → List ℕ → ℕ
compare_number s a b =
    lowest
    (check 1 (not (schema_length s && table_length a && table_length b)) ∷ check 2 (broken s)
    ∷ check 3 (not (well_formed s a)) ∷ check 4 (not (well_formed s b)) ∷ [])

unfoldable pub compare_verdict : List ℕ → List ℕ → List ℕ → ℕ
compare_verdict s a b = done (compare_number s a b) (compared (contents a) (contents b)) 0

-- "Behind or alike"
abbrev pub Within : Contents → Contents → Type 0
Within a b = join_contents a b ≡ b

-- Contents whose records stand in list order; those of every table do, and so does the merge.
abbrev pub Ordered : Contents → Type 0
Ordered a = Rising 0 a.records

-- "is shown to be a partial order on contents"
pub record PartialOrder : Type 0 where
  pub reflexive : (a : Contents) → Ordered a → Within a a
  pub transitive : (a b c : Contents) → Ordered a → Ordered b → Ordered c → Within a b → Within b c → Within a c
  pub antisymmetric : (a b : Contents) → Ordered a → Ordered b → Within a b → Within b a → a ≡ b

-- "with the merge as the least content above both"
pub record LeastAbove : Type 0 where
  pub ordered : (a b : Contents) → Ordered a → Ordered b → Ordered (join_contents a b)
  pub first : (a b : Contents) → Ordered a → Ordered b → Within a (join_contents a b)
  pub second : (a b : Contents) → Ordered a → Ordered b → Within b (join_contents a b)
  pub least : (a b c : Contents) → Ordered a → Ordered b → Ordered c → Within a c → Within b c → Within (join_contents a b) c

-- "The first is behind if the merge of both has exactly the second's clock, records, registers and flags, and the first has not.": each verdict
-- is given exactly where it holds.
pub record Exact : Type 0 where
  pub equal : (a b : Contents) → (compared a b ≡ alike) ↔ (a ≡ b)
  pub behind : (a b : Contents) → (compared a b ≡ first_behind) ↔ (Within a b × (a ≢ b))
  pub ahead : (a b : Contents) → Ordered a → Ordered b → (compared a b ≡ second_behind) ↔ (Within b a × (a ≢ b))
  pub apart : (a b : Contents) → Ordered a → Ordered b → (compared a b ≡ neither) ↔ ((Within a b → ⊥) × (Within b a → ⊥))
