-- Header words spoiled in turn (document 02, F-6, and document 01, "Table"), as data. Figures are written out here, as the page has them.
-- Assumes nothing.
use Rattle.std.specs.Prelude.{ℕ, zero, suc, ◌+◌, ◌*◌, ◌-◌, ◌^◌, Bool, cond, ◌&&◌, List, [], ◌∷◌, ◌++◌, eqb, set, replicate}
use Rattle.crdt.specs.Labels.{label_of}
use Rattle.model.specs.Lists.{all_of}
use Rattle.model.specs.Calls.{table_number}
use Rattle.model.specs.Lookup.{lookup_number}
use Rattle.model.specs.Cases.{header, row}

-- A schema of R relations with one plain field each.
blocks : ℕ → List ℕ
blocks zero = []
blocks (suc n) = 1 ∷ 1 ∷ (replicate 14 0 ++ blocks n)

schema : ℕ → List ℕ
unfolding blocks
schema R = R ∷ (blocks R ++ replicate (16 * (8 - R)) 0)

-- A table of N = 2 with one record, 1.1 of relation 1.
abbrev cow : ℕ
cow = label_of 1 1

unspoiled : List ℕ
unfolding header row
unspoiled = header 1 1 (1 ∷ []) ++ (row 0 1 cow 0 (12 ∷ []) (cow ∷ []) ++ replicate 28 0)

-- What a lookup answers: of the record, and in the empty chain of relation 2.
gives : ℕ → List ℕ → ℕ → Bool
unfolding schema
gives R t n = eqb (lookup_number (schema R) t 1 cow) n && eqb (lookup_number (schema R) t 2 cow) n

-- With another number in word k a lookup and table check answer 3. A lookup reads no record of the chain that begins at word k: relation 2 is asked
-- where that is the chain of relation 1.
refused : ℕ → ℕ → ℕ → Bool
unfolding schema unspoiled
refused R k x =
    let t = set unspoiled k x in
    eqb (lookup_number (schema R) t (cond (eqb k 4) 2 1) cow) 3 && eqb (table_number (schema R) t) 3

-- "3 exactly if a header word breaks its rule": "0 replica (1 to 255), 1 clock (0 to 2^40 − 1), 2 used count, 3 zero, .. 12 to 15 zero".
unfoldable pub header_spoiled : Bool
unfolding unspoiled gives refused
header_spoiled =
    eqb (table_number (schema 8) unspoiled) 0 && gives 8 unspoiled 0
    && refused 8 0 0 && refused 8 0 256 && refused 8 1 (2 ^ 40) && refused 8 2 3 && refused 8 3 1
    && all_of (λ k. refused 8 k 1) (12 ∷ 13 ∷ 14 ∷ 15 ∷ [])

-- "a first index passes used": "4 to 11 the first record of relations 1 to 8", of a schema that has them all.
unfoldable pub firsts_spoiled : Bool
unfolding unspoiled gives refused
firsts_spoiled = gives 8 unspoiled 0 && all_of (λ k. refused 8 k 2) (4 ∷ 5 ∷ 6 ∷ 7 ∷ 8 ∷ 9 ∷ 10 ∷ 11 ∷ [])

-- "a chain above R isn't empty": of a schema of one relation.
unfoldable pub chains_above : Bool
unfolding unspoiled refused
chains_above =
    eqb (lookup_number (schema 1) unspoiled 1 cow) 0 && all_of (λ k. refused 1 k 1) (5 ∷ 6 ∷ 7 ∷ 8 ∷ 9 ∷ 10 ∷ 11 ∷ [])
