-- Examples of old and new tables (document 02, F-8), as data. Figures of the old form are written out.
-- Assumes nothing.
use Rattle.std.specs.Prelude.{ℕ, Bool, ◌&&◌, List, [], ◌∷◌, ◌++◌, eqb, length, set, replicate}
use Rattle.crdt.specs.Labels.{label_of}
use Rattle.model.specs.Layout.{used_word}
use Rattle.model.specs.Lists.{listed}
use Rattle.model.specs.Calls.{schema_number, table_number}
use Rattle.model.specs.Cases.{block_of, herd, header, row, same_words}
use Rattle.model.specs.Shapes.{widen_number, widen_schema, widen_table, narrow_number, narrow_schema, narrow_table}
use Rattle.model.specs.Turns.{old_block, old_schema_of, old_herd, old_row, group, cow, old_barn, new_barn, stale}

-- A third relation of eight fields in the old form, a reference and seven plain values, with a count and a key; and one of nine in the new form.
eight_kinds : List ℕ
eight_kinds = 34 ∷ 1 ∷ 1 ∷ 1 ∷ 1 ∷ 1 ∷ 1 ∷ 1 ∷ []

eight : ℕ → ℕ → List ℕ
unfolding eight_kinds
eight count key = old_schema_of (old_block count eight_kinds key)

nine : List ℕ
unfolding eight_kinds
nine = 3 ∷ (block_of (1 ∷ []) 1 ++ (block_of (1 ∷ 17 ∷ []) 1 ++ (block_of (eight_kinds ++ (1 ∷ [])) 0 ++ replicate 80 0)))

-- Each answer, and a refusal's words: those that were lent. A count of nine is broken in the old form, which has eight kinds; in the new one it is 14.
-- A key may name field 8, and no field above it.
unfoldable pub turns_refused : Bool
unfolding eight_kinds eight nine
turns_refused =
    let s = stale 129 in let t = stale 100 in let os = stale 97 in let ot = stale 76 in
    eqb (widen_number herd old_barn s t) 1 && eqb (widen_number old_herd new_barn s t) 1 && eqb (widen_number old_herd old_barn os t) 1
    && eqb (widen_number old_herd old_barn s (stale 99)) 1 && eqb (widen_number old_herd old_barn s (stale 128)) 1
    && eqb (widen_number (eight 9 0) old_barn s t) 2 && eqb (widen_number (eight 8 128) old_barn s t) 0 && eqb (widen_number (eight 8 256) old_barn s t) 2
    && eqb (widen_number old_herd (set old_barn used_word 1) s t) 3 && eqb (widen_number old_herd (set old_barn 75 1) s t) 3
    && same_words (widen_schema old_herd (set old_barn 75 1) s t) s && same_words (widen_table old_herd (set old_barn 75 1) s t) t
    && eqb (narrow_number nine new_barn os ot) 14 && eqb (narrow_number herd new_barn os (stale 96)) 1
    && same_words (narrow_schema nine new_barn os ot) os && same_words (narrow_table nine new_barn os ot) ot

-- "Checks run in number order": each refusal beside the later ones.
unfoldable pub turns_ordered : Bool
unfolding eight_kinds eight nine
turns_ordered =
    let s = stale 129 in let t = stale 100 in let os = stale 97 in let ot = stale 76 in
    let worn = set nine 0 9 in
    eqb (widen_number (eight 9 0) (set old_barn 75 1) s (stale 128)) 1 && eqb (widen_number (eight 9 0) (set old_barn 75 1) s t) 2
    && eqb (narrow_number worn (set new_barn 99 1) os (stale 96)) 1 && eqb (narrow_number worn (set new_barn 99 1) os ot) 2
    && eqb (narrow_number nine (set new_barn 99 1) os ot) 3

-- N = 0: header alone.
unfoldable pub empty_turned : Bool
empty_turned =
    let e = header 0 0 [] in
    eqb (widen_number old_herd e (stale 129) (stale 16)) 0 && same_words (widen_table old_herd e (stale 129) (stale 16)) e
    && eqb (narrow_number herd e (stale 97) (stale 16)) 0 && same_words (narrow_table herd e (stale 97) (stale 16)) e

-- A record of eight fields, each with a value and a stamp, under a key on field 8, and the same record in the new form.
full : ℕ
full = label_of 3 1

values : List ℕ
values = cow ∷ 21 ∷ 22 ∷ 23 ∷ 24 ∷ 25 ∷ 26 ∷ 27 ∷ []

stamps : List ℕ
unfolding full
stamps = full ∷ full ∷ full ∷ full ∷ full ∷ full ∷ full ∷ full ∷ []

unfoldable pub full_turned : Bool
unfolding eight_kinds eight full values stamps
full_turned =
    let s = stale 129 in let t = stale 44 in let os = stale 97 in let ot = stale 36 in
    let old = header 3 1 (0 ∷ 0 ∷ 1 ∷ []) ++ old_row 0 3 full 0 values stamps in
    let new = header 3 1 (0 ∷ 0 ∷ 1 ∷ []) ++ row 0 3 full 0 values stamps in
    let wide = widen_schema (eight 8 128) old s t in
    eqb (widen_number (eight 8 128) old s t) 0 && same_words (widen_table (eight 8 128) old s t) new && eqb (schema_number wide) 0
    && eqb (narrow_number wide new os ot) 0 && same_words (narrow_schema wide new os ot) (eight 8 128) && same_words (narrow_table wide new os ot) old

-- Seven old records are as long as five new ones. Empty, such words are a well-formed table of either form, which the calls turn by the form that
-- they are lent as; the barn among seven records is none of the new form.
seven : List ℕ → List ℕ
seven t = t ++ replicate 80 0

unfoldable pub seven_turned : Bool
unfolding seven
seven_turned =
    let s = stale 129 in let os = stale 97 in let blank = header 0 0 [] ++ replicate 140 0 in
    eqb (length (seven old_barn)) 156 && eqb (table_number herd (seven old_barn)) 3 && eqb (table_number herd blank) 0
    && eqb (widen_number old_herd (seven old_barn) s (stale 212)) 0
    && same_words (widen_table old_herd (seven old_barn) s (stale 212)) (new_barn ++ replicate 112 0)
    && eqb (widen_number old_herd blank s (stale 212)) 0 && eqb (widen_number old_herd blank s (stale 156)) 1
    && eqb (narrow_number herd blank os (stale 116)) 0 && eqb (narrow_number herd (seven old_barn) os (stale 116)) 3
