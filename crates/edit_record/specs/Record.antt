-- What writing a record into a delta does, and needs.
-- Assumes nothing.
use Rattle.std.specs.Prelude.{ℕ, ◌+◌, ◌-◌, ◌≤◌, Bool, cond, ◌&&◌, ◌||◌, List, eqb, ltb, length, get_or, set}
use Rattle.crdt.specs.Flags.{redone}
use Rattle.model.specs.Layout.{most_relations, most_records, used_word, first_words, base, used_at, relation_at, label_at, flag_at}

-- Where a record of relation r is linked in behind the last: the last record's next word, or the first word of the relation.
unfoldable pub link_of : List ℕ → ℕ → ℕ
link_of d r = cond (ltb 0 (used_at d) && eqb (relation_at d (used_at d)) r) (base (used_at d)) (first_words + (r - 1))

-- A record of relation r, label l and flag f written behind the last, and linked in.
unfoldable pub appended : List ℕ → ℕ → ℕ → ℕ → List ℕ
appended d r l f =
    let u = used_at d + 1 in
    let a = link_of d r in
    set (set (set (set (set d (base u + 1) r) (base u + 2) l) (base u + 3) f) used_word u) a u

-- The mark of record i.
abbrev pub marked : List ℕ → ℕ → Bool
marked m i = eqb (get_or m (i - 1) 0) 1

-- Record i of table t written where it is marked or edited (of index e).
unfoldable pub stepped : List ℕ → List ℕ → ℕ → List ℕ → ℕ → List ℕ
stepped t m e d i =
    cond (marked m i || eqb i e) (appended d (relation_at t i) (label_at t i) (cond (marked m i) (redone (flag_at t i)) 0)) d

-- What that needs.
pub record Steppable (t m d : List ℕ) (i : ℕ) : Type 0 where
  pub least : 1 ≤ i
  pub most : i ≤ length m
  pub from : 1 ≤ relation_at t i
  pub to : relation_at t i ≤ most_relations
  pub room : used_at d ≤ most_records
