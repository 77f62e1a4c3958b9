-- Records picked by one mark each, as an edit picks those to be redone, and the delta that it drafts of them.
-- Assumes nothing.
use Rattle.std.specs.Prelude.{ℕ, ◌-◌, ◌≤◌, ◌≡◌, cond, List, [], ◌∷◌, eqb, get_or}
use Rattle.model.specs.Layout.{fields, delta_records, used_at}
use Rattle.model.specs.Lists.{some_of}
use Rattle.model.specs.Records.{Rec, in_order}
use Rattle.model.specs.Tables.{Table, decode, record_of}
use Rattle.model.specs.Edits.{redoing}

-- One mark per record: 1 where its key is among the keys, and 0 elsewhere.
pub record Picked (t ks m : List ℕ) : Type 0 where
  pub at : (i : ℕ) → 1 ≤ i → i ≤ used_at t → get_or m (i - 1) 0 ≡ cond (some_of (λ k. eqb (record_of t i).key k) ks) 1 0

-- The keys of the records whose mark is 1, by position.
unfoldable pub picked_keys : List Rec → List ℕ → List ℕ
picked_keys [] m = []
picked_keys (x ∷ xs) [] = []
picked_keys (x ∷ xs) (b ∷ bs) = let r = picked_keys xs bs in cond (eqb b 1) (x.key ∷ r) r

-- The delta of a table: a clock, one changed record, and the redone ones.
unfoldable pub draft_of : List ℕ → ℕ → Rec → List ℕ → Table
draft_of t clock x m =
    let v = decode t in
    record {
      capacity = delta_records;
      replica = v.replica;
      clock = clock;
      records = in_order (x ∷ redoing fields (in_order v.records) (picked_keys v.records m));
    }
