-- Buckets of records by a digest of their keys. s is the schema, t the table, k the marks, m a key's mask.
-- Assumes nothing.
use Rattle.std.specs.Prelude.{ℕ, zero, suc, ◌+◌, ◌*◌, ◌-◌, ◌/◌, ◌%◌, ◌≤◌, ◌<◌, ◌≡◌, Bool, true, cond, ◌&&◌, ◌||◌, List, Option, Some, None, eqb, ltb, get_or}
use Rattle.model.specs.Layout.{field_count, used_at, relation_at, label_at}
use Rattle.model.specs.Lists.{any}
use Rattle.model.specs.Schemas.{schema_of}
use Rattle.model.specs.Tables.{record_of}
use Rattle.model.specs.Shown.{conflict_on}
use Rattle.marks.specs.Marks.{is_marked}
use Rattle.list_conflicts.specs.Keys.{values_at}

-- One more than the largest digest, one more than the largest half of a value, the factor that spreads it, the number of buckets, and
-- that of the digests of each.
abbrev pub digests : ℕ
digests = 1073741824

abbrev pub half : ℕ
half = 4294967296

abbrev pub spread : ℕ
spread = 663608941

abbrev pub buckets : ℕ
buckets = 4096

abbrev pub share : ℕ
share = 262144

-- The digest after a field more, which is one of the key's if the mask is odd.
unfoldable pub mixed : ℕ → ℕ → ℕ → ℕ
mixed d m v = cond (eqb (m % 2) 0) d ((d + v % half + v / half) * spread % digests)

-- The digest after n fields more, from field j + 1 on.
unfoldable pub digest_from : ℕ → ℕ → ℕ → ℕ → List ℕ → ℕ
digest_from d m j zero vs = d
digest_from d m j (suc n) vs = digest_from (mixed d m (get_or vs j 0)) (m / 2) (suc j) n vs

unfoldable pub digest_of : List ℕ → ℕ → ℕ → List ℕ → ℕ
digest_of s r m vs = digest_from 0 m 0 (field_count s r) vs

-- The bucket of record i.
unfoldable pub bucket_at : List ℕ → List ℕ → ℕ → ℕ → ℕ
bucket_at s t m i = digest_of s (relation_at t i) m (values_at t i) / share

-- The same; none where a reference of its key is empty: it does not conflict with itself.
unfoldable pub slot_at : List ℕ → List ℕ → ℕ → ℕ → Option ℕ
slot_at s t m i = cond (conflict_on (schema_of s) m (record_of t i) (record_of t i)) (Some (bucket_at s t m i)) None

-- Record i is marked, and no reference of its key is empty: it conflicts with itself.
unfoldable pub keyed : List ℕ → List ℕ → List ℕ → ℕ → ℕ → Bool
keyed s t k m i = is_marked k i && conflict_on (schema_of s) m (record_of t i) (record_of t i)

-- Record j is marked, is older than record i and of its relation, and conflicts with it on the key.
unfoldable pub beats : List ℕ → List ℕ → List ℕ → ℕ → ℕ → ℕ → Bool
beats s t k m i j =
    is_marked k j && eqb (relation_at t j) (relation_at t i) && ltb (label_at t j) (label_at t i)
    && conflict_on (schema_of s) m (record_of t j) (record_of t i)

unfoldable pub beaten_on : List ℕ → List ℕ → List ℕ → ℕ → ℕ → Bool
beaten_on s t k m i = any (used_at t) (beats s t k m i)

-- Record i is marked and beaten on one of two keys.
unfoldable pub loses : List ℕ → List ℕ → List ℕ → ℕ → ℕ → ℕ → Bool
loses s t k m n i = is_marked k i && (beaten_on s t k m i || beaten_on s t k n i)

-- Record j is one of relation r with a label below l, and can conflict on the key.
pub record Older (s t k : List ℕ) (m r l j : ℕ) : Type 0 where
  pub least : 1 ≤ j
  pub within : j ≤ used_at t
  pub related : relation_at t j ≡ r
  pub below : label_at t j < l
  pub whole : keyed s t k m j ≡ true

-- These records in buckets: an array h of the youngest of each bucket, and an array g of the next older one of each record's own
-- bucket; 0 is none.
pub record Buckets (s t k : List ℕ) (m r l : ℕ) (h g : List ℕ) : Type 0 where
  pub head_in : (b : ℕ) → (get_or h b 0 ≡ 0 → ⊥) → Older s t k m r l (get_or h b 0) × (bucket_at s t m (get_or h b 0) ≡ b)
  pub head_all : (j : ℕ) → Older s t k m r l j → (get_or h (bucket_at s t m j) 0 ≡ 0 → ⊥) × (label_at t j ≤ label_at t (get_or h (bucket_at s t m j) 0))
  pub link_in : (i : ℕ) → Older s t k m r l i → (get_or g (i - 1) 0 ≡ 0 → ⊥)
      → Older s t k m r l (get_or g (i - 1) 0) × (bucket_at s t m (get_or g (i - 1) 0) ≡ bucket_at s t m i) × (label_at t (get_or g (i - 1) 0) < label_at t i)
  pub link_all : (i j : ℕ) → Older s t k m r l i → Older s t k m r l j → bucket_at s t m j ≡ bucket_at s t m i → label_at t j < label_at t i
      → (get_or g (i - 1) 0 ≡ 0 → ⊥) × (label_at t j ≤ label_at t (get_or g (i - 1) 0))
