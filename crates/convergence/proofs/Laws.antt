-- Merge of words is commutative, associative and idempotent, its refusals among them.
-- Assumes nothing.
use Prim.Native.Nat.{ℕ, max, ◌≤◌, ◌<◌}
use mathlib.Core.Path.{◌≡◌, refl, sym, ◌∙◌, ap}
use mathlib.Core.Logic.{◌⊎◌, inl, inr}
use mathlib.Core.List.{List}
use native.Mathlib.Omega.{arith}
use lib.ListN.{length}
use Rattle.model.specs.Layout.{fields, capacity_of}
use Rattle.model.specs.Schemas.{schema_of}
use Rattle.model.specs.Records.{Rec, in_order, join, Distinct}
use Rattle.model.specs.Tables.{Table, decode, encode, Contents, contents}
use Rattle.model.specs.Merge.{merged_records, merged}
use Rattle.model.specs.Calls.{table_number, merge_number, merge_table}
use Rattle.model.specs.Demand.{Commutative, Associative, Idempotent}
use Rattle.laws.proofs.Join.{join_comm, join_assoc, join_rising, length_own, length_other}
use Rattle.laws.proofs.Order.{order_rising}
use Rattle.laws.proofs.Merge.{order_merged, merged_length, merged_self}
use Rattle.laws.proofs.Valid.{Valid}
use Rattle.convergence.proofs.Tables.{Good, good_table, good_valid, good_encoded, Merging, fits, full, merging, Left, merge_left}

-- the records of a table in list order
unfoldable pub held : List ℕ → List Rec
held t = in_order (decode t).records

abbrev content_of : ℕ → List Rec → Contents
content_of c l = record { clock = c; records = l }

content : (t : List ℕ) → contents t ≡ content_of (decode t).clock (held t)
unfolding contents held
content t = refl

-- how many records a merge has
many : (s a b : List ℕ) → Good s a → length (merged_records (decode a).records (decode b).records) ≡ length (join (held a) (held b))
unfolding held
many s a b g = merged_length (decode a).records (decode b).records (good_valid s a g).distinct

-- what a merge leaves
pub record Merged (s a b t : List ℕ) : Type 0 where
  pub good : Good s t
  pub room : (decode t).capacity ≡ (decode a).capacity
  pub replica : (decode t).replica ≡ (decode a).replica
  pub clock : (decode t).clock ≡ max (decode a).clock (decode b).clock
  pub holds : held t ≡ join (held a) (held b)

pub merged_left : (s a b : List ℕ) → merge_number s a b ≡ 0 → Merged s a b (merge_table s a b)
unfolding held merged
merged_left s a b h =
    let l = merge_left s a b h in
    record {
      good = l.good;
      room = ap (λ (v : Table). v.capacity) l.value;
      replica = ap (λ (v : Table). v.replica) l.value;
      clock = ap (λ (v : Table). v.clock) l.value;
      holds = ap (λ (v : Table). in_order v.records) l.value ∙ order_merged (decode a).records (decode b).records;
    }

rising : (t : List ℕ) → Rattle.model.specs.Records.Rising 0 (held t)
unfolding held
rising t = order_rising (decode t).records

-- a merge of good tables fits or is full, by the number of distinct records
pub data Sized (s a b : List ℕ) : Type 0 where
  fit : merge_number s a b ≡ 0 → Merged s a b (merge_table s a b) → length (join (held a) (held b)) ≤ (decode a).capacity → Sized s a b
  over : merge_number s a b ≡ 11 → merge_table s a b ≡ a → (decode a).capacity < length (join (held a) (held b)) → Sized s a b

pub sized : (s a b : List ℕ) → Good s a → Good s b → Sized s a b
sized s a b ga gb = go (merging s a b ga gb)
  where
    go : Merging s a b → Sized s a b
    go (fits n e r) = fit n (merged_left s a b n) (rw (many s a b ga) at r)
    go (full n e r) = over n e (rw (many s a b ga) at r)

same_room : (a b : List ℕ) → length a ≡ length b → (decode a).capacity ≡ (decode b).capacity
unfolding decode capacity_of
same_room a b e = rw e

equal : (t u : List ℕ) → (decode t).clock ≡ (decode u).clock → held t ≡ held u → contents t ≡ contents u
equal t u p q = content t ∙ (λ i. content_of (p i) (q i)) ∙ sym (content u)

pub merge_commutes : (s a b : List ℕ) → table_number s a ≡ 0 → table_number s b ≡ 0 → length a ≡ length b → Commutative s a b
merge_commutes s a b ta tb e = go (sized s a b (good_table s a ta) (good_table s b tb)) (sized s b a (good_table s b tb) (good_table s a ta))
  where
    swap : join (held a) (held b) ≡ join (held b) (held a)
    swap = join_comm (held a) (held b) (rising a) (rising b)

    go : Sized s a b → Sized s b a → Commutative s a b
    go (fit n m r) (fit n' m' r') =
        let c : (decode (merge_table s a b)).clock ≡ (decode (merge_table s b a)).clock = omega (arith, m.clock, m'.clock) in
        inl (n, n', equal _ _ c (m.holds ∙ swap ∙ sym m'.holds))
    go (fit n m r) (over n' m' r') = absurd (omega (arith, ap length swap, same_room a b e))
    go (over n m r) (fit n' m' r') = absurd (omega (arith, ap length swap, same_room a b e))
    go (over n m r) (over n' m' r') = inr (n, n')

same_value : (v : Table) → merged_records v.records v.records ≡ v.records → merged v v ≡ v
unfolding merged
same_value v e =
    let m : max v.clock v.clock ≡ v.clock = omega arith in
    λ i. record { capacity = v.capacity; replica = v.replica; clock = m i; records = e i }

pub merge_idempotent : (s a : List ℕ) → table_number s a ≡ 0 → Idempotent s a
merge_idempotent s a ta = go (merging s a a g g)
  where
    g : Good s a
    g = good_table s a ta

    self : merged_records (decode a).records (decode a).records ≡ (decode a).records
    self = merged_self (decode a).records (good_valid s a g).distinct

    value : merged (decode a) (decode a) ≡ decode a
    value = same_value (decode a) self

    go : Merging s a a → Idempotent s a
    go (fits n e r) = (n, e ∙ ap encode value ∙ good_encoded s a g)
    go (full n e r) = absurd (omega (arith, ap length self, (good_valid s a g).used))

-- b into a and then c into that, against c into b and then that into a
module _ (s a b c : List ℕ) (ga : Good s a) (gb : Good s b) (gc : Good s c) (ab : (decode a).capacity ≡ (decode b).capacity) (bc : (decode b).capacity ≡ (decode c).capacity) where
  three : join (join (held a) (held b)) (held c) ≡ join (held a) (join (held b) (held c))
  three = join_assoc (held a) (held b) (held c) (rising a)

  last_two : length (join (held b) (held c)) ≤ length (join (join (held a) (held b)) (held c))
  last_two = rw three (length_other (held a) _ (rising a) (join_rising (held b) (held c) (rising b)))

  first_two : length (join (held a) (held b)) ≤ length (join (join (held a) (held b)) (held c))
  first_two = length_own (join (held a) (held b)) (held c)

  associates : Sized s a b → Sized s b c → Associative s a b c
  associates (over n m r) (over n' m' r') = inr (inl n, inl n')
  associates (fit n m r) (over n' m' r') = go (sized s (merge_table s a b) c m.good gc)
    where
      go : Sized s (merge_table s a b) c → Associative s a b c
      go (over p q o) = inr (inr p, inl n')
      go (fit p q o) = absurd (omega (arith, last_two, m.room, ap length (ap (λ l. join l (held c)) m.holds)))
  associates (over n m r) (fit n' m' r') = go (sized s a (merge_table s b c) ga m'.good)
    where
      go : Sized s a (merge_table s b c) → Associative s a b c
      go (over p q o) = inr (inl n, inr p)
      go (fit p q o) = absurd (omega (arith, first_two, ap length three, ap length (ap (join (held a)) m'.holds)))
  associates (fit n m r) (fit n' m' r') = go (sized s (merge_table s a b) c m.good gc) (sized s a (merge_table s b c) ga m'.good)
    where
      one : join (held (merge_table s a b)) (held c) ≡ join (join (held a) (held b)) (held c)
      one = ap (λ l. join l (held c)) m.holds

      two : join (held a) (held (merge_table s b c)) ≡ join (held a) (join (held b) (held c))
      two = ap (join (held a)) m'.holds

      go : Sized s (merge_table s a b) c → Sized s a (merge_table s b c) → Associative s a b c
      go (over p q o) (over p' q' o') = inr (inr p, inr p')
      go (over p q o) (fit p' q' o') = absurd (omega (arith, m.room, ap length three, ap length one, ap length two))
      go (fit p q o) (over p' q' o') = absurd (omega (arith, m.room, ap length three, ap length one, ap length two))
      go (fit p q o) (fit p' q' o') =
          let k : (decode (merge_table s (merge_table s a b) c)).clock ≡ (decode (merge_table s a (merge_table s b c))).clock = omega (arith, q.clock, q'.clock, m.clock, m'.clock) in
          inl (n, p, n', p', equal _ _ k (q.holds ∙ one ∙ three ∙ sym two ∙ sym q'.holds))

pub merge_associates : (s a b c : List ℕ) → table_number s a ≡ 0 → table_number s b ≡ 0 → table_number s c ≡ 0 → length a ≡ length b → length b ≡ length c → Associative s a b c
merge_associates s a b c ta tb tc ab bc =
    let ga = good_table s a ta in
    let gb = good_table s b tb in
    let gc = good_table s c tc in
    associates s a b c ga gb gc (same_room a b ab) (same_room b c bc) (sized s a b ga gb) (sized s b c gb gc)
