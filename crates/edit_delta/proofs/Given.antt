-- What a well-formed table gives the walk of a draft, and the empty delta that it begins with.
-- Assumes nothing.
use Prim.Native.Nat.{ℕ, ◌+◌, ◌≤◌, ◌<◌}
use mathlib.Core.Path.{◌≡◌}
use mathlib.Core.Bool.{true}
use mathlib.Core.List.{List}
use native.Mathlib.Omega.{arith}
use borrow.Author.Tests.{leb-true}
use Rattle.crdt.specs.Labels.{largest_counter, label_of, counter_of}
use Rattle.crdt.specs.Flags.{largest_flag}
use Rattle.model.specs.Layout.{clock_at, used_at, label_at, flag_at}
use Rattle.model.specs.Records.{distinct}
use Rattle.model.specs.Tables.{decode}
use Rattle.wellformed.proofs.Facts.{table_sized, schema_sound, formed, Ruled, ruled, counter_label}
use Rattle.wellformed.proofs.Values.{relation_is, label_is, label_bounds, records_distinct}
use Rattle.wellformed.proofs.Links.{formed_first, formed_next}
use Rattle.edit_delta.specs.Drafting.{Ready, Source}

single_of : (s t : List ℕ) → Rattle.wellformed.proofs.Facts.SoundSchema s → Rattle.wellformed.proofs.Facts.Formed s t → distinct (decode t).records ≡ true
unfolding decode
single_of s t a b = records_distinct s t a b

counted : (l c : ℕ) → counter_of l ≤ c → l < label_of (c + 1) 0
counted l c h = omega arith

pub source : (s t d m : List ℕ) → Ready s t d m → Source t m
source s t d m q =
    let a = schema_sound s q.schema in
    let b = formed s t q.formed in
    let z = table_sized t q.table in
    let w : (i : ℕ) → 1 ≤ i → i ≤ used_at t → Ruled s t i = λ i x y. ruled s t i (b.rules i x y) in
    record {
      first = formed_first s t q.schema q.formed;
      next = formed_next s t q.schema q.formed;
      single = single_of s t a b;
      related = λ i x y. relation_is s t a b i x y;
      labelled = λ i x y. label_is s t a b i x y;
      least = λ i x y. (w i x y).relation_least;
      most = λ i x y. omega (arith, (w i x y).relation_most, a.most);
      above = λ i x y. (label_bounds s t a b i x y).0;
      below = λ i x y. counted (label_at t i) (clock_at t) (leb-true _ _ (counter_label s t i (b.counters i x y)));
      flagged = λ i x y. leb-true (flag_at t i) largest_flag (w i x y).flag;
      clock = leb-true (clock_at t) largest_counter b.clock;
      replica = b.replica;
      small = omega (arith, b.used, z.capacity);
      marks = q.marks;
      few = q.few;
    }
