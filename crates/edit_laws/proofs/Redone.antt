-- The records that an edit redoes: the table holds them, they are at most as many as a record has fields, and a deletion does not redo its own record.
-- Assumes nothing.
use Prim.Native.Nat.{ℕ, suc, ◌≤◌}
use mathlib.Core.Path.{◌≡◌, refl, sym, ◌∙◌, ap}
use mathlib.Core.Logic.{◌⊎◌, inl, inr}
use mathlib.Core.Bool.{Bool, true, false, cond, ◌&&◌, not}
use mathlib.Core.List.{List, [], ◌∷◌, ◌++◌}
use native.Mathlib.Omega.{arith}
use lib.Dec.{eqb}
use lib.ListN.{length, length-append}
use borrow.Author.Tests.{eq-eqb}
use Rattle.crdt.specs.Flags.{is_odd}
use Rattle.crdt.specs.Cells.{Reg}
use Rattle.crdt.proofs.Tests.{test, clash, and_left, not_true}
use Rattle.model.specs.Layout.{fields, field_count, kind_at, relations}
use Rattle.model.specs.Lists.{only, some_of}
use Rattle.model.specs.Schemas.{is_reference, is_abort, leads_to, broken, schema_of}
use Rattle.model.specs.Records.{Rec, place, has, at}
use Rattle.model.specs.Tables.{decode}
use Rattle.model.specs.Shown.{value, rest, described, leads, targets}
use Rattle.model.specs.Edits.{flag_in, flag_of, odd, supported, leading, update_redoes, deletion_redoes}
use Rattle.laws.proofs.Lists.{◌∈◌, only_in, only_length}
use Rattle.laws.proofs.Members.{absent}
use Rattle.laws.proofs.Shown.{listed}
use Rattle.laws.proofs.Drafts.{has_order}
use Rattle.wellformed.proofs.Ranges.{listed_length}
use Rattle.wellformed.proofs.Facts.{schema_sound}
use Rattle.convergence.proofs.Tables.{narrow}
use Rattle.edit_basics.specs.Targets.{kinds_of, held}

-- an odd flag is held
odd_held : (c : List Rec) (ks : List ℕ) (k : ℕ) → k ∈ odd c ks → has c k ≡ true
unfolding odd flag_of
odd_held c ks k m = go (test (has c k)) (only_in _ k ks m).1
  where
    go : (has c k ≡ true) ⊎ (has c k ≡ false) → is_odd (flag_in (at k c)) ≡ true → has c k ≡ true
    go (inl p) h = p
    go (inr p) h = clash (rw (absent c k p) at h) refl

odd_length : (c : List Rec) (ks : List ℕ) → length (odd c ks) ≤ length ks
unfolding odd
odd_length c ks = only_length _ ks

pub odd_known : (t ks : List ℕ) (k : ℕ) → k ∈ odd (held t) ks → has (decode t).records k ≡ true
odd_known t ks k m = sym (has_order (decode t).records k) ∙ odd_held (held t) ks k m

-- as many targets as fields, or fewer
leads_length : (p : ℕ → Bool) (ks : List ℕ) (gs : List Reg) → length (leads p ks gs) ≤ length ks
unfolding leads
leads_length p [] gs = omega arith
leads_length p (k ∷ ks) gs = go (p k && not (eqb (value gs) 0)) (leads_length p ks (rest gs))
  where
    go : (b : Bool) → length (leads p ks (rest gs)) ≤ length ks → length (cond b (place (leads_to k) (value gs) ∷ leads p ks (rest gs)) (leads p ks (rest gs))) ≤ suc (length ks)
    go true h = omega arith
    go false h = omega arith

leading_length : (p : ℕ → Bool) (k v : ℕ) → length (leading p k v) ≤ 1
unfolding leading
leading_length p k v = go (p k && not (eqb v 0))
  where
    go : (b : Bool) → length (cond b (place (leads_to k) v ∷ []) []) ≤ 1
    go true = omega arith
    go false = omega arith

module _ (s t : List ℕ) (b : broken s ≡ false) where
  targets_few : (p : ℕ → Bool) (x : Rec) → length (targets (schema_of s) p x) ≤ fields
  unfolding targets described
  targets_few p x = omega (arith, leads_length p (described (schema_of s) x).kinds x.cell.regs, narrow s b (Rattle.model.specs.Records.relation x))

  pub deletion_few : (x : Rec) → length (deletion_redoes (schema_of s) (held t) x) ≤ fields
  unfolding deletion_redoes
  deletion_few x =
      let ts = only (λ k. not (eqb k x.key) && supported (schema_of s) (held t) x.key k) (targets (schema_of s) is_abort x) in
      omega (arith, odd_length (held t) ts, only_length (λ k. not (eqb k x.key) && supported (schema_of s) (held t) x.key k) (targets (schema_of s) is_abort x), targets_few is_abort x)

  pub update_few : (x : Rec) (k old new : ℕ) → length (update_redoes (schema_of s) (held t) x k old new) ≤ fields
  unfolding update_redoes
  update_few x k old new =
      let ls = leading is_reference k new in
      let ms = only (λ y. not (eqb old new) && supported (schema_of s) (held t) x.key y) (leading is_abort k old) in
      omega (arith, odd_length (held t) (ls ++ ms), length-append ls ms, leading_length is_reference k new, leading_length is_abort k old, only_length (λ y. not (eqb old new) && supported (schema_of s) (held t) x.key y) (leading is_abort k old))

  pub insertion_few : (r : ℕ) (gs : List Reg) → 1 ≤ r → r ≤ relations s → length (odd (held t) (leads is_reference (kinds_of s r) gs)) ≤ fields
  insertion_few r gs l m =
      omega (arith, odd_length (held t) (leads is_reference (kinds_of s r) gs), leads_length is_reference (kinds_of s r) gs, listed_length (field_count s r) (kind_at s r), (schema_sound s b).counts r l m)

  pub deletion_known : (x : Rec) (k : ℕ) → k ∈ deletion_redoes (schema_of s) (held t) x → has (decode t).records k ≡ true
  unfolding deletion_redoes
  deletion_known x k m = odd_known t _ k m

  pub update_known : (x : Rec) (f old new k : ℕ) → k ∈ update_redoes (schema_of s) (held t) x f old new → has (decode t).records k ≡ true
  unfolding update_redoes
  update_known x f old new k m = odd_known t _ k m

  -- "Each abort target other than itself"
  pub deletion_apart : (x : Rec) → some_of (λ k. eqb x.key k) (deletion_redoes (schema_of s) (held t) x) ≡ false
  unfolding deletion_redoes odd
  deletion_apart x = go (test (some_of (λ k. eqb x.key k) (deletion_redoes (schema_of s) (held t) x)))
    where
      ts : List ℕ
      ts = only (λ k. not (eqb k x.key) && supported (schema_of s) (held t) x.key k) (targets (schema_of s) is_abort x)

      no : x.key ∈ only (λ k. is_odd (flag_of (held t) k)) (only (λ k. not (eqb k x.key) && supported (schema_of s) (held t) x.key k) (targets (schema_of s) is_abort x)) → some_of (λ k. eqb x.key k) (deletion_redoes (schema_of s) (held t) x) ≡ false
      no m =
          let a = (only_in _ x.key _ (only_in _ x.key _ m).0).1 in
          clash (eq-eqb x.key x.key refl) (not_true _ (and_left (not (eqb x.key x.key)) _ a))

      go : (some_of (λ k. eqb x.key k) (deletion_redoes (schema_of s) (held t) x) ≡ true) ⊎ (some_of (λ k. eqb x.key k) (deletion_redoes (schema_of s) (held t) x) ≡ false) → some_of (λ k. eqb x.key k) (deletion_redoes (schema_of s) (held t) x) ≡ false
      go (inl h) = no (listed x.key _ h)
      go (inr h) = h
