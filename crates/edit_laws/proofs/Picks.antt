-- The records that an edit redoes, by position: which are picked, the array of their marks, and whether one of their flags is spent.
-- Assumes nothing.
use Prim.Native.Nat.{ℕ, ◌+◌, ◌-◌, ◌%◌, ◌≤◌, ◌<◌}
use mathlib.Core.Path.{◌≡◌, refl, sym, ◌∙◌, ap}
use mathlib.Core.Logic.{◌⊎◌, inl, inr}
use mathlib.Core.Bool.{Bool, true, false, cond, ◌||◌, ◌&&◌, not}
use mathlib.Core.List.{List, [], ◌∷◌, ◌++◌}
use mathlib.Core.Option.{Option, none, some}
use native.Mathlib.Omega.{arith}
use lib.Dec.{eqb, ltb, leb}
use lib.ListN.{length, get_or, set}
use lib.Seq.{get_or-set_same, get_or-set_other}
use borrow.Author.Tests.{eqb-true, eqb-false, eq-eqb, ne_eqb, lt-ltb, le-ltb}
use Rattle.crdt.specs.Flags.{largest_flag, is_odd}
use Rattle.crdt.specs.Cells.{Cell}
use Rattle.crdt.proofs.Tests.{test, clash, and_left, and_right, and_both, Tri, low, same, high, tri, same_test}
use Rattle.model.specs.Layout.{used_at, flag_at}
use Rattle.model.specs.Lists.{only, some_of}
use Rattle.model.specs.Schemas.{is_reference, is_abort, leads_to, propagation_kinds, schema_of, Relation}
use Rattle.model.specs.Records.{Rec, place, has, at}
use Rattle.model.specs.Tables.{decode, record_of}
use Rattle.model.specs.Shown.{live, targets, references}
use Rattle.model.specs.Edits.{flag_in, flag_of, odd, spent, supported, leading, update_redoes, deletion_redoes}
use Rattle.laws.proofs.Lists.{◌∈◌, some_in, in_some}
use Rattle.laws.proofs.Shown.{in_has, listed}
use Rattle.laws.proofs.Order.{is_some, has_at}
use Rattle.laws.proofs.Drafts.{has_order}
use Rattle.laws.proofs.Members.{at_member, absent}
use Rattle.judged.specs.Checked.{Checked}
use Rattle.references.specs.Order.{key_at}
use Rattle.references.proofs.Places.{Spot, spot, same_key}
use Rattle.marks.specs.Marks.{is_marked}
use Rattle.marks.proofs.Marks.{marked_true, true_marked}
use Rattle.marks.proofs.Members.{record_in, ordered_once}
use Rattle.edit_delta.specs.Picked.{Picked}
use Rattle.edit_basics.specs.Targets.{held, Placed}
use Rattle.edit_basics.proofs.Turns.{not_so, NoneTo, among_only, some_append}
use Rattle.edit_basics.proofs.Marks.{held_found, held_none}

-- the flag of a record
pub flag_of_lem : (s t : List ℕ) (i : ℕ) → Placed s t i → flag_of (held t) (key_at t i) ≡ flag_at t i
unfolding flag_of record_of
flag_of_lem s t i o =
    ap flag_in (at_member (held t) (record_of t i) (ordered_once s t o.checked.schema o.checked.formed) (record_in s t o.checked.schema o.checked.formed i o.least o.most))

-- positions differ where keys differ
pub keys_apart : (s t : List ℕ) (i j : ℕ) → Placed s t i → Placed s t j → eqb (key_at t i) (key_at t j) ≡ eqb i j
keys_apart s t i j o p =
    same_test _ _
    (λ h. eq-eqb i j (same_key s t o.checked i j o.least o.most p.least p.most (eqb-true _ _ h)))
    (λ h. eq-eqb _ _ (ap (key_at t) (eqb-true i j h)))

-- one mark for each record: those of a rule
abbrev pub Filled : (ℕ → ℕ) → List ℕ → ℕ → Type 0
Filled f m n = (q : ℕ) → q < n → get_or m q 0 ≡ f (q + 1)

pub filled_more : (f : ℕ → ℕ) (m : List ℕ) (n x : ℕ) → n < length m → Filled f m n → x ≡ f (n + 1) → Filled f (set m n x) (n + 1)
filled_more f m n x l h e q b = go (tri q n)
  where
    go : Tri q n → get_or (set m n x) q 0 ≡ f (q + 1)
    go (low p) = get_or-set_other m n q x 0 (λ z. omega arith) ∙ h q p
    go (same p) = rw p (get_or-set_same m n x 0 l ∙ e)
    go (high p) = absurd (omega arith)

-- the mark of a record among the keys
abbrev pub pick_of : List ℕ → List ℕ → ℕ → ℕ
pick_of t ks i = cond (some_of (λ k. eqb (key_at t i) k) ks) 1 0

pub filled_picked : (t ks m : List ℕ) (n : ℕ) → used_at t ≤ n → Filled (pick_of t ks) m n → Picked t ks m
filled_picked t ks m n l h = record { at = at }
  where
    at : (i : ℕ) → 1 ≤ i → i ≤ used_at t → get_or m (i - 1) 0 ≡ pick_of t ks i
    at i a b = let e : i - 1 + 1 ≡ i = omega arith in rw e at (h (i - 1) (omega arith))

-- a spent flag
module _ (s t : List ℕ) (c : Checked s t) (ks m : List ℕ) (p : Picked t ks m) where
  mark_one : (b : Bool) → ◌≡◌ {A = ℕ} (cond b 1 0) 1 → b ≡ true
  mark_one true e = refl
  mark_one false e = let z : ◌≡◌ {A = ℕ} 0 1 = e in absurd (omega arith)

  pub spent_found : (i : ℕ) → 1 ≤ i → i ≤ used_at t → (is_marked m i && eqb (flag_at t i) largest_flag) ≡ true → spent (held t) ks ≡ true
  unfolding spent
  spent_found i a b h =
      let k = mark_one _ (sym (p.at i a b) ∙ (marked_true m i (and_left (is_marked m i) _ h)).1) in
      in_some _ (key_at t i) ks (listed (key_at t i) ks k)
      (ap (λ (x : ℕ). eqb x largest_flag) (flag_of_lem s t i (record { checked = c; least = a; most = b })) ∙ and_right (is_marked m i) _ h)

  pub spent_none : NoneTo (λ i. is_marked m i && eqb (flag_at t i) largest_flag) (used_at t) → spent (held t) ks ≡ false
  unfolding spent flag_of
  spent_none h = not_so _ (λ e. no (some_in _ ks e))
    where
      some_flag : (k : ℕ) → flag_of (held t) k ≡ largest_flag → has (decode t).records k ≡ true
      some_flag k e = go (test (has (held t) k))
        where
          go : (has (held t) k ≡ true) ⊎ (has (held t) k ≡ false) → has (decode t).records k ≡ true
          go (inl y) = sym (has_order (decode t).records k) ∙ y
          go (inr y) = let z : 0 ≡ largest_flag = sym (ap flag_in (absent (held t) k y)) ∙ e in absurd (omega arith)

      no : (k : ℕ) × (k ∈ ks) × (eqb (flag_of (held t) k) largest_flag ≡ true) → ⊥
      no r =
          let f = eqb-true (flag_of (held t) r.0) largest_flag r.2 in
          let o = spot s t c r.0 (some_flag r.0 f) in
          let g : flag_at t o.at ≡ largest_flag = sym (flag_of_lem s t o.at (record { checked = c; least = o.least; most = o.most })) ∙ ap (flag_of (held t)) o.keyed ∙ f in
          let k : some_of (λ k. eqb (key_at t o.at) k) ks ≡ true = in_some _ r.0 ks r.1 (eq-eqb _ _ o.keyed) in
          let m1 = true_marked m o.at o.least (p.at o.at o.least o.most ∙ ap (λ (b : Bool). cond b 1 0) k) in
          clash (and_both _ _ m1 (eq-eqb _ _ g)) (h o.at o.least o.most)

-- picked by a rule
module _ (s t : List ℕ) (i : ℕ) (o : Placed s t i) where
  abbrev among : List ℕ → Bool
  among ks = some_of (λ k. eqb (key_at t i) k) ks

  pub odd_among : (ks : List ℕ) → among (odd (held t) ks) ≡ (is_odd (flag_at t i) && among ks)
  unfolding odd
  odd_among ks =
      among_only (key_at t i) (λ k. is_odd (flag_of (held t) k)) ks
      ∙ ap (λ (f : ℕ). is_odd f && among ks) (flag_of_lem s t i o)

  -- the flag is even, or it is odd
  pub odd_even : (ks : List ℕ) (f : ℕ) → f ≡ flag_at t i → is_odd f ≡ false → false ≡ among (odd (held t) ks)
  odd_even ks f e h = sym (odd_among ks ∙ ap (λ (b : Bool). b && among ks) (ap is_odd (sym e) ∙ h))

  pub odd_odd : (ks : List ℕ) (f : ℕ) → f ≡ flag_at t i → is_odd f ≡ true → among (odd (held t) ks) ≡ among ks
  odd_odd ks f e h = odd_among ks ∙ ap (λ (b : Bool). b && among ks) (ap is_odd (sym e) ∙ h)

  module _ (k old new : ℕ) (but : Rec) where
    pub update_among : among (leading is_reference k new ++ only (λ x. not (eqb old new) && supported (schema_of s) (held t) but.key x) (leading is_abort k old))
        ≡ (among (leading is_reference k new) || ((not (eqb old new) && supported (schema_of s) (held t) but.key (key_at t i)) && among (leading is_abort k old)))
    update_among =
        some_append _ (leading is_reference k new) _
        ∙ ap (λ (b : Bool). among (leading is_reference k new) || b) (among_only (key_at t i) (λ x. not (eqb old new) && supported (schema_of s) (held t) but.key x) (leading is_abort k old))

  pub deletion_among : (x : Rec) → among (only (λ y. not (eqb y x.key) && supported (schema_of s) (held t) x.key y) (targets (schema_of s) is_abort x))
      ≡ ((not (eqb (key_at t i) x.key) && supported (schema_of s) (held t) x.key (key_at t i)) && references (schema_of s) is_abort (key_at t i) x)
  unfolding references
  deletion_among x = among_only (key_at t i) _ (targets (schema_of s) is_abort x)

-- references by abort
pub abort_none : (k v : ℕ) → propagation_kinds ≤ k → leading is_abort k v ≡ []
unfolding leading
abort_none k v h = rw (le-ltb k propagation_kinds h) (go (leb 16 k))
  where
    go : (b : Bool) → cond ((b && false) && not (eqb v 0)) (place (leads_to k) v ∷ []) [] ≡ []
    go true = refl
    go false = refl

pub abort_same : (k v : ℕ) → k < propagation_kinds → leading is_abort k v ≡ leading is_reference k v
unfolding leading
abort_same k v h = rw (lt-ltb k propagation_kinds h) (go (leb 16 k))
  where
    go : (b : Bool) → cond ((b && true) && not (eqb v 0)) (place (leads_to k) v ∷ []) [] ≡ cond (b && not (eqb v 0)) (place (leads_to k) v ∷ []) []
    go true = refl
    go false = refl

-- a complete even record other than one, that references another
abbrev pub backs : List Relation → ℕ → ℕ → Rec → Bool
backs σ but k y = not (eqb y.key but) && live σ y && references σ is_reference k y

module _ (s t : List ℕ) (but y p : ℕ) (ob : Placed s t but) (oy : Placed s t y) where
  abbrev T : Bool
  T = backs (schema_of s) (key_at t but) (key_at t p) (record_of t y)

  both : (a b r : Bool) → b ≡ false → false ≡ ((a && b) && r)
  both true b r e = rw e
  both false b r e = refl

  pub backs_self : y ≡ but → false ≡ T
  backs_self e = rw (eq-eqb (key_at t y) (key_at t but) (ap (key_at t) e))

  pub backs_dead : (l : Bool) → l ≡ live (schema_of s) (record_of t y) → l ≡ false → false ≡ T
  backs_dead l e h = both (not (eqb (key_at t y) (key_at t but))) (live (schema_of s) (record_of t y)) (references (schema_of s) is_reference (key_at t p) (record_of t y)) (sym e ∙ h)

  pub backs_live : (l x : Bool) → (y ≡ but → ⊥) → l ≡ live (schema_of s) (record_of t y) → l ≡ true → x ≡ references (schema_of s) is_reference (key_at t p) (record_of t y) → x ≡ T
  backs_live l x n e h g =
      let k : eqb (key_at t y) (key_at t but) ≡ false = keys_apart s t y but oy ob ∙ ne_eqb y but n in
      let v : live (schema_of s) (record_of t y) ≡ true = sym e ∙ h in
      rw (k, v) g

module _ (s t : List ℕ) (c : Checked s t) (but p : ℕ) where
  pub backed : (y : ℕ) → 1 ≤ y → y ≤ used_at t → backs (schema_of s) (key_at t but) (key_at t p) (record_of t y) ≡ true → true ≡ supported (schema_of s) (held t) (key_at t but) (key_at t p)
  unfolding supported
  backed y a b h = sym (held_found s t c (backs (schema_of s) (key_at t but) (key_at t p)) y a b h)

  pub unbacked : NoneTo (λ y. backs (schema_of s) (key_at t but) (key_at t p) (record_of t y)) (used_at t) → false ≡ supported (schema_of s) (held t) (key_at t but) (key_at t p)
  unfolding supported
  unbacked h = sym (held_none s t c (backs (schema_of s) (key_at t but) (key_at t p)) h)

even_odd : (f : ℕ) → f % 2 ≡ 0 → is_odd f ≡ false
even_odd f h = ne_eqb (f % 2) 1 (λ e. omega arith)

odd_is : (f : ℕ) → (f % 2 ≡ 0 → ⊥) → is_odd f ≡ true
odd_is f h = eq-eqb (f % 2) 1 (omega arith)

-- the picks of an insertion
module _ (s t : List ℕ) (i f : ℕ) (o : Placed s t i) (e : f ≡ flag_at t i) (ks : List ℕ) where
  pub insertion_even : (f % 2 ≡ 1 → ⊥) → false ≡ some_of (λ k. eqb (key_at t i) k) (odd (held t) ks)
  insertion_even h = odd_even s t i o ks f e (ne_eqb (f % 2) 1 h)

  pub insertion_odd : (x : Bool) → f % 2 ≡ 1 → x ≡ some_of (λ k. eqb (key_at t i) k) ks → x ≡ some_of (λ k. eqb (key_at t i) k) (odd (held t) ks)
  insertion_odd x h g = g ∙ sym (odd_odd s t i o ks f e (eq-eqb (f % 2) 1 h))

and_no : (a b : Bool) → b ≡ false → false ≡ (a && b)
and_no true b z = sym z
and_no false b z = refl

and_yes : (a x : Bool) → (b : Bool) → b ≡ true → x ≡ a → x ≡ (a && b)
and_yes true x b z g = g ∙ sym z
and_yes false x b z g = g

-- the picks of a deletion of record i
module _ (s t : List ℕ) (i p f : ℕ) (oi : Placed s t i) (o : Placed s t p) (e : f ≡ flag_at t p) where
  abbrev G : Bool
  G = some_of (λ k. eqb (key_at t p) k) (deletion_redoes (schema_of s) (held t) (record_of t i))

  abbrev W : Bool
  W = not (eqb (key_at t p) (key_at t i)) && supported (schema_of s) (held t) (key_at t i) (key_at t p)

  pub deletion_even : f % 2 ≡ 0 → false ≡ G
  unfolding deletion_redoes
  deletion_even h = odd_even s t p o _ f e (even_odd f h)

  deletion_odd : (f % 2 ≡ 0 → ⊥) → G ≡ ((not (eqb (key_at t p) (key_at t i)) && supported (schema_of s) (held t) (key_at t i) (key_at t p)) && references (schema_of s) is_abort (key_at t p) (record_of t i))
  unfolding deletion_redoes
  deletion_odd h = odd_odd s t p o _ f e (odd_is f h) ∙ deletion_among s t p o (record_of t i)

  pub deletion_self : (f % 2 ≡ 0 → ⊥) → p ≡ i → false ≡ G
  deletion_self h q = rw (deletion_odd h, eq-eqb (key_at t p) (key_at t i) (ap (key_at t) q))

  pub deletion_no : (a : Bool) → (f % 2 ≡ 0 → ⊥) → a ≡ references (schema_of s) is_abort (key_at t p) (record_of t i) → a ≡ false → false ≡ G
  deletion_no a h g z = and_no W _ (sym g ∙ z) ∙ sym (deletion_odd h)

  pub deletion_yes : (a x : Bool) → (f % 2 ≡ 0 → ⊥) → (p ≡ i → ⊥) → a ≡ references (schema_of s) is_abort (key_at t p) (record_of t i) → a ≡ true
      → x ≡ supported (schema_of s) (held t) (key_at t i) (key_at t p) → x ≡ G
  deletion_yes a x h n g z y =
      let k : eqb (key_at t p) (key_at t i) ≡ false = keys_apart s t p i o oi ∙ ne_eqb p i n in
      let w : x ≡ W = rw k y in
      and_yes W x _ (sym g ∙ z) w ∙ sym (deletion_odd h)

-- the picks of an update of a field of record i
module _ (s t : List ℕ) (i p f : ℕ) (o : Placed s t p) (e : f ≡ flag_at t p) (k old new : ℕ) where
  abbrev U : Bool
  U = some_of (λ j. eqb (key_at t p) j) (update_redoes (schema_of s) (held t) (record_of t i) k old new)

  abbrev lead : (ℕ → Bool) → ℕ → Bool
  lead q v = some_of (λ j. eqb (key_at t p) j) (leading q k v)

  abbrev O : Bool
  O = not (eqb old new) && supported (schema_of s) (held t) (key_at t i) (key_at t p)

  pub update_even : f % 2 ≡ 0 → false ≡ U
  unfolding update_redoes
  update_even h = odd_even s t p o _ f e (even_odd f h)

  update_odd : (f % 2 ≡ 0 → ⊥) → U ≡ (lead is_reference new || ((not (eqb old new) && supported (schema_of s) (held t) (key_at t i) (key_at t p)) && lead is_abort old))
  unfolding update_redoes
  update_odd h = odd_odd s t p o _ f e (odd_is f h) ∙ update_among s t p o k old new (record_of t i)

  pub update_new : (b : Bool) → (f % 2 ≡ 0 → ⊥) → b ≡ lead is_reference new → b ≡ true → true ≡ U
  update_new b h g z =
      let v : lead is_reference new ≡ true = sym g ∙ z in
      sym (update_odd h ∙ ap (λ (x : Bool). x || ((not (eqb old new) && supported (schema_of s) (held t) (key_at t i) (key_at t p)) && lead is_abort old)) v)

  module _ (b : Bool) (h : f % 2 ≡ 0 → ⊥) (g : b ≡ lead is_reference new) (z : b ≡ false) where
    rest : U ≡ ((not (eqb old new) && supported (schema_of s) (held t) (key_at t i) (key_at t p)) && lead is_abort old)
    rest =
        let v : lead is_reference new ≡ false = sym g ∙ z in
        update_odd h ∙ ap (λ (x : Bool). x || ((not (eqb old new) && supported (schema_of s) (held t) (key_at t i) (key_at t p)) && lead is_abort old)) v

    no_lead : lead is_abort old ≡ false → false ≡ U
    no_lead v = and_no O _ v ∙ sym rest

    pub update_propagation : propagation_kinds ≤ k → false ≡ U
    unfolding some_of
    update_propagation l = no_lead (ap (some_of (λ j. eqb (key_at t p) j)) (abort_none k old l))

    pub update_same : old ≡ new → false ≡ U
    update_same q = sym (rest ∙ ap (λ (x : Bool). (not x && supported (schema_of s) (held t) (key_at t i) (key_at t p)) && lead is_abort old) (eq-eqb old new q))

    module _ (y : Bool) (l : k < propagation_kinds) (n : old ≡ new → ⊥) (w : y ≡ lead is_reference old) where
      here : y ≡ lead is_abort old
      here = w ∙ ap (some_of (λ j. eqb (key_at t p) j)) (sym (abort_same k old l))

      pub update_not_old : y ≡ false → false ≡ U
      update_not_old v = no_lead (sym here ∙ v)

      pub update_old : (x : Bool) → y ≡ true → x ≡ supported (schema_of s) (held t) (key_at t i) (key_at t p) → x ≡ U
      update_old x v u =
          let w : x ≡ O = rw (ne_eqb old new n) u in
          and_yes O x _ (sym here ∙ v) w ∙ sym rest
