-- The four steps are what document 01 says of them: the least set, the largest set, and what step 3 keeps.
-- Assumes nothing.
use Prim.Native.Nat.{ℕ, zero, suc, ◌≤◌, ◌<◌, ◌-◌, ◌/◌, ◌%◌}
use mathlib.Core.Path.{◌≡◌, refl, sym, ap}
use mathlib.Core.Bool.{Bool, true, false, ◌&&◌, ◌||◌, not}
use mathlib.Core.List.Memᴰ
use mathlib.Core.List.{List, [], ◌∷◌, ◌++◌}
use mathlib.Core.Logic.{◌⊎◌, inl, inr, ◌↔◌}
use native.Mathlib.Omega.{arith}
use lib.Dec.{eqb}
use lib.ListN.{length}
use borrow.Author.Tests.{eqb-true, eqb-false, eq-eqb}
use Rattle.crdt.specs.Cells.{Reg, Cell}
use Rattle.crdt.proofs.Tests.{test, clash, or_cases, or_left, or_right, or_false, or_none, and_left, and_right, and_both}
use Rattle.model.specs.Lists.{only, some_of, all_of, times}
use Rattle.model.specs.Schemas.{Relation, is_reference, is_abort, relation_numbered}
use Rattle.model.specs.Records.{Rec, relation, has, Rising}
use Rattle.model.specs.Shown.{described, value, rest, complete, targets, references, equal_on, conflict_on, conflict, live, reached, hop, standing, beaten, kept_after, kept, grounded, settled, shown}
use Rattle.laws.proofs.Join.{only_rising}
use Rattle.laws.proofs.Lists.{◌∈◌, only_in, in_only, some_in, in_some, all_in, in_all, only_more, only_length, only_less, rests, times_keeps}

pub has_in : (s : List Rec) (k : ℕ) → has s k ≡ true → (x : Rec) × (x ∈ s) × (x.key ≡ k)
unfolding has
has_in s k h = let r = some_in _ s h in (r.0, r.1, sym (eqb-true _ _ r.2))

pub in_has : (s : List Rec) (x : Rec) (k : ℕ) → x ∈ s → x.key ≡ k → has s k ≡ true
unfolding has
in_has s x k h e = in_some _ x s h (eq-eqb _ _ (sym e))

pub listed : (k : ℕ) (l : List ℕ) → some_of (λ j. eqb k j) l ≡ true → k ∈ l
listed k l h = let r = some_in _ l h in Memᴰ.cast (eqb-true k r.0 r.2) r.1

module _ (σ : List Relation) where
  -- step 4
  abbrev pub Closed : List Rec → Type 0
  Closed s = (x : Rec) → x ∈ s → (k : ℕ) → k ∈ targets σ is_reference x → (y : Rec) × (y ∈ s) × (y.key ≡ k)

  Any : List Rec → Type 0
  Any s = Unit {0}

  falls : (s : List Rec) → Any s → (grounded σ s ≡ s) ⊎ (length (grounded σ s) < length s)
  unfolding grounded
  falls s i = only_less _ s

  at_rest : (s : List Rec) → grounded σ (settled σ s) ≡ settled σ s
  unfolding settled Any
  at_rest s = rests (grounded σ) length Any (λ a i. tt) falls (length s) s tt (omega arith)

  rest_closed : (s : List Rec) → grounded σ s ≡ s → Closed s
  unfolding grounded
  rest_closed s e x h k t = let r : x ∈ grounded σ s = rw e h in has_in s k (all_in (has s) k _ (only_in _ x s r).1 t)

  pub settled_closed : (s : List Rec) → Closed (settled σ s)
  settled_closed s = rest_closed (settled σ s) (at_rest s)

  part : (n : ℕ) (s : List Rec) (x : Rec) → x ∈ times n (grounded σ) s → x ∈ s
  unfolding times grounded
  part zero s x h = h
  part (suc n) s x h = (only_in _ x s (part n (grounded σ s) x h)).0

  pub settled_part : (s : List Rec) (x : Rec) → x ∈ settled σ s → x ∈ s
  unfolding settled
  settled_part s = part (length s) s

  -- any part of s in which each reference leads to a member lies in it
  module _ (P : Rec → Type 0) (closed : (x : Rec) → P x → (k : ℕ) → k ∈ targets σ is_reference x → (y : Rec) × P y × (y.key ≡ k)) where
    remains : (n : ℕ) (s : List Rec) → ((x : Rec) → P x → x ∈ s) → (x : Rec) → P x → x ∈ times n (grounded σ) s
    unfolding times grounded
    remains zero s h x p = h x p
    remains (suc n) s h x p =
        remains n (grounded σ s)
        (λ z q. in_only _ z s (h z q) (in_all (has s) _ (λ k t. let r = closed z q k t in in_has s r.0 k (h r.0 r.1) r.2))) x p

    pub settled_largest : (s : List Rec) → ((x : Rec) → P x → x ∈ s) → (x : Rec) → P x → x ∈ settled σ s
    unfolding settled
    settled_largest s = remains (length s) s

  -- step 2
  module _ (c : List Rec) where
    -- what a hop starts from: complete records of c
    Part : List Rec → Type 0
    Part s = (p : Rec → Bool) × (s ≡ only p c) × ((x : Rec) → p x ≡ true → complete σ x ≡ true)

    near : List Rec → Rec → Bool
    near s x = complete σ x && (has s x.key || reached σ s x)

    hop_part : (s : List Rec) → Part s → Part (hop σ c s)
    unfolding hop Part near
    hop_part s i = (near s, refl, λ x h. and_left (complete σ x) _ h)

    live_part : Part (only (live σ) c)
    unfolding Part live
    live_part = (live σ, refl, λ x h. and_left (complete σ x) _ h)

    stays_near : (s : List Rec) → Part s → (x : Rec) → x ∈ s → near s x ≡ true
    unfolding Part near
    stays_near s i x h =
        let h' : x ∈ only i.0 c = rw i.1 at h in
        and_both _ _ (i.2 x (only_in i.0 x c h').1) (or_left _ _ (in_has s x x.key h refl))

    rises : (s : List Rec) → Part s → (hop σ c s ≡ s) ⊎ (length c - length (hop σ c s) < length c - length s)
    unfolding hop near Part
    rises s i = go (only_more i.0 (near s) c (λ x h e. stays_near s i x (rw i.1 (in_only i.0 x c h e))))
      where
        go : (only i.0 c ≡ only (near s) c) ⊎ (length (only i.0 c) < length (only (near s) c)) → (only (near s) c ≡ s) ⊎ (length c - length (only (near s) c) < length c - length s)
        go (inl e) = inl (cc (e, i.1))
        go (inr l) = inr (omega (arith, only_length (near s) c, ap length i.1))

    standing_rest : hop σ c (standing σ c) ≡ standing σ c
    unfolding standing
    standing_rest = rests (hop σ c) (λ s. length c - length s) Part hop_part rises (length c) (only (live σ) c) live_part (omega arith)

    standing_part : Part (standing σ c)
    unfolding standing
    standing_part = times_keeps (hop σ c) (λ s. length c - length s) Part hop_part rises (length c) (only (live σ) c) live_part

    pub standing_in : (x : Rec) → x ∈ standing σ c → (x ∈ c) × (complete σ x ≡ true)
    unfolding Part
    standing_in x h =
        let i = standing_part in
        let r = only_in i.0 x c (rw i.1 at h) in
        (r.0, i.2 x r.1)

    grows : (n : ℕ) (s : List Rec) → Part s → (x : Rec) → x ∈ c → x ∈ s → x ∈ times n (hop σ c) s
    unfolding times hop near
    grows zero s i x k h = h
    grows (suc n) s i x k h = grows n (hop σ c s) (hop_part s i) x k (in_only (near s) x c k (stays_near s i x h))

    pub standing_live : (x : Rec) → x ∈ c → live σ x ≡ true → x ∈ standing σ c
    unfolding standing
    standing_live x h l = grows (length c) _ live_part x h (in_only (live σ) x c h l)

    -- each hop lands on a complete record
    pub standing_closed : (y x : Rec) → y ∈ standing σ c → x ∈ c → complete σ x ≡ true → x.key ∈ targets σ is_abort y → x ∈ standing σ c
    unfolding hop reached references
    standing_closed y x hy hx e t =
        let r : reached σ (standing σ c) x ≡ true = in_some _ y (standing σ c) hy (in_some _ x.key _ t (eq-eqb x.key x.key refl)) in
        let m : x ∈ hop σ c (standing σ c) = in_only _ x c hx (and_both _ _ e (or_right (has (standing σ c) x.key) _ r)) in
        rw standing_rest at m

    -- and it is the least such set of places
    module _ (P : ℕ → Type 0) (starts : (x : Rec) → x ∈ c → live σ x ≡ true → P x.key)
        (hops : (y x : Rec) → y ∈ c → P y.key → x ∈ c → complete σ x ≡ true → x.key ∈ targets σ is_abort y → P x.key) where
      hop_least : (s : List Rec) → ((y : Rec) → y ∈ s → (y ∈ c) × P y.key) → (x : Rec) → x ∈ hop σ c s → (x ∈ c) × P x.key
      unfolding hop reached references
      hop_least s h x m =
          let r = only_in _ x c m in
          (r.0, go r.0 (and_left (complete σ x) _ r.1) (or_cases _ _ (and_right (complete σ x) _ r.1)))
        where
          go : x ∈ c → complete σ x ≡ true → (has s x.key ≡ true) ⊎ (reached σ s x ≡ true) → P x.key
          go k e (inl q) = let w = has_in s x.key q in rw w.2 at (h w.0 w.1).1
          go k e (inr q) =
              let w = some_in _ s q in
              hops w.0 x (h w.0 w.1).0 (h w.0 w.1).1 k e (listed x.key _ w.2)

      times_least : (n : ℕ) (s : List Rec) → ((y : Rec) → y ∈ s → (y ∈ c) × P y.key) → (x : Rec) → x ∈ times n (hop σ c) s → (x ∈ c) × P x.key
      unfolding times
      times_least zero s h x m = h x m
      times_least (suc n) s h x m = times_least n (hop σ c s) (hop_least s h) x m

      pub standing_least : (x : Rec) → x ∈ standing σ c → P x.key
      unfolding standing
      standing_least x m = (times_least (length c) _ (λ y k. let r = only_in (live σ) y c k in (r.0, starts y r.0 r.1)) x m).1

  hops_rising : (c : List Rec) → Rising 0 c → (n : ℕ) (s : List Rec) → Rising 0 s → Rising 0 (times n (hop σ c) s)
  unfolding times hop
  hops_rising c r zero s h = h
  hops_rising c r (suc n) s h = hops_rising c r n (hop σ c s) (only_rising _ 0 c r)

  pub standing_rising : (c : List Rec) → Rising 0 c → Rising 0 (standing σ c)
  unfolding standing
  standing_rising c r = hops_rising c r (length c) (only (live σ) c) (only_rising (live σ) 0 c r)

  -- step 3: what is kept of z ∷ zs after k
  after_cases : (k : List Rec) (z : Rec) (zs : List Rec) (x : Rec) → x ∈ kept_after σ k (z ∷ zs)
      → ((beaten σ k z ≡ true) × (x ∈ kept_after σ k zs)) ⊎ ((beaten σ k z ≡ false) × (x ∈ (z ∷ kept_after σ (z ∷ k) zs)))
  unfolding kept_after
  after_cases k z zs x h = go (test (beaten σ k z))
    where
      go : (beaten σ k z ≡ true) ⊎ (beaten σ k z ≡ false) → ((beaten σ k z ≡ true) × (x ∈ kept_after σ k zs)) ⊎ ((beaten σ k z ≡ false) × (x ∈ (z ∷ kept_after σ (z ∷ k) zs)))
      go (inl e) = inl (e, rw e at h)
      go (inr e) = inr (e, rw e at h)

  after_past : (k : List Rec) (z : Rec) (zs : List Rec) (x : Rec) → beaten σ k z ≡ true → x ∈ kept_after σ k zs → x ∈ kept_after σ k (z ∷ zs)
  unfolding kept_after
  after_past k z zs x e m = rw e m

  after_kept : (k : List Rec) (z : Rec) (zs : List Rec) (x : Rec) → beaten σ k z ≡ false → x ∈ (z ∷ kept_after σ (z ∷ k) zs) → x ∈ kept_after σ k (z ∷ zs)
  unfolding kept_after
  after_kept k z zs x e m = rw e m

  -- it is one of them, and conflicts with none of k
  after_in : (k s : List Rec) (x : Rec) → x ∈ kept_after σ k s → (x ∈ s) × (beaten σ k x ≡ false)
  unfolding kept_after beaten some_of
  after_in k [] x h = elim h [ ]
  after_in k (z ∷ zs) x h = go (after_cases k z zs x h) (λ (m : x ∈ kept_after σ k zs). after_in k zs x m) (λ (m : x ∈ kept_after σ (z ∷ k) zs). after_in (z ∷ k) zs x m)
    where
      first : beaten σ k z ≡ false → x ∈ (z ∷ kept_after σ (z ∷ k) zs) → (x ∈ kept_after σ (z ∷ k) zs → (x ∈ zs) × (beaten σ (z ∷ k) x ≡ false)) → (x ∈ z ∷ zs) × (beaten σ k x ≡ false)
      first e (Memᴰ.head q) i = (Memᴰ.head q, rw q e)
      first e (Memᴰ.tail m) i = let r = i m in (Memᴰ.tail r.0, (or_false (conflict σ z x) _ r.1).1)

      go : ((beaten σ k z ≡ true) × (x ∈ kept_after σ k zs)) ⊎ ((beaten σ k z ≡ false) × (x ∈ (z ∷ kept_after σ (z ∷ k) zs)))
          → (x ∈ kept_after σ k zs → (x ∈ zs) × (beaten σ k x ≡ false)) → (x ∈ kept_after σ (z ∷ k) zs → (x ∈ zs) × (beaten σ (z ∷ k) x ≡ false)) → (x ∈ z ∷ zs) × (beaten σ k x ≡ false)
      go (inl (e, m)) d i = let r = d m in (Memᴰ.tail r.0, r.1)
      go (inr (e, m)) d i = first e m i

  pub kept_in : (s : List Rec) (x : Rec) → x ∈ kept σ s → x ∈ s
  unfolding kept
  kept_in s x h = (after_in [] s x h).0

  -- the shown list
  value_ref : (k v w : ℕ) → (eqb v w && not (is_reference k && eqb v 0)) ≡ (eqb w v && not (is_reference k && eqb w 0))
  value_ref k v w = go (test (eqb v w)) (test (eqb w v))
    where
      go : (eqb v w ≡ true) ⊎ (eqb v w ≡ false) → (eqb w v ≡ true) ⊎ (eqb w v ≡ false) → (eqb v w && not (is_reference k && eqb v 0)) ≡ (eqb w v && not (is_reference k && eqb w 0))
      go (inl p) q = rw (eqb-true v w p)
      go (inr p) (inl q) = rw (eqb-true w v q)
      go (inr p) (inr q) = rw (p, q)

  equal_sym : (m : ℕ) (ks : List ℕ) (xs ys : List Reg) → equal_on m ks xs ys ≡ equal_on m ks ys xs
  unfolding equal_on
  equal_sym m [] xs ys = refl
  equal_sym m (k ∷ ks) xs ys = cc (value_ref k (value xs) (value ys), equal_sym (m / 2) ks (rest xs) (rest ys))

  described_same : (x y : Rec) → relation x ≡ relation y → described σ x ≡ described σ y
  unfolding described
  described_same x y e = rw e

  on_sym : (m : ℕ) (x y : Rec) → described σ x ≡ described σ y → conflict_on σ m x y ≡ conflict_on σ m y x
  unfolding conflict_on
  on_sym m x y d = cc (equal_sym m (described σ x).kinds x.cell.regs y.cell.regs)

  conflict_sym : (x y : Rec) → conflict σ x y ≡ true → conflict σ y x ≡ true
  unfolding conflict
  conflict_sym x y h =
      let e : relation x ≡ relation y = eqb-true _ _ (and_left _ _ h) in
      let d = described_same x y e in
      let r = and_right (eqb (relation x) (relation y)) _ h in
      and_both _ _ (eq-eqb _ _ (sym e)) (cc (r, on_sym (described σ x).key1 x y d, on_sym (described σ x).key2 x y d))

  -- no two that step 3 keeps conflict
  after_first : (k zs : List Rec) (z y : Rec) → y ∈ kept_after σ (z ∷ k) zs → conflict σ z y ≡ false
  unfolding beaten some_of
  after_first k zs z y m = (or_false (conflict σ z y) _ (after_in (z ∷ k) zs y m).1).0

  after_apart : (k s : List Rec) (x y : Rec) → x ∈ kept_after σ k s → y ∈ kept_after σ k s → conflict σ x y ≡ true → x.key ≡ y.key
  unfolding kept_after
  after_apart k [] x y hx hy h = elim hx [ ]
  after_apart k (z ∷ zs) x y hx hy h =
      go (after_cases k z zs x hx) (after_cases k z zs y hy) (λ (m : x ∈ kept_after σ k zs) (n : y ∈ kept_after σ k zs). after_apart k zs x y m n h)
      (λ (m : x ∈ kept_after σ (z ∷ k) zs) (n : y ∈ kept_after σ (z ∷ k) zs). after_apart (z ∷ k) zs x y m n h)
    where
      first : x ∈ (z ∷ kept_after σ (z ∷ k) zs) → y ∈ (z ∷ kept_after σ (z ∷ k) zs) → (x ∈ kept_after σ (z ∷ k) zs → y ∈ kept_after σ (z ∷ k) zs → x.key ≡ y.key) → x.key ≡ y.key
      first (Memᴰ.head p) (Memᴰ.head q) i = cc (p, q)
      first (Memᴰ.head p) (Memᴰ.tail n) i = let h' : conflict σ z y ≡ true = rw p at h in clash h' (after_first k zs z y n)
      first (Memᴰ.tail m) (Memᴰ.head q) i = let h' : conflict σ z x ≡ true = rw q at (conflict_sym x y h) in clash h' (after_first k zs z x m)
      first (Memᴰ.tail m) (Memᴰ.tail n) i = i m n

      go : ((beaten σ k z ≡ true) × (x ∈ kept_after σ k zs)) ⊎ ((beaten σ k z ≡ false) × (x ∈ (z ∷ kept_after σ (z ∷ k) zs)))
          → ((beaten σ k z ≡ true) × (y ∈ kept_after σ k zs)) ⊎ ((beaten σ k z ≡ false) × (y ∈ (z ∷ kept_after σ (z ∷ k) zs)))
          → (x ∈ kept_after σ k zs → y ∈ kept_after σ k zs → x.key ≡ y.key) → (x ∈ kept_after σ (z ∷ k) zs → y ∈ kept_after σ (z ∷ k) zs → x.key ≡ y.key) → x.key ≡ y.key
      go (inl (e, m)) (inl (f, n)) d i = d m n
      go (inl (e, m)) (inr (f, n)) d i = clash e f
      go (inr (e, m)) (inl (f, n)) d i = clash f e
      go (inr (e, m)) (inr (f, n)) d i = first m n i

  pub kept_apart : (s : List Rec) (x y : Rec) → x ∈ kept σ s → y ∈ kept σ s → conflict σ x y ≡ true → x.key ≡ y.key
  unfolding kept
  kept_apart s x y wx wy h = after_apart [] s x y wx wy h

  -- a record with a larger key than all drops nobody
  after_more : (k s t : List Rec) (x : Rec) → x ∈ kept_after σ k s → x ∈ kept_after σ k (s ++ t)
  unfolding kept_after
  after_more k [] t x h = elim h [ ]
  after_more k (z ∷ zs) t x h =
      go (after_cases k z zs x h) (λ (m : x ∈ kept_after σ k zs). after_more k zs t x m) (λ (m : x ∈ kept_after σ (z ∷ k) zs). after_more (z ∷ k) zs t x m)
    where
      first : x ∈ (z ∷ kept_after σ (z ∷ k) zs) → (x ∈ kept_after σ (z ∷ k) zs → x ∈ kept_after σ (z ∷ k) (zs ++ t)) → x ∈ (z ∷ kept_after σ (z ∷ k) (zs ++ t))
      first (Memᴰ.head p) i = Memᴰ.head p
      first (Memᴰ.tail m) i = Memᴰ.tail (i m)

      go : ((beaten σ k z ≡ true) × (x ∈ kept_after σ k zs)) ⊎ ((beaten σ k z ≡ false) × (x ∈ (z ∷ kept_after σ (z ∷ k) zs)))
          → (x ∈ kept_after σ k zs → x ∈ kept_after σ k (zs ++ t)) → (x ∈ kept_after σ (z ∷ k) zs → x ∈ kept_after σ (z ∷ k) (zs ++ t)) → x ∈ kept_after σ k (z ∷ (zs ++ t))
      go (inl (e, m)) d i = after_past k z (zs ++ t) x e (d m)
      go (inr (e, m)) d i = after_kept k z (zs ++ t) x e (first m i)

  pub largest_drops_none : (s : List Rec) (e : Rec) → ((y : Rec) → y ∈ s → y.key < e.key) → (x : Rec) → x ∈ kept σ s → x ∈ kept σ (s ++ (e ∷ []))
  unfolding kept
  largest_drops_none s e above x m = after_more [] s (e ∷ []) x m

  -- what conflicts with no older one that is kept, is kept
  rising_above : (b : ℕ) (s : List Rec) (x : Rec) → Rising b s → x ∈ s → b ≤ x.key
  rising_above b [] x r x4 = elim x4 [ ]
  rising_above b (y ∷ ys) x r (Memᴰ.head q) = omega (arith, r.0, ap (λ (z : Rec). z.key) q)
  rising_above b (y ∷ ys) x r (Memᴰ.tail m) = omega (arith, r.0, rising_above (suc y.key) ys x r.1 m)

  abbrev Free : List Rec → Rec → Type 0
  Free l x = (y : Rec) → y ∈ l → y.key < x.key → conflict σ y x ≡ false

  after_all : (b : ℕ) (k s : List Rec) (x : Rec) → Rising b s → x ∈ s → beaten σ k x ≡ false → Free (kept_after σ k s) x → x ∈ kept_after σ k s
  unfolding beaten some_of
  after_all b k [] x r m e f = elim m [ ]
  after_all b k (z ∷ zs) x r m e f =
      go (test (beaten σ k z)) m (λ (n : x ∈ zs) (g : Free (kept_after σ k zs) x). after_all (suc z.key) k zs x r.1 n e g)
      (λ (n : x ∈ zs) (e' : beaten σ (z ∷ k) x ≡ false) (g : Free (kept_after σ (z ∷ k) zs) x). after_all (suc z.key) (z ∷ k) zs x r.1 n e' g)
    where
      go : (beaten σ k z ≡ true) ⊎ (beaten σ k z ≡ false) → x ∈ z ∷ zs → (x ∈ zs → Free (kept_after σ k zs) x → x ∈ kept_after σ k zs)
          → (x ∈ zs → beaten σ (z ∷ k) x ≡ false → Free (kept_after σ (z ∷ k) zs) x → x ∈ kept_after σ (z ∷ k) zs) → x ∈ kept_after σ k (z ∷ zs)
      go (inl q) (Memᴰ.head p) d i = let q' : beaten σ k x ≡ true = rw p q in clash q' e
      go (inl q) (Memᴰ.tail n) d i = after_past k z zs x q (d n (λ y o. f y (after_past k z zs y q o)))
      go (inr q) (Memᴰ.head p) d i = after_kept k z zs x q (Memᴰ.head p)
      go (inr q) (Memᴰ.tail n) d i =
          let l = rising_above (suc z.key) zs x r.1 n in
          let c = f z (after_kept k z zs z q (Memᴰ.head refl)) l in
          after_kept k z zs x q (Memᴰ.tail (i n (or_none (conflict σ z x) _ c e) (λ y o. f y (after_kept k z zs y q (Memᴰ.tail o)))))

  -- step 3 "drops a record exactly if it conflicts with an older one that step 3 kept"
  pub kept_exactly : (s : List Rec) (r : Rising 0 s) (x : Rec) → x ∈ s → (x ∈ kept σ s) ↔ ((y : Rec) → y ∈ kept σ s → y.key < x.key → conflict σ y x ≡ false)
  unfolding kept beaten some_of
  kept_exactly s r x m = (λ h y k l. apart h y k l (test (conflict σ y x)), λ f. after_all 0 [] s x r m refl f)
    where
      apart : x ∈ kept_after σ [] s → (y : Rec) → y ∈ kept_after σ [] s → y.key < x.key → (conflict σ y x ≡ true) ⊎ (conflict σ y x ≡ false) → conflict σ y x ≡ false
      apart h y k l (inl e) = absurd (omega (arith, kept_apart s y x k h e))
      apart h y k l (inr e) = e

  -- and no other choice does so
  module _ (s : List Rec) (r : Rising 0 s) (K : Rec → Type 0) (exact : (x : Rec) → x ∈ s → K x ↔ ((y : Rec) → y ∈ s → K y → y.key < x.key → conflict σ y x ≡ false)) where
    same_below : (n : ℕ) (x : Rec) → x ∈ s → x.key < n → K x ↔ (x ∈ kept σ s)
    same_below zero x m l = absurd (omega arith)
    same_below (suc n) x m l = (
      λ h. (kept_exactly s r x m).1 (λ y k o. (exact x m).0 h y (kept_in s y k) ((same_below n y (kept_in s y k) (omega arith)).1 k) o),
      λ h. (exact x m).1 (λ y i k o. (kept_exactly s r x m).0 h y ((same_below n y i (omega arith)).0 k) o),
    )

    pub kept_only : (x : Rec) → x ∈ s → K x ↔ (x ∈ kept σ s)
    kept_only x m = same_below (suc x.key) x m (omega arith)

  -- no key that is free of empty references occurs twice
  pub shown_keys : (c : List Rec) (x y : Rec) → x ∈ shown σ c → y ∈ shown σ c → conflict σ x y ≡ true → x.key ≡ y.key
  unfolding shown
  shown_keys c x y hx hy h =
      let s = kept σ (standing σ c) in
      kept_apart (standing σ c) x y (settled_part s x hx) (settled_part s y hy) h

  -- each nonempty reference leads to a shown record
  pub shown_references : (c : List Rec) → Closed (shown σ c)
  unfolding shown
  shown_references c = settled_closed (kept σ (standing σ c))
