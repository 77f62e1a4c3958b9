-- The join of several lists of records: it goes by which are joined, not by their order or how often.
-- Assumes nothing.
use Prim.Native.Nat.{ℕ}
use mathlib.Core.Path.{◌≡◌, refl, sym, ◌∙◌}
use mathlib.Core.List.{List, [], ◌∷◌, ◌++◌, Memᴰ}
use Rattle.model.specs.Records.{Rec, join, Rising}
use Rattle.model.specs.Demand.{SameEdits}
use Rattle.laws.proofs.Join.{join_rising, join_comm, join_assoc, join_idem}

unfoldable pub total : (ℕ → List Rec) → List ℕ → List Rec
total D [] = []
total D (n ∷ l) = join (total D l) (D n)

pub join_nil : (s : List Rec) → join s [] ≡ s
unfolding join
join_nil s = refl

pub nil_join : (s : List Rec) → Rising 0 s → join [] s ≡ s
nil_join s r = join_comm [] s tt r ∙ join_nil s

module _ (D : ℕ → List Rec) (R : (n : ℕ) → Rising 0 (D n)) where
  pub total_rising : (l : List ℕ) → Rising 0 (total D l)
  unfolding total
  total_rising [] = tt
  total_rising (n ∷ l) = join_rising (total D l) (D n) (total_rising l)

  pub total_append : (l m : List ℕ) → total D (l ++ m) ≡ join (total D l) (total D m)
  unfolding total
  total_append [] m = sym (nil_join _ (total_rising m))
  total_append (n ∷ l) m =
      cc (total_append l m, join_assoc (total D l) (total D m) (D n) (total_rising l), join_comm (total D m) (D n) (total_rising m) (R n), join_assoc (total D l) (D n) (total D m) (total_rising l))

  holds : (n : ℕ) (l : List ℕ) → Memᴰ n l → join (total D l) (D n) ≡ total D l
  unfolding total
  holds n [] x' = elim x' [ ]
  holds n (k ∷ l) (Memᴰ.head e) = rw e (cc (join_assoc (total D l) (D k) (D k) (total_rising l), join_idem (D k) (R k)))
  holds n (k ∷ l) (Memᴰ.tail h) =
      cc (holds n l h, join_assoc (total D l) (D k) (D n) (total_rising l), join_comm (D k) (D n) (R k) (R n), join_assoc (total D l) (D n) (D k) (total_rising l))

  least : (x : List Rec) (l : List ℕ) → Rising 0 x → ((n : ℕ) → Memᴰ n l → join x (D n) ≡ x) → join x (total D l) ≡ x
  unfolding total
  least x [] r h = join_nil x
  least x (n ∷ l) r h =
      cc (join_assoc x (total D l) (D n) r, least x l r (λ k q. h k (Memᴰ.tail q)), h n (Memᴰ.head refl))

  pub total_same : (l m : List ℕ) → SameEdits l m → total D l ≡ total D m
  total_same l m s =
      cc (least (total D l) m (total_rising l) (λ n q. holds n l (s.1 n q)), least (total D m) l (total_rising m) (λ n q. holds n m (s.0 n q)), join_comm (total D l) (total D m) (total_rising l) (total_rising m))
