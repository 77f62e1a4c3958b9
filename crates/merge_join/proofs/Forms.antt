-- The steps of joining a record in the forms in which the code asks for them.
-- Assumes nothing.
use Prim.Native.Nat.{ℕ, ◌+◌, ◌-◌, ◌≤◌, max}
use mathlib.Core.Path.{◌≡◌, refl, sym, ◌∙◌, ap}
use mathlib.Core.Bool.{Bool, false, ◌||◌, not}
use mathlib.Core.List.{List}
use native.Mathlib.Omega.{arith}
use native.Mathlib.Numerals.{add-one}
use lib.Dec.{eqb}
use lib.ListN.{set}
use lib.Seq.{set-get_or}
use Rattle.crdt.specs.Flags.{largest_flag}
use Rattle.crdt.specs.Cells.{Reg, reg, join_reg, reg_changed}
use Rattle.model.specs.Layout.{fields, head_words, word, base, flag_at, value_at, stamp_at}
use Rattle.laws.proofs.Changes.{reg_same}
use Rattle.merge_laws.specs.Absorb.{field_joined, fields_joined, flag_joined, record_joined, field_changed, fields_changed, flag_changed, record_changed}

-- a register, the registers, the flag
pub field_is : (t t₁ t₂ b : List ℕ) (i j f v s v' s' gv gs at : ℕ) → v ≡ value_at t i f → s ≡ stamp_at t i f → v' ≡ value_at b j f → s' ≡ stamp_at b j f
    → reg gv gs ≡ join_reg (reg v s) (reg v' s') → at ≡ base i → t₁ ≡ set t (at + (head_words - 1) + f) gv → t₂ ≡ set t₁ (at + (head_words - 1) + fields + f) gs
    → t₂ ≡ field_joined t i b j f
unfolding field_joined
field_is t t₁ t₂ b i j f v s v' s' gv gs at e₁ e₂ e₃ e₄ g h d₁ d₂ =
    let x : reg gv gs ≡ join_reg (reg (value_at t i f) (stamp_at t i f)) (reg (value_at b j f) (stamp_at b j f)) = rw (← e₁, ← e₂, ← e₃, ← e₄) g in
    rw (d₂, d₁, h) (ap (λ (q : Reg). set (set t (base i + (head_words - 1) + f) q.value) (base i + (head_words - 1) + fields + f) q.stamp) x)

-- an unchanged register: there is nothing to store
stored : (t : List ℕ) (k x : ℕ) → x ≡ word t k → t ≡ set t k x
unfolding word
stored t k x e = rw e (sym (set-get_or t k 0))

pub field_stays : (t b : List ℕ) (i j f v s v' s' gv gs : ℕ) (x : Bool) → v ≡ value_at t i f → s ≡ stamp_at t i f → v' ≡ value_at b j f → s' ≡ stamp_at b j f
    → reg gv gs ≡ join_reg (reg v s) (reg v' s') → x ≡ reg_changed (reg v s) (reg gv gs) → x ≡ false → t ≡ field_joined t i b j f
unfolding value_at stamp_at
field_stays t b i j f v s v' s' gv gs x e₁ e₂ e₃ e₄ g h n =
    let r : reg gv gs ≡ reg v s = sym (reg_same (reg v s) (reg gv gs) (sym h ∙ n)) in
    field_is t t t b i j f v s v' s' gv gs (base i) e₁ e₂ e₃ e₄ g refl
    (stored t (base i + (head_words - 1) + f) gv (ap (λ (q : Reg). q.value) r ∙ e₁))
    (stored t (base i + (head_words - 1) + fields + f) gs (ap (λ (q : Reg). q.stamp) r ∙ e₂))

pub fields_more : (t₀ t t' b : List ℕ) (i j n : ℕ) → t ≡ fields_joined n t₀ i b j → t' ≡ field_joined t i b j (n + 1) → t' ≡ fields_joined (n + 1) t₀ i b j
fields_more t₀ t t' b i j n e d = d ∙ rw (add-one n) (rw e (unfold fields_joined in refl))

pub fields_all : (t₀ t b : List ℕ) (i j n : ℕ) → n ≤ fields → fields ≤ n → t ≡ fields_joined n t₀ i b j → t ≡ fields_joined fields t₀ i b j
fields_all t₀ t b i j n h p e = let q : n ≡ fields = omega arith in rw q at e

pub flag_is : (t t' b : List ℕ) (i j x y f at : ℕ) → x ≡ flag_at t i → y ≡ flag_at b j → flag_at t i ≤ largest_flag → flag_at b j ≤ largest_flag
    → (x ≤ largest_flag → y ≤ largest_flag → f ≡ max x y) → at ≡ base i → t' ≡ set t (at + 3) f → t' ≡ flag_joined t i b j
unfolding flag_joined
flag_is t t' b i j x y f at a c m n g h e = e ∙ rw (h, g (omega arith) (omega arith), a, c)

-- an unchanged flag: there is nothing to store
pub flag_stays : (t b : List ℕ) (i j x y : ℕ) → x ≡ flag_at t i → y ≡ flag_at b j → flag_at t i ≤ largest_flag → flag_at b j ≤ largest_flag
    → (x ≤ largest_flag → y ≤ largest_flag → x ≡ max x y) → t ≡ flag_joined t i b j
unfolding flag_at
flag_stays t b i j x y a c m n g = flag_is t t b i j x y x (base i) a c m n g refl (stored t (base i + 3) x a)

pub join_is : (t t₁ t₂ b : List ℕ) (i j : ℕ) → t₁ ≡ flag_joined t i b j → t₂ ≡ fields_joined fields t₁ i b j → t₂ ≡ record_joined t i b j
unfolding record_joined
join_is t t₁ t₂ b i j e d = d ∙ rw e

pub fields_none : (t b : List ℕ) (i j : ℕ) → t ≡ fields_joined 0 t i b j
unfolding fields_joined
fields_none t b i j = refl

-- whether they changed
pub field_changed_lem : (t b : List ℕ) (i j f v s v' s' gv gs : ℕ) (x : Bool) → v ≡ value_at t i f → s ≡ stamp_at t i f → v' ≡ value_at b j f → s' ≡ stamp_at b j f
    → reg gv gs ≡ join_reg (reg v s) (reg v' s') → x ≡ reg_changed (reg v s) (reg gv gs) → x ≡ field_changed t i b j f
unfolding field_changed
field_changed_lem t b i j f v s v' s' gv gs x e₁ e₂ e₃ e₄ g h = h ∙ ap (λ (q : Reg). reg_changed (reg v s) q) g ∙ rw (e₁, e₂, e₃, e₄) refl

pub changed_none : (t b : List ℕ) (i j : ℕ) → false ≡ fields_changed 0 t i b j
unfolding fields_changed
changed_none t b i j = refl

pub changed_more : (t₀ t b : List ℕ) (i j n : ℕ) (x y : Bool) → t ≡ fields_joined n t₀ i b j → x ≡ fields_changed n t₀ i b j → y ≡ field_changed t i b j (n + 1) → (x || y) ≡ fields_changed (n + 1) t₀ i b j
changed_more t₀ t b i j n x y e d f = rw (add-one n, d, f, e) (unfold fields_changed in rw (add-one n) refl)

pub changed_all : (t b : List ℕ) (i j n : ℕ) (x : Bool) → n ≤ fields → fields ≤ n → x ≡ fields_changed n t i b j → x ≡ fields_changed fields t i b j
changed_all t b i j n x h p e = let q : n ≡ fields = omega arith in rw q at e

pub flag_changed_lem : (t b : List ℕ) (i j x y f : ℕ) (z : Bool) → x ≡ flag_at t i → y ≡ flag_at b j → flag_at t i ≤ largest_flag → flag_at b j ≤ largest_flag
    → (x ≤ largest_flag → y ≤ largest_flag → f ≡ max x y) → z ≡ not (eqb x f) → z ≡ flag_changed t i b j
unfolding flag_changed
flag_changed_lem t b i j x y f z a c m n g h = h ∙ rw (g (omega arith) (omega arith), a, c) refl

pub join_changed : (t t₁ b : List ℕ) (i j : ℕ) (x y : Bool) → t₁ ≡ flag_joined t i b j → x ≡ flag_changed t i b j → y ≡ fields_changed fields t₁ i b j → (x || y) ≡ record_changed t i b j
unfolding record_changed
join_changed t t₁ b i j x y e d f = rw (d, f, e) refl
