-- Texts written one after another into a buffer.
-- Assumes nothing.
use Prim.Native.Nat.{ℕ, suc, ◌+◌, ◌≤◌, ◌<◌}
use mathlib.Core.Path.{◌≡◌, refl, sym, ap, ◌∙◌}
use mathlib.Core.Bool.{cond}
use mathlib.Core.List.{List, [], ◌∷◌, ◌++◌}
use native.Mathlib.Omega.{arith}
use native.Mathlib.Numerals.{add-one}
use lib.Dec.{ltb}
use lib.ListN.{length, take, drop, get_or, set, length-set}
use lib.Seq.{sets, sets-eq, take-append_seam, set_out, drop-cons, drop-length}
use borrow.Author.Tests.{lt-ltb, le-ltb}
use Rattle.list_text.specs.Placed.{next_index, end_of, laid, Placed}
use Rattle.list_text.specs.Written.{Written}
use Rattle.list_text.specs.declared.Out.{Out}

pub laid_length : (o : List ℕ) (at : ℕ) (x : List ℕ) → length (laid o at x) ≡ length o
unfolding laid
laid_length o at [] = refl
laid_length o at (c ∷ cs) = laid_length (set o at c) (next_index (length o) at) cs ∙ length-set o at c

end_append : (n at : ℕ) (x y : List ℕ) → end_of n at (x ++ y) ≡ end_of n (end_of n at x) y
unfolding end_of
end_append n at [] y = refl
end_append n at (c ∷ cs) y = end_append n (next_index n at) cs y

laid_append : (o : List ℕ) (at : ℕ) (x y : List ℕ) → laid o at (x ++ y) ≡ laid (laid o at x) (end_of (length o) at x) y
unfolding laid end_of
laid_append o at [] y = refl
laid_append o at (c ∷ cs) y =
    laid_append (set o at c) (next_index (length o) at) cs y
    ∙ ap (λ (n : ℕ). laid (laid (set o at c) (next_index (length o) at) cs) (end_of n (next_index (length o) at) cs) y) (length-set o at c)

-- no text
pub none : (o : List ℕ) (at : ℕ) → Placed o at [] at o
unfolding laid end_of
none o at = record { end = refl; chars = refl }

-- one character
pub one_fits : (o : List ℕ) (at c : ℕ) → at < length o → Placed o at (c ∷ []) (at + 1) (set o at c)
unfolding laid end_of next_index
one_fits o at c h = record { end = rw (lt-ltb at (length o) h); chars = refl }

pub one_out : (o : List ℕ) (at c : ℕ) → length o ≤ at → Placed o at (c ∷ []) at o
unfolding laid end_of next_index
one_out o at c h = record { end = rw (le-ltb at (length o) h); chars = sym (set_out o at c h) }

placed_then : {o o' o'' : List ℕ} {at r r' : ℕ} (x y : List ℕ) → Placed o at x r o' → Placed o' r y r' o'' → Placed o at (x ++ y) r' o''
placed_then {o} {o'} {o''} {at} {r} {r'} x y p q = go p.end p.chars q.end q.chars
  where
    go : r ≡ end_of (length o) at x → o' ≡ laid o at x → r' ≡ end_of (length o') r y → o'' ≡ laid o' r y → Placed o at (x ++ y) r' o''
    go a b c d =
        let l : length o' ≡ length o = ap length b ∙ laid_length o at x in
        record {
          end = c ∙ ap (λ (n : ℕ). end_of n r y) l ∙ ap (λ (k : ℕ). end_of (length o) k y) a ∙ sym (end_append (length o) at x y);
          chars = d ∙ ap (λ (k : ℕ). laid o' k y) a ∙ ap (λ (l : List ℕ). laid l (end_of (length o) at x) y) b ∙ sym (laid_append o at x y);
        }

-- a text and then another
pub then : {a b c : Out} (x y : List ℕ) → Written a b x → Written b c y → Written a c (x ++ y)
then x y p q = record { same = q.same ∙ p.same; text = placed_then x y p.text q.text }

-- the same text by another name
pub as_text : {o o' : List ℕ} {at r : ℕ} {x y : List ℕ} → x ≡ y → Placed o at x r o' → Placed o at y r o'
as_text e p = rw e at p

pub as_written : {a b : Out} {x y : List ℕ} → x ≡ y → Written a b x → Written a b y
as_written e p = rw e at p

-- where there is room, the text stands there whole
end_fits : (n at : ℕ) (x : List ℕ) → at + length x ≤ n → end_of n at x ≡ at + length x
unfolding end_of next_index
end_fits n at [] h = omega arith
end_fits n at (c ∷ cs) h =
    let i : at < n = omega arith in
    let e : cond (ltb at n) (at + 1) at ≡ at + 1 = rw (lt-ltb at n i) in
    ap (λ (k : ℕ). end_of n k cs) e ∙ end_fits n (at + 1) cs (omega arith) ∙ omega arith

laid_sets : (o : List ℕ) (at : ℕ) (x : List ℕ) → at + length x ≤ length o → laid o at x ≡ sets o at x
unfolding laid next_index
laid_sets o at [] h = refl
laid_sets o at (c ∷ cs) h =
    let i : at < length o = omega arith in
    let e : cond (ltb at (length o)) (at + 1) at ≡ suc at = rw (lt-ltb at (length o) i) (add-one at) in
    let l : length (set o at c) ≡ length o = length-set o at c in
    ap (λ (k : ℕ). laid (set o at c) k cs) e ∙ laid_sets (set o at c) (suc at) cs (omega arith)

pub whole : {o o' : List ℕ} {r : ℕ} (x : List ℕ) → Placed o 0 x r o' → length x ≤ length o → (r ≡ length x) × (take r o' ≡ x)
whole {o} {o'} {r} x p h =
    let room : 0 + length x ≤ length o = omega arith in
    let a : r ≡ length x = p.end ∙ end_fits (length o) 0 x room ∙ omega arith in
    let b : o' ≡ x ++ drop (0 + length x) o = p.chars ∙ laid_sets o 0 x room ∙ sets-eq x o 0 room in
    (a, ap (λ (k : ℕ). take k o') a ∙ ap (λ (l : List ℕ). take (length x) l) b ∙ take-append_seam x (drop (0 + length x) o))

-- A loop's turns: what is still to be written, from the buffer as it is, gives what the whole text gives from the buffer as it was.
pub record Leads (a : Out) (x : List ℕ) (b : Out) (rest : List ℕ) : Type 0 where
  pub same : b.bytes.ghost_name ≡ a.bytes.ghost_name
  pub size : length b.bytes.now ≡ length a.bytes.now
  pub end : end_of (length a.bytes.now) b.at rest ≡ end_of (length a.bytes.now) a.at x
  pub chars : laid b.bytes.now b.at rest ≡ laid a.bytes.now a.at x

pub leads_start : (a : Out) (x : List ℕ) → Leads a x a x
leads_start a x = record { same = refl; size = refl; end = refl; chars = refl }

pub leads_on_lem : {a b c : Out} {x : List ℕ} (y rest : List ℕ) → Leads a x b (y ++ rest) → Written b c y → Leads a x c rest
leads_on_lem {a} {b} {c} {x} y rest l w =
    let p = w.text in
    let n : length c.bytes.now ≡ length a.bytes.now = ap length p.chars ∙ laid_length b.bytes.now b.at y ∙ l.size in
    let e : c.at ≡ end_of (length a.bytes.now) b.at y = p.end ∙ ap (λ (k : ℕ). end_of k b.at y) l.size in
    record {
      same = w.same ∙ l.same;
      size = n;
      end = ap (λ (k : ℕ). end_of (length a.bytes.now) k rest) e ∙ sym (end_append (length a.bytes.now) b.at y rest) ∙ l.end;
      chars =
          ap (λ (k : ℕ). laid c.bytes.now k rest) p.end ∙ ap (λ (q : List ℕ). laid q (end_of (length b.bytes.now) b.at y) rest) p.chars
          ∙ sym (laid_append b.bytes.now b.at y rest) ∙ l.chars;
    }

pub leads_end : {a b : Out} {x : List ℕ} → Leads a x b [] → Written a b x
unfolding end_of laid
leads_end l = record { same = l.same; text = record { end = l.end; chars = l.chars } }

pub leads_as : {a b : Out} {x rest rest' : List ℕ} → rest ≡ rest' → Leads a x b rest → Leads a x b rest'
leads_as e l = rw e at l

-- the characters of a text, one by one
pub copy_on : {a b c : Out} {x : List ℕ} (text : List ℕ) (i : ℕ) → i < length text → Leads a x b (drop i text) → Written b c (get_or text i 0 ∷ [])
    → Leads a x c (drop (i + 1) text)
copy_on text i h l p =
    leads_on_lem (get_or text i 0 ∷ []) (drop (i + 1) text)
    (leads_as (drop-cons text i 0 h ∙ ap (λ (k : ℕ). get_or text i 0 ∷ drop k text) (sym (add-one i))) l) p

pub copy_end : {a b : Out} {x : List ℕ} (text : List ℕ) (i : ℕ) → i ≤ length text → length text ≤ i → Leads a x b (drop i text) → Written a b x
copy_end text i h g l =
    let e : i ≡ length text = omega arith in
    leads_end (leads_as (ap (λ (k : ℕ). drop k text) e ∙ drop-length text) l)
