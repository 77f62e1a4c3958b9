-- What was read into the buffer has the text of all that the reader had.
-- Assumes nothing.
use Rattle.std.proofs.Common.{◌≡◌, ℕ, ◌+◌, ◌≤◌, ◌<◌, List, [], ◌++◌, length, take, sym, ap, subst, ◌∙◌, arith, length-append, length-take-le}
use Rattle.std.specs.Prelude.{Option, None, Some, IfSome, Result, OnOk}
use Rattle.std.specs.Io.KnownBytes.{Appends, Consumes, IsAtEnd}
use Rattle.std.proofs.lemmas.List.{append-nil}
use Rattle.std.proofs.lemmas.Option.{IfSome_then}
use Rattle.std.proofs.lemmas.Result.{on_ok_weaker}
use Rattle.crdt.proofs.Tests.{Tri, low, same, high, tri}
use Rattle.list_text.specs.Text.{refused_text}
use Rattle.list.specs.Program.{most_bytes, list_text}
use Rattle.list.proofs.Whole.{not_short}

-- a longer input is refused
long_refused : (b : List ℕ) → most_bytes < length b → list_text b ≡ refused_text 1
unfolding list_text
long_refused b h = rw (sym (not_short b h))

-- the bytes of the buffer and what was left
module _ (n : ℕ) (buf xs ys : List ℕ) (fits : n ≤ length buf) (room : most_bytes < length buf) (e : xs ≡ take n buf ++ ys) where
  ended : ys ≡ [] → list_text (take n buf) ≡ list_text xs
  ended f = sym (ap list_text (e ∙ ap (λ (l : List ℕ). take n buf ++ l) f ∙ append-nil (take n buf)))

  full : length buf ≤ n → list_text (take n buf) ≡ list_text xs
  full h =
      let k : length (take n buf) ≡ n = length-take-le n buf fits in
      let j : length xs ≡ length (take n buf) + length ys = ap length e ∙ length-append (take n buf) ys in
      long_refused (take n buf) (omega arith) ∙ sym (long_refused xs (omega arith))

pub read_text : (old new : Option (List ℕ)) (n : ℕ) (buf : List ℕ) → n ≤ length buf → most_bytes < length buf → Consumes old new (take n buf)
    → (n < length buf → IsAtEnd new) → IfSome old (λ b. list_text (take n buf) ≡ list_text b)
read_text None new n buf fits room e end = tt
read_text (Some xs) None n buf fits room e end = absurd e
read_text (Some xs) (Some ys) n buf fits room e end = go (tri n (length buf))
  where
    go : Tri n (length buf) → list_text (take n buf) ≡ list_text xs
    go (low h) = ended n buf xs ys fits room e (end h)
    go (same h) = full n buf xs ys fits room e (omega arith)
    go (high h) = full n buf xs ys fits room e (omega arith)

-- that text written
pub answered : {T E : Type 0} (r : Result T E) (old new before after : Option (List ℕ)) (n : ℕ) (buf text : List ℕ) → n ≤ length buf
    → Consumes old new (take n buf) → (n < length buf → IsAtEnd new) → text ≡ list_text (take n buf) → OnOk r (Appends before after text)
    → most_bytes < length buf → OnOk r (IfSome old (λ b. Appends before after (list_text b)))
answered r old new before after n buf text fits taken end is written room =
    on_ok_weaker r
    (λ (a : Appends before after text). IfSome_then old (read_text old new n buf fits room taken end) (λ b e. subst (Appends before after) (is ∙ e) a)) written
