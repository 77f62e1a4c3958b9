-- The text of the list program (document 01: "It prints `shown` and the count, then per record the relation, the label and the values in
-- decimal, a reference as a label, an empty one as `-`. A refusal prints `refused` and the number"). A text is its characters' codes.
-- Assumes nothing.
use Rattle.std.specs.Prelude.{ℕ, zero, suc, ◌+◌, ◌/◌, ◌%◌, cond, List, [], ◌∷◌, ◌++◌, eqb, ltb}
use Rattle.crdt.specs.Labels.{counter_of, replica_of}
use Rattle.model.specs.Layout.{field_count, kind_at}
use Rattle.model.specs.Lists.{listed}
use Rattle.model.specs.Schemas.{is_reference}
use Rattle.model.specs.Calls.{Entry}

abbrev pub space : ℕ
space = 32

abbrev pub newline : ℕ
newline = 10

abbrev pub dash : ℕ
dash = 45

abbrev pub dot : ℕ
dot = 46

-- The character of a number's last digit; `0` is 48.
abbrev pub digit : ℕ → ℕ
digit n = 48 + n % 10

-- The last digits of a number, at most k of them and no leading zeros.
unfoldable pub digits : ℕ → ℕ → List ℕ
digits zero n = []
digits (suc k) n = cond (ltb n 10) [] (digits k (n / 10)) ++ (digit n ∷ [])

-- A number in decimal. One of 64 bits has at most 20 digits.
abbrev pub most_digits : ℕ
most_digits = 20

unfoldable pub decimal_text : ℕ → List ℕ
decimal_text n = digits most_digits n

-- "Written 2.1: counter 2, replica 1"
unfoldable pub label_text : ℕ → List ℕ
label_text x = decimal_text (counter_of x) ++ (dot ∷ decimal_text (replica_of x))

-- "a reference as a label, an empty one as `-`"
unfoldable pub reference_text : ℕ → List ℕ
reference_text x = cond (eqb x 0) (dash ∷ []) (label_text x)

-- A value by the kind of its field.
unfoldable pub value_text : ℕ → ℕ → List ℕ
value_text kind x = cond (is_reference kind) (reference_text x) (decimal_text x)

-- The values by the kinds of their fields, a space before each.
unfoldable pub values_text : List ℕ → List ℕ → List ℕ
values_text [] vs = []
values_text (k ∷ ks) [] = []
values_text (k ∷ ks) (v ∷ vs) = (space ∷ value_text k v) ++ values_text ks vs

-- "the relation, the label and the values in decimal"
unfoldable pub line_text : List ℕ → Entry → List ℕ
line_text s e =
    (decimal_text e.relation ++ (space ∷ label_text e.label))
    ++ (values_text (listed (field_count s e.relation) (kind_at s e.relation)) e.values ++ (newline ∷ []))

-- "per record": a line for each entry of the list, in its order.
unfoldable pub lines_text : List ℕ → List Entry → List ℕ
lines_text s [] = []
lines_text s (e ∷ es) = line_text s e ++ lines_text s es

-- A word with the space after it, a number, and the end of the line.
unfoldable pub told_text : List ℕ → ℕ → List ℕ
told_text w n = w ++ (decimal_text n ++ (newline ∷ []))

-- `shown` and a space
abbrev pub shown_word : List ℕ
shown_word = 115 ∷ 104 ∷ 111 ∷ 119 ∷ 110 ∷ 32 ∷ []

-- `refused` and a space
abbrev pub refused_word : List ℕ
refused_word = 114 ∷ 101 ∷ 102 ∷ 117 ∷ 115 ∷ 101 ∷ 100 ∷ 32 ∷ []

-- "A refusal prints `refused` and the number"
unfoldable pub refused_text : ℕ → List ℕ
refused_text n = told_text refused_word n

-- "It prints `shown` and the count, then per record .."
unfoldable pub shown_text : List ℕ → ℕ → List Entry → List ℕ
shown_text s count es = told_text shown_word count ++ lines_text s es
