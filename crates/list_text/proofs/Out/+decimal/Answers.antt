-- `list_text::Out::decimal` meets its contract: the last digit stands behind those of the tenth part.
-- Assumes nothing.
use Rattle.std.proofs.Common.{subst}
use native.Mathlib.Omega.{arith}
use mathlib.Core.List.{[], ◌∷◌}
use Rattle.list_text.specs.Written.{Written}
use Rattle.list_text.proofs.Digits.{placed_one, placed_last}
use Rattle.list_text.proofs.Out.+decimal.Goals.{then-n-ge10, else-n-ge10}
use Rattle.list_text.proofs.Out.+decimal.Goals as goal

pub returns : goal.returns
returns t c =
    elim c.if-n-ge10.branch [
      | then-n-ge10 w ↦
          placed_last _ _ w.if-n-ge10.true (omega arith) c.digit.ensures w.decimal.ensures
          (subst (λ s. Written s c.put.new.self (c.digit.result ∷ [])) w.self-is c.put.ensures)
      | else-n-ge10 w ↦ placed_one _ _ w.if-n-ge10.false c.digit.ensures (subst (λ s. Written s c.put.new.self (c.digit.result ∷ [])) w.self-is c.put.ensures)
    ]
