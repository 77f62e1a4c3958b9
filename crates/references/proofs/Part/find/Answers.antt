-- `references::Part::find` meets its contract.
-- Assumes nothing.
use mathlib.Core.Path.{refl}
use Rattle.references.proofs.Parts.{found_past, found_here, found_none}
use Rattle.references.proofs.Part.find.Goals.{else-at-self-via-then-at-self+else-self-at, else-at-self-via-else-at-self}
use Rattle.references.proofs.Part.find.Goals as goal

pub returns-then-self-at : goal.returns-then-self-at
returns-then-self-at c =
    let p = c.args.self in
    found_here _ _ p.t.checked _ _ _ _ _ p.holds c.requires c.lower-at.ensures _ c.if-at-self.true refl c.if-self-at.true

pub returns : goal.returns
returns c =
    let p = c.args.self in
    elim c.else-at-self.branch [
      | else-at-self-via-then-at-self+else-self-at w ↦ found_none _ _ p.t.checked _ _ _ _ _ p.holds c.requires c.lower-at.ensures w.if-at-self.true w.if-self-at.false
      | else-at-self-via-else-at-self w ↦ found_past _ _ p.t.checked _ _ _ _ _ p.holds c.requires c.lower-at.ensures w.if-at-self.false
    ]
