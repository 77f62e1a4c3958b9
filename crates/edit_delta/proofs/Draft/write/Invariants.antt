use mathlib.Core.Path.{◌≡◌}
use Rattle.model.specs.Records.{place}
use Rattle.model.specs.Tables.{encode}
use Rattle.edit_delta.specs.Drafting.{key_of, drafted}
use Rattle.edit_delta.proofs.Draft.write.Given as goal

abbrev pub invariant-loop-relation : goal.invariant-loop-relation
invariant-loop-relation l = l.delta ≡ encode (drafted l.self.table.now (key_of l.self.table.now l.self.index l.self.fresh) l.self.redo.now (place l.relation 0))
