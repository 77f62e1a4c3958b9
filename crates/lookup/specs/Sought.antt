-- What is told of where a walk along a chain ends.
-- Assumes nothing.
use Rattle.std.specs.Prelude.{true}
use Rattle.answers.specs.Told.{Told, told_known, told}
use Rattle.model.specs.Lookup.{Seek, damaged, known, unknown}

abbrev pub sought_told : Seek → Told
sought_told damaged = told 3 0
sought_told (known i) = told_known 0 i true
sought_told unknown = told 0 0
