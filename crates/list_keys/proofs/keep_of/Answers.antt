-- `list_keys::keep_of` meets its contract.
-- Assumes nothing.
use mathlib.Core.Path.{sym, ◌∙◌}
use lib.Dec.{eqb}
use borrow.Author.Tests.{eqb-true}
use Rattle.crdt.proofs.Tests.{and_left, and_right}
use Rattle.list_keys.specs.Buckets.{buckets}
use Rattle.list_keys.proofs.Beaten.{upto_keyless}
use Rattle.list_keys.proofs.Passing.{buckets_none}
use Rattle.list_keys.proofs.keep_of.Goals as goal

pub returns-then-first-second : goal.returns-then-first-second
returns-then-first-second c =
    let k = c.args.t.checked in
    let e = sym c.mask_at-first.ensures ∙ eqb-true _ 0 (and_left _ _ c.if-first-second.true) in
    let f = sym c.mask_at-second.ensures ∙ eqb-true _ 0 (and_right (eqb c.mask_at-first.result 0) _ c.if-first-second.true) in
    upto_keyless _ _ k.schema k.formed _ _ e f c.requires.3

pub keep_along-requires : goal.keep_along-requires
keep_along-requires c =
    let p = c.requires in
    let e = c.empty-first.ensures in
    let f = c.empty-second.ensures in
    (p.0, p.1, e.0 ∙ c.mask_at-first.ensures, f.0 ∙ c.mask_at-second.ensures, p.2, p.3, rw e.1 (buckets_none _ _ _ _ _ buckets _), rw f.1 (buckets_none _ _ _ _ _ buckets _))
