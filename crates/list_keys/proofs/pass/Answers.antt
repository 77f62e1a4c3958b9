-- `list_keys::pass` meets its contract.
-- Assumes nothing.
use mathlib.Core.Path.{refl, sym, ◌∙◌}
use mathlib.Core.Bool.{true, false}
use native.Mathlib.Omega.{arith}
use Rattle.references.proofs.Places.{used_most}
use Rattle.list_keys.proofs.Bucketed.{buckets_unmarked, buckets_drop, holds_linked, slot_room, loses_unmarked, loses_marked}
use Rattle.list_keys.proofs.pass.Goals as goal

pub returns-then-not-is_marked-clause-marks : goal.returns-then-not-is_marked-clause-marks
returns-then-not-is_marked-clause-marks c = loses_unmarked _ _ _ _ _ _ _ _ (sym c.is_marked.ensures ∙ c.if-not-is_marked.true)

pub returns-then-not-is_marked-clause-first : goal.returns-then-not-is_marked-clause-first
returns-then-not-is_marked-clause-first c =
    let k = c.args.t.checked in
    let p = c.requires in
    (refl, buckets_unmarked _ _ _ k.schema k.formed _ _ p.0 p.1 (sym c.is_marked.ensures ∙ c.if-not-is_marked.true) _ _ p.3)

pub returns-then-not-is_marked-clause-second : goal.returns-then-not-is_marked-clause-second
returns-then-not-is_marked-clause-second c =
    let k = c.args.t.checked in
    let p = c.requires in
    (refl, buckets_unmarked _ _ _ k.schema k.formed _ _ p.0 p.1 (sym c.is_marked.ensures ∙ c.if-not-is_marked.true) _ _ p.4)

pub returns-then-beaten-clause-marks : goal.returns-then-beaten-clause-marks
returns-then-beaten-clause-marks c =
    loses_marked _ _ _ _ _ _ _ _ (sym c.is_marked.ensures ∙ c.if-not-is_marked.false) _ _ c.is_beaten.ensures c.is_beaten-2.ensures true c.if-beaten.true

pub returns-then-beaten-clause-first : goal.returns-then-beaten-clause-first
returns-then-beaten-clause-first c =
    let k = c.args.t.checked in
    let p = c.requires in
    (refl, buckets_drop _ _ _ k.schema k.formed _ _ p.0 p.1 (omega (arith, p.1, p.2)) _ refl _ _ p.3)

pub returns-then-beaten-clause-second : goal.returns-then-beaten-clause-second
returns-then-beaten-clause-second c =
    let k = c.args.t.checked in
    let p = c.requires in
    (refl, buckets_drop _ _ _ k.schema k.formed _ _ p.0 p.1 (omega (arith, p.1, p.2)) _ refl _ _ p.4)

pub link-requires : goal.link-requires
link-requires c = let p = c.requires in (p.0, omega (arith, p.1, used_most _ _ c.args.t.checked), slot_room _ _ _ _ _ c.slot-b.ensures)

pub link-requires-2 : goal.link-requires-2
link-requires-2 c = let p = c.requires in (p.0, omega (arith, p.1, used_most _ _ c.args.t.checked), slot_room _ _ _ _ _ c.slot-c.ensures)

pub returns-clause-marks : goal.returns-clause-marks
returns-clause-marks c =
    loses_marked _ _ _ _ _ _ _ _ (sym c.is_marked.ensures ∙ c.if-not-is_marked.false) _ _ c.is_beaten.ensures c.is_beaten-2.ensures false c.if-beaten.false

pub returns-clause-first : goal.returns-clause-first
returns-clause-first c =
    let k = c.args.t.checked in
    let p = c.requires in
    let n = used_most _ _ k in
    holds_linked _ _ _ k.schema k.formed _ _ p.0 p.1 (sym c.is_marked.ensures ∙ c.if-not-is_marked.false) p.3 _ c.slot-b.ensures (omega arith) (omega arith) _ c.link.ensures

pub returns-clause-second : goal.returns-clause-second
returns-clause-second c =
    let k = c.args.t.checked in
    let p = c.requires in
    let n = used_most _ _ k in
    holds_linked _ _ _ k.schema k.formed _ _ p.0 p.1 (sym c.is_marked.ensures ∙ c.if-not-is_marked.false) p.4 _ c.slot-c.ensures (omega arith) (omega arith) _ c.link-2.ensures
