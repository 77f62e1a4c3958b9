-- `list_standing::Found::hop` meets its contract.
-- Assumes nothing.
use native.Mathlib.Omega.{arith}
use mathlib.Core.Path.{sym, ◌∙◌}
use Rattle.references.proofs.Places.{used_most, fields_most}
use Rattle.list_standing.proofs.Members.{hop_stands}
use Rattle.list_standing.proofs.Work.{add_room, queue_add, hop_marked}
use Rattle.list_standing.proofs.Found.hop.Goals as goal

pub abort_target-requires : goal.abort_target-requires
abort_target-requires c =
    let p = c.requires in
    let m = fields_most _ _ c.args.resolved.t.checked _ p.2 p.3 in
    (p.2, p.3, p.5, omega arith)

pub add-requires : goal.add-requires
add-requires c =
    let p = c.requires in
    let g = c.in-Some.ensures in
    add_room _ _ _ _ _ p.1 _ g.least g.within p.0 (used_most _ _ c.args.resolved.t.checked)

pub returns-then-complete : goal.returns-then-complete
returns-then-complete c =
    let p = c.requires in
    let g = c.in-Some.ensures in
    let t = c.args.resolved.t.checked in
    let m = used_most _ _ t in
    let st = hop_stands _ _ t _ _ _ p.2 p.3 p.5 p.6 g.least g.within (p.1.stands _ p.2 p.3 p.4) g.abort g.there (sym c.complete.ensures ∙ c.if-complete.true) in
    let x = queue_add _ _ _ _ _ _ p.1 g.least g.within st p.0 (omega arith) _ _ _ c.add.ensures in
    (x.queue, x.more, hop_marked _ _ _ _ _ _ g x.marked)
