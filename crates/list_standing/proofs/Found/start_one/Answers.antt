-- `list_standing::Found::start_one` meets its contract.
-- Assumes nothing.
use native.Mathlib.Omega.{arith}
use mathlib.Core.Path.{sym, ◌∙◌}
use Rattle.references.proofs.Places.{used_most}
use Rattle.list_standing.proofs.Members.{live_stands}
use Rattle.list_standing.proofs.Work.{add_room, queue_add}
use Rattle.list_standing.proofs.Found.start_one.Goals as goal

pub add-requires : goal.add-requires
add-requires c = let p = c.requires in add_room _ _ _ _ _ p.1 _ p.2 p.3 p.0 (used_most _ _ c.args.t.checked)

pub returns-then-is_live : goal.returns-then-is_live
returns-then-is_live c =
    let p = c.requires in
    let m = used_most _ _ c.args.t.checked in
    let st = live_stands _ _ c.args.t.checked _ p.2 p.3 (sym c.is_live.ensures ∙ c.if-is_live.true) in
    let x = queue_add _ _ _ _ _ _ p.1 p.2 p.3 st p.0 (omega arith) _ _ _ c.add.ensures in
    (x.queue, x.more, λ l. x.marked)
