-- `edit_insertion::judge_room` meets its contract.
-- Assumes nothing.
use Rattle.edit_laws.proofs.InsertionNumber.{room_full, room_clock, room_spent, room_done}
use Rattle.edit_insertion.proofs.judge_room.Goals as goal

pub returns-then-used-capacity-clause-number : goal.returns-then-used-capacity-clause-number
returns-then-used-capacity-clause-number c = room_full c.args.t.schema.now c.args.t.table.now c.args.r c.args.values.now _ _ c.used.ensures c.capacity.ensures c.if-used-capacity.true

pub returns-then-clock-eq-LARGEST_COUNTER-clause-number : goal.returns-then-clock-eq-LARGEST_COUNTER-clause-number
returns-then-clock-eq-LARGEST_COUNTER-clause-number c = room_clock c.args.t.schema.now c.args.t.table.now c.args.r c.args.values.now _ _ c.used.ensures c.capacity.ensures c.if-used-capacity.false _ c.clock.ensures c.if-clock-eq-LARGEST_COUNTER.true

pub returns-then-is_spent-clause-number : goal.returns-then-is_spent-clause-number
returns-then-is_spent-clause-number c =
    room_spent c.args.t.schema.now c.args.t.table.now c.args.r c.args.values.now _ _ c.used.ensures c.capacity.ensures c.if-used-capacity.false _
    c.clock.ensures c.if-clock-eq-LARGEST_COUNTER.false _
    (c.is_spent.ensures _ c.mark_insertion.ensures) c.if-is_spent.true

pub returns-clause-number : goal.returns-clause-number
returns-clause-number c =
    room_done c.args.t.schema.now c.args.t.table.now c.args.r c.args.values.now _ _ c.used.ensures c.capacity.ensures c.if-used-capacity.false _
    c.clock.ensures c.if-clock-eq-LARGEST_COUNTER.false _
    (c.is_spent.ensures _ c.mark_insertion.ensures) c.if-is_spent.false
