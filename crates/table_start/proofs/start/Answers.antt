-- `table_start::start` meets its contract.
-- Assumes nothing.
use Prim.Native.Nat.{ℕ}
use mathlib.Core.Path.{ap}
use Rattle.answers.specs.Told.{told}
use Rattle.table_rules.proofs.Rules.{start_length, start_replica, start_done}
use Rattle.table_start.proofs.start.Goals as goal

pub returns-then-not-table_length : goal.returns-then-not-table_length
returns-then-not-table_length c = let p = start_length _ c.args.replica _ c.table_length.ensures c.if-not-table_length.true in record { answer = ap (λ (n : ℕ). told n 0) p.0; words = p.1 }

pub returns-then-not-replica : goal.returns-then-not-replica
returns-then-not-replica c =
    let p = start_replica _ _ _ c.table_length.ensures c.if-not-table_length.false c.if-not-replica.true in
    record { answer = ap (λ (n : ℕ). told n 0) p.0; words = p.1 }

pub returns : goal.returns
returns c =
    let p = start_done _ _ _ c.table_length.ensures _ _ c.if-not-table_length.false c.if-not-replica.false (c.fill.ensures.after (λ y e. e)) c.store.ensures in
    record { answer = ap (λ (n : ℕ). told n 0) p.0; words = p.1 }
