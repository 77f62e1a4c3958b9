-- `table::is_good` meets its contract. The chain step bounds the index, and then the record's words are there to be tested.
-- Assumes nothing.
use mathlib.Core.Path.{sym, ◌∙◌}
use borrow.Author.Rules.{rules}
use Rattle.table.proofs.Count.{step_says}
use Rattle.table.proofs.Links.{read_off, read_on}
use Rattle.table.proofs.is_good.Goals as goal

pub returns-then-not-chain_step : goal.returns-then-not-chain_step
returns-then-not-chain_step g c = read_off _ _ _ _ _ _ _ c.chain_step.ensures c.if-not-chain_step.true

pub record_good-requires : goal.record_good-requires
record_good-requires g c =
    let k = step_says g.row.F c.args.of.table.now c.args.r c.args.low c.args.i (sym c.chain_step.ensures ∙ c.if-not-chain_step.false) in
    search rules

pub returns : goal.returns
returns g c = read_on _ _ _ _ _ _ _ c.chain_step.ensures c.if-not-chain_step.false _ c.record_good.ensures
