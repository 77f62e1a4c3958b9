-- `table::chains` meets its contract.
-- Assumes nothing.
use Prim.Native.Nat.{◌+◌}
use mathlib.Core.Path.{◌≡◌, sym, ◌∙◌}
use native.Mathlib.Omega.{arith}
use Rattle.model.specs.Layout.{most_relations}
use Rattle.layout.proofs.Each.{each_none, each_next}
use Rattle.table.specs.Chains.{record_good}
use Rattle.table.proofs.Links.{walked_whole, walked_broken, chain_length}
use Rattle.table.proofs.Count.{sum_none, chains_broken, chains_more, chains_counted}
use Rattle.table.proofs.chains.Goals as goal

pub loop-r-init : goal.loop-r-init
loop-r-init g c = (omega arith, sum_none _, sym (each_none _))

pub returns-in_default : goal.returns-in_default
returns-in_default g c = chains_broken _ _ _ (c.loop-r.r + 1) (omega arith) (omega arith) (walked_broken _ _ _ _ (sym c.in_default.is ∙ c.walk_chain.ensures))

pub overflow_add-count : goal.overflow_add-count
overflow_add-count g c =
    let w = walked_whole g.row.F c.args.of.schema.now c.args.of.table.now (c.loop-r.r + 1) _ (sym c.in-Some.is ∙ c.walk_chain.ensures) in
    omega (arith, w, chain_length g.row.F c.args.of.table.now (c.loop-r.r + 1))

pub loop-r-preserved : goal.loop-r-preserved
loop-r-preserved g c =
    let w = walked_whole g.row.F c.args.of.schema.now c.args.of.table.now (c.loop-r.r + 1) _ (sym c.in-Some.is ∙ c.walk_chain.ensures) in
    (omega (arith, w, chain_length g.row.F c.args.of.table.now (c.loop-r.r + 1)), chains_more _ _ _ _ _ w.1 c.loop-r.invariant.1, each_next _ _ c.loop-r.invariant.2 w.0)

pub returns : goal.returns
returns g c =
    let e : c.loop-r.r ≡ most_relations = omega arith in
    chains_counted _ _ (record_good g.row.F c.args.of.schema.now c.args.of.table.now) _ _ (rw e at c.loop-r.invariant.2) (rw e at c.loop-r.invariant.1) c.used.ensures
