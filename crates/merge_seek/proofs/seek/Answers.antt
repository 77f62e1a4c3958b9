-- `merge_seek::seek` meets its contract. The loop's invariant: the link is one of the relation, with smaller labels before it. The measure is what is left of the chain.
-- Assumes nothing.
use mathlib.Core.Path.{sym, ◌∙◌}
use native.Mathlib.Omega.{arith}
use Rattle.model.specs.Layout.{word}
use Rattle.merge_seek.proofs.Forms.{seek_in, seek_less, seek_again, seek_done}
use Rattle.merge_seek.proofs.seek.Goals as goal

pub loop-link-init : goal.loop-link-init
loop-link-init c = λ r r₁ r₂ l. l

pub base-link-requires : goal.base-link-requires
base-link-requires c = omega (arith, c.word.ensures, seek_in _ _ _ _ c.requires c.loop-link.invariant (sym c.precedes.ensures ∙ c.loop-link-test.true))

pub loop-link-smaller : goal.loop-link-smaller
loop-link-smaller c = seek_less _ _ _ _ c.requires c.loop-link.invariant (sym c.precedes.ensures ∙ c.loop-link-test.true) _ _ c.word.ensures c.base-link.ensures

pub loop-link-preserved : goal.loop-link-preserved
loop-link-preserved c = seek_again _ _ _ _ c.requires c.loop-link.invariant (sym c.precedes.ensures ∙ c.loop-link-test.true) _ _ c.word.ensures c.base-link.ensures

pub returns : goal.returns
returns c = seek_done _ _ _ _ c.requires c.loop-link.invariant (sym c.precedes.ensures ∙ c.loop-link-test.false)
