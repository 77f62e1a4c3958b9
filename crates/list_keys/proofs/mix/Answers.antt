-- `list_keys::mix` meets its contract.
-- Assumes nothing.
use Rattle.list_keys.proofs.Digests.{mix_none, mix_one}
use Rattle.list_keys.proofs.mix.Goals as goal

pub returns-then-mask-eq0 : goal.returns-then-mask-eq0
returns-then-mask-eq0 c = mix_none _ _ _ c.if-mask-eq0.true

pub returns : goal.returns
returns c = mix_one _ _ _ c.if-mask-eq0.false
