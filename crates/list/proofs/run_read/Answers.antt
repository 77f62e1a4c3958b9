use Rattle.std.proofs.Common.{refl, ap, ◌∙◌, take, arith}
use Rattle.list.specs.Program.{list_text}
use Rattle.list.proofs.Read.{answered}
use Rattle.list.proofs.Whole.{part_words}
use Rattle.list.proofs.run_read.Goals as goal

pub returns : goal.returns
returns g c =
    let n = c.in_ok-n.n in
    let bytes = c.read_full.new.buf in
    λ room. answered c.write_all.result _ _ _ _ n bytes _ c.in_ok-n.ensures.within c.in_ok-n.ensures.bytes c.in_ok-n.ensures.end
    (part_words c.respond-k.new.out _ c.respond-k.result c.respond-k.ensures.1 ∙ ap list_text (part_words bytes (take n bytes) n refl)) c.write_all.ensures.bytes (omega arith)
