use Rattle.std.proofs.Common.{sym, ◌∙◌}
use native.Mathlib.Omega.{arith}
use Rattle.list.proofs.Whole.{listed_refused, listed_words, words_room, marks_room, part_words}
use Rattle.list.proofs.write.Goals as goal

pub returns-then-not-is_whole : goal.returns-then-not-is_whole
returns-then-not-is_whole c = listed_refused _ (sym c.is_whole.ensures ∙ c.if-not-is_whole.true) c.refused.ensures

pub load-count-requires : goal.load-count-requires
load-count-requires c = words_room c.args.input.now c.args.words.now (sym c.is_whole.ensures ∙ c.if-not-is_whole.false) (omega arith)

pub split-requires : goal.split-requires
split-requires c =
    marks_room c.args.input.now _ c.args.marks.now (sym c.is_whole.ensures ∙ c.if-not-is_whole.false)
    (part_words c.load-count.new.w _ c.load-count.result c.load-count.ensures.1) (omega arith)

pub returns : goal.returns
returns c =
    listed_words c.args.input.now _ (sym c.is_whole.ensures ∙ c.if-not-is_whole.false)
    (part_words c.load-count.new.w _ c.load-count.result c.load-count.ensures.1) c.split.ensures
