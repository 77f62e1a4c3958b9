use Rattle.std.proofs.Common.{arith}
use Rattle.list.proofs.Whole.{split_room, split_marks, split_text}
use Rattle.list.proofs.split.Goals as goal

pub slice_bounds-list-end-2 : goal.slice_bounds-list-end-2
slice_bounds-list-end-2 c = omega (arith, split_room c.args.words.now c.args.marks.now _ c.capacity-n.ensures c.requires.1)

pub list-requires : goal.list-requires
list-requires c = split_marks c.args.words.now c.args.marks.now _ c.capacity-n.ensures c.requires.1

pub returns : goal.returns
returns c = split_text c.args.words.now c.list.ensures
