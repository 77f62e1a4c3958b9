-- `edit_delta::Draft::write_relation` meets its contract.
-- Assumes nothing.
use Rattle.edit_delta.proofs.Turns.{walk_room, relation_adds, relation_ends}
use Rattle.edit_delta.proofs.Draft.write_relation.Goals as goal

pub append-requires : goal.append-requires
append-requires c = (walk_room _ _ c.args.self.source _ _ c.args.self.edited _ _ c.write_chain.ensures, c.requires.1, c.requires.2)

pub returns-then-relation-self : goal.returns-then-relation-self
returns-then-relation-self c =
    relation_adds _ _ c.args.self.source _ _ c.args.self.edited _ c.requires.1 c.requires.2 _ _ _ c.write_chain.ensures c.if-relation-self.true c.new_label.ensures c.append.ensures

pub returns-else-relation-self : goal.returns-else-relation-self
returns-else-relation-self c = relation_ends _ _ c.args.self.source _ _ c.args.self.edited _ c.requires.1 c.requires.2 _ c.write_chain.ensures c.if-relation-self.false
