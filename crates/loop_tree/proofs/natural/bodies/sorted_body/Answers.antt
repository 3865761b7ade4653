use Rattle.loop_tree.proofs.SortLaws.{sorted_numbered, sorted_ascending}
use Rattle.loop_tree.proofs.natural.bodies.sorted_body.Goals as goal

pub returns-clause-body : goal.returns-clause-body
returns-clause-body c = sorted_numbered c.args.graph.now c.args.note.now c.in_ok-body.body.items c.sort_unstable.new.self.items c.sort_unstable.ensures.permutation c.in_ok-body.ensures.body

pub returns-clause-ascending : goal.returns-clause-ascending
returns-clause-ascending c = sorted_ascending _ c.sort_unstable.new.self.items
    (sorted_numbered c.args.graph.now c.args.note.now c.in_ok-body.body.items c.sort_unstable.new.self.items c.sort_unstable.ensures.permutation c.in_ok-body.ensures.body).nodes c.sort_unstable.ensures.sorted
