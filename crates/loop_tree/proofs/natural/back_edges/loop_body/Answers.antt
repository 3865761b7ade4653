use Rattle.std.proofs.Common.{subst}
use Rattle.std.proofs.lemmas.Result.{IfOk-weaker}
use Rattle.graph_algorithms.specs.Bodies.{IsBody, in_node_ranges}
use Rattle.loop_tree.specs.Passes.{IsNumberedBody}
use Rattle.loop_tree.proofs.WalkLaws.{numbered}
use Rattle.loop_tree.proofs.natural.back_edges.loop_body.Goals as goal

pub returns-clause-body : goal.returns-clause-body
returns-clause-body c =
    IfOk-weaker c.body.result (λ body. IsBody c.args.search.now.sources c.args.search.now.targets (in_node_ranges c.deref.result.now) c.args.header body.items) (λ body. IsNumberedBody c.args.graph.now c.args.note.now body.items)
    (λ body is. numbered c.args.graph.now c.args.search.now c.requires.edges c.args.note.now c.args.header c.in_ok-extent.extent.items c.requires.header c.in_ok-extent.ensures body.items
    (subst (λ xs. IsBody c.args.search.now.sources c.args.search.now.targets (in_node_ranges xs) c.args.header body.items) c.deref.ensures.value is))
    c.body.ensures.body
