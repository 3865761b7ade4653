use Rattle.std.proofs.Common.{sym, subst}
use Rattle.graph_algorithms.specs.Bodies.{HasEdgeBack, in_node_ranges}
use Rattle.loop_tree.proofs.WalkLaws.{turn}
use Rattle.loop_tree.proofs.natural.back_edges.goes_back.Goals as goal

pub returns : goal.returns
returns c =
    let same = turn c.args.graph.now c.args.search.now c.requires.edges c.args.note.now c.args.header c.in_ok-extent.extent.items c.requires.header c.in_ok-extent.ensures in
    let edges = c.args.search.now in (
      λ t. same.0 (subst (λ xs. HasEdgeBack c.args.search.now.sources c.args.search.now.targets (in_node_ranges xs) c.args.header) c.deref.ensures.value (c.has_back_edge.ensures.0 t)),
      λ h. c.has_back_edge.ensures.1 (subst (λ xs. HasEdgeBack c.args.search.now.sources c.args.search.now.targets (in_node_ranges xs) c.args.header) (sym c.deref.ensures.value) (same.1 h)),
    )
