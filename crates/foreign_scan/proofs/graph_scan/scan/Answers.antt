use Rattle.loop_forest.specs.Tree.{loops}
use Rattle.foreign_scan.proofs.GlueLaws.{ok_then}
use Rattle.foreign_scan.proofs.TreeLists.{lists_of}
use Rattle.foreign_scan.proofs.graph_scan.scan.Goals as goal

pub scan_lists-requires-clause-lists : goal.scan_lists-requires-clause-lists
scan_lists-requires-clause-lists c = (
  c.args.graph.now.code,
  loops c.args.graph.now c.args.tree.now,
  lists_of c.args.original.now c.args.graph.now c.requires.tree.0 c.args.tree.now c.sources.ensures.0 _ c.requires.graph c.requires.tree.1 c.nodes.ensures
      c.edges.ensures c.sources.ensures.1 c.backs.ensures c.bounds.ensures,
)

pub returns : goal.returns
returns c = ok_then c.scan_lists.result c.scan_lists.ensures (λ scanned f.
    f c.args.graph.now.code (loops c.args.graph.now c.args.tree.now)
    (lists_of c.args.original.now c.args.graph.now c.requires.tree.0 c.args.tree.now c.sources.ensures.0 _ c.requires.graph c.requires.tree.1 c.nodes.ensures
    c.edges.ensures c.sources.ensures.1 c.backs.ensures c.bounds.ensures))
