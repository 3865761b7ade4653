use Rattle.std.proofs.Common.{◌∙◌, ap, Some}
use Rattle.flow_graph.specs.FlowGraph.{graph}
use Rattle.loop_tree.proofs.natural.entries.entry_of.Goals as goal

pub returns : goal.returns
returns c = c.entry_node.ensures.node ∙ ap (λ f. Some ((graph c.args.graph.now).entry f)) c.owner.ensures.owner
