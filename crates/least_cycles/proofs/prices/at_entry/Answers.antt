use Rattle.std.proofs.Common.{sym}
use Rattle.flow_graph.specs.FlowGraph.{graph}
use Rattle.least_cycles.proofs.TableLaws.{at_number}
use Rattle.least_cycles.proofs.prices.at_entry.Goals as goal

pub returns : goal.returns
returns c = sym (at_number c.args.graph.now c.requires.flow c.args.table.now c.entry_node.result ((graph c.args.graph.now).entry c.args.f) c.entry_node.ensures.node)
