use Rattle.std.proofs.Common.{rules}
use Rattle.power_model.specs.Price.{cycles_of}
use Rattle.flow_graph.proofs.WeightLists.{weights_hold}
use Rattle.flow_graph.proofs.graph.CodeGraph.base_weights.Goals as goal

pub returns-clause-calls : goal.returns-clause-calls
returns-clause-calls c = λ t is. let hold = weights_hold t c.args.self.now (cycles_of c.args.costs.now) is in search rules
