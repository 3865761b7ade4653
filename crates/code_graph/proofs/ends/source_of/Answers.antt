use Rattle.std.proofs.Common.{ap}
use Rattle.std.specs.Prelude.{is_some}
use Rattle.code_graph.proofs.ends.source_of.Goals as goal

pub unwrap-requires : goal.unwrap-requires
unwrap-requires c = ap is_some ((c.number_of.ensures c.requires.node.0).1 c.requires.node.1)

pub returns : goal.returns
returns c = (c.number_of.ensures c.unwrap.result).0 c.unwrap.ensures
