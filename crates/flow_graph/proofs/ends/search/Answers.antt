use Rattle.std.proofs.Common.{refl}
use Rattle.code_text.proofs.Laws.{found_in}
use Rattle.flow_graph.proofs.ends.search.Goals as goal

pub returns : goal.returns
returns c = found_in c.args.nodes.now c.args.nodes.now c.args.at c.binary_search.result c.ok.result refl c.ok.ensures.value c.binary_search.ensures.position c.requires
