use Rattle.std.proofs.Common.{◌∙◌}
use Rattle.foreign_scan.proofs.PatchLaws.{found_among}
use Rattle.foreign_scan.proofs.patches.is_node.Goals as goal

pub returns : goal.returns
returns c = c.is_some.ensures ∙ found_among c.find_node.result c.args.nodes.now c.args.at c.find_node.ensures
