use Rattle.std.proofs.Common.{◌∙◌}
use Rattle.loop_forest.proofs.AmongLaws.{searched_among}
use Rattle.loop_forest.proofs.numbers.has_number.Goals as goal

pub returns : goal.returns
returns c = c.is_ok.ensures.value ∙ searched_among c.args.numbers.now c.args.number c.binary_search.result c.binary_search.ensures.position c.requires
