use Rattle.std.proofs.Common.{◌∙◌}
use Rattle.code_text.proofs.Laws.{among}
use Rattle.image_lower.proofs.far.is_among.Goals as goal

pub returns : goal.returns
returns c = c.is_ok.ensures.value ∙ among c.args.addresses.now c.args.at c.binary_search.result c.binary_search.ensures.position c.requires
