use Rattle.std.proofs.Common.{◌∙◌, ap, sym}
use Rattle.flat_memory.specs.Blocks.{allows}
use Rattle.flat_memory.proofs.OrderLaws.{used_found, used_none}
use Rattle.flat_memory.proofs.block_list.allows.Goals as goal

pub returns-in-Some : goal.returns-in-Some
returns-in-Some c =
    c.allows.ensures
    ∙ (ap (allows c.args.flag) c.index-blocks-k.is
    ∙ sym (used_found c.args.blocks.now c.args.flag c.args.at c.in-Some.k c.index-blocks-k.result c.requires c.in-Some.ensures.found))

pub returns-in-None : goal.returns-in-None
returns-in-None c = sym (used_none c.args.blocks.now c.args.flag c.args.at c.in-None.ensures.none)
