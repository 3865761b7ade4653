use Rattle.std.proofs.Common.{◌∙◌, ap, sym}
use Rattle.flat_memory.proofs.BlockLaws.{read}
use Rattle.flat_memory.proofs.OrderLaws.{byte_found, byte_none}
use Rattle.flat_memory.proofs.block_list.byte_in.Goals as goal

pub returns-in-Some : goal.returns-in-Some
returns-in-Some c =
    c.byte.ensures
    ∙ (ap (λ b. read b c.args.at) c.index-blocks-k.is
    ∙ sym (byte_found c.args.blocks.now c.args.at c.in-Some.k c.index-blocks-k.result c.requires c.in-Some.ensures.found))

pub returns-in-None : goal.returns-in-None
returns-in-None c = sym (byte_none c.args.blocks.now c.args.at c.in-None.ensures.none)
