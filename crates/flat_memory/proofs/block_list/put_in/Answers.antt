use Rattle.std.proofs.Common.{◌∙◌, ap, sym, subst}
use Rattle.flat_memory.specs.Blocks.{holds, HasValue}
use Rattle.flat_memory.specs.declared.block.Block.{Block}
use Rattle.flat_memory.proofs.BlockLaws.{put_bytes, put_parts, put_spans}
use Rattle.flat_memory.proofs.OrderLaws.{is_first}
use Rattle.flat_memory.proofs.block_list.put_in.Goals as goal

pub returns-in-Some-clause-bytes : goal.returns-in-Some-clause-bytes
returns-in-Some-clause-bytes c =
    put_bytes c.args.blocks.now c.in-Some.k c.index-blocks-k.result c.set_byte.new.self c.args.at c.args.value c.in-Some.ensures.found.inside c.index-blocks-k.is
    (is_first c.args.blocks.now c.args.at c.in-Some.k c.requires.ordered c.in-Some.ensures.found)
    (subst (λ (b : Block). HasValue b c.set_byte.new.self c.args.at c.args.value) (sym c.index-blocks-k.is) c.set_byte.ensures)
    (ap (holds c.args.at) c.index-blocks-k.is ∙ c.in-Some.ensures.found.here c.index-blocks-k.result)

pub returns-in-Some-clause-parts : goal.returns-in-Some-clause-parts
returns-in-Some-clause-parts c =
    put_parts c.args.blocks.now c.in-Some.k c.index-blocks-k.result c.set_byte.new.self c.args.at c.args.value c.in-Some.ensures.found.inside c.index-blocks-k.is
    (subst (λ (b : Block). HasValue b c.set_byte.new.self c.args.at c.args.value) (sym c.index-blocks-k.is) c.set_byte.ensures)

pub returns-in-Some-clause-spans : goal.returns-in-Some-clause-spans
returns-in-Some-clause-spans c =
    put_spans c.args.blocks.now c.in-Some.k c.index-blocks-k.result c.set_byte.new.self c.args.at c.args.value c.in-Some.ensures.found.inside c.index-blocks-k.is
    (subst (λ (b : Block). HasValue b c.set_byte.new.self c.args.at c.args.value) (sym c.index-blocks-k.is) c.set_byte.ensures)
