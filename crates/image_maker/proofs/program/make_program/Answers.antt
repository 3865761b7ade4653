use Rattle.std.proofs.Common.{arith}
use Rattle.image_maker.proofs.MadeLaws.{few_lines}
use Rattle.image_maker.proofs.program.make_program.Goals as goal

pub add_block-requires : goal.add_block-requires
add_block-requires c = rw c.loop-k.invariant.lines (let few = few_lines c.args.number c.loop-k.k (omega arith) in omega arith)
