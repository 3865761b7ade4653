use Rattle.stack_checks.proofs.Dwindlings.{known_so}
use Rattle.stack_checks.proofs.dwindling.is_so_by.Goals as goal

pub returns : goal.returns
returns c so = known_so c.args.way.now c.args.y.now c.args.value c.args.count c.bits_of-bits.result c.top_of.result c.top_of-most.result c.requires.value c.requires.count c.top_of.ensures.top c.top_of-most.ensures.top c.bits_of-bits.ensures (c.is_room.ensures so)
