use Rattle.stack_tables.proofs.Seen.{instr_seen}
use Rattle.stack_tables.proofs.reading.instruction.Goals as goal

pub returns : goal.returns
returns c = instr_seen c.args.claim.now c.args.k c.address.result c.text_instr.result c.address.ensures c.text_instr.ensures
