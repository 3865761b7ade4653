use Rattle.jump_checks.proofs.Making.{loaded_so, sum_so}
use Rattle.jump_checks.proofs.rules.is_made.Goals as goal

pub returns-in-Loaded : goal.returns-in-Loaded
returns-in-Loaded c so = loaded_so c.args.claim.now c.args.k c.args.i c.args.x c.in-Loaded.rs1 c.in-Loaded.more c.in-Loaded.ensures (c.is_table_word.ensures so)

pub returns-in-Sum : goal.returns-in-Sum
returns-in-Sum c so = sum_so c.args.claim.now c.args.k c.args.i c.args.x c.in-Sum.rs1 c.in-Sum.rs2 c.in-Sum.ensures (c.is_added.ensures so)
