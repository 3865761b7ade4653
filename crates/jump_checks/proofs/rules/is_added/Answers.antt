use Rattle.std.proofs.Common.{refl}
use Rattle.jump_checks.proofs.Making.{added_so, added_to_so}
use Rattle.jump_checks.proofs.rules.is_added.Goals as goal

pub returns-then-is_raised : goal.returns-then-is_raised
returns-then-is_raised c so = added_so c.args.claim.now c.args.k c.args.x c.args.rs1 c.args.rs2 (c.if-is_raised.ensures refl)

pub returns : goal.returns
returns c so = added_to_so c.args.claim.now c.args.k c.args.x c.args.rs1 c.args.rs2 (c.is_raised-2.ensures so)
