use Rattle.std.proofs.Common.{◌∙◌, sym}
use Rattle.stack_tables.proofs.Public.{restored_so}
use Rattle.stack_tables.proofs.predicates.is_restored_by.Goals as goal

pub returns-then-is_restored : goal.returns-then-is_restored
returns-then-is_restored c so a b at_u at_h there = restored_so c.args.claim.now c.args.h c.args.r c.args.i (sym c.is_restored.ensures ∙ c.if-is_restored.true) (sym c.keeps.ensures ∙ so) a b at_h there
