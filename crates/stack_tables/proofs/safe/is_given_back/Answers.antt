use Rattle.std.proofs.Common.{◌∙◌, sym}
use Rattle.stack_tables.specs.Tables.{address, text_in}
use Rattle.stack_tables.proofs.Public.{keeps_there}
use Rattle.stack_tables.proofs.safe.is_given_back.Goals as goal

pub returns-then-is_restored : goal.returns-then-is_restored
returns-then-is_restored c so = (sym c.is_restored.ensures ∙ c.if-is_restored.true, keeps_there (text_in c.args.claim.now) (address c.args.claim.now c.args.u) c.args.i c.args.r c.requires.instruction (sym c.keeps.ensures ∙ so))
