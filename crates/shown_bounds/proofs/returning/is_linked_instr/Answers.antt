use Rattle.std.proofs.Common.{◌∙◌, sym}
use Rattle.shown_bounds.proofs.Returns.{no_return}
use Rattle.shown_bounds.proofs.returning.is_linked_instr.Goals as goal

pub returns-then-not-is_return : goal.returns-then-not-is_return
returns-then-not-is_return c so a at = no_return c.args.claim.now c.in-Some.i a c.args.first (c.in-Some.ensures a at) (λ moves. sym (c.is_return.ensures moves) ∙ c.if-not-is_return.true)

pub returns : goal.returns
returns c so a at i there moves live = c.is_link.ensures so a at
