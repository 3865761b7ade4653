use Rattle.std.proofs.Common.{◌∙◌, ap, Some, sym}
use Rattle.shown_bounds.proofs.Returns.{owner_is}
use Rattle.shown_bounds.proofs.returning.is_link.Goals as goal

pub returns-in-Some : goal.returns-in-Some
returns-in-Some c so a at = (
  sym (c.in-Some.ensures a at) ∙ ap Some (c.is_first_link.ensures so),
  λ same. c.if-owner-first.false (owner_is c.args.claim.now c.args.k a c.owner.result at c.owner.ensures.owner ∙ same),
)
