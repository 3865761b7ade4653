use Rattle.std.proofs.Common.{◌∙◌, sym}
use Rattle.shown_bounds.proofs.Returns.{never_linked}
use Rattle.shown_bounds.proofs.returning.is_linked.Goals as goal

pub returns-then-not-is_live : goal.returns-then-not-is_live
returns-then-not-is_live c so = never_linked c.args.claim.now c.requires.claim c.args.k c.args.first (sym c.is_live.ensures ∙ c.if-not-is_live.true)
