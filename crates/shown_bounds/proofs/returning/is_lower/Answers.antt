use Rattle.std.proofs.Common.{◌∙◌, sym}
use Rattle.shown_bounds.proofs.Returns.{never_lower}
use Rattle.shown_bounds.proofs.returning.is_lower.Goals as goal

pub returns-then-not-is_live : goal.returns-then-not-is_live
returns-then-not-is_live c so = never_lower c.args.claim.now c.requires.claim c.args.heights.now c.args.e c.source-k.result c.source-k.ensures.node (sym c.is_live.ensures ∙ c.if-not-is_live.true)
