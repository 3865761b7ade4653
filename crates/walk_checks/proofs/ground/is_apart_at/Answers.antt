use Rattle.std.proofs.Common.{◌+◌, ◌∙◌, inr, sym}
use Rattle.walk_checks.proofs.Cases.{beyond_at}
use Rattle.walk_checks.proofs.ground.is_apart_at.Goals as goal

pub returns : goal.returns
returns c so y at = inr (beyond_at c.args.x c.interval.result y (c.args.table.now.least + c.args.table.now.spread) (sym c.interval.ensures ∙ at) (c.is_beyond.ensures so))
