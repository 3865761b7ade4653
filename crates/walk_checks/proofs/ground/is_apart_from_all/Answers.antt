use Rattle.std.proofs.Common.{◌∙◌, sym}
use Rattle.walk_checks.proofs.Cases.{apart_at}
use Rattle.walk_checks.proofs.ground.is_apart_from_all.Goals as goal

pub returns : goal.returns
returns c so x at = apart_at c.args.table.now c.args.k c.interval.result x (sym c.interval.ensures ∙ at) (c.is_apart.ensures so)
