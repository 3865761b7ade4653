use Rattle.std.proofs.Common.{Option, subst}
use Rattle.bound_laws.specs.Values.{Arc, Covers}
use Rattle.walk_checks.proofs.starts.is_started_in.Goals as goal

pub returns-then-is_kept : goal.returns-then-is_kept
returns-then-is_kept c so nodes = subst (λ (o : Option Arc). Covers c.args.table.now.start o) (c.aimed_in.ensures.aimed nodes) (c.covers.ensures so)
