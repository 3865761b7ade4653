use Rattle.std.proofs.Common.{sym, ◌∙◌}
use Rattle.jump_checks.proofs.Along.{dead_over, known_over, nothing_over}
use Rattle.jump_checks.proofs.edges.is_known_over.Goals as goal

pub returns-then-not-is_live : goal.returns-then-not-is_live
returns-then-not-is_live c so = dead_over c.args.claim.now c.args.k c.args.n (sym c.is_live.ensures ∙ c.if-not-is_live.true)

pub returns : goal.returns
returns c so = known_over c.args.claim.now c.args.k c.args.n c.in-Some.x (sym c.in-Some.ensures) (c.is_so_behind.ensures so)
