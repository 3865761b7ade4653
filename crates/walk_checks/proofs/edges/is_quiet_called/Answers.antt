use Rattle.std.proofs.Common.{ℕ, ◌≡◌, true, sym}
use Rattle.walk_checks.specs.Walked.{cert}
use Rattle.walk_checks.proofs.Cases.{called_so}
use Rattle.walk_checks.proofs.edges.is_quiet_called.Goals as goal

pub returns-in-Some : goal.returns-in-Some
returns-in-Some c so f to quiet = called_so (λ (x : ℕ). (cert c.args.case.now).quiet x ≡ true) c.args.case.now.claim.now c.args.e c.in-Some.f c.entry_node.result (sym c.in-Some.ensures) c.entry_node.ensures.node (c.is_quiet_on.ensures so quiet) f to
