use Rattle.std.proofs.Common.{ℕ, sym}
use Rattle.walk_checks.specs.Walked.{at_of, cert, IsCalledSo}
use Rattle.walk_checks.proofs.Cases.{called_so}
use Rattle.walk_checks.proofs.edges.calls_so.Goals as goal

pub returns-in-Some : goal.returns-in-Some
returns-in-Some c so f to = called_so (λ (x : ℕ). IsCalledSo (cert c.args.case.now) c.args.case.now.note.now.header (at_of c.args.case.now c.args.k) x) c.args.case.now.claim.now c.args.e c.in-Some.f c.entry_node.result (sym c.in-Some.ensures) c.entry_node.ensures.node (c.is_called_so.ensures so) f to
