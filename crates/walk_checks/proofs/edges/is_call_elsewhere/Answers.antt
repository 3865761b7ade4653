use Rattle.std.proofs.Common.{◌≡◌, ℕ, sym}
use Rattle.walk_checks.proofs.Cases.{called_so}
use Rattle.walk_checks.proofs.edges.is_call_elsewhere.Goals as goal

pub returns-in-Some : goal.returns-in-Some
returns-in-Some c so f to = called_so (λ (x : ℕ). x ≡ c.args.case.now.note.now.header → ⊥) c.args.case.now.claim.now c.args.e c.in-Some.f c.entry_node.result (sym c.in-Some.ensures) c.entry_node.ensures.node (c.is_elsewhere.ensures so) f to
