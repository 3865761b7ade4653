use Rattle.std.proofs.Common.{ℕ, sym}
use Rattle.stack_laws.specs.Stacks.{AreEntered}
use Rattle.stack_tables.specs.Tables.{address, stacks_in, values_in}
use Rattle.stack_checks.proofs.Confirmed.{called_so}
use Rattle.stack_checks.proofs.edges.is_call_checked.Goals as goal

pub returns-in-Some : goal.returns-in-Some
returns-in-Some c so f to = called_so (λ (x : ℕ). AreEntered (values_in c.args.claim.now) (stacks_in c.args.claim.now) c.args.i (address c.args.claim.now c.args.k) x) c.args.claim.now c.args.e c.in-Some.f c.entry_node.result (sym c.in-Some.ensures) c.entry_node.ensures.node (c.is_way_entered.ensures so) f to
