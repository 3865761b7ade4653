use Rattle.std.proofs.Common.{◌≡◌, ℕ, true, sym}
use Rattle.stack_laws.specs.Stacks.{IsDescending}
use Rattle.stack_tables.specs.Tables.{address, stacks_in, values_in}
use Rattle.stack_checks.proofs.Confirmed.{called_so}
use Rattle.stack_checks.proofs.edges.is_spared_called.Goals as goal

pub returns-in-Some : goal.returns-in-Some
returns-in-Some c so f j to up = called_so (λ (x : ℕ). ((stacks_in c.args.claim.now).spared j x ≡ true) × (more : ℕ) × IsDescending (values_in c.args.claim.now) (stacks_in c.args.claim.now) (address c.args.claim.now c.args.k) more) c.args.claim.now c.args.e c.in-Some.f c.entry_node.result (sym c.in-Some.ensures) c.entry_node.ensures.node (c.is_spared_to.ensures so j up) f to
