use Rattle.std.proofs.Common.{ℕ, sym}
use Rattle.stack_tables.specs.Tables.{stacks_in, text_in, values_in}
use Rattle.lower_bounds.specs.LowerTables.{at_of, cert, IsCalledSo}
use Rattle.lower_bounds.proofs.Cases.{called_so}
use Rattle.lower_bounds.proofs.edges.calls_so.Goals as goal

pub returns-in-Some : goal.returns-in-Some
returns-in-Some c so f to = called_so (λ (x : ℕ). IsCalledSo (text_in c.args.case.now.claim.now) (values_in c.args.case.now.claim.now) (stacks_in c.args.case.now.claim.now) (cert c.args.case.now) (at_of c.args.case.now c.args.k) x) c.args.case.now.claim.now c.args.e c.in-Some.f c.entry_node.result (sym c.in-Some.ensures) c.entry_node.ensures.node (c.is_called_so.ensures so) f to
