use Rattle.std.proofs.Common.{ℕ, refl, sym}
use Rattle.stack_tables.specs.Tables.{stacks_in, text_in, values_in}
use Rattle.walk_checks.specs.Walked.{at_of, cert, IsBackSo}
use Rattle.walk_checks.proofs.Cases.{called_so, led_so}
use Rattle.walk_checks.proofs.edges.comes_back_so.Goals as goal

pub returns-in-Some-Some : goal.returns-in-Some-Some
returns-in-Some-Some c so f b to at = called_so (λ (x : ℕ). IsBackSo (text_in c.args.case.now.claim.now) (values_in c.args.case.now.claim.now) (stacks_in c.args.case.now.claim.now) (cert c.args.case.now) c.args.case.now.note.now.header (at_of c.args.case.now c.args.k) x b) c.args.case.now.claim.now c.args.e c.in-Some-Some.f c.entry_node.result (sym c.in-Some-Some.ensures) c.entry_node.ensures.node
    (led_so (λ (y : ℕ). IsBackSo (text_in c.args.case.now.claim.now) (values_in c.args.case.now.claim.now) (stacks_in c.args.case.now.claim.now) (cert c.args.case.now) c.args.case.now.note.now.header (at_of c.args.case.now c.args.k) (at_of c.args.case.now c.entry_node.result) y) c.args.case.now.claim.now c.args.e c.in-Some-Some.n (c.in-Some-Some.ensures'.some c.in-Some-Some.n refl) (c.is_back_so.ensures so) b at) f to
