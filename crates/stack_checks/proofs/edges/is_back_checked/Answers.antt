use Rattle.std.proofs.Common.{ℕ, refl, sym}
use Rattle.stack_laws.specs.Stacks.{AreBack}
use Rattle.stack_tables.specs.Tables.{address, stacks_in, text_in, values_in}
use Rattle.stack_checks.proofs.Confirmed.{called_so, led_so}
use Rattle.stack_checks.proofs.edges.is_back_checked.Goals as goal

pub returns-in-Some-Some : goal.returns-in-Some-Some
returns-in-Some-Some c so f b to at = called_so (λ (x : ℕ). AreBack (text_in c.args.claim.now) (values_in c.args.claim.now) (stacks_in c.args.claim.now) (address c.args.claim.now c.args.k) x b) c.args.claim.now c.args.e c.in-Some-Some.f c.entry_node.result (sym c.in-Some-Some.ensures) c.entry_node.ensures.node
    (led_so (λ (y : ℕ). AreBack (text_in c.args.claim.now) (values_in c.args.claim.now) (stacks_in c.args.claim.now) (address c.args.claim.now c.args.k) (address c.args.claim.now c.entry_node.result) y) c.args.claim.now c.args.e c.in-Some-Some.n (c.in-Some-Some.ensures'.some c.in-Some-Some.n refl) (c.is_way_back.ensures so) b at) f to
