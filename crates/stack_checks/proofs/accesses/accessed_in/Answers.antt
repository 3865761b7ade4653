use Rattle.std.proofs.Common.{ℕ, Some, ap, sym, ◌∙◌}
use Rattle.bound_laws.specs.Values.{sum_with}
use Rattle.stack_checks.specs.Checked.{from, stacks_along, values_along}
use Rattle.stack_checks.proofs.Reaching.{accessed_so}
use Rattle.stack_checks.proofs.accesses.accessed_in.Goals as goal

pub returns-in-Some-clause-place : goal.returns-in-Some-clause-place
returns-in-Some-clause-place c =
    accessed_so (values_along c.args.way.now) (stacks_along c.args.way.now).areas c.areas.result.now c.areas.ensures.areas c.args.way.now.instr (from c.args.way.now) c.args.r c.args.more c.requires.access c.in-Some.held
    (sym c.held_at.ensures.held ∙ c.in-Some.is) c.sum_with.result (c.sum_with.ensures.sum ∙ ap (λ (n : ℕ). sum_with (Some c.in-Some.held) n) c.from.ensures) c.cut_of.result c.cut_of.ensures.cut
