use Rattle.std.proofs.Common.{◌≡◌, ℕ, Some, refl}
use Rattle.scale_base.specs.declared.instruction.Instr.{Instr}
use Rattle.code_text.specs.Text.{instr_at}
use Rattle.stack_tables.specs.Tables.{text_in}
use Rattle.lower_bounds.specs.LowerTables.{at_of, IsStepAt}
use Rattle.lower_bounds.proofs.Cases.{led_so}
use Rattle.lower_bounds.proofs.edges.steps_so.Goals as goal

pub returns-in-None-Some : goal.returns-in-None-Some
returns-in-None-Some c so b to none = led_so (λ (x : ℕ). (i : Instr) → instr_at (text_in c.args.case.now.claim.now) (at_of c.args.case.now c.args.k) ≡ Some i → IsStepAt c.args.case.now (at_of c.args.case.now c.args.k) i x) c.args.case.now.claim.now c.args.e c.in-None-Some.n (c.in-None-Some.ensures'.some c.in-None-Some.n refl) (c.is_step_so.ensures so) b to
