-- The step of an instruction that is fetched.
use Rattle.std.proofs.Common.{◌≡◌, true, Some, ap, ◌∙◌}
use Rattle.std.proofs.lemmas.Bool.{cond-true}
use Rattle.scale_base.specs.declared.instruction.Instr.{Instr}
use Rattle.scale_base.specs.Reading.{instr_of}
use Rattle.scale_base.specs.Layout.{can_fetch}
use Rattle.scale_base.specs.State.{Setting, State, word_at}
use Rattle.scale_base.specs.Step.{stops, performs, executes, step}
use Rattle.scale_base.specs.declared.stepping.TrapKind.TheVariants as traps

-- the step of an instruction that is fetched
pub step_performs : (env : Setting) (s : State) (i : Instr) → can_fetch env.layout s.pc ≡ true → instr_of (word_at s.bytes s.pc) ≡ Some i → step env s ≡ performs env s i i
unfolding step
step_performs env s i fetched read =
    cond-true (can_fetch env.layout s.pc) (executes env s (instr_of (word_at s.bytes s.pc))) (stops s traps.FetchFault s.pc) fetched
    ∙ ap (executes env s) read
