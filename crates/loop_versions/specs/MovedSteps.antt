-- Scaffold: an instruction that reads no pc does the same at another address.
use Rattle.std.specs.Prelude.{◌≡◌, ℕ, true, false, Some}
use Rattle.scale_base.specs.declared.instruction.Instr.{Instr}
use Rattle.scale_base.specs.declared.stepping.StepEnd.{StepEnd}
use Rattle.scale_base.specs.declared.stepping.StepEnd.TheVariants.{Went, Exited, Trapped}
use Rattle.scale_base.specs.Arith.{plus}
use Rattle.scale_base.specs.Layout.{is_keyed}
use Rattle.scale_base.specs.State.{Setting, State}
use Rattle.scale_base.specs.Step.{Outcome, performs}
use Rattle.loop_versions.specs.Fitting.{is_plain}

-- the outcome with another address of the instruction: the one behind it follows, or none
abbrev pub moved_by_end : ℕ → StepEnd → State → Outcome
moved_by_end pc (Went x) u = record { end = Went (record x { pc = pc; next = plus pc 4 }); state = record u { pc = plus pc 4 } }
moved_by_end pc (Exited x status) u = record { end = Exited (record x { pc = pc; next = pc }) status; state = record u { pc = pc } }
moved_by_end pc (Trapped trap) u = record { end = Trapped trap; state = record u { pc = pc } }

abbrev pub moved_to : ℕ → Outcome → Outcome
moved_to pc o = moved_by_end pc o.end o.state

-- Outside the keyed segment a plain instruction does at another address what it does where it stands, but that the next address is another.
abbrev pub PlainInstructionsMove : Type 0
PlainInstructionsMove = (env : Setting) (s : State) (pc : ℕ) (i : Instr) → is_plain (Some i) ≡ true →
    is_keyed env.layout s.pc ≡ false → is_keyed env.layout pc ≡ false →
    performs env (record s { pc = pc }) i i ≡ moved_to pc (performs env s i i)
