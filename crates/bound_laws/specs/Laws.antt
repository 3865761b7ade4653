-- The laws of loop bounds, as statements for the contracts of functions.
use Rattle.std.specs.Prelude.{◌≡◌, ℕ, ◌+◌, ◌*◌, ◌%◌, ◌^◌, ◌<◌, ◌≤◌, ◌⊎◌, true, replicate, slice_set, List, length, Some}
use Rattle.scale_base.specs.declared.instruction.Instr.{Instr}
use Rattle.scale_base.specs.declared.stepping.Stepped.{Stepped}
use Rattle.scale_base.specs.declared.stepping.StepEnd.TheVariants.{Went}
use Rattle.scale_base.specs.Reading.{instr_of}
use Rattle.scale_base.specs.State.{Setting, State, reg, word_at}
use Rattle.scale_base.specs.Step.{step}
use Rattle.scale_base.specs.Run.{run, STACK_POINTER}
use Rattle.cost_theory.specs.Graph.{Loops}
use Rattle.cost_theory.specs.Reached.{Code}
use Rattle.code_text.specs.Text.{Text}
use Rattle.code_text.specs.TextGraph.{text_graph, IsReachedCode}
use Rattle.graph_runs.specs.KeptSteps.{Carried}
use Rattle.graph_runs.specs.KeptRuns.{kept_at}
use Rattle.graph_runs.specs.RunTransitions.{returns_so}
use Rattle.graph_runs.specs.Laws.{IsStartOver}
use Rattle.bound_laws.specs.Registers.{Measure, measured, keeps, effect}
use Rattle.bound_laws.specs.Turning.{unasked, with_bounds, Certificate, IsCertificate, StaysWithin, HasBound}

-- An instruction that leaves a register leaves it, however its step ends.
abbrev pub StepsLeaveRegisters : Type 0
StepsLeaveRegisters = (env : Setting) (s : State) (i : Instr) (r : ℕ) → instr_of (word_at s.bytes s.pc) ≡ Some i → keeps r i ≡ true →
    reg (step env s).state.regs r ≡ reg s.regs r

-- A step adds the effect of its instruction to a measure of registers.
abbrev pub StepsAddEffects : Type 0
StepsAddEffects = (env : Setting) (s : State) (x : Stepped) (i : Instr) (m : Measure) (e : ℕ) → instr_of (word_at s.bytes s.pc) ≡ Some i →
    (step env s).end ≡ Went x →
    m.register < length s.regs → m.other < length s.regs → effect m i ≡ Some e →
    measured m (step env s).state.regs ≡ (measured m s.regs + e) % 2 ^ 32

-- As long as the returns of a run go back to their calls, a loop with a certificate turns no more often than the width allows.
abbrev pub CertificatesBoundTurns : Type 0
CertificatesBoundTurns = (t : Text) (env : Setting) (s : State) (code : Code) (l : Loops) (k : ℕ) (c : Certificate) → IsStartOver t env s →
    IsReachedCode t code →
    IsCertificate t (text_graph t code) (l.header k) (l.inside k) c → StaysWithin env s l k c → (n : ℕ) (d : Carried) →
    kept_at env s (unasked l) n ≡ Some d → d.counts k * c.least ≤ c.width

-- So a run whose returns go back to their calls keeps all loops that have bounds so, where none has to turn before it is left.
abbrev pub BoundsAreKeptByReturns : Type 0
BoundsAreKeptByReturns = (t : Text) (env : Setting) (s : State) (code : Code) (l : Loops) → IsStartOver t env s → IsReachedCode t code →
    ((k : ℕ) → k < l.loops → HasBound t env s (text_graph t code) l k × (l.least_trips k ≡ 0)) → (n : ℕ) (d : Carried) →
    kept_at env s (unasked l) n ≡ Some d → kept_at env s l n ≡ Some d

-- And a run that is kept by other bounds is kept by these, where each loop has a bound so or the other one is no greater: no run breaks a
-- bound that is found so before it breaks a return address or a bound of another loop.
abbrev pub FoundBoundsAreKept : Type 0
FoundBoundsAreKept = (t : Text) (env : Setting) (s : State) (code : Code) (l : Loops) (bounds : ℕ → ℕ) → IsStartOver t env s →
    IsReachedCode t code →
    ((k : ℕ) → k < l.loops → HasBound t env s (text_graph t code) l k ⊎ (bounds k ≤ l.bound k)) → (n : ℕ) (d : Carried) →
    kept_at env s (with_bounds l bounds) n ≡ Some d → kept_at env s l n ≡ Some d

-- A run whose returns go back to their calls is one that is kept by loops of which none is asked about.
abbrev pub ReturnsAreKept : Type 0
ReturnsAreKept = (env : Setting) (s : State) (l : Loops) (n : ℕ) (rs : List ℕ) → returns_so (run env s n).steps ≡ Some rs → (d : Carried) ×
    (kept_at env s (unasked l) n ≡ Some d) × (d.returns ≡ rs)

-- The registers at the start of an image's run.
abbrev pub starting_registers : List ℕ
starting_registers = slice_set (replicate 32 0) 2 STACK_POINTER
