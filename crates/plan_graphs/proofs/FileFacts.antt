-- From the files to the program: what stops, and what goes on.
use Rattle.std.proofs.Common.{◌≡◌, ℕ, List, Result, Ok, Err}
use Rattle.scale_base.specs.declared.refusal.Refusal.{Refusal}
use Rattle.scale_base.specs.declared.refusal.Stop.{Stop}
use Rattle.scale_base.specs.declared.refusal.Stop.TheVariants.{Refused, Memory}
use Rattle.scale_base.specs.Answer.{AnswersBy, Stops}
use Rattle.program_sources.specs.declared.reading.Sources.{Sources}
use Rattle.program_sources.specs.Sources.{sources_of}
use Rattle.program_sources.proofs.Laws.{sources_parts}
use Rattle.scaler.proofs.Laws.{held_answer, held_stops}
use Rattle.plan_graphs.specs.declared.plan.PlanGraph.{PlanGraph}
use Rattle.plan_graphs.specs.Program.{IsDrawnProgram, IsPlanDrawn}

-- what is answered, as it is seen
abbrev pub DrawnAnswers : Result PlanGraph Stop → (Result PlanGraph Refusal → Type 0) → Type 0
DrawnAnswers result meant = AnswersBy (λ x. x) result meant

pub files_stop : (image machine loops : List ℕ) (stop : Stop) → Stops stop (sources_of image machine loops) → DrawnAnswers (Err stop) (IsPlanDrawn image machine loops)
files_stop image machine loops (Refused refusal) h = held_stops image machine loops (Refused refusal) h
files_stop image machine loops Memory h = tt

pub program_answers : (image machine loops : List ℕ) (s : Sources) (result : Result PlanGraph Stop) → sources_of image machine loops ≡ Ok s → DrawnAnswers result (IsDrawnProgram s.power s.view s.notes)
    → DrawnAnswers result (IsPlanDrawn image machine loops)
program_answers image machine loops s (Ok plan) e h =
    let are = sources_parts image machine loops s e in
    record { power = s.power; original = s.view; notes = s.notes; power_is = are.power_is; original_is = are.view_is; unscaled = are.unscaled; notes_are = are.notes_are; program = h }
program_answers image machine loops s (Err (Refused refusal)) e h = held_answer image machine loops s (Err refusal) e h
program_answers image machine loops s (Err Memory) e h = tt
