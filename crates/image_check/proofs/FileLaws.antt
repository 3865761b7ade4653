-- From the files to the verdict: what stops, and what goes on.
use Rattle.std.proofs.Common.{◌≡◌, ℕ, List, Result, Ok, Err}
use Rattle.scale_base.specs.declared.refusal.Refusal.{Refusal}
use Rattle.scale_base.specs.declared.refusal.Stop.{Stop}
use Rattle.scale_base.specs.declared.verdict.Verdict.{Verdict}
use Rattle.scale_base.specs.declared.verdict.Why.{Why}
use Rattle.scale_base.specs.declared.verdict.Why.TheVariants as why
use Rattle.scale_base.specs.Answer.{AnswersBy, Stops}
use Rattle.scale_base.specs.Image.{Image}
use Rattle.power_model.specs.Numbers.{PowerModel}
use Rattle.flow_graph.specs.FlowGraph.{FlowGraph}
use Rattle.loop_forest.specs.Tree.{LoopView, loops}
use Rattle.foreign_scan.specs.Scanned.{IsFirstWhy}
use Rattle.program_sources.specs.declared.reading.Sources.{Sources}
use Rattle.program_sources.specs.Sources.{sources_of}
use Rattle.program_sources.proofs.Laws.{answers_go, answers_stop}
use Rattle.image_check.specs.Checked.{IsFirstCause, IsProgramChecked, IsChecked}

-- ---- causes

-- a cause that a scan finds first is the first
pub first_cause : (power : PowerModel) (original foreign : Image) (v : FlowGraph) (tree : LoopView) (cause : Why) → IsFirstWhy original foreign v.code (loops v tree) cause → IsFirstCause power original foreign v tree cause
first_cause power original foreign v tree (why.Image number) h = h
first_cause power original foreign v tree why.NoKey h = h
first_cause power original foreign v tree why.Layout h = h
first_cause power original foreign v tree (why.Byte at) h = h
first_cause power original foreign v tree (why.Patch at) h = h
first_cause power original foreign v tree (why.Stub at) h = h
first_cause power original foreign v tree (why.Counter counter) h = absurd h
first_cause power original foreign v tree why.TooLong h = absurd h
first_cause power original foreign v tree (why.Start level levels) h = absurd h
first_cause power original foreign v tree (why.TooSlow need have) h = absurd h
first_cause power original foreign v tree (why.Level at from) h = absurd h

-- ---- the files

abbrev pub CheckAnswers : Result Verdict Stop → (Result Verdict Refusal → Type 0) → Type 0
CheckAnswers result meant = AnswersBy {X = Verdict} {Y = Verdict} (λ v. v) result meant

pub files_stop : (image foreign machine loop_file : List ℕ) (stop : Stop) → Stops stop (sources_of image machine loop_file) → CheckAnswers (Err stop) (IsChecked image foreign machine loop_file)
unfolding IsChecked
files_stop image foreign machine loop_file stop h = answers_stop {X = Verdict} {B = Verdict} (λ v. v) (sources_of image machine loop_file) _ stop h

pub program_answers : (image foreign machine loop_file : List ℕ) (s : Sources) (result : Result Verdict Stop) → sources_of image machine loop_file ≡ Ok s
    → CheckAnswers result (IsProgramChecked s.power s.view foreign s.notes) → CheckAnswers result (IsChecked image foreign machine loop_file)
unfolding IsChecked
program_answers image foreign machine loop_file s result e h = answers_go {X = Verdict} {B = Verdict} (λ v. v) (sources_of image machine loop_file) s _ result e h
