-- The counts that the steps of a run reach.
use Rattle.std.specs.Prelude.{◌≡◌, ℕ, ◌≤◌, List, length, Some}
use Rattle.scale_base.specs.declared.endings.Kept.TheVariants as kinds
use Rattle.scale_base.specs.declared.stepping.Stepped.{Stepped}
use Rattle.scale_base.specs.declared.stepping.StepEnd.TheVariants.{Went}
use Rattle.scale_base.specs.State.{Setting, State}
use Rattle.scale_base.specs.Step.{step}
use Rattle.scale_base.specs.Run.{GoesOn, run}
use Rattle.graph_runs.specs.KeptRuns.{most_returns}
use Rattle.graph_runs.specs.ReturnAddresses.{returns_after}
use Rattle.loop_file.specs.declared.notes.LoopNote.{LoopNote}
use Rattle.keep_monitor.specs.Watch.{watched_from, next_counts}

-- The step after the first n from a state reaches this count of a loop: the run goes on and has broken nothing of the notes, and the step keeps the rules on
-- calls and returns. A count above the bound of the loop is reached by the step that breaks it.
pub record ReachesCount (env : Setting) (s : State) (notes : List LoopNote) (n k count : ℕ) : Type 0 where
  pub next : Stepped
  pub returns : List ℕ
  pub goes_on : (run env s n).standing ≡ GoesOn
  pub next_is : (step env (run env s n).state).end ≡ Went next
  pub kept : (watched_from env s notes n).kept ≡ kinds.Kept
  pub returns_are : returns_after (watched_from env s notes n).returns next ≡ Some returns
  pub shallow : length returns ≤ most_returns
  pub count_is : count ≡ next_counts (watched_from env s notes n) next k
