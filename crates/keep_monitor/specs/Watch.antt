-- Watching the steps of a run: whether they keep the bounds of loops and the return addresses, and what they broke first.
use Rattle.std.specs.Prelude.{ℕ, zero, suc, ◌+◌, nat_lt, List, [], length, map, replicate, slice_index, Option, Some, None, if◌then◌else◌}
use Rattle.std.specs.List.{range_with_len}
use Rattle.scale_base.specs.declared.endings.Kept.{Kept}
use Rattle.scale_base.specs.declared.endings.Kept.TheVariants.{BrokeBound, BrokeReturn, BrokeDepth}
use Rattle.scale_base.specs.declared.endings.Kept.TheVariants as kinds
use Rattle.scale_base.specs.declared.stepping.Stepped.{Stepped}
use Rattle.scale_base.specs.declared.stepping.StepEnd.{StepEnd}
use Rattle.scale_base.specs.declared.stepping.StepEnd.TheVariants.{Went, Exited, Trapped}
use Rattle.scale_base.specs.Image.{Image}
use Rattle.scale_base.specs.State.{Setting, State}
use Rattle.scale_base.specs.Step.{step}
use Rattle.scale_base.specs.Run.{Standing, GoesOn, HasExited, HasTrapped, run, setting_of, start_of}
use Rattle.cost_theory.specs.Graph.{find_below}
use Rattle.graph_runs.specs.ReturnAddresses.{returns_after}
use Rattle.graph_runs.specs.KeptSteps.{counts_after, breaks}
use Rattle.loop_file.specs.declared.notes.LoopNote.{LoopNote}
use Rattle.loop_file.specs.Kept.{noted_loops}
use Rattle.graph_runs.specs.KeptRuns.{most_returns}

-- what is carried along: the return addresses, the last one first, a count for each loop, and what was broken
pub record Watched : Type 0 where
  pub notes : List LoopNote
  pub returns : List ℕ
  pub counts : List ℕ
  pub kept : Kept

abbrev pub watched_first : List LoopNote → Watched
watched_first notes = record { notes = notes; returns = []; counts = replicate (length notes) 0; kept = kinds.Kept }

-- The counts after a step, by loop. A step to a loop's header counts where its source is in the loop's extent, and else the count
-- is set to 0.
abbrev pub next_counts : Watched → Stepped → ℕ → ℕ
next_counts w x = counts_after (noted_loops w.notes) (record { returns = w.returns; counts = λ k. slice_index w.counts k }) x

-- The least loop whose bounds a step breaks, after which these are the counts: the count is above the bound, or the step leaves the loop's
-- extent and the count is below the least.
abbrev pub loop_broken : List LoopNote → (ℕ → ℕ) → Stepped → Option ℕ
loop_broken notes counts x = find_below (length notes) (breaks (noted_loops notes) counts x)

-- A step that keeps the rules on calls and returns, after which these are the return addresses. In what is told, loops are
-- numbered from 1.
abbrev pub watch_loops : Watched → Stepped → List ℕ → Option ℕ → Watched
watch_loops w x returns None = record w { returns = returns; counts = map (next_counts w x) (range_with_len 0 (length w.notes)) }
watch_loops w x returns (Some k) = record w { kept = BrokeBound (k + 1) (next_counts w x k) }

-- the rules on calls and returns come first
abbrev pub watch_returns : Watched → Stepped → Option (List ℕ) → Watched
watch_returns w x None = record w { kept = BrokeReturn x.pc x.next }
watch_returns w x (Some returns) =
    if nat_lt most_returns (length returns) then record w { kept = BrokeDepth x.pc }
    else watch_loops w x returns (loop_broken w.notes (next_counts w x) x)

-- a step after what was kept or broken so far: nothing changes after a break
abbrev pub watch_after : Kept → Watched → Stepped → Watched
watch_after kinds.Kept w x = watch_returns w x (returns_after w.returns x)
watch_after (BrokeBound loop_no count) w x = w
watch_after (BrokeReturn at to) w x = w
watch_after (BrokeDepth at) w x = w

-- one step more
unfoldable pub watch : Watched → Stepped → Watched
watch w x = watch_after w.kept w x

-- a step that exits or traps changes nothing
abbrev pub watch_end : Watched → Standing → StepEnd → Watched
watch_end w GoesOn (Went x) = watch w x
watch_end w GoesOn (Exited x status) = w
watch_end w GoesOn (Trapped trap) = w
watch_end w (HasExited status) end = w
watch_end w (HasTrapped trap) end = w

-- what watching the first n steps from a state gives
unfoldable pub watched_from : Setting → State → List LoopNote → ℕ → Watched
watched_from env s notes zero = watched_first notes
watched_from env s notes (suc n) = watch_end (watched_from env s notes n) (run env s n).standing (step env (run env s n).state).end

-- the same for the run of an image on a machine of so many levels, with an input
abbrev pub watched_at : Image → ℕ → List ℕ → List LoopNote → ℕ → Watched
watched_at image levels input notes n = watched_from (setting_of image levels input) (start_of image levels) notes n
