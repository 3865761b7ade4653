-- Scaffold: watching a run by the notes of its loops, and beside that how many back edges its loops take where their bounds are the greatest: the steps
-- are watched by the relaxed notes too, and the most that a loop's count comes to is kept.
use Rattle.std.specs.Prelude.{◌≡◌, ℕ, zero, suc, ◌==◌, nat_lt, max, List, [], length, map, slice_index, Option, Some, None, if◌then◌else◌}
use Rattle.std.specs.List.{range_with_len}
use Rattle.scale_base.specs.declared.endings.Kept.{Kept}
use Rattle.scale_base.specs.declared.endings.Kept.TheVariants.{BrokeBound, BrokeReturn, BrokeDepth}
use Rattle.scale_base.specs.declared.endings.Kept.TheVariants as kinds
use Rattle.scale_base.specs.declared.stepping.Stepped.{Stepped}
use Rattle.scale_base.specs.declared.stepping.StepEnd.{StepEnd}
use Rattle.scale_base.specs.declared.stepping.StepEnd.TheVariants.{Went, Exited, Trapped}
use Rattle.scale_base.specs.Image.{Image}
use Rattle.scale_base.specs.State.{Setting, State}
use Rattle.scale_base.specs.Step.{step}
use Rattle.scale_base.specs.Run.{Standing, GoesOn, HasExited, HasTrapped, run, setting_of, start_of}
use Rattle.graph_runs.specs.ReturnAddresses.{returns_after}
use Rattle.graph_runs.specs.KeptRuns.{most_returns}
use Rattle.loop_file.specs.declared.notes.LoopNote.{LoopNote}
use Rattle.loop_file.specs.Notes.{AreLoopNotes, relaxed_note}
use Rattle.loop_file.specs.Kept.{note_at}
use Rattle.keep_monitor.specs.declared.headers.Header.{Header}
use Rattle.keep_monitor.specs.Steps.{AreTurning, AreCounts, IsMonitor}
use Rattle.keep_monitor.specs.Watch.{Watched, watched_first, watch, next_counts}

-- what is carried along: the notes, whether the run is kept by them, what watching by the relaxed notes gives, and the most of each loop
pub record Counted : Type 0 where
  pub notes : List LoopNote
  pub kept : Kept
  pub relaxed : Watched
  pub most : List ℕ

-- before the first step of a run, where the runs before it gave these numbers
abbrev pub counted_first : List LoopNote → List ℕ → Counted
counted_first notes most = record { notes = notes; kept = kinds.Kept; relaxed = watched_first (map relaxed_note notes); most = most }

-- The most of a loop after a step that keeps the rules on calls and returns: a step to the loop's header may raise it. A count that is above
-- the bound is reached too.
abbrev pub raised_at : Watched → List ℕ → Stepped → ℕ → ℕ
raised_at w most x k = if x.next == (note_at w.notes k).header then max (slice_index most k) (next_counts w x k) else slice_index most k

-- the same of each loop, by the return addresses after the step
abbrev pub raised_most : Watched → List ℕ → Stepped → Option (List ℕ) → List ℕ
raised_most w most x None = most
raised_most w most x (Some returns) = if nat_lt most_returns (length returns) then most else map (raised_at w most x)
    (range_with_len 0 (length w.notes))

-- whether the run is kept by other notes of the same loops, where these are the return addresses and the counts
abbrev pub judged : List LoopNote → Kept → Watched → Stepped → Kept
judged notes kinds.Kept w x = (watch (record w { notes = notes }) x).kept
judged notes (BrokeBound loop_no count) w x = BrokeBound loop_no count
judged notes (BrokeReturn at to) w x = BrokeReturn at to
judged notes (BrokeDepth at) w x = BrokeDepth at

-- a step after what the relaxed notes found so far: nothing changes after a break of them
abbrev pub count_after_kept : Kept → Counted → Stepped → Counted
count_after_kept kinds.Kept c x = record {
  notes = c.notes;
  kept = judged c.notes c.kept c.relaxed x;
  relaxed = watch c.relaxed x;
  most = raised_most c.relaxed c.most x (returns_after c.relaxed.returns x);
}
count_after_kept (BrokeBound loop_no count) c x = c
count_after_kept (BrokeReturn at to) c x = c
count_after_kept (BrokeDepth at) c x = c

-- one step more
unfoldable pub counted : Counted → Stepped → Counted
counted c x = count_after_kept c.relaxed.kept c x

-- a step that exits or traps changes nothing
abbrev pub count_end : Counted → Standing → StepEnd → Counted
count_end c GoesOn (Went x) = counted c x
count_end c GoesOn (Exited x status) = c
count_end c GoesOn (Trapped trap) = c
count_end c (HasExited status) end = c
count_end c (HasTrapped trap) end = c

-- what counting over the first n steps from a state gives
unfoldable pub counted_from : Setting → State → List LoopNote → List ℕ → ℕ → Counted
counted_from env s notes most zero = counted_first notes most
counted_from env s notes most (suc n) = count_end (counted_from env s notes most n) (run env s n).standing
    (step env (run env s n).state).end

-- the same for the run of an image on a machine of so many levels, with an input
abbrev pub counted_run : Image → ℕ → List ℕ → List LoopNote → List ℕ → ℕ → Counted
counted_run image levels input notes most n = counted_from (setting_of image levels input) (start_of image levels) notes most n

-- what a counter of loops keeps: it watches by the relaxed notes, and as long as the run is kept by the notes the counts are within their bounds
pub record IsCounterOfLoops (notes relaxed : List LoopNote) (headers : List Header) (turning : List ℕ) (depth room : ℕ)
    (counts most : List ℕ) (kept : Kept) : Type 0 where
  pub relaxed_is : relaxed ≡ map relaxed_note notes
  pub notes_fit : AreLoopNotes notes
  pub monitor : IsMonitor relaxed headers [] depth room counts
  pub turning_fit : AreTurning notes (length notes) turning
  pub size : length most ≡ length notes
  pub bounded : kept ≡ kinds.Kept → AreCounts notes counts
