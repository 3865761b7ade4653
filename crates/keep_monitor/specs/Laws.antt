-- Scaffold: watching the run of an image tells whether it is kept.
use Rattle.std.specs.Prelude.{◌≡◌, ℕ, ◌↔◌, List}
use Rattle.scale_base.specs.declared.endings.Kept.TheVariants as kinds
use Rattle.scale_base.specs.Image.{Image}
use Rattle.loop_file.specs.declared.notes.LoopNote.{LoopNote}
use Rattle.graph_runs.specs.KeptRuns.{IsKeptUpTo}
use Rattle.keep_monitor.specs.Watch.{watched_at}
use Rattle.loop_file.specs.Kept.{noted_loops}

-- watching the first n steps of the run of an image finds nothing broken exactly where the run is kept up to n
abbrev pub WatchedRunsAreKept : Type 0
WatchedRunsAreKept = (image : Image) (levels : ℕ) (input : List ℕ) (notes : List LoopNote) (n : ℕ) →
    ((watched_at image levels input notes n).kept ≡ kinds.Kept) ↔ IsKeptUpTo image levels input (noted_loops notes) n
