-- Scaffold: what the functions of a step say of lists, and what a monitor keeps.
use Rattle.std.specs.Prelude.{◌≡◌, ℕ, ◌+◌, ◌<◌, ◌≤◌, ◌&&◌, not, nat_lt, false, Bool, List, [], ◌∷◌, length, slice_index, Option, Some, None, option_map, if◌then◌else◌}
use Rattle.scale_base.specs.declared.endings.Kept.{Kept}
use Rattle.scale_base.specs.declared.endings.Kept.TheVariants.{BrokeBound, BrokeReturn, BrokeDepth}
use Rattle.scale_base.specs.declared.stepping.Move.{Move}
use Rattle.scale_base.specs.declared.stepping.Move.TheVariants.{Local, Call, Return}
use Rattle.scale_base.specs.declared.stepping.Stepped.{Stepped}
use Rattle.cost_theory.specs.Graph.{count_step, find_below}
use Rattle.loop_file.specs.declared.notes.LoopNote.{LoopNote}
use Rattle.loop_file.specs.Notes.{AreLoopNotes}
use Rattle.loop_file.specs.Kept.{note_at, in_extent, noted_loops}
use Rattle.graph_runs.specs.KeptRuns.{most_returns}
use Rattle.keep_monitor.specs.declared.headers.Header.{Header}
use Rattle.keep_monitor.specs.Headers.{AreSortedHeaders, sorted_header}
use Rattle.keep_monitor.specs.Watch.{loop_broken}

abbrev pub first_of : List ℕ → Option ℕ
first_of [] = None
first_of (r ∷ rs) = Some r

-- what a step breaks of the rules on calls and returns, after which these are the return addresses
abbrev pub broken_by : Stepped → Option (List ℕ) → Option Kept
broken_by x None = Some (BrokeReturn x.pc x.next)
broken_by x (Some returns) = if nat_lt most_returns (length returns) then Some (BrokeDepth x.pc) else None

-- the counts of all loops after a step from a source to an address
abbrev pub counts_after_step : List LoopNote → List ℕ → Option ℕ → ℕ → ℕ → ℕ
counts_after_step notes counts source next k = count_step (noted_loops notes) source (Some next) (λ j. slice_index counts j) k

-- the least loop whose count is above its bound then
abbrev pub loop_over : List LoopNote → List ℕ → Option ℕ → ℕ → Option ℕ
loop_over notes counts source next = find_below (length notes) (λ k. nat_lt (note_at notes k).bound
    (counts_after_step notes counts source next k))

-- whether a step leaves a loop's extent
abbrev pub leaves_note : Move → LoopNote → ℕ → ℕ → Bool
leaves_note Local note pc next = in_extent note pc && not (in_extent note next)
leaves_note Call note pc next = false
leaves_note Return note pc next = false

-- and that with a count below the least
abbrev pub is_left_early : LoopNote → Stepped → ℕ → Bool
is_left_early note x count = nat_lt count note.at_least && leaves_note x.moved note x.pc x.next

-- the least loop that a step leaves so
abbrev pub loop_left : List LoopNote → List ℕ → Stepped → Option ℕ
loop_left notes counts x = find_below (length notes) (λ k. is_left_early (note_at notes k) x (slice_index counts k))

-- the lesser of two numbers, where they are there
abbrev pub lesser_loop : Option ℕ → Option ℕ → Option ℕ
lesser_loop None other = other
lesser_loop (Some a) None = Some a
lesser_loop (Some a) (Some b) = Some (if nat_lt a b then a else b)

-- what a step breaks of the rules on loops. Loops are numbered from 1 there.
abbrev pub broken_loop : List LoopNote → List ℕ → Option ℕ → Stepped → Option Kept
broken_loop notes counts source x =
    option_map (λ k. BrokeBound (k + 1) (counts_after_step notes counts source x.next k))
    (loop_broken notes (counts_after_step notes counts source x.next) x)

-- those of the first n loops that have to turn before they are left, ascending
pub record AreTurning (notes : List LoopNote) (n : ℕ) (numbers : List ℕ) : Type 0 where
  pub within : (j : ℕ) → j < length numbers → slice_index numbers j < n
  pub rise : (i j : ℕ) → i < j → j < length numbers → slice_index numbers i < slice_index numbers j
  pub whole : (k : ℕ) → k < n → 0 < (note_at notes k).at_least → (j : ℕ) × (j < length numbers) × (slice_index numbers j ≡ k)

-- the count of a loop after a step to its header
abbrev pub count_then : LoopNote → Option ℕ → ℕ → ℕ
count_then note None count = 0
count_then note (Some v) count = if in_extent note v then count + 1 else 0

-- the same at a place of a list of loops
abbrev pub count_after_at : List LoopNote → List Header → List ℕ → Option ℕ → ℕ → ℕ
count_after_at notes group counts source j =
    count_then (note_at notes (sorted_header group j).number) source (slice_index counts (sorted_header group j).number)

abbrev pub is_over : List LoopNote → List Header → List ℕ → Option ℕ → ℕ → Bool
is_over notes group counts source j = nat_lt (note_at notes (sorted_header group j).number).bound
    (count_after_at notes group counts source j)

-- the counts are within the bounds of as many loops
pub record AreCounts (notes : List LoopNote) (counts : List ℕ) : Type 0 where
  pub size : length counts ≡ length notes
  pub bounded : (k : ℕ) → k < length notes → slice_index counts k ≤ (note_at notes k).bound

-- what a monitor keeps: the list of return addresses has room for as many as may be
pub record IsMonitor (notes : List LoopNote) (headers : List Header) (turning : List ℕ) (depth room : ℕ) (counts : List ℕ) : Type 0 where
  pub notes_fit : AreLoopNotes notes
  pub headers_fit : AreSortedHeaders notes headers
  pub turning_fit : AreTurning notes (length notes) turning
  pub counts_fit : AreCounts notes counts
  pub shallow : depth ≤ most_returns
  pub spare : most_returns ≤ room
