-- What `rewrite` gives: the image with stubs, which lower its level where what is left of the worst case allows it, and which starts at the slowest level at
-- which its worst case, stubs and all, is in time.
-- It is a relation, as what `hold` gives.
use Rattle.std.specs.Prelude.{◌≡◌, ◌⊎◌, ℕ, ◌<◌, ◌≤◌, List, Some, None, Result, Err}
use Rattle.scale_base.specs.declared.limits.TheConstants.{CYCLE_LIMIT}
use Rattle.scale_base.specs.declared.refusal.Refusal.{Refusal}
use Rattle.scale_base.specs.declared.refusal.Refusal.TheVariants.{DeadlineMissed, TooLong}
use Rattle.scale_base.specs.declared.summary.Summary.{Summary}
use Rattle.scale_base.specs.Image.{Image}
use Rattle.power_model.specs.Numbers.{PowerModel}
use Rattle.power_model.specs.Price.{time_at}
use Rattle.power_model.specs.Slowest.{slowest_of, fastest}
use Rattle.loop_file.specs.declared.notes.LoopNote.{LoopNote}
use Rattle.cost_theory.specs.Worst.{Numbers}
use Rattle.cycle_laws.specs.Charged.{Charged}
use Rattle.flow_graph.specs.FlowGraph.{FlowGraph}
use Rattle.loop_forest.specs.Tree.{LoopView}
use Rattle.stub_writer.specs.Stubs.{Site, out_of_reach}
use Rattle.answer_parts.specs.Parts.{Then}
use Rattle.program_sources.specs.Sources.{sources_of}
use Rattle.marked_images.specs.Refused.{IsCodeRefused, IsLoopRefused, IsCounterRefused}
use Rattle.marked_images.specs.Stored.{rewritten_summary, unless_out_of_reach}
use Rattle.rewritten_runs.specs.Stubs.{IsWeighed, HasStubs, rewritten_file, marks_by_slack}

-- ---- what the program of an image and its loops give

-- the worst cycles under the stored weights are more than 2^48
pub record IsTooLong (power : PowerModel) (image : Image) (notes : List LoopNote) (answer : Result (List ℕ × Summary) Refusal)
    : Type 0 where
  pub code : FlowGraph
  pub tree : LoopView
  pub plain : Numbers
  pub stored : Numbers
  pub weighed : IsWeighed power image notes code tree plain stored
  pub long : CYCLE_LIMIT < stored.worst 0
  pub answer_is : answer ≡ Err TooLong

-- they are in range, and even at the fastest level too late
pub record IsTooLate (power : PowerModel) (image : Image) (notes : List LoopNote) (answer : Result (List ℕ × Summary) Refusal)
    : Type 0 where
  pub code : FlowGraph
  pub tree : LoopView
  pub plain : Numbers
  pub stored : Numbers
  pub weighed : IsWeighed power image notes code tree plain stored
  pub short : stored.worst 0 ≤ CYCLE_LIMIT
  pub late : slowest_of power (stored.worst 0) ≡ None
  pub answer_is : answer ≡ Err (DeadlineMissed (time_at power (fastest power) (stored.worst 0)) power.deadline)

-- they are in time from a starting level on: the program is rewritten, unless a stub is out of reach
pub record IsProgramRewritten (power : PowerModel) (image : Image) (notes : List LoopNote) (answer : Result (List ℕ × Summary) Refusal)
    : Type 0 where
  pub code : FlowGraph
  pub tree : LoopView
  pub plain : Numbers
  pub stored : Numbers
  pub extra : Numbers
  pub least : Charged
  pub sites : List Site
  pub base : ℕ
  pub start : ℕ
  pub weighed : IsWeighed power image notes code tree plain stored
  pub short : stored.worst 0 ≤ CYCLE_LIMIT
  pub slow : slowest_of power (stored.worst 0) ≡ Some start
  pub stubs : HasStubs power image code tree plain stored extra least sites base
  pub answer_is : answer ≡ unless_out_of_reach (out_of_reach base sites) (
    rewritten_file image sites base start,
    rewritten_summary power code (marks_by_slack power image code tree plain) start
        (stored.worst 0) (extra.worst 0) sites,
  )

abbrev pub IsRewrittenProgram : PowerModel → Image → List LoopNote → Result (List ℕ × Summary) Refusal → Type 0
IsRewrittenProgram power image notes answer =
    IsCodeRefused image answer ⊎ (IsLoopRefused image notes answer ⊎ (IsCounterRefused image notes answer
    ⊎ (IsTooLong power image notes answer ⊎ (IsTooLate power image notes answer ⊎ IsProgramRewritten power image notes answer))))

-- ---- what the files give

-- The stored bytes and the summary, or the first refusal: of the machine file, of the image, of a keyed segment, of the loop file, of the code, of its loops, of
-- loops that can't be counted, of too many of them, of too many worst cycles, of the deadline, and of a stub that is out of reach.
unfoldable pub IsRewritten : List ℕ → List ℕ → List ℕ → Result (List ℕ × Summary) Refusal → Type 0
IsRewritten image machine loops answer =
    Then (sources_of image machine loops) (λ s. IsRewrittenProgram s.power s.view s.notes) answer
