-- What `pace` gives: the image with stubs on the edges that are named and on those of counted loops, whose tables keep budgets, and which starts at the slowest level at which
-- its worst case, stubs and all, is in time. A switch may stand on an edge without slack: the time that the starting level leaves before the deadline is lent to the levels below,
-- all of it to the lowest one, and a share of it to those between.
-- It is a relation, as what `rewrite` gives. A site that names no edge of a branch or of a jump of the reached code, or one that leaves a counted loop or is a back edge of a
-- tallied one, changes nothing; and nor does an address among `tallied` at which no loop has its header.
use Rattle.std.specs.Prelude.{◌≡◌, ◌⊎◌, ℕ, ◌+◌, ◌-◌, ◌*◌, ◌/◌, ◌<◌, ◌≤◌, ◌==◌, nat_lt, Bool, List, Some, None, Result, Err, if◌then◌else◌}
use Rattle.scale_base.specs.declared.limits.TheConstants.{CYCLE_LIMIT}
use Rattle.scale_base.specs.declared.refusal.Refusal.{Refusal}
use Rattle.scale_base.specs.declared.refusal.Refusal.TheVariants.{DeadlineMissed, TooLong}
use Rattle.scale_base.specs.declared.summary.Summary.{Summary}
use Rattle.scale_base.specs.Image.{Image}
use Rattle.power_model.specs.Numbers.{PowerModel}
use Rattle.power_model.specs.Price.{time_at}
use Rattle.power_model.specs.Slowest.{slowest_of, fastest}
use Rattle.loop_file.specs.declared.notes.LoopNote.{LoopNote}
use Rattle.cost_theory.specs.Worst.{Numbers}
use Rattle.cycle_laws.specs.Charged.{Charged}
use Rattle.flow_graph.specs.FlowGraph.{FlowGraph}
use Rattle.loop_forest.specs.Tree.{LoopView}
use Rattle.level_tables.specs.declared.edge_numbers.EdgeNumbers.{EdgeNumbers}
use Rattle.level_tables.specs.Budgets.{meets_in_budget}
use Rattle.stub_writer.specs.Stubs.{Site, out_of_reach}
use Rattle.rewritten_runs.specs.Stubs.{IsWeighedWith, HasStubsWith, rewritten_file}
use Rattle.answer_parts.specs.Parts.{Then}
use Rattle.program_sources.specs.Sources.{sources_of}
use Rattle.marked_images.specs.Refused.{IsCodeRefused, IsLoopRefused, IsCounterRefused}
use Rattle.marked_images.specs.Stored.{BudgetRule, rewritten_summary, unless_out_of_reach}
use Rattle.paced_images.specs.declared.wanted.SwitchSite.{SwitchSite}
use Rattle.paced_images.specs.Wanted.{notes_by, marked_at}

-- ---- budgets

-- The starting level's is the time of the worst cycles there, and that of the lowest level the deadline. A level between them has the time of the starting level, and so many
-- quarters of what that leaves: a switch from there to the lowest level may use the rest. No run is at a level above the starting one, so it needs no time.
abbrev pub paced_budget : PowerModel → (start worst share : ℕ) → ℕ → ℕ
paced_budget power start worst share i =
    if i == start then time_at power start worst
    else if i == 0 then power.deadline
    else if nat_lt i start then time_at power start worst + share * (power.deadline - time_at power start worst) / 4
    else 0

abbrev pub paced_test : PowerModel → (start worst share : ℕ) → EdgeNumbers → ℕ → ℕ → Bool
paced_test power start worst share = meets_in_budget power (paced_budget power start worst share)

-- by the starting level and the worst cycles
abbrev pub paced_rule : PowerModel → (share : ℕ) → BudgetRule
paced_rule power share start worst = paced_budget power start worst share

-- ---- what the program of an image and its loops give

-- the worst cycles under the stored weights are more than 2^48
pub record IsTooLong (power : PowerModel) (image : Image) (notes : List LoopNote) (wanted : List SwitchSite) (tallied : List ℕ)
    (answer : Result (List ℕ × Summary) Refusal) : Type 0 where
  pub code : FlowGraph
  pub tree : LoopView
  pub stored : Numbers
  pub weighed : IsWeighedWith power image notes code tree (marked_at code tree wanted tallied) stored
  pub long : CYCLE_LIMIT < stored.worst 0
  pub answer_is : answer ≡ Err TooLong

-- they are in range, and even at the fastest level too late
pub record IsTooLate (power : PowerModel) (image : Image) (notes : List LoopNote) (wanted : List SwitchSite) (tallied : List ℕ)
    (answer : Result (List ℕ × Summary) Refusal) : Type 0 where
  pub code : FlowGraph
  pub tree : LoopView
  pub stored : Numbers
  pub weighed : IsWeighedWith power image notes code tree (marked_at code tree wanted tallied) stored
  pub short : stored.worst 0 ≤ CYCLE_LIMIT
  pub late : slowest_of power (stored.worst 0) ≡ None
  pub answer_is : answer ≡ Err (DeadlineMissed (time_at power (fastest power) (stored.worst 0)) power.deadline)

-- they are in time from a starting level on: the program gets its stubs, unless one is out of reach
pub record IsProgramPaced (power : PowerModel) (image : Image) (notes : List LoopNote) (wanted : List SwitchSite) (tallied : List ℕ)
    (share : ℕ) (answer : Result (List ℕ × Summary) Refusal) : Type 0 where
  pub code : FlowGraph
  pub tree : LoopView
  pub stored : Numbers
  pub extra : Numbers
  pub least : Charged
  pub sites : List Site
  pub base : ℕ
  pub start : ℕ
  pub weighed : IsWeighedWith power image notes code tree (marked_at code tree wanted tallied) stored
  pub short : stored.worst 0 ≤ CYCLE_LIMIT
  pub slow : slowest_of power (stored.worst 0) ≡ Some start
  pub stubs : HasStubsWith power (paced_test power start (stored.worst 0) share) image code tree (marked_at code tree wanted tallied)
      stored extra least sites base
  pub answer_is : answer ≡ unless_out_of_reach (out_of_reach base sites) (
    rewritten_file image sites base start,
    rewritten_summary power code (marked_at code tree wanted tallied) start (stored.worst 0)
        (extra.worst 0) sites,
  )

abbrev pub IsPacedProgram : PowerModel → Image → List LoopNote → List SwitchSite → (tallied : List ℕ) (share : ℕ) →
    Result (List ℕ × Summary) Refusal → Type 0
IsPacedProgram power image notes wanted tallied share answer =
    IsCodeRefused image answer ⊎ (IsLoopRefused image notes answer ⊎ (IsCounterRefused image notes answer
    ⊎ (IsTooLong power image notes wanted tallied answer ⊎ (IsTooLate power image notes wanted tallied answer ⊎
    IsProgramPaced power image notes wanted tallied share answer))))

-- ---- what the files give

-- The stored bytes and the summary, or the first refusal, in the order of what `rewrite` gives. Tallied loops are counted, and the others as the loop file notes, or none of them.
unfoldable pub IsPaced : (image machine loop_file : List ℕ) (wanted : List SwitchSite) (counted : Bool) (tallied : List ℕ) (share : ℕ) →
    Result (List ℕ × Summary) Refusal → Type 0
IsPaced image machine loop_file wanted counted tallied share answer =
    Then (sources_of image machine loop_file) (λ s. IsPacedProgram s.power s.view (notes_by counted tallied s.notes) wanted tallied share)
    answer
