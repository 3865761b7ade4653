-- What `check` gives of an image of other make beside an original: that it is safe, with its numbers, or the first cause why it isn't known to be.
-- It is a relation, since a refusal may name any of several cycles.
use Rattle.std.specs.Prelude.{◌≡◌, ◌⊎◌, ℕ, ◌<◌, ◌≤◌, List, length, Result, Ok, Err}
use Rattle.scale_base.specs.declared.limits.TheConstants.{CYCLE_LIMIT}
use Rattle.scale_base.specs.declared.refusal.Refusal.{Refusal}
use Rattle.scale_base.specs.declared.verdict.Checked.{Checked}
use Rattle.scale_base.specs.declared.verdict.Verdict.{Verdict}
use Rattle.scale_base.specs.declared.verdict.Verdict.TheVariants.{Yes, No}
use Rattle.scale_base.specs.declared.verdict.Why.{Why}
use Rattle.scale_base.specs.declared.verdict.Why.TheVariants as why
use Rattle.scale_base.specs.Image.{Image, image_of}
use Rattle.scale_base.specs.Run.{starting_level}
use Rattle.power_model.specs.Numbers.{PowerModel}
use Rattle.power_model.specs.Price.{time_at}
use Rattle.elf_view.specs.Refused.{refusal_number}
use Rattle.loop_file.specs.declared.notes.LoopNote.{LoopNote}
use Rattle.loop_file.specs.Kept.{noted_loops}
use Rattle.cost_theory.specs.Graph.{Graph}
use Rattle.cost_theory.specs.Worst.{Numbers, AreNumbers}
use Rattle.cycle_laws.specs.Charged.{Charged, AreCharged}
use Rattle.code_text.specs.Text.{text_of}
use Rattle.code_text.specs.TextGraph.{text_graph}
use Rattle.flow_graph.specs.FlowGraph.{FlowGraph, IsGraphOf}
use Rattle.flow_graph.specs.Refused.{IsRefusedBy}
use Rattle.loop_forest.specs.Tree.{LoopView, loops, IsTreeOf, IsTreeRefusal}
use Rattle.paid_runs.specs.Timely.{weights_of}
use Rattle.foreign_scan.specs.Scanned.{Found, IsScanned, IsFirstWhy}
use Rattle.answer_parts.specs.Parts.{Then}
use Rattle.program_sources.specs.Sources.{sources_of}
use Rattle.image_check.specs.Safe.{Owner, sites_of, AreOwners, IsSafeImage}
use Rattle.image_check.specs.Causes.{IsFirstBadCounter, IsFirstBadLevel}

-- the graph of the original
abbrev pub graph_by : Image → FlowGraph → Graph
graph_by original v = text_graph (text_of original) v.code

-- what its edges cost with the stubs whose fragments are found
abbrev pub weights_with : PowerModel → (original foreign : Image) → FlowGraph → LoopView → Owner → Found → ℕ → ℕ
weights_with power original foreign v tree owner found = weights_of power (text_of original) v.code
    (sites_of original foreign v.code (loops v tree) owner found)

-- the level of the key
abbrev pub key_level : PowerModel → Image → ℕ
key_level power foreign = starting_level (length power.levels) foreign.keyed_segment

-- ---- the causes behind the scan

-- The scan finds none of its causes, and each used counter has a loop that it counts. The fragments, these loops, and the numbers under what the edges cost.
pub record IsCounted (power : PowerModel) (original foreign : Image) (v : FlowGraph) (tree : LoopView) (found : Found) (owner : Owner)
    (n : Numbers) : Type 0 where
  pub scanned : IsScanned original foreign v.code (loops v tree) found
  pub owners : AreOwners (graph_by original v) v.code (loops v tree) found owner
  pub numbers : AreNumbers (graph_by original v) (loops v tree) (weights_with power original foreign v tree owner found) n

-- besides, its worst cycles are in range, and the key's level is one of the machine's
pub record HasLevel (power : PowerModel) (original foreign : Image) (v : FlowGraph) (tree : LoopView) (found : Found) (owner : Owner)
    (n : Numbers) : Type 0 where
  pub counted : IsCounted power original foreign v tree found owner n
  pub short : n.worst 0 ≤ CYCLE_LIMIT
  pub level : key_level power foreign < length power.levels

-- the scan finds none of its causes, and the counter is the first that is used and counts no loop
pub record CountsNoLoop (original foreign : Image) (v : FlowGraph) (tree : LoopView) (counter : ℕ) : Type 0 where
  pub found : Found
  pub scanned : IsScanned original foreign v.code (loops v tree) found
  pub bad : IsFirstBadCounter (graph_by original v) v.code (loops v tree) found counter

-- the worst cycles are over 2^48
pub record IsOverLong (power : PowerModel) (original foreign : Image) (v : FlowGraph) (tree : LoopView) : Type 0 where
  pub found : Found
  pub owner : Owner
  pub n : Numbers
  pub counted : IsCounted power original foreign v tree found owner n
  pub long : CYCLE_LIMIT < n.worst 0

-- they are in range, and the key's level is none of the machine's
pub record StartsNowhere (power : PowerModel) (original foreign : Image) (v : FlowGraph) (tree : LoopView) (level levels : ℕ) : Type 0 where
  pub found : Found
  pub owner : Owner
  pub n : Numbers
  pub counted : IsCounted power original foreign v tree found owner n
  pub short : n.worst 0 ≤ CYCLE_LIMIT
  pub level_is : level ≡ key_level power foreign
  pub levels_are : levels ≡ length power.levels
  pub none : levels ≤ level

-- it is one, and the worst cycles take more time there than the deadline gives
pub record IsOverdue (power : PowerModel) (original foreign : Image) (v : FlowGraph) (tree : LoopView) (need have : ℕ) : Type 0 where
  pub found : Found
  pub owner : Owner
  pub n : Numbers
  pub level : HasLevel power original foreign v tree found owner n
  pub need_is : need ≡ time_at power (key_level power foreign) (n.worst 0)
  pub have_is : have ≡ power.deadline
  pub late : have < need

-- they are in time, and a table leads from the level to one that isn't safe: the first such entry
pub record IsMisled (power : PowerModel) (original foreign : Image) (v : FlowGraph) (tree : LoopView) (at from : ℕ) : Type 0 where
  pub found : Found
  pub owner : Owner
  pub n : Numbers
  pub least : Charged
  pub level : HasLevel power original foreign v tree found owner n
  pub in_time : time_at power (key_level power foreign) (n.worst 0) ≤ power.deadline
  pub least_is : AreCharged (graph_by original v) (loops v tree) (weights_with power original foreign v tree owner found) least
  pub bad : IsFirstBadLevel power foreign (graph_by original v) v.code (loops v tree) owner
      (weights_with power original foreign v tree owner found) n least found at from

-- of an image that is read, the cause is the first that holds
abbrev pub IsFirstCause : PowerModel → (original foreign : Image) → FlowGraph → LoopView → Why → Type 0
IsFirstCause power original foreign v tree (why.Counter counter) = CountsNoLoop original foreign v tree counter
IsFirstCause power original foreign v tree why.TooLong = IsOverLong power original foreign v tree
IsFirstCause power original foreign v tree (why.Start level levels) = StartsNowhere power original foreign v tree level levels
IsFirstCause power original foreign v tree (why.TooSlow need have) = IsOverdue power original foreign v tree need have
IsFirstCause power original foreign v tree (why.Level at from) = IsMisled power original foreign v tree at from
IsFirstCause power original foreign v tree cause = IsFirstWhy original foreign v.code (loops v tree) cause

-- ---- the verdict

-- an image that is safe, and its numbers
pub record IsPassed (power : PowerModel) (original foreign : Image) (notes : List LoopNote) (v : FlowGraph) (tree : LoopView)
    (checked : Checked) : Type 0 where
  pub found : Found
  pub owner : Owner
  pub n : Numbers
  pub least : Charged
  pub more : Numbers
  pub safe : IsSafeImage power original foreign v.code (loops v tree) (noted_loops notes).inside found owner n least more
  pub start : checked.start ≡ key_level power foreign
  pub worst : checked.worst ≡ n.worst 0
  pub time : checked.time ≡ time_at power (key_level power foreign) (n.worst 0)
  pub deadline : checked.deadline ≡ power.deadline
  pub stub_cycles : checked.stub_cycles ≡ more.worst 0

-- of an image that is read
abbrev pub IsImageVerdict : PowerModel → (original foreign : Image) → List LoopNote → FlowGraph → LoopView → Verdict → Type 0
IsImageVerdict power original foreign notes v tree (Yes checked) = IsPassed power original foreign notes v tree checked
IsImageVerdict power original foreign notes v tree (No cause) = IsFirstCause power original foreign v tree cause

-- of the bytes of a file: they may be no image
abbrev pub IsFileVerdict : PowerModel → (original : Image) → Result Image Refusal → List LoopNote → FlowGraph → LoopView → Verdict → Type 0
IsFileVerdict power original (Err refusal) notes v tree verdict = verdict ≡ No (why.Image (refusal_number refusal))
IsFileVerdict power original (Ok foreign) notes v tree verdict = IsImageVerdict power original foreign notes v tree verdict

-- ---- what the files give

-- the reached code of the original is refused, or the loops of its graph are
abbrev pub IsProgramRefusal : Image → List LoopNote → Refusal → Type 0
IsProgramRefusal original notes refusal = IsRefusedBy (text_of original) refusal ⊎
    ((v : FlowGraph) × IsGraphOf (text_of original) v × IsTreeRefusal v notes refusal)

-- its program, with the loops of the notes, and the verdict over them; or the refusal
abbrev pub IsProgramChecked : PowerModel → Image → List ℕ → List LoopNote → Result Verdict Refusal → Type 0
IsProgramChecked power original foreign notes (Err refusal) = IsProgramRefusal original notes refusal
IsProgramChecked power original foreign notes (Ok verdict) =
    (v : FlowGraph) × (tree : LoopView) × IsGraphOf (text_of original) v × IsTreeOf v notes tree ×
    IsFileVerdict power original (image_of foreign) notes v tree verdict

-- The verdict, or the first refusal: of the machine file, of the original, of its keyed segment, of the loop file, of the code, and of its loops.
unfoldable pub IsChecked : (image foreign machine loops : List ℕ) → Result Verdict Refusal → Type 0
IsChecked image foreign machine loop_file answer =
    Then (sources_of image machine loop_file) (λ s. IsProgramChecked s.power s.view foreign s.notes) answer
