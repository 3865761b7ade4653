-- What the laws of stored runs ask of a rewritten program, all together.
use Rattle.std.proofs.Common.{◌≡◌, ℕ, ◌*◌, ◌<◌, ◌≤◌, true, Some, List, length}
use Rattle.scale_base.specs.Image.{Image}
use Rattle.power_model.specs.Numbers.{PowerModel, IsPowerModel}
use Rattle.cost_theory.specs.Laws.{IsAnalyzed}
use Rattle.cycle_laws.specs.Charged.{Charged, AreCharged}
use Rattle.cost_theory.specs.Worst.{Numbers, AreNumbers}
use Rattle.code_text.specs.EdgeCosts.{weights}
use Rattle.graph_runs.specs.KeptSteps.{Carried, by_extents}
use Rattle.graph_runs.specs.KeptRuns.{kept_of}
use Rattle.graph_runs.specs.Laws.{IsProgramOf}
use Rattle.code_text.specs.TextGraph.{text_graph}
use Rattle.code_text.specs.Text.{text_of}
use Rattle.flow_graph.specs.FlowGraph.{FlowGraph, graph}
use Rattle.loop_file.specs.declared.notes.LoopNote.{LoopNote}
use Rattle.loop_file.specs.Kept.{noted_loops}
use Rattle.loop_forest.specs.Tree.{LoopView, loops}
use Rattle.stub_writer.specs.Fragments.{IsShadow}
use Rattle.stub_writer.specs.Stubs.{Site}
use Rattle.stored_runs.specs.Stubbed.{IsStubbed}
use Rattle.level_tables.specs.Budgets.{AreBudgets}
use Rattle.paid_runs.specs.Shadows.{AreCountable}
use Rattle.paid_runs.specs.Marked as marked_specs
use Rattle.power_model.specs.Switches.{period, costs_of}
use Rattle.paid_runs.specs.Timely.{weights_of}
use Rattle.paid_runs.specs.Budgets.{AreTablesWithin}
use Rattle.paid_runs.specs.Counters.{by_words}
use Rattle.rewritten_runs.specs.Stubs.{Rule, by_slack, stored_weights, marks_by, is_counted, counter_of}

pub record IsSuppliedBy (power : PowerModel) (budget : ℕ → ℕ) (file : List ℕ) (image : Image) (notes : List LoopNote) (v : FlowGraph) (tree : LoopView) (rule : Rule) (plain stored extra : Numbers) (least : Charged) (sites : List Site) (base start : ℕ) (rewritten : Image) : Type 0 where
  pub limits : ℕ → ℕ
  pub ok : IsPowerModel power
  pub graph_is : text_graph (text_of image) v.code ≡ graph v
  pub kept_by_tree : (input : List ℕ) (n : ℕ) (c : Carried) → kept_of image (length power.levels) input (noted_loops notes) n ≡ Some c
      → kept_of image (length power.levels) input (by_extents (loops v tree) (noted_loops notes).inside) n ≡ Some c
  pub stubbed : IsStubbed file image (length power.levels) limits sites base start rewritten
  pub program : IsProgramOf (text_of image) v.code (loops v tree) (noted_loops notes).inside
  pub countable : AreCountable (text_graph (text_of image) v.code) (loops v tree) (is_counted tree)
  pub marked : marked_specs.AreMarked (text_of image) v.code (loops v tree) sites (is_counted tree) (counter_of tree)
  pub limited : marked_specs.AreLimits (loops v tree) (is_counted tree) (counter_of tree) limits
  pub shadows : (k : ℕ) → k < (loops v tree).loops → is_counted tree k ≡ true → IsShadow (counter_of tree k)
  pub analyzed : IsAnalyzed (text_graph (text_of image) v.code) (loops v tree) (noted_loops notes).inside (weights_of power (text_of image) v.code sites) stored
  pub extra_analyzed : IsAnalyzed (text_graph (text_of image) v.code) (loops v tree) (noted_loops notes).inside (marked_specs.extra_site_weights (text_of image) v.code (costs_of power) sites) extra
  pub least_are : AreCharged (text_graph (text_of image) v.code) (loops v tree) (weights_of power (text_of image) v.code sites) least
  pub tables : AreTablesWithin power budget (text_of image) v.code (loops v tree) sites (by_words (loops v tree) (is_counted tree) (counter_of tree)) stored least
  pub plain_are : AreNumbers (text_graph (text_of image) v.code) (loops v tree) (weights (text_of image) v.code (costs_of power)) plain
  pub budgets : AreBudgets power budget start (stored.worst 0)
  pub in_time : stored.worst 0 * period power start ≤ power.deadline
  pub weights_are : weights_of power (text_of image) v.code sites ≡ stored_weights power image v (marks_by v tree rule)

-- by the rule of slacks, with the deadline as each budget
abbrev pub IsSupplied : PowerModel → (file : List ℕ) → Image → List LoopNote → FlowGraph → LoopView → (plain stored extra : Numbers) → Charged → List Site → (base start : ℕ) → (rewritten : Image) → Type 0
IsSupplied power file image notes v tree plain stored extra least sites base start rewritten =
    IsSuppliedBy power (λ i. power.deadline) file image notes v tree (by_slack power image v tree plain) plain stored extra least sites base start rewritten
