-- Scaffold: which images are paced: those that a scan accepts, whose counters count loops, and whose levels keep budgets. Each level has a time by which a run that stands at it is to end,
-- at most the deadline; the worst cycles at the starting level are within its budget; and the tables lead to no higher level, and to a lower one only where it keeps the budgets
-- and pays. A stub may stand on any edge of a branch or of a jump, with slack or without, and any loops may be counted.
use Rattle.std.specs.Prelude.{ℕ, ◌<◌, Bool, length, slice_get}
use Rattle.scale_base.specs.Image.{Image}
use Rattle.scale_base.specs.Run.{starting_level}
use Rattle.power_model.specs.Numbers.{PowerModel}
use Rattle.power_model.specs.Switches.{costs_of}
use Rattle.cost_theory.specs.Graph.{Loops}
use Rattle.cost_theory.specs.Laws.{IsAnalyzed}
use Rattle.cost_theory.specs.Reached.{Code}
use Rattle.cost_theory.specs.Worst.{Numbers}
use Rattle.cycle_laws.specs.Charged.{Charged, AreCharged}
use Rattle.code_text.specs.Text.{text_of}
use Rattle.code_text.specs.TextGraph.{text_graph}
use Rattle.level_tables.specs.Budgets.{AreBudgets, meets_in_budget}
use Rattle.paid_runs.specs.Marked.{extra_site_weights}
use Rattle.paid_runs.specs.Timely.{weights_of}
use Rattle.foreign_scan.specs.Scanned.{Found, IsScanned}
use Rattle.image_check.specs.Safe.{Owner, sites_of, AreOwners, AreOnBy}

-- The numbers are those under the stored weights of the fragments that are found, and those under what the stubs add.
pub record IsPacedImage (power : PowerModel) (budget : ℕ → ℕ) (original foreign : Image) (code : Code) (l : Loops) (extent : ℕ → ℕ → Bool)
    (found : Found) (owner : Owner) (n : Numbers) (least : Charged) (more : Numbers) : Type 0 where
  pub scanned : IsScanned original foreign code l found
  pub owners : AreOwners (text_graph (text_of original) code) code l found owner
  pub analyzed : IsAnalyzed (text_graph (text_of original) code) l extent (weights_of power (text_of original) code
      (sites_of original foreign code l owner found)) n
  pub least_is : AreCharged (text_graph (text_of original) code) l (weights_of power (text_of original) code
      (sites_of original foreign code l owner found)) least
  pub added : IsAnalyzed (text_graph (text_of original) code) l extent (extra_site_weights (text_of original) code (costs_of power)
      (sites_of original foreign code l owner found)) more
  pub start : starting_level (length power.levels) foreign.keyed_segment < length power.levels
  pub budgets : AreBudgets power budget (starting_level (length power.levels) foreign.keyed_segment) (n.worst 0)
  pub levels : (e : ℕ) → e < (text_graph (text_of original) code).edges
      → AreOnBy power (meets_in_budget power budget) foreign (text_graph (text_of original) code) l owner
      (weights_of power (text_of original) code (sites_of original foreign code l owner found)) n least found e (slice_get code.edges e)
