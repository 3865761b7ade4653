-- Scaffold: what the parts of `check` know, on the way to its verdict.
use Rattle.std.specs.Prelude.{◌≡◌, ℕ, ◌<◌, ◌≤◌, length, slice_get, slice_index, None, Some}
use Rattle.scale_base.specs.declared.limits.TheConstants.{CYCLE_LIMIT}
use Rattle.scale_base.specs.Image.{Image}
use Rattle.power_model.specs.Numbers.{IsPowerModel}
use Rattle.power_model.specs.Price.{time_at}
use Rattle.cost_theory.specs.Worst.{Numbers, AreNumbers}
use Rattle.code_text.specs.Text.{text_of}
use Rattle.flow_graph.specs.FlowGraph.{graph, IsGraphOf}
use Rattle.loop_forest.specs.Tree.{loops, IsTreeOf}
use Rattle.worst_cycles.specs.Worst.{by_edge, HasLeftSizes, IsLeftOf}
use Rattle.paid_runs.specs.Marked.{extra_site_weights}
use Rattle.power_model.specs.Switches.{costs_of}
use Rattle.foreign_scan.specs.Scanned.{Found}
use Rattle.foreign_scan.specs.Shown.{ScannedSites}
use Rattle.image_check.specs.declared.checking.Original.{Original}
use Rattle.image_check.specs.declared.checking.Received.{Received}
use Rattle.image_check.specs.declared.checking.CostsWithStubs.{CostsWithStubs}
use Rattle.image_check.specs.Safe.{AreOwners, sites_of}
use Rattle.image_check.specs.Known.{owner_by, IsFoundIn}
use Rattle.image_check.specs.Checked.{key_level, weights_with}

-- a program: an image without a keyed segment, with its graph and its loops
pub record IsOriginal (p : Original) : Type 0 where
  pub power_is : IsPowerModel p.power
  pub no_key : p.view.keyed_segment ≡ None
  pub code_is : IsGraphOf (text_of p.view) p.graph
  pub tree_is : IsTreeOf p.graph p.notes p.tree

-- the scan of an image finds no cause: what it found
abbrev pub IsScannedBy : Original → Image → Found → ScannedSites → Type 0
IsScannedBy p image found sites = IsFoundIn p.view image p.graph p.tree found sites

-- its counters count loops
pub record IsReceived (p : Original) (r : Received) (found : Found) : Type 0 where
  pub scanned : IsScannedBy p r.view found r.sites
  pub owners : AreOwners (graph p.graph) p.graph.code (loops p.graph p.tree) found (owner_by r.owners)

-- what the edges cost with the stubs, and the numbers under that, the worst cycles in range
pub record AreShortCosts (p : Original) (r : Received) (c : CostsWithStubs) (found : Found) (n : Numbers) : Type 0 where
  pub received : IsReceived p r found
  pub size : length c.weights ≡ length p.graph.code.edges
  pub weights_are : by_edge c.weights ≡ weights_with p.power p.view r.view p.graph p.tree (owner_by r.owners) found
  pub light : (e : ℕ) → e < length p.graph.code.edges → slice_index c.weights e ≤ 4294967295
  pub numbers : AreNumbers (graph p.graph) (loops p.graph p.tree) (by_edge c.weights) n
  pub short : n.worst 0 ≤ CYCLE_LIMIT
  pub worst : slice_get c.worst.worst 0 ≡ Some (n.worst 0)
  pub iterations_size : length c.worst.iteration ≡ (loops p.graph p.tree).loops
  pub iterations : (k : ℕ) → k < (loops p.graph p.tree).loops → slice_get c.worst.iteration k ≡ Some (n.iteration k)
  pub sizes : HasLeftSizes p.graph c.worst
  pub left : IsLeftOf p.graph (loops p.graph p.tree) (by_edge c.weights) c.worst

-- the worst cycles are in time at the level of the key
pub record MeetsDeadline (p : Original) (r : Received) (n : Numbers) (start : ℕ) : Type 0 where
  pub start_is : start ≡ key_level p.power r.view
  pub level : start < length p.power.levels
  pub in_time : time_at p.power start (n.worst 0) ≤ p.power.deadline

-- the worst cycles of what the stubs add
abbrev pub AreExtraCycles : Original → Received → Found → ℕ → Type 0
AreExtraCycles p r found cycles = (more : Numbers)
    × AreNumbers (graph p.graph) (loops p.graph p.tree) (extra_site_weights (text_of p.view) p.graph.code (costs_of p.power)
    (sites_of p.view r.view p.graph.code (loops p.graph p.tree) (owner_by r.owners) found)) more
    × (cycles ≡ more.worst 0)
