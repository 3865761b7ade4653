-- Scaffold: what a check knows behind the scan, as lists: the fragments that a scan found, the loops of counters, and the numbers under weights.
use Rattle.std.specs.Prelude.{◌≡◌, ℕ, ◌*◌, ◌^◌, ◌<◌, ◌≤◌, Bool, List, length, slice_get, slice_index_or, Option, Some, None, Result, Ok, Err}
use Rattle.scale_base.specs.declared.limits.TheConstants.{CYCLE_LIMIT}
use Rattle.scale_base.specs.Image.{Image}
use Rattle.power_model.specs.Numbers.{PowerModel}
use Rattle.cost_theory.specs.Graph.{Graph, Loops}
use Rattle.cost_theory.specs.Reached.{Code}
use Rattle.cost_theory.specs.Worst.{Numbers}
use Rattle.cycle_laws.specs.Charged.{Charged, to_end_after}
use Rattle.code_text.specs.Text.{text_of}
use Rattle.flow_graph.specs.FlowGraph.{FlowGraph, graph, IsGraphOf}
use Rattle.loop_forest.specs.Tree.{LoopView, loops, IsLoopTree}
use Rattle.worst_cycles.specs.Worst.{WorstView, HoldsLeft, slack_at, rest_at}
use Rattle.least_cycles.specs.Found.{LeastView}
use Rattle.foreign_scan.specs.Scanned.{Found, IsScanned}
use Rattle.foreign_scan.specs.Shown.{ScannedSites}
use Rattle.foreign_scan.specs.Scans.{IsShownBy}
use Rattle.image_check.specs.Safe.{Owner, AreOwners, AreSafeOn}
use Rattle.image_check.specs.Causes.{IsFirstBadCounter, IsFirstBadLevel}

-- ---- the scan

-- what is found in the image beside the original, whose graph and loops these are
pub record IsFoundIn (original foreign : Image) (v : FlowGraph) (t : LoopView) (found : Found) (s : ScannedSites) : Type 0 where
  pub code : IsGraphOf (text_of original) v
  pub tree : (extent : ℕ → ℕ → Bool) × IsLoopTree v extent t
  pub scanned : IsScanned original foreign v.code (loops v t) found
  pub shown : IsShownBy original foreign v.code found s

abbrev pub HasFound : FlowGraph → LoopView → ScannedSites → Type 0
HasFound v t s = (original foreign : Image) × (found : Found) × IsFoundIn original foreign v t found s

-- ---- counters

-- the loops of counters, by a list
abbrev pub owner_by : List (Option ℕ) → Owner
owner_by owners c = slice_index_or owners c None

-- the loop of each counter, or the least counter that counts none
abbrev pub IsOwnersAnswer : Graph → Code → Loops → Found → Result (List (Option ℕ)) ℕ → Type 0
IsOwnersAnswer g code l found (Ok owners) = AreOwners g code l found (owner_by owners)
IsOwnersAnswer g code l found (Err c) = IsFirstBadCounter g code l found c

-- ---- levels

-- the lists hold the numbers under these weights, all in range
pub record AreWeighed (v : FlowGraph) (t : LoopView) (w : ℕ → ℕ) (n : Numbers) (least : Charged) (worst : WorstView) (ends : LeastView)
    : Type 0 where
  pub slacks_size : length worst.slacks ≡ length v.code.edges
  pub rests_size : length worst.rests ≡ length v.code.edges
  pub iterations_size : length worst.iteration ≡ length t.headers
  pub left : HoldsLeft v (loops v t) w n worst
  pub iteration : (k : ℕ) → k < length t.headers → slice_get worst.iteration k ≡ Some (n.iteration k)
  pub after_size : length ends.after ≡ length v.code.edges
  pub after : (e : ℕ) → e < length v.code.edges → slice_get ends.after e ≡ Some (to_end_after (graph v) (loops v t) least e)
  pub slack_small : (e : ℕ) → e < length v.code.edges → slack_at (graph v) (loops v t) w n e ≤ 2 ^ 50
  pub rest_small : (e : ℕ) → e < length v.code.edges → rest_at (graph v) (loops v t) n e ≤ CYCLE_LIMIT
  pub turns_small : (k : ℕ) → k < length t.headers → (loops v t).bound k * n.iteration k ≤ CYCLE_LIMIT
  pub after_small : (e z : ℕ) → e < length v.code.edges → to_end_after (graph v) (loops v t) least e ≡ Some z → z < 2 ^ 89

-- what is found, the loops of its counters, and the numbers
pub record AreKnown (original foreign : Image) (v : FlowGraph) (t : LoopView) (s : ScannedSites) (owners : List (Option ℕ))
    (worst : WorstView) (ends : LeastView) (found : Found) (w : ℕ → ℕ) (n : Numbers) (least : Charged) : Type 0 where
  pub found_is : IsFoundIn original foreign v t found s
  pub owners_are : AreOwners (graph v) v.code (loops v t) found (owner_by owners)
  pub weighed : AreWeighed v t w n least worst ends

abbrev pub HasKnown : (foreign : Image) → FlowGraph → LoopView → ScannedSites → List (Option ℕ) → WorstView → LeastView → Type 0
HasKnown foreign v t s owners worst ends = (original : Image) × (found : Found) × (w : ℕ → ℕ) × (n : Numbers) × (least : Charged) ×
    AreKnown original foreign v t s owners worst ends found w n least

-- all entries are safe, or the address and the level of the first that is not
abbrev pub IsLevelsAnswer : PowerModel → (foreign : Image) → FlowGraph → Loops → Owner → (ℕ → ℕ) → Numbers → Charged → Found →
    Option (ℕ × ℕ) → Type 0
IsLevelsAnswer power foreign v l owner w n least found None =
    (e : ℕ) → e < length v.code.edges → AreSafeOn power foreign (graph v) l owner w n least found e (slice_get v.code.edges e)
IsLevelsAnswer power foreign v l owner w n least found (Some x) = IsFirstBadLevel power foreign (graph v) v.code l owner w n least found
    x.0 x.1
