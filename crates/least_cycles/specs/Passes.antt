-- Scaffold: what the functions of the passes work on together.
use Rattle.std.specs.Prelude.{◌≡◌, ℕ, ◌^◌, ◌<◌, ◌≤◌, Bool, List, length, Option}
use Rattle.graph_algorithms.specs.Arcs.{number_in_place}
use Rattle.flow_graph.specs.FlowGraph.{graph, IsFlowGraph}
use Rattle.loop_forest.specs.Tree.{IsLoopTree}
use Rattle.cycle_laws.specs.Charged.{Charged}
use Rattle.least_cycles.specs.declared.Hop.{Hop}
use Rattle.least_cycles.specs.declared.Way.{Way}
use Rattle.least_cycles.specs.declared.function.Runs.{Runs}
use Rattle.least_cycles.specs.declared.prices.Tables.{Tables}
use Rattle.least_cycles.specs.declared.turns.Body.{Body}
use Rattle.least_cycles.specs.declared.turns.PricedFunction.{PricedFunction}
use Rattle.least_cycles.specs.declared.walks.Found.{Found}
use Rattle.least_cycles.specs.declared.walks.Program.{Program}
use Rattle.least_cycles.specs.Local.{IsWayOf, IsHopOf}
use Rattle.least_cycles.specs.Functions.{AreNodeNumbers, ArePlacesIn, AreKinds, AreHopsOf, AreLeastRuns, addresses, is_in_flags}
use Rattle.least_cycles.specs.Tables.{AreSmallTables, IsPrice, ArePriced}
use Rattle.least_cycles.specs.Charging.{AreSmallCharges, cost_with, IsBodyOf, AreTurnKinds, IsCharging, HasCharging, HasWalks, AreCharges, AreChargedTo, ArePricedAt, IsChargeKnown, loop_owner, IsChargePlan}
use Rattle.scale_base.specs.declared.limits.TheConstants.{CYCLE_LIMIT, WORD_LIMIT}

-- ---- some nodes and the runs over their edges

-- few nodes, each once, with their places; flags of edges; and costs and charges of a limited size
pub record AreRuns (r : Runs) : Type 0 where
  pub flow : IsFlowGraph r.graph.now
  pub nodes : AreNodeNumbers r.graph.now r.nodes.now
  pub few : length r.nodes.now ≤ WORD_LIMIT
  pub places : ArePlacesIn r.nodes.now r.places.now
  pub size : length r.places.now ≡ length r.graph.now.code.nodes
  pub kinds : AreKinds r.graph.now r.nodes.now r.lasts.now r.steps.now
  pub costs : length r.costs.now ≡ length r.graph.now.code.edges
  pub low : (e : ℕ) → number_in_place r.costs.now e ≤ 2 ^ 49
  pub charges : AreSmallCharges r.graph.now r.charges.now

abbrev pub run_cost : Runs → ℕ → ℕ
run_cost r = cost_with r.costs.now r.charges.now

-- where an edge leads, and its hop
abbrev pub IsWayIn : Runs → Way → ℕ → Type 0
IsWayIn r way e = IsWayOf (graph r.graph.now) (is_in_flags r.lasts.now) (is_in_flags r.steps.now) (addresses r.graph.now r.nodes.now) way e

abbrev pub IsHopIn : Runs → Hop → ℕ → Type 0
IsHopIn r h e = IsHopOf (graph r.graph.now) (is_in_flags r.lasts.now) (is_in_flags r.steps.now) (run_cost r)
    (addresses r.graph.now r.nodes.now) h e

-- the hops of the edges that are done
abbrev pub AreHopsIn : Runs → (ℕ → Type 0) → List Hop → Type 0
AreHopsIn r Done hops = (edges : List ℕ) × AreHopsOf r.graph.now r.lasts.now r.steps.now (run_cost r) (addresses r.graph.now r.nodes.now)
    Done edges hops

-- the least costs of the runs from the nodes
abbrev pub AreLeastOf : Runs → List (Option ℕ) → Type 0
AreLeastOf r table = AreLeastRuns r.graph.now r.lasts.now r.steps.now (run_cost r) r.nodes.now table

-- ---- the tables by which edges are priced

pub record ArePriceTables (x : Tables) : Type 0 where
  pub flow : IsFlowGraph x.graph.now
  pub own : length x.own.now ≡ length x.graph.now.code.edges
  pub low : (e : ℕ) → number_in_place x.own.now e ≤ CYCLE_LIMIT
  pub tables : AreSmallTables x.graph.now x.returns.now x.exits.now

abbrev pub IsPriceBy : Tables → ℕ → ℕ → Bool → Type 0
IsPriceBy x e cost last = IsPrice x.graph.now (number_in_place x.own.now) x.returns.now x.exits.now e cost last

-- the edges of a set have their prices
abbrev pub ArePricedBy : Tables → (ℕ → Type 0) → List ℕ → List Bool → Type 0
ArePricedBy x Set costs lasts = ArePriced x.graph.now (number_in_place x.own.now) x.returns.now x.exits.now Set costs lasts

-- ---- a loop's body

pub record IsLoopBody (b : Body) : Type 0 where
  pub flow : IsFlowGraph b.graph.now
  pub tree : (extent : ℕ → ℕ → Bool) × IsLoopTree b.graph.now extent b.tree.now
  pub loop_number : b.number < length b.tree.now.headers
  pub nodes : IsBodyOf b.graph.now b.tree.now b.number b.nodes.now

-- by node, its place in a body
pub record AreSpots (b : Body) (spots : List ℕ) : Type 0 where
  pub places : ArePlacesIn b.nodes.now spots
  pub size : length spots ≡ length b.graph.now.code.nodes

-- the edges of a set that end a turn, and those that go on within one
abbrev pub AreKindsIn : Body → (ℕ → Type 0) → List Bool → List Bool → Type 0
AreKindsIn b Set turns stays = AreTurnKinds b.graph.now b.tree.now b.number Set turns stays

-- ---- a function whose edges are priced

pub record IsPricedFunction (p : PricedFunction) : Type 0 where
  pub flow : IsFlowGraph p.graph.now
  pub tree : (extent : ℕ → ℕ → Bool) × IsLoopTree p.graph.now extent p.tree.now
  pub function : p.number < length p.graph.now.code.functions
  pub costs : length p.costs.now ≡ length p.graph.now.code.edges
  pub lasts : length p.lasts.now ≡ length p.graph.now.code.edges
  pub low : (e : ℕ) → number_in_place p.costs.now e ≤ 2 ^ 49

-- what is known of its edges, and where the charge of one of its loops is found
pub record AreCostsKnown (p : PricedFunction) (w : ℕ → ℕ) (n : Charged) : Type 0 where
  pub charging : IsCharging p.graph.now p.tree.now w n
  pub priced : ArePricedAt p.graph.now w n p.number p.costs.now p.lasts.now

abbrev pub IsLoopKnown : PricedFunction → (ℕ → ℕ) → Charged → ℕ → List ℕ → Type 0
IsLoopKnown p w n l found = IsChargeKnown p.graph.now p.tree.now w n l p.costs.now p.lasts.now found

-- ---- a graph with its plan

abbrev pub own_weight : Program → ℕ → ℕ
own_weight p = number_in_place p.plan.now.own.items

pub record IsPlannedProgram (p : Program) : Type 0 where
  pub flow : IsFlowGraph p.graph.now
  pub tree : (extent : ℕ → ℕ → Bool) × IsLoopTree p.graph.now extent p.tree.now
  pub plan : IsChargePlan p.graph.now p.tree.now p.plan.now
  pub charging : HasCharging p.graph.now p.tree.now (own_weight p)

-- what is found of the functions that are done
pub record AreFoundSoFar (p : Program) (Done : ℕ → Type 0) (found : Found) : Type 0 where
  pub charges : AreCharges p.graph.now p.tree.now found.charges
  pub charged : (n : Charged) → IsCharging p.graph.now p.tree.now (own_weight p) n →
      AreChargedTo p.graph.now p.tree.now n (λ k. Done (loop_owner p.graph.now p.tree.now k)) found.charges.found.items
  pub walks : HasWalks p.graph.now p.tree.now (own_weight p) Done found.walks.returns.items found.walks.exits.items
