-- Scaffold: graphs of one program that differ in the numbers of functions alone. The first function keeps its number, 0.
use Rattle.std.specs.Prelude.{◌≡◌, ℕ, ◌<◌, length, slice_get, Some, option_map}
use Rattle.cost_theory.specs.Graph.{Graph}
use Rattle.cost_theory.specs.Reached.{returns_of}
use Rattle.flow_graph.specs.FlowGraph.{FlowGraph, graph}

-- The functions of one graph under the numbers that another gives them: the entries, and by edge and by node the function that is called and the owner.
pub record AreNumberedBy (g g' : Graph) (number : ℕ → ℕ) : Type 0 where
  pub first : number 0 ≡ 0
  pub within : (f : ℕ) → f < g'.functions → number f < g.functions
  pub entry : (f : ℕ) → f < g'.functions → g.entry (number f) ≡ g'.entry f
  pub called : (e f : ℕ) → g'.callee e ≡ Some f → f < g'.functions
  pub callee : (e : ℕ) → g.callee e ≡ option_map number (g'.callee e)
  pub owner : (v : ℕ) → g.owner v ≡ number (g'.owner v)

-- two graphs with the same edges and as many functions, which are numbered there and back
pub record IsRenumberedGraph (g g' : Graph) : Type 0 where
  pub edges : g.edges ≡ g'.edges
  pub source : g.source ≡ g'.source
  pub target : g.target ≡ g'.target
  pub returns : g.returns ≡ g'.returns
  pub exits : g.exits ≡ g'.exits
  pub functions : g.functions ≡ g'.functions
  -- of a function of the second graph the number in the first, and the other way round
  pub number : ℕ → ℕ
  pub back : ℕ → ℕ
  pub numbered : AreNumberedBy g g' number
  pub again : AreNumberedBy g' g back
  pub there : (f : ℕ) → f < g.functions → number (back f) ≡ f
  pub here : (f : ℕ) → f < g'.functions → back (number f) ≡ f

-- the same for graphs as lists: the same nodes, edges, words and classes, the same functions return, and the functions are listed in another order
pub record IsRenumbered (v v' : FlowGraph) : Type 0 where
  pub nodes : v.code.nodes ≡ v'.code.nodes
  pub edges : v.code.edges ≡ v'.code.edges
  pub kinds : v.kinds ≡ v'.kinds
  pub classes : v.classes ≡ v'.classes
  pub returns : (h : ℕ) → returns_of v.code h ≡ returns_of v'.code h
  pub graphs : IsRenumberedGraph (graph v) (graph v')
  pub functions : (f : ℕ) → f < length v'.code.functions → slice_get v'.code.functions f ≡ slice_get v.code.functions (graphs.number f)
