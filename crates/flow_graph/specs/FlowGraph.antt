-- The control-flow graph of a program's reached code, as lists: what a CodeGraph is seen as.
-- Control-flow graphs and call graphs: Aho, Lam, Sethi and Ullman, Compilers, sections 8.4 and 12.1.
use Rattle.std.specs.Prelude.{◌≡◌, ℕ, ◌<◌, ◌↔◌, List, [], ◌∷◌, map, slice_get, nat_eq, if◌then◌else◌, Option, Some}
use Rattle.scale_base.specs.declared.ranges.Range.{Range}
use Rattle.scale_base.specs.declared.stepping.Class.{Class}
use Rattle.cost_theory.specs.declared.flow.Flow.{Flow}
use Rattle.cost_theory.specs.declared.flow.Flow.TheVariants as flow
use Rattle.cost_theory.specs.Graph.{Graph}
use Rattle.cost_theory.specs.Reached.{Code, graph_of}
use Rattle.cost_theory.specs.Accepted.{IsProgram, IsNode, IsCall}
use Rattle.code_text.specs.Text.{Text, kind_at}
use Rattle.code_text.specs.EdgeCosts.{edge_class}
use Rattle.code_text.specs.TextGraph.{text_graph, IsReachedCode}

pub record FlowGraph : Type 0 where
  -- nodes by address, edges, functions, and by node its function
  pub code : Code
  -- by node, what its word says of the way on
  pub kinds : List Flow
  -- by edge, the class of the step that goes over it; none for that of an EBREAK
  pub classes : List (Option Class)
  -- the numbers of the functions, callees first
  pub order : List ℕ
  -- the basic blocks, ascending
  pub blocks : List Range

-- what stands beside an address, and a refused word at what is no node
abbrev pub word_beside : List ℕ → List Flow → ℕ → Flow
word_beside [] kinds v = flow.Refused
word_beside (u ∷ us) [] v = flow.Refused
word_beside (u ∷ us) (w ∷ ws) v = if nat_eq u v then w else word_beside us ws v

-- the graph that the lists stand for: a function is named by its number, a node by its address, an edge by its number
abbrev pub graph : FlowGraph → Graph
graph v = graph_of (word_beside v.code.nodes v.kinds) v.code

-- the numbers of all functions, each once, and a called function before those that call it
pub record AreCalleesFirst (g : Graph) (order : List ℕ) : Type 0 where
  pub within : (i f : ℕ) → slice_get order i ≡ Some f → f < g.functions
  pub whole : (f : ℕ) → f < g.functions → (i : ℕ) × (slice_get order i ≡ Some f)
  pub once : (i j f : ℕ) → slice_get order i ≡ Some f → slice_get order j ≡ Some f → i ≡ j
  pub before : (u h i j : ℕ) → IsCall g u h → slice_get order i ≡ Some h → slice_get order j ≡ Some (g.owner u) → i < j

-- what is so of every CodeGraph: a program, whose nodes ascend and are those at which edges start
pub record IsFlowGraph (v : FlowGraph) : Type 0 where
  pub program : IsProgram (graph v)
  pub ascending : (i j a b : ℕ) → i < j → slice_get v.code.nodes i ≡ Some a → slice_get v.code.nodes j ≡ Some b → a < b
  pub nodes : (a : ℕ) → ((k : ℕ) × (slice_get v.code.nodes k ≡ Some a)) ↔ IsNode (graph v) a
  pub order : AreCalleesFirst (graph v) v.order

-- the lists are the reached code of a text, none of whose words is refused
pub record IsGraphOf (t : Text) (v : FlowGraph) : Type 0 where
  pub reached : IsReachedCode t v.code
  pub kinds : v.kinds ≡ map (kind_at t) v.code.nodes
  pub classes : v.classes ≡ map (λ e. edge_class t (Some e)) v.code.edges
  pub graph_is : text_graph t v.code ≡ graph v
  pub flow : IsFlowGraph v
