-- A run of the machine as transitions over the graph of its code.
use Rattle.std.specs.Prelude.{◌≡◌, ℕ, ◌<◌, List, [], ◌∷◌, map, slice_get, Option, Some, None}
use Rattle.std.specs.List.{fold, sum_by}
use Rattle.scale_base.specs.declared.stepping.Class.{Class}
use Rattle.scale_base.specs.declared.stepping.Stepped.{Stepped}
use Rattle.scale_base.specs.Arith.{plus}
use Rattle.scale_base.specs.Run.{Run, Standing, GoesOn, HasExited, HasTrapped}
use Rattle.cost_theory.specs.Graph.{Graph, Loops}
use Rattle.cost_theory.specs.Steps as steps
use Rattle.cost_theory.specs.declared.flow.Flow.{Flow}
use Rattle.cost_theory.specs.Reached.{Reached, Code, graph_of}
use Rattle.cost_theory.specs.declared.flow.Flow.TheVariants as flow
use Rattle.code_text.specs.Text.{Text, kind_at}
use Rattle.graph_runs.specs.TextStates.{IsOverText}
use Rattle.graph_runs.specs.ReturnAddresses.{returns_after}
use Rattle.code_text.specs.EdgeCosts.{edge_class, weights}
use Rattle.code_text.specs.TextGraph.{text_graph}

-- ---- the graph, and where a run over it stands

-- the node, the sites of the suspended calls and the counts to which transitions from the entry lead
abbrev pub after_transitions : Text → Code → Loops → List steps.Transition → steps.GraphState
after_transitions t code l moves = steps.state_after (text_graph t code) l moves

-- where each transition starts
abbrev pub places_of : Text → Code → List steps.Transition → List ℕ
places_of t code moves = map (λ m. (text_graph t code).source (steps.edge_of m)) moves

-- the class of the edge that each transition goes over
abbrev pub classes_of : Text → Code → List steps.Transition → List (Option Class)
classes_of t code moves = map (λ m. edge_class t (slice_get code.edges (steps.edge_of m))) moves

-- the return address of a call at u
abbrev pub after_call : ℕ → ℕ
after_call u = plus u 4

-- The sites of the calls that a run of function f is in, the innermost first: each calls the function within it.
abbrev pub IsStack : (ℕ → Flow) → ℕ → ℕ → List ℕ → Type 0
IsStack word first f [] = f ≡ first
IsStack word first f (u ∷ us) = (h : ℕ) × (word u ≡ flow.Call f) × Reached word first h u × IsStack word first h us

-- what is so of a run that goes on
abbrev pub StandsBy : Standing → Type 0 → Type 0
StandsBy GoesOn P = P
StandsBy (HasExited status) P = Unit {0}
StandsBy (HasTrapped trap) P = Unit {0}

-- ---- runs whose returns go back to their calls

abbrev pub returns_more : Option (List ℕ) → Stepped → Option (List ℕ)
returns_more None x = None
returns_more (Some rs) x = returns_after rs x

-- the return addresses after the steps. None where a return does not go back to its call.
abbrev pub returns_so : List Stepped → Option (List ℕ)
returns_so xs = fold returns_more (Some []) xs

-- transitions one after another, whatever the counts of loops
abbrev pub AreTransitions : Graph → Loops → steps.GraphState → List steps.Transition → Type 0
AreTransitions g l s [] = Unit {0}
AreTransitions g l s (m ∷ ms) = ((steps.edge_of m < g.edges) × (s.node ≡ Some (g.source (steps.edge_of m))) × steps.IsTransition g s m) ×
    AreTransitions g l (steps.after g l s m) ms

-- Where the transitions of a run that goes on lead: to the node at pc, which is reached, in the function that the innermost call calls.
pub record TransitionsLeadTo (t : Text) (code : Code) (l : Loops) (r : Run) (rs : List ℕ) (moves : List steps.Transition) : Type 0 where
  pub function : ℕ
  pub calls : List ℕ
  pub node : (after_transitions t code l moves).node ≡ Some r.state.pc
  pub suspended : (after_transitions t code l moves).calls ≡ calls
  pub returns : rs ≡ map after_call calls
  pub reached : Reached (kind_at t) t.entry function r.state.pc
  pub stack : IsStack (kind_at t) t.entry function calls
  pub over : IsOverText t r.state

-- the run is a list of transitions over the graph, one for each step, which cost what its steps cost
pub record IsRunOf (t : Text) (code : Code) (l : Loops) (costs : Class → ℕ) (r : Run) (rs : List ℕ) : Type 0 where
  pub moves : List steps.Transition
  pub are : AreTransitions (text_graph t code) l (steps.graph_start (text_graph t code)) moves
  -- the transitions start where the steps do, one by one, and go over edges of their classes
  pub places : places_of t code moves ≡ map (λ x. x.pc) r.steps
  pub classes : classes_of t code moves ≡ map (λ x. Some x.class) r.steps
  pub cost : steps.cycles (weights t code costs) moves ≡ sum_by (λ x. costs x.class) r.steps
  pub stands : StandsBy r.standing (TransitionsLeadTo t code l r rs moves)
