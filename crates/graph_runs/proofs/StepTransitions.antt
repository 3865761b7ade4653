-- A step of the machine as one transition over the graph, whatever the counts of loops are.
use Rattle.std.specs.Prelude.{◌≡◌, ℕ, ◌<◌, List, [], ◌∷◌, length, slice_get, Option, Some, None}
use Rattle.scale_base.specs.declared.stepping.Class.{Class}
use Rattle.scale_base.specs.declared.stepping.Move.{Move}
use Rattle.scale_base.specs.declared.stepping.Move.TheVariants.{Local, Call, Return}
use Rattle.cost_theory.specs.Graph.{Loops}
use Rattle.cost_theory.specs.Steps as steps
use Rattle.cost_theory.specs.Steps.Transition.{Along as OverAlong, Call as OverCall, Return as OverReturn, Exit as OverExit}
use Rattle.cost_theory.specs.Reached.{Code, edge_at, graph_of}
use Rattle.code_text.specs.Text.{Text, kind_at}
use Rattle.code_text.specs.EdgeCosts.{edge_class}

abbrev pub place : ℕ → List ℕ → (ℕ → ℕ) → steps.GraphState
place pc calls counts = record { node = Some pc; calls = calls; counts = counts }

-- a step of the class is a transition from the place at pc over an edge of that class, to the place `to`
pub record IsTransitionOf (t : Text) (code : Code) (pc : ℕ) (calls : List ℕ) (class : Class) (m : steps.Transition) (to : Option ℕ) (calls_after : List ℕ) : Type 0 where
  pub edge : steps.edge_of m < length code.edges
  pub from : edge_at (slice_get code.edges (steps.edge_of m)) ≡ pc
  pub move : (counts : ℕ → ℕ) → steps.IsTransition (graph_of (kind_at t) code) (place pc calls counts) m
  pub leads : (l : Loops) (counts : ℕ → ℕ) → (steps.after (graph_of (kind_at t) code) l (place pc calls counts) m).node ≡ to
  pub within : (l : Loops) (counts : ℕ → ℕ) → (steps.after (graph_of (kind_at t) code) l (place pc calls counts) m).calls ≡ calls_after
  pub cost : edge_class t (slice_get code.edges (steps.edge_of m)) ≡ Some class

-- what the machine's step calls the transition
abbrev pub IsTransitionKind : steps.Transition → Move → Type 0
IsTransitionKind (OverAlong e) moved = moved ≡ Local
IsTransitionKind (OverCall e f) moved = moved ≡ Call
IsTransitionKind (OverReturn e) moved = moved ≡ Return
IsTransitionKind (OverExit e) moved = ⊥

-- the source of a step by the sites of the calls: its own address, the site of a return, and none of a call
abbrev pub first_site : List ℕ → Option ℕ
first_site [] = None
first_site (u ∷ us) = Some u

abbrev pub source_by : Move → ℕ → List ℕ → Option ℕ
source_by Local pc calls = Some pc
source_by Call pc calls = None
source_by Return pc calls = first_site calls
