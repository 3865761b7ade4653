-- A kept run, and its transitions over the graph.
use Rattle.std.specs.Prelude.{◌≡◌, ℕ, zero, suc, ◌<◌, ◌≤◌, List, length, map, Option, Some}
use Rattle.std.specs.List.{sum_by}
use Rattle.scale_base.specs.declared.limits.TheConstants.{RETURN_LIMIT}
use Rattle.scale_base.specs.declared.stepping.Class.{Class}
use Rattle.scale_base.specs.declared.stepping.StepEnd.{StepEnd}
use Rattle.scale_base.specs.declared.stepping.StepEnd.TheVariants.{Went, Exited, Trapped}
use Rattle.scale_base.specs.Image.{Image}
use Rattle.scale_base.specs.State.{Setting, State}
use Rattle.scale_base.specs.Step.{step}
use Rattle.scale_base.specs.Run.{Run, Standing, GoesOn, HasExited, HasTrapped, run, setting_of, start_of}
use Rattle.cost_theory.specs.Graph.{Loops, AreWithin}
use Rattle.cost_theory.specs.Steps as steps
use Rattle.cost_theory.specs.Reached.{Reached, Code}
use Rattle.code_text.specs.Text.{Text, kind_at}
use Rattle.graph_runs.specs.TextStates.{IsOverText}
use Rattle.code_text.specs.EdgeCosts.{weights}
use Rattle.graph_runs.specs.RunTransitions.{after_transitions, places_of, classes_of, after_call, IsStack, StandsBy}
use Rattle.code_text.specs.TextGraph.{text_graph}
use Rattle.graph_runs.specs.KeptSteps.{Carried, carried_first, kept_more}

-- A step that exits has no target, so it changes nothing.
abbrev pub watched : Loops → Option Carried → Standing → StepEnd → Option Carried
watched l o GoesOn (Went x) = kept_more l o x
watched l o GoesOn (Exited x status) = o
watched l o GoesOn (Trapped trap) = o
watched l o (HasExited status) end = o
watched l o (HasTrapped trap) end = o

-- What is carried after the first n steps from a state. None where one of them breaks a rule, so the run is kept up to n where it is some.
unfoldable pub kept_at : Setting → State → Loops → ℕ → Option Carried
kept_at env s l zero = Some carried_first
kept_at env s l (suc n) = watched l (kept_at env s l n) (run env s n).standing (step env (run env s n).state).end

-- the same for the run of an image on a machine of so many levels, with an input
abbrev pub kept_of : Image → ℕ → List ℕ → Loops → ℕ → Option Carried
kept_of image levels input l n = kept_at (setting_of image levels input) (start_of image levels) l n

abbrev pub AreSameBelow : ℕ → (ℕ → ℕ) → (ℕ → ℕ) → Type 0
AreSameBelow n one other = (k : ℕ) → k < n → one k ≡ other k

-- Where the transitions of a kept run that goes on lead: as for any run, and the counts are those that are carried.
pub record KeptAt (t : Text) (code : Code) (l : Loops) (r : Run) (c : Carried) (moves : List steps.Transition) : Type 0 where
  pub function : ℕ
  pub calls : List ℕ
  pub node : (after_transitions t code l moves).node ≡ Some r.state.pc
  pub suspended : (after_transitions t code l moves).calls ≡ calls
  pub counted : AreSameBelow l.loops (after_transitions t code l moves).counts c.counts
  pub bounded : AreWithin l (after_transitions t code l moves).counts
  pub returns : c.returns ≡ map after_call calls
  pub reached : Reached (kind_at t) t.entry function r.state.pc
  pub stack : IsStack (kind_at t) t.entry function calls
  pub over : IsOverText t r.state

-- The transitions of a run that has exited end by an exit.
abbrev pub ExitsBy : Standing → List steps.Transition → Type 0
ExitsBy GoesOn moves = Unit {0}
ExitsBy (HasExited status) moves = steps.EndsByExit moves
ExitsBy (HasTrapped trap) moves = Unit {0}

-- the run is a list of kept transitions over the graph, one for each step, which cost what its steps cost
pub record IsKeptRun (t : Text) (code : Code) (l : Loops) (costs : Class → ℕ) (r : Run) (c : Carried) : Type 0 where
  pub moves : List steps.Transition
  pub kept : steps.AreKept (text_graph t code) l (steps.graph_start (text_graph t code)) moves
  -- the transitions start where the steps do, one by one, and go over edges of their classes
  pub places : places_of t code moves ≡ map (λ x. x.pc) r.steps
  pub classes : classes_of t code moves ≡ map (λ x. Some x.class) r.steps
  pub cost : steps.cycles (weights t code costs) moves ≡ sum_by (λ x. costs x.class) r.steps
  pub stands : StandsBy r.standing (KeptAt t code l r c moves)
  pub exits : ExitsBy r.standing moves

-- so many return addresses a kept run carries at most
abbrev pub most_returns : ℕ
most_returns = RETURN_LIMIT

-- The run of an image on a machine of so many levels, with an input, is kept up to n: each of its first n steps keeps the rules on
-- calls, returns and loops, and after none of them there are more return addresses than a kept run carries.
pub record IsKeptUpTo (image : Image) (levels : ℕ) (input : List ℕ) (l : Loops) (n : ℕ) : Type 0 where
  pub carried : Carried
  pub kept : kept_of image levels input l n ≡ Some carried
  pub shallow : (m : ℕ) (c : Carried) → m ≤ n → kept_of image levels input l m ≡ Some c → length c.returns ≤ most_returns
