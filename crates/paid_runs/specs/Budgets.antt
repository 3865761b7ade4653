-- Scaffold: tables of levels that keep a run within budgets: each level has a time by which a run that stands at it is to end, at most the deadline. A run that has level i after a step has
-- so much time left for all that is left of its worst case at that level; a switch may use what the budget of the level behind it has more, besides the slack of its edge.
-- Where each budget is the deadline, it is the rule of Timely.
use Rattle.std.specs.Prelude.{◌≡◌, ◌⊎◌, ℕ, ◌+◌, ◌-◌, ◌*◌, ◌<◌, ◌≤◌, Bool, true, List, length, slice_get, Some, None}
use Rattle.scale_base.specs.declared.stepping.Class.{Class}
use Rattle.scale_base.specs.declared.stepping.Stepped.{Stepped}
use Rattle.power_model.specs.Numbers.{PowerModel}
use Rattle.power_model.specs.Price.{price, switch_time}
use Rattle.power_model.specs.Switches.{period, costs_of}
use Rattle.cost_theory.specs.Graph.{Graph, Loops, AreWithin}
use Rattle.cost_theory.specs.Worst.{Numbers, cost, slack, rest, left_behind}
use Rattle.cost_theory.specs.Steps as steps
use Rattle.cost_theory.specs.Reached.{Code, edge_at}
use Rattle.cycle_laws.specs.Charged.{Charged}
use Rattle.code_text.specs.Text.{Text}
use Rattle.code_text.specs.EdgeCosts.{edge_class}
use Rattle.graph_runs.specs.RunTransitions.{after_transitions}
use Rattle.code_text.specs.TextGraph.{text_graph}
use Rattle.stub_writer.specs.Stubs.{Site}
use Rattle.stored_runs.specs.Marks.{Shadow, place_at, fragments_of_class, tail_cycles, level_stored}
use Rattle.paid_runs.specs.Timely.{weights_of, taken_behind, IsPaying}

-- From level i to level j on an edge with so many cycles behind the store, where `gone` of its rest is known to be gone: what is left at most takes no more time at j, with the
-- switch, than what was left at least before would at i, and what the budget of j has more.
abbrev pub IsSwitchInBudget : PowerModel → (budget : ℕ → ℕ) → Graph → Loops → (ℕ → ℕ) → Numbers → (counts : ℕ → ℕ) →
    (e tail gone i j : ℕ) → Type 0
IsSwitchInBudget power budget g l w n counts e tail gone i j =
    (rest g l n e + tail - gone) * period power j + switch_time power i j + budget i ≤
    (rest g l n e + tail - gone + (slack g l n (cost g n w) e + left_behind g l n counts e)) * period power i + budget j

-- a lower level that an edge within a function may lead to
pub record IsChosenWithin (power : PowerModel) (budget : ℕ → ℕ) (g : Graph) (l : Loops) (w : ℕ → ℕ) (n : Numbers) (least : Charged)
    (counts : ℕ → ℕ) (e tail i j : ℕ) : Type 0 where
  pub lower : j < i
  pub inside : g.callee e ≡ None
  pub target : ℕ
  pub leads : g.target e ≡ Some target
  -- so much of what is left at most has gone with the turns taken
  pub gone : ℕ
  pub is_gone : gone ≤ taken_behind g l n counts e
  pub in_budget : IsSwitchInBudget power budget g l w n counts e tail gone i j
  pub paying : IsPaying power g l least e tail i j

-- The marks on each edge store the level that was there, or one that may be chosen, as long as the counters of the loops round the edge's source hold their counts, within the
-- bounds.
pub record AreTablesWithin (power : PowerModel) (budget : ℕ → ℕ) (t : Text) (code : Code) (l : Loops) (sites : List Site)
    (is_of : ℕ → ℕ → Bool) (n : Numbers) (least : Charged) : Type 0 where
  pub chosen : (e : ℕ) (class : Class) → e < (text_graph t code).edges → edge_class t (slice_get code.edges e) ≡ Some class →
      (h : Shadow) (counts : ℕ → ℕ) (j : ℕ) → h.level < length power.levels → AreWithin l counts
      → ((w k : ℕ) → is_of w k ≡ true → l.inside k ((text_graph t code).source e) ≡ true → h.counters w ≡ counts k)
      → level_stored (fragments_of_class (place_at sites (edge_at (slice_get code.edges e))) class) h ≡ Some j
      → (j ≡ h.level) ⊎ IsChosenWithin power budget (text_graph t code) l (weights_of power t code sites) n least counts e
      (tail_cycles (costs_of power) (fragments_of_class (place_at sites (edge_at (slice_get code.edges e))) class)) h.level j

-- the time so far, and the cycles left at the level that the run has, are within the budget of that level
abbrev pub IsInBudget : PowerModel → (budget : ℕ → ℕ) → Text → Code → Loops → List Site → (start : ℕ) → Numbers → List steps.Transition →
    List Stepped → Type 0
IsInBudget power budget t code l sites start n moves run =
    (price power start run).time + steps.cycles_left (text_graph t code) l (weights_of power t code sites) n
    (after_transitions t code l moves) * period power (price power start run).level ≤ budget (price power start run).level
