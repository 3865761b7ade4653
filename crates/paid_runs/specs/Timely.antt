-- Tables of levels that keep a run in time and pay, and what a stored run then costs. The cycles left, the slack and the rest of an edge are those under
-- the stored weights. The test of time is that of intra-task voltage scheduling (Shin, Kim and Lee, IEEE Design & Test of Computers, 2001).
use Rattle.std.specs.Prelude.{◌≡◌, ◌⊎◌, ℕ, ◌+◌, ◌-◌, ◌*◌, ◌<◌, ◌≤◌, Bool, true, List, length, slice_get, Some, None}
use Rattle.scale_base.specs.declared.stepping.Class.{Class}
use Rattle.scale_base.specs.declared.stepping.Stepped.{Stepped}
use Rattle.power_model.specs.Numbers.{PowerModel}
use Rattle.power_model.specs.Price.{price, switch_time, switch_energy}
use Rattle.cost_theory.specs.Graph.{Graph, Loops, AreWithin, count_step}
use Rattle.cost_theory.specs.Worst.{Numbers, cost, slack, rest, left_behind, turns_taken}
use Rattle.cost_theory.specs.Steps as steps
use Rattle.cost_theory.specs.Reached.{Code, edge_at}
use Rattle.cycle_laws.specs.Charged.{Charged, to_end_after}
use Rattle.code_text.specs.Text.{Text}
use Rattle.code_text.specs.EdgeCosts.{edge_class}
use Rattle.graph_runs.specs.RunTransitions.{after_transitions}
use Rattle.code_text.specs.TextGraph.{text_graph}
use Rattle.stub_writer.specs.Stubs.{Site}
use Rattle.stored_runs.specs.Marks.{Shadow, place_at, fragments_of_class, tail_cycles, level_stored}
use Rattle.paid_runs.specs.Marked.{stored_site_weights}
use Rattle.power_model.specs.Switches.{period, energy, costs_of, NeverRises, switches_from, AllPay}

abbrev pub weights_of : PowerModel → Text → Code → List Site → ℕ → ℕ
weights_of power t code sites = stored_site_weights t code (costs_of power) sites

-- what the turns cost at most that the loops round an edge's target have taken behind it
abbrev pub taken_behind : Graph → Loops → Numbers → (counts : ℕ → ℕ) → ℕ → ℕ
taken_behind g l n counts e = turns_taken l n (count_step l (Some (g.source e)) (g.target e) counts) (g.target e)

-- From level i to level j on an edge with so many cycles behind the store, where `gone` of its rest is known to be gone: what is left at most takes no more time at j, with
-- the switch, than what was left at least before would at i.
abbrev pub IsSwitchInTime : PowerModel → Graph → Loops → (ℕ → ℕ) → Numbers → (counts : ℕ → ℕ) → (e tail gone i j : ℕ) → Type 0
IsSwitchInTime power g l w n counts e tail gone i j =
    (rest g l n e + tail - gone) * period power j + switch_time power i j ≤ (rest g l n e + tail - gone +
    (slack g l n (cost g n w) e + left_behind g l n counts e)) * period power i

-- The least cycles behind the store, to an end of the run behind the edge, pay for the switch.
abbrev pub IsPaying : PowerModel → Graph → Loops → Charged → (e tail i j : ℕ) → Type 0
IsPaying power g l least e tail i j = (z : ℕ) × (to_end_after g l least e ≡ Some z) ×
    (switch_energy power i j ≤ (z + tail) * (energy power i - energy power j))

-- a lower level that an edge within a function may lead to
pub record IsChosen (power : PowerModel) (g : Graph) (l : Loops) (w : ℕ → ℕ) (n : Numbers) (least : Charged) (counts : ℕ → ℕ)
    (e tail i j : ℕ) : Type 0 where
  pub lower : j < i
  pub inside : g.callee e ≡ None
  pub target : ℕ
  pub leads : g.target e ≡ Some target
  -- so much of what is left at most has gone with the turns taken
  pub gone : ℕ
  pub is_gone : gone ≤ taken_behind g l n counts e
  pub in_time : IsSwitchInTime power g l w n counts e tail gone i j
  pub paying : IsPaying power g l least e tail i j

-- The marks on each edge store the level that was there, or one that may be chosen, as long as the counters of the loops round the edge's source hold
-- their counts, within the bounds.
pub record AreTables (power : PowerModel) (t : Text) (code : Code) (l : Loops) (sites : List Site) (counted : ℕ → Bool) (word : ℕ → ℕ)
    (n : Numbers) (least : Charged) : Type 0 where
  pub chosen : (e : ℕ) (class : Class) → e < (text_graph t code).edges → edge_class t (slice_get code.edges e) ≡ Some class →
      (h : Shadow) (counts : ℕ → ℕ) (j : ℕ) → h.level < length power.levels → AreWithin l counts
      → ((k : ℕ) → k < l.loops → counted k ≡ true → l.inside k ((text_graph t code).source e) ≡ true → h.counters (word k) ≡ counts k)
      → level_stored (fragments_of_class (place_at sites (edge_at (slice_get code.edges e))) class) h ≡ Some j
      → (j ≡ h.level) ⊎ IsChosen power (text_graph t code) l (weights_of power t code sites) n least counts e
      (tail_cycles (costs_of power) (fragments_of_class (place_at sites (edge_at (slice_get code.edges e))) class)) h.level j

-- The same where a loop may have several counters: `is_of w k` tells that the word w counts loop k.
pub record AreTablesOf (power : PowerModel) (t : Text) (code : Code) (l : Loops) (sites : List Site) (is_of : ℕ → ℕ → Bool) (n : Numbers)
    (least : Charged) : Type 0 where
  pub chosen : (e : ℕ) (class : Class) → e < (text_graph t code).edges → edge_class t (slice_get code.edges e) ≡ Some class →
      (h : Shadow) (counts : ℕ → ℕ) (j : ℕ) → h.level < length power.levels → AreWithin l counts
      → ((w k : ℕ) → is_of w k ≡ true → l.inside k ((text_graph t code).source e) ≡ true → h.counters w ≡ counts k)
      → level_stored (fragments_of_class (place_at sites (edge_at (slice_get code.edges e))) class) h ≡ Some j
      → (j ≡ h.level) ⊎ IsChosen power (text_graph t code) l (weights_of power t code sites) n least counts e
      (tail_cycles (costs_of power) (fragments_of_class (place_at sites (edge_at (slice_get code.edges e))) class)) h.level j

-- What the steps of a stored run cost, whose moves are those of the original: its cycles are those under the stored weights; no step leaves a higher level; the
-- time so far, and the cycles left at the level that it has, are in time; and after an exit each switch has saved what it took.
pub record IsPaidRun (power : PowerModel) (t : Text) (code : Code) (l : Loops) (sites : List Site) (start : ℕ) (n : Numbers)
    (moves : List steps.Transition) (run : List Stepped) : Type 0 where
  pub cycles : (price power start run).cycles ≡ steps.cycles (weights_of power t code sites) moves
  pub is_level : (price power start run).level < length power.levels
  pub falls : NeverRises start run
  pub in_time : (price power start run).time + steps.cycles_left (text_graph t code) l (weights_of power t code sites) n
      (after_transitions t code l moves) * period power (price power start run).level ≤ power.deadline
  pub pays : steps.EndsByExit moves → AllPay power (switches_from power start run)
