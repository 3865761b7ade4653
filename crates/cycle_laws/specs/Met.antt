-- Scaffold: what shows that the hypotheses of the laws are met together: an accepted program with a loop that has to turn twice, its least cycles, and a
-- kept run of it that turns so often and exits.
use Rattle.std.specs.Prelude.{◌≡◌, ℕ, Bool, List}
use Rattle.cost_theory.specs.Graph.{Graph, Loops}
use Rattle.cost_theory.specs.Steps.{Transition, AreKept, EndsByExit, graph_start, cycles}
use Rattle.cycle_laws.specs.Charged.{Charged, charged_trips}
use Rattle.cycle_laws.specs.LeastLaws.{IsCharged}

pub record LeastHypothesesAreMet : Type 0 where
  pub graph : Graph
  pub loops : Loops
  pub extent : ℕ → ℕ → Bool
  pub weights : ℕ → ℕ
  pub numbers : Charged
  pub charged : IsCharged graph loops extent weights numbers
  pub looped : loops.loops ≡ 1
  pub turns : charged_trips graph loops numbers.least 0 ≡ 2
  pub run : List Transition
  pub kept : AreKept graph loops (graph_start graph) run
  pub exits : EndsByExit run
  pub cycles_are : cycles weights run ≡ 4
